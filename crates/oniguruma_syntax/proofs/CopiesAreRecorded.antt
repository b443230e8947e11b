-- One more copy is recorded.
use Rattle.std.proofs.Common.{◌≡◌, ℕ, ◌+◌, ◌<◌, List, [], ◌∷◌, ◌++◌, length, get_or, take, map, ap, sym, ◌∙◌}
use Rattle.std.proofs.lemmas.Grind.{fold-append}
use Rattle.std.proofs.lemmas.List.{map_more, map-append}
use Rattle.oniguruma_syntax.specs.declared.change.Change.{Change}
use Rattle.oniguruma_syntax.specs.Changes.{change_text, with_change, HasCopies}

pub one_more_copy : (old others new : List Change) (i : ℕ) (d copy : Change) → i < length others → HasCopies old (take i others) new → change_text copy ≡ change_text (get_or others i d)
    → HasCopies old (take (i + 1) others) (with_change new copy)
one_more_copy old others new i d copy below had same = (
  had.0 ++ copy ∷ [],
  map-append change_text had.0 (copy ∷ []) ∙ (ap (λ texts. texts ++ change_text copy ∷ []) had.1 ∙ (ap (λ text. map change_text (take i others) ++ text ∷ []) same ∙ sym (map_more change_text others i d below))),
  ap (λ changes. with_change changes copy) had.2 ∙ sym (fold-append with_change old had.0 (copy ∷ [])),
)
