-- Recording a change names no kind twice.
use Rattle.std.proofs.Common.{◌≡◌, ◌≢◌, Bool, true, false, not, ◌&&◌, List, [], ◌∷◌, ◌++◌, ap, ◌∙◌, rules, if◌then◌else◌}
use Rattle.std.specs.List.{list_any}
use Rattle.std.proofs.lemmas.List.Folds.{list_any_at}
use Rattle.std.proofs.lemmas.List.Quantifiers.{all_pairs_push}
use denote.Enum.Bare.{true_same, false_same}
use Rattle.oniguruma_syntax.specs.contracts.change.ChangeKind.{the_type}
use Rattle.oniguruma_syntax.specs.declared.change.Change.{Change}
use Rattle.oniguruma_syntax.specs.declared.change.ChangeKind.TheVariants.{Lost}
use Rattle.oniguruma_syntax.specs.Changes.{same_kind, has_kind, NameKindsOnce}

and_false : (a b : Bool) → (a && b) ≡ false → a ≡ true → b ≡ true → ⊥
and_false a b e f g = cc

one_more : (changes : List Change) (change : Change) → has_kind changes change.kind ≡ false → NameKindsOnce changes → NameKindsOnce (changes ++ change ∷ [])
one_more changes change new once =
    all_pairs_push (λ earlier later. earlier.kind ≢ Lost → earlier.kind ≢ later.kind) changes change once (λ k d below other same.
    let limited : not (same_kind change.kind Lost) ≡ true
    = ap not (false_same the_type (search rules) change.kind Lost (λ lost. other (same ∙ lost))) in
    let named : list_any (λ earlier. same_kind earlier.kind change.kind) changes ≡ true
    = list_any_at (λ earlier. same_kind earlier.kind change.kind) changes k d below (true_same the_type _ _ same) in
    and_false _ _ new limited named)

-- The changes after one was recorded, if there was memory for it.
pub one_more_if : (pushed : Bool) (changes : List Change) (change : Change) → has_kind changes change.kind ≡ false → NameKindsOnce changes
    → NameKindsOnce (if pushed then changes ++ change ∷ [] else changes)
one_more_if true changes change new once = one_more changes change new once
one_more_if false changes change new once = once
