-- A match that was found is that of the first pattern that matches.
use Rattle.std.proofs.Common.{◌≡◌, ◌<◌, ℕ, List, [], ◌∷◌, length, arith, Option, Some, IfSome, get_or, sym, subst, ◌∙◌}
use Rattle.std.specs.List.{HoldsAt}
use Rattle.groklog_answers.specs.Views.{searched}
use Rattle.groklog_answers.specs.Patterns.{PatternText, MatchText, match_of, first_match}
use Rattle.groklog_answers.specs.Searches.{HasFirstMatch}
use Rattle.groklog_answers.specs.declared.searches.Search.{Search}

first_of : (patterns : List PatternText) (line : List ℕ) (search : Search) → HasFirstMatch patterns line search
    → first_match patterns line ≡ match_of (searched search) line
first_of patterns line search has = has.first

pub first_is_found : (patterns : List PatternText) (line : List ℕ) (xs ys : List Search) (i : ℕ) (index : Option ℕ) (found : Option MatchText)
    → index ≡ Some i → IfSome index (HoldsAt (HasFirstMatch patterns line) xs) → i < length xs → ys ≡ xs
    → HoldsAt (λ search. found ≡ match_of (searched search) line) ys i → found ≡ first_match patterns line
first_is_found patterns line [] ys i index found is some inside same at = absurd (omega (arith, inside))
first_is_found patterns line (x ∷ xs) ys i index found is some inside same at =
    subst (λ zs. found ≡ match_of (searched (get_or zs i x)) line) same (at x)
    ∙ sym (first_of patterns line (get_or (x ∷ xs) i x) (subst (λ o. IfSome o (HoldsAt (HasFirstMatch patterns line) (x ∷ xs))) is some x))
