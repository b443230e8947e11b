-- Lines that aren't marked, one line after another.
use Rattle.std.proofs.Common.{◌≡◌, ◌∙◌, ℕ, Bool, true, false, true≢false, List, [], ◌∷◌, ◌++◌, Bor, ◌⊎◌, inl, inr, ap, sym}
use Rattle.std.proofs.lemmas.List.{append_assoc, append-nil}
use Rattle.log_samples.specs.Fits.{unmarked}

module _ (left ls lines all : List (Bor (List ℕ))) (marks each : List Bool) (line : Bor (List ℕ)) where
  pub taken : (mark : Bool) → lines ≡ line ∷ ls → each ≡ mark ∷ marks → left ++ unmarked lines each ≡ all → mark ≡ false → (left ++ line ∷ []) ++ unmarked ls marks ≡ all
  taken true is are so_far it_is = absurd (true≢false it_is)
  taken false is are so_far it_is = append_assoc left (line ∷ []) (unmarked ls marks)
      ∙ sym (ap (λ lines. left ++ unmarked lines each) is ∙ ap (λ each. left ++ unmarked (line ∷ ls) each) are) ∙ so_far

  pub skipped : (mark : Bool) → lines ≡ line ∷ ls → each ≡ mark ∷ marks → left ++ unmarked lines each ≡ all → mark ≡ true → left ++ unmarked ls marks ≡ all
  skipped false is are so_far it_is = absurd (true≢false (sym it_is))
  skipped true is are so_far it_is = sym (ap (λ lines. left ++ unmarked lines each) is ∙ ap (λ each. left ++ unmarked (line ∷ ls) each) are) ∙ so_far

-- No line or no mark is left.
pub none_left : (left lines all : List (Bor (List ℕ))) (each : List Bool) → left ++ unmarked lines each ≡ all → (lines ≡ []) ⊎ (each ≡ []) → left ≡ all
none_left left lines all each so_far (inl none) = sym (append-nil left) ∙ sym (ap (λ lines. left ++ unmarked lines each) none) ∙ so_far
none_left left [] all each so_far (inr none) = sym (append-nil left) ∙ so_far
none_left left (l ∷ ls) all each so_far (inr none) = sym (append-nil left) ∙ sym (ap (λ each. left ++ unmarked (l ∷ ls) each) none) ∙ so_far
