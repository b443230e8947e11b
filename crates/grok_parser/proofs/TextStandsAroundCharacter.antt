-- What is written before and after a character is known, whatever is written for the character itself.
use Rattle.std.proofs.Common.{◌≡◌, ℕ, List, [], ◌∷◌, ◌++◌, Option, Some, None, sym, ◌∙◌, ap, subst, append_assoc}
use Rattle.std.specs.Prelude.{IfSome}
use Rattle.std.specs.List.{FoldsTo, concat}
use Rattle.std.specs.Fmt.{WritesText, ◌++?◌}
use Rattle.std.specs.Fmt.InlineText.{inline_text, IsIntact, AppendsIfIntact}
use Rattle.std.specs.declared.fmt.InlineText.{InlineText}
use Rattle.std.proofs.lemmas.List.{append-nil}

module _ {n : ℕ} where
  calls_append : (s : InlineText n) (parts : List (List ℕ)) (t : InlineText n) → FoldsTo AppendsIfIntact s parts t → AppendsIfIntact s (concat parts) t
  calls_append s [] t same intact = (subst IsIntact same intact, ap inline_text (sym same) ∙ sym (append-nil (inline_text s)))
  calls_append s (part ∷ parts) t calls intact =
      let first = calls.1 intact in
      let rest = calls_append calls.0 parts t calls.2 first.0 in
      (rest.0, rest.1 ∙ ap (λ l. l ++ concat parts) first.1 ∙ append_assoc (inline_text s) part (concat parts))

  -- a text that was empty is what was written to it, if that is specified
  pub written_alone : (s : InlineText n) (o : Option (List ℕ)) (t : InlineText n) → WritesText AppendsIfIntact s o t → IsIntact s → inline_text s ≡ []
      → IfSome o (λ known. inline_text t ≡ known)
  written_alone s None t wrote intact empty = tt
  written_alone s (Some known) t wrote intact empty =
      subst (λ bs. inline_text t ≡ bs) wrote.whole ((calls_append s wrote.parts t wrote.calls intact).1 ∙ ap (λ l. l ++ concat wrote.parts) empty)

-- what holds of the text around `shown` holds of the specified one, if `shown` is what is specified
pub around_known : (P : List ℕ → Type 0) (before after shown : List ℕ) (o : Option (List ℕ)) → IfSome o (λ known. shown ≡ known)
    → P (before ++ (shown ++ after)) → IfSome (Some before ++? (o ++? Some after)) P
around_known P before after shown None same holds = tt
around_known P before after shown (Some known) same holds = subst (λ text. P (before ++ (text ++ after))) same holds
