-- What a formatter writes to a `String` stands at its end.
use Rattle.std.proofs.Common.{◌≡◌, ℕ, List, ◌++◌, String, string_bytes, ◌∙◌, ap}
use Rattle.std.specs.Fmt.{HasWritten}
use Rattle.std.specs.declared.fmt.Formatter.{Formatter}
use Rattle.std.proofs.lemmas.Fmt.{contents_after_writes}

module _ {A : Type 0} where
  abbrev Appends : String A → List ℕ → String A → Type 0
  Appends s bs t = string_bytes t ≡ string_bytes s ++ bs

  pub written_is_appended : (s t : String A) (f g : Formatter (String A)) (words old : List ℕ) → f.writer ≡ s → string_bytes s ≡ old → HasWritten Appends f words g → t ≡ g.writer → string_bytes t ≡ old ++ words
  written_is_appended s t f g words old begins holds has ends =
      ap string_bytes ends ∙ contents_after_writes Appends string_bytes (λ w bs v appends. appends) f.writer words g.writer has.wrote
      ∙ ap (λ w. string_bytes w ++ words) begins ∙ ap (λ text. text ++ words) holds
