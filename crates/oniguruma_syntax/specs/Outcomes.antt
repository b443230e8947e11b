-- What rewriting a text returns.
use Rattle.std.specs.Prelude.{◌≢◌, ◌≤◌, ℕ, List, ⊤, string_bytes, IsCharBoundary}
use Rattle.oniguruma_syntax.specs.declared.rewriting.Outcome.{Outcome}
use Rattle.oniguruma_syntax.specs.declared.rewriting.Outcome.TheVariants.{Kept, Rewritten, Refused}

-- the range begins and ends between characters of the text
abbrev pub IsPartOf : List ℕ → (start end : ℕ) → Type 0
IsPartOf text start end = (start ≤ end) × IsCharBoundary text start × IsCharBoundary text end

-- What rewriting this text returns. A rewritten text differs from it, and a refused part is a part of it.
abbrev pub IsOutcomeOf : List ℕ → Outcome → Type 0
IsOutcomeOf text Kept = ⊤
IsOutcomeOf text (Rewritten rewritten) = string_bytes rewritten.text ≢ text
IsOutcomeOf text (Refused refused) = IsPartOf text refused.range.start refused.range.end
