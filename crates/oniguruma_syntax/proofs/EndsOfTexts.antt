-- The end of a text is a byte range of it.
use Rattle.std.proofs.Common.{ℕ, List, length, arith}
use Rattle.std.proofs.lemmas.Str.{IsCharBoundary-end}
use Rattle.oniguruma_syntax.specs.Outcomes.{IsPartOf}

pub end_of_text : (text : List ℕ) → IsPartOf text (length text) (length text)
end_of_text text = (omega arith, IsCharBoundary-end text, IsCharBoundary-end text)
