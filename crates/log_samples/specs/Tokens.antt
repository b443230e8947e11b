-- The tokens of a line.
use Rattle.std.specs.Prelude.{ℕ, List, flat_map}
use Rattle.log_samples.specs.declared.tokens.LineToken.{LineToken}

-- The texts of the tokens, one after another.
abbrev pub joined : List LineToken → List ℕ
joined = flat_map (λ token. token.text.now)
