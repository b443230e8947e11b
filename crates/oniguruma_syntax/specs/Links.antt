-- How tokens are linked to each other.
use Rattle.std.specs.Prelude.{ℕ, List, false, slice_index_or}
use Rattle.oniguruma_syntax.specs.declared.structure.Links.{Links}

-- The links of the token with this index, if the token begins nothing and is no quantifier, and nothing repeats it.
abbrev pub links_of_one : ℕ → Links
links_of_one index = record { close = index; repeats = 0; is_repeated = false; is_fixed = false }

-- The links of the token with this index.
abbrev pub links_at : List Links → ℕ → Links
links_at links index = slice_index_or links index (links_of_one index)
