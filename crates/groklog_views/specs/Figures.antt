-- What the figures of a key's values are.
use Rattle.std.specs.Prelude.{ℕ, ◌-◌, List, [], ◌∷◌, if◌then◌else◌, nat_le}
use Rattle.groklog_views.specs.declared.key_figures.CountedNumber.{CountedNumber}

-- A value and how often it came.
abbrev pub counted_value : CountedNumber → List ℕ × ℕ
counted_value number = (number.counted.value.now, number.counted.count)

-- The value at a rank of these, which are in order: the first value has the ranks from 1 to how often it came, the next one those
-- after them, and so on. It is empty if there are fewer ranks.
abbrev pub value_at : List (List ℕ × ℕ) → ℕ → List ℕ
value_at [] rank = []
value_at (value ∷ more) rank = if nat_le rank value.1 then value.0 else value_at more (rank - value.1)
