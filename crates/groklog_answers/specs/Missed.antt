-- What lines or events show that no pattern matches.
use Rattle.std.specs.Prelude.{ℕ, ◌==◌, List, Bool, codes, is_some, if◌then◌else◌}
use Rattle.std.specs.List.{ends_with}
use Rattle.memchr.specs.Find.{first_of, is_byte, places}
use Rattle.groklog_answers.specs.ValueCounts.{one_more}
use Rattle.groklog_answers.specs.declared.missed.Missed.{Missed}

-- Whether the text ends in a carriage return.
abbrev pub has_return : List ℕ → Bool
has_return text = ends_with ◌==◌ text (codes "\r")

-- Whether the text has an escape character, with which each colour of a terminal begins.
abbrev pub has_escape : List ℕ → Bool
has_escape text = is_some (first_of (places (is_byte 27) text))

-- The count with one more, if that is so.
abbrev pub counted_if : Bool → ℕ → ℕ
counted_if is_so count = if is_so then one_more count else count

-- What was shown, with one text more.
abbrev pub missed_with : Missed → List ℕ → Missed
missed_with missed text = record {
  returns = counted_if (has_return text) missed.returns;
  escapes = counted_if (has_escape text) missed.escapes;
}
