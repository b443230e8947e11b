-- The words by which messages refer to lines and events.
use Rattle.std.specs.Prelude.{ℕ, ◌==◌, List, ◌++◌, if◌then◌else◌, codes, decimal}
use Rattle.groklog_reports.specs.declared.unit.Unit.{Unit}
use Rattle.groklog_reports.specs.declared.unit.Unit.TheVariants.{Line, Event}

-- The word for `count` of these units, which is singular for exactly one.
abbrev pub unit_word : Unit → ℕ → List ℕ
unit_word Line count = if count == 1 then codes "line" else codes "lines"
unit_word Event count = if count == 1 then codes "event" else codes "events"

-- `count` of these units in words, such as `2 lines`.
abbrev pub units_text : Unit → ℕ → List ℕ
units_text unit count = decimal count ++ (codes " " ++ unit_word unit count)

-- The words for the unit whose first line has this number, such as `line 3`.
abbrev pub place_text : Unit → ℕ → List ℕ
place_text Line number = codes "line " ++ decimal number
place_text Event number = codes "the event at line " ++ decimal number
