-- The JSON object of a line.
use Rattle.std.specs.Prelude.{ℕ, ◌==◌, List, [], ◌∷◌, ◌++◌, Bool, ◌&&◌, ◌||◌, not, Option, Some, None, Result, Ok, Err, option_map, if◌then◌else◌, codes, flat_map, length}
use Rattle.std.specs.Option.{option_to_list}
use Rattle.grok.specs.Maps.{Texts}
use Rattle.json.specs.Token.{Token}
use Rattle.json.specs.Json.{Json, string, number, array, object, no_items, item, Members, no_members, member}
use Rattle.json.specs.Tree.{json_tokens}
use Rattle.json.specs.Print.{print}
use Rattle.groklog_answers.specs.Values.{json_value}
use Rattle.groklog_answers.specs.Layouts.{LayoutValue, is_chosen}
use Rattle.groklog_answers.specs.Plans.{FieldText}
use Rattle.groklog_answers.specs.Patterns.{MatchText}
use Rattle.groklog_answers.specs.AnsweredTexts.{AnsweredText, added_text}
use Rattle.groklog_answers.specs.PlannedFields.{extract_for, planned_members}
use Rattle.groklog_answers.specs.declared.layout.Addition.{Addition}
use Rattle.groklog_answers.specs.declared.layout.Addition.TheVariants.{Number, File, Failed, Tag, Line}
use Rattle.groklog_answers.specs.declared.layout.Failure.{Failure}

-- The members of an object: keys with their values.
abbrev pub KeyValues : Type 0
KeyValues = List (List ℕ × Json)

-- The member for a pair of a match. If `typed` is true, the extract of the key decides how the
-- value is written.
abbrev pub typed_pair : Bool → Texts → List ℕ × List ℕ → List ℕ × Json
typed_pair typed extracts pair = (pair.0, json_value (extract_for typed extracts pair.0) pair.1)

-- What is added as it is written: the number of a line as a JSON number, and all else as a string.
abbrev pub added_json : Addition → List ℕ → Json
added_json Number text = number text
added_json File text = string text
added_json Failed text = string text
added_json Tag text = string text
added_json Line text = string text

-- The member for what is added. There is none if the line doesn't have it.
abbrev pub added_members : AnsweredText → Addition × List ℕ → KeyValues
added_members line added =
    option_to_list (option_map (λ text. (added.1, added_json added.0 text)) (added_text line added.0))

-- The member for a pair of a match. There is none if its key isn't one of `fields`, or if its value is empty and
-- `drops_empty` is true.
abbrev pub field_members : LayoutValue → Texts → List ℕ × List ℕ → KeyValues
field_members layout extracts pair =
    if not (is_chosen layout.fields pair.0) || (layout.drops_empty && (length pair.1 == 0)) then []
    else typed_pair layout.typed extracts pair ∷ []

-- These members as a list.
abbrev pub pairs_of : Members → KeyValues
pairs_of no_members = []
pairs_of (member name value more) = (name, value) ∷ pairs_of more

-- The members for the fields of a match: those of the plan, if there is one, and otherwise one for each
-- pair.
abbrev pub fields_by : LayoutValue → MatchText → Option (List FieldText) → KeyValues
fields_by layout found None = flat_map (field_members layout found.extracts) found.pairs
fields_by layout found (Some plan) = pairs_of (planned_members layout found plan)

-- The member that says, in the way of Logstash, that a line has no fields. If `tags_failures` is false,
-- there is none.
abbrev pub failure_tag : Bool → KeyValues
failure_tag tags_failures =
    if tags_failures then (codes "tags", array (item (string (codes "_grokparsefailure")) no_items)) ∷ [] else []

-- The members for the fields of a line. One that has none has the tag of Logstash for that.
abbrev pub fields_of : LayoutValue → Result MatchText Failure → KeyValues
fields_of layout (Ok found) = fields_by layout found found.plan
fields_of layout (Err why) = failure_tag layout.tags_failures

-- The members of an answer: the fields, and what is added before and after them.
abbrev pub answer_members : AnsweredText → KeyValues
answer_members line =
    flat_map (added_members line) line.layout.before
    ++ (fields_of line.layout line.found ++ flat_map (added_members line) line.layout.after)

-- The same members, as the kit's `json` has them.
abbrev pub members_of : KeyValues → Members
members_of [] = no_members
members_of (pair ∷ more) = member pair.0 pair.1 (members_of more)

-- The tokens of a member.
abbrev pub member_tokens : List ℕ × Json → List Token
member_tokens pair = Token.key pair.0 ∷ json_tokens pair.1

-- The compact JSON object with these members.
abbrev pub object_text : KeyValues → List ℕ
object_text members = print (json_tokens (object (members_of members)))
