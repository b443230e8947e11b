-- The values of several keys, which are counted together.
use Rattle.std.specs.Prelude.{ℕ, ◌-◌, List, [], ◌∷◌, ◌++◌, codes, decimal, flat_map, Option, Some, None, option_map, option_and_then, length, map, take, Vec}
use Rattle.std.specs.Global.{Global}
use Rattle.csv.specs.Writing.{default_writer, row_text}
use Rattle.json.specs.Json.{Json, string}
use Rattle.groklog_answers.specs.Objects.{object_text}
use Rattle.groklog_answers.specs.declared.layout.OutputFormat.{OutputFormat}
use Rattle.groklog_answers.specs.declared.layout.OutputFormat.TheVariants.{Json as AsJson, Pairs, Csv}
use Rattle.groklog_answers.specs.declared.value_counts.ListFrame.{ListFrame}
use Rattle.groklog_answers.specs.declared.value_lists.KeyValue.{KeyValue}

-- A key and its value.
abbrev pub key_value : KeyValue → List ℕ × List ℕ
key_value pair = (pair.key.now, pair.value.now)

abbrev pub pairs_text : Vec KeyValue Global → List (List ℕ × List ℕ)
pairs_text pairs = map key_value pairs.items

-- These keys with their values, where a key has the value that `value` says. `None` if one of them has none.
abbrev pub values_by : (List ℕ → Option (List ℕ)) → List (List ℕ) → Option (List (List ℕ × List ℕ))
values_by value [] = Some []
values_by value (key ∷ more) = option_and_then (λ text. option_map (λ rest. (key, text) ∷ rest) (values_by value more)) (value key)

-- A member of a JSON object whose value is a string.
abbrev pub string_member : List ℕ × List ℕ → List ℕ × Json
string_member pair = (pair.0, string pair.1)

-- The JSON object with these keys and values.
abbrev pub list_object : List (List ℕ × List ℕ) → List ℕ
list_object pairs = object_text (map string_member pairs)

-- A text without its last byte.
abbrev pub without_last : List ℕ → List ℕ
without_last text = take (length text - 1) text

-- The record with these values, without the line feed at its end.
abbrev pub list_record : List (List ℕ × List ℕ) → List ℕ
list_record pairs = without_last (row_text default_writer (map (λ pair. pair.1) pairs))

-- The text that stands for the values of several keys where they are counted.
abbrev pub list_text : OutputFormat → List (List ℕ × List ℕ) → List ℕ
list_text AsJson pairs = list_object pairs
list_text Pairs pairs = list_object pairs
list_text Csv pairs = list_record pairs

-- The texts that are written before a list of values, between the list and its count, and after the count.
pub record Frame : Type 0 where
  pub before : List ℕ
  pub between : List ℕ
  pub after : List ℕ

abbrev pub frame_text : ListFrame → Frame
frame_text frame = record { before = frame.before.now; between = frame.between.now; after = frame.after.now }

abbrev pub frame_of : OutputFormat → Frame
frame_of AsJson = record { before = codes "{\"value\":"; between = codes ",\"count\":"; after = codes "}\n" }
frame_of Pairs = record { before = codes "{\"value\":"; between = codes ",\"count\":"; after = codes "}\n" }
frame_of Csv = record { before = []; between = codes ","; after = codes "\n" }

-- A list of values, by its text, with its count.
abbrev pub framed_list : Frame → List ℕ × ℕ → List ℕ
framed_list frame pair = frame.before ++ (pair.0 ++ (frame.between ++ (decimal pair.1 ++ frame.after)))

-- The header of records with a column for each of these keys, and one for the count. JSON objects have none.
abbrev pub list_header : OutputFormat → List (List ℕ) → List ℕ
list_header AsJson keys = []
list_header Pairs keys = []
list_header Csv keys = row_text default_writer (keys ++ codes "count" ∷ [])

-- The text that is written for these lists of values with their counts.
abbrev pub lists_text : OutputFormat → List (List ℕ) → List (List ℕ × ℕ) → List ℕ
lists_text format keys pairs = list_header format keys ++ flat_map (framed_list (frame_of format)) pairs
