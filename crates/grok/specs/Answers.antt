-- What contracts see of patterns and matches, and the value of each key in a match.
use Rattle.std.specs.Prelude.{ℕ, List, Option, None, String, map, option_map, option_and_then, filter_map, slice_index_or, string_bytes, refl}
use Rattle.std.specs.Coded.{Coded, code_by, coded×, coded_list, coded_option, coded_ℕ}
use Rattle.std.specs.FinMap as finite
use Rattle.grok.specs.Maps.{Texts, texts_code}
use Rattle.grok.specs.KeyTable.{Entries, group_in}

-- ---- patterns

-- a pattern: its engine, its placeholders, its keys and its extracts
pub record PatternValue (E : Type 0) : Type 0 where
  pub engine : E
  -- the key of each placeholder that captures, with its number, in reading order
  pub placeholders : List (List ℕ × ℕ)
  -- the key table: each key with its group, in byte order
  pub keys : Entries
  -- the extract of each key that has one
  pub extracts : Texts

-- How a pattern's value is coded, which contracts with a generic engine need.
abbrev pub pattern_code : {E : Type 0} → Coded E → Coded (PatternValue E)
pattern_code {E} engine =
    let keys = coded_list (coded× (coded_list coded_ℕ) coded_ℕ) in
    code_by (E × (List (List ℕ × ℕ) × (Entries × Texts)))
    (coded× engine (coded× keys (coded× keys texts_code)))
    (λ p. (p.engine, (p.placeholders, (p.keys, p.extracts))))
    (λ t. record { engine = t.0; placeholders = t.1.0; keys = t.1.1.0; extracts = t.1.1.1 }) (λ _. refl)

-- the map that has these entries, as contracts see it: each key with its text
abbrev pub extract_texts : {A : Type 0} → List (String A × String A) → Texts
extract_texts entries = finite.from_entries (map (λ entry.
    (string_bytes entry.0, string_bytes entry.1)) entries)

-- ---- matches

-- a match: its pattern, and what the groups captured
pub record MatchesValue (E : Type 0) : Type 0 where
  pub pattern : PatternValue E
  -- the text of each group that took part, from group 0 on
  pub captures : List (Option (List ℕ))

-- How a match's value is coded, which contracts with a generic engine need.
abbrev pub matches_code : {E : Type 0} → Coded E → Coded (MatchesValue E)
matches_code {E} engine =
    code_by (PatternValue E × List (Option (List ℕ))) (coded× (pattern_code engine)
    (coded_list (coded_option (coded_list coded_ℕ))))
    (λ p. (p.pattern, p.captures)) (λ t. record { pattern = t.0; captures = t.1 }) (λ _. refl)

-- ---- values

-- the text of a group, if it took part
abbrev pub capture_at : List (Option (List ℕ)) → ℕ → Option (List ℕ)
capture_at captures group = slice_index_or captures group None

-- the value of a key: what its group captured
abbrev pub value_of : Entries → List (Option (List ℕ)) → List ℕ → Option (List ℕ)
value_of table captures key = option_and_then (capture_at captures) (group_in table key)

-- the key of an entry of the table, with the text that the entry's group captured, if that group took part
abbrev pub pair_of : List (Option (List ℕ)) → List ℕ × ℕ → Option (List ℕ × List ℕ)
pair_of captures entry = option_map (λ text. (entry.0, text)) (capture_at captures entry.1)

-- THE WALK of a match: the keys that have a value, with those values, in the order of the table. A key whose
-- group took no part in the match is left out.
abbrev pub walk : Entries → List (Option (List ℕ)) → List (List ℕ × List ℕ)
walk table captures = filter_map (pair_of captures) table
