-- How a key table is stored: one text that holds all keys, and for each key its byte range and its group.
use Rattle.std.specs.Prelude.{◌≡◌, ℕ, ◌-◌, ◌≤◌, nat_le, ◌&&◌, List, [], ◌∷◌, ◌++◌, map, take, drop, length, if◌then◌else◌}
use Rattle.std.specs.Borrow.{Bor}
use Rattle.std.specs.List.{AllByRecursion}
use Rattle.std.specs.List.Sorted.{IsStrictlySortedBy}
use Rattle.std.specs.Map.{keys_of}
use Rattle.std.specs.Str.{IsCharBoundary}
use Rattle.std.specs.Cmp.Lexicographic.{slice_cmp}
use Rattle.std.specs.Ordering.{nat_cmp}
use Rattle.grok.specs.KeyTable.{Entries}
use Rattle.grok.specs.declared.key_table.KeyRange.{KeyRange}

-- the key in this range of the text
abbrev pub key_at : List ℕ → KeyRange → List ℕ
key_at text range = take (range.end - range.start) (drop range.start text)

-- the key in this range of the text, or the empty text if the text has no such range
abbrev pub key_or_none : List ℕ → KeyRange → List ℕ
key_or_none text range = if nat_le range.start range.end && nat_le range.end (length text)
    then key_at text range else []

-- the key and the group of each range
abbrev pub entries_at : List ℕ → List KeyRange → Entries
entries_at text ranges = map (λ range. (key_at text range, range.group)) ranges

-- the range begins and ends at character boundaries of the text
pub record IsKeyRange (text : List ℕ) (range : KeyRange) : Type 0 where
  pub rises : range.start ≤ range.end
  pub from : IsCharBoundary text range.start
  pub to : IsCharBoundary text range.end

-- Each range begins and ends at character boundaries of the text. The keys are in byte order, each once.
pub record IsTable (text : List ℕ) (ranges : List KeyRange) : Type 0 where
  pub within : AllByRecursion (IsKeyRange text) ranges
  pub sorted : IsStrictlySortedBy (slice_cmp nat_cmp) (keys_of (entries_at text ranges))

-- an entry of a map from keys to groups, with the bytes of its key
abbrev pub entry_of : Bor (List ℕ) × ℕ → List ℕ × ℕ
entry_of e = (e.0.now, e.1)

-- The key `key` with its group was appended to the keys that `text` and `ranges` hold, which gave `text'` and
-- `ranges'`.
pub record IsExtended (text : List ℕ) (ranges : List KeyRange) (key : List ℕ) (group : ℕ) (text' : List ℕ)
    (ranges' : List KeyRange) : Type 0 where
  pub within : AllByRecursion (IsKeyRange text) ranges → AllByRecursion (IsKeyRange text') ranges'
  pub entries : AllByRecursion (IsKeyRange text) ranges → entries_at text' ranges' ≡ entries_at text ranges
      ++ (key, group) ∷ []
