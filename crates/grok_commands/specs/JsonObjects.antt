-- The JSON object of pairs of texts.
use Rattle.std.specs.Prelude.{◌≡◌, ℕ, List, [], ◌∷◌, Option, Some, None, option_map, option_and_then}
use Rattle.std.specs.List.Sorted.{IsStrictlySortedBy}
use Rattle.std.specs.Map.{keys_of}
use Rattle.std.specs.Cmp.Lexicographic.{slice_cmp}
use Rattle.std.specs.Ordering.{nat_cmp}
use Rattle.serde_json.specs.Data.{Data, null, boolean, number, string, array, object, Members, no_members, member}
use Rattle.serde_json.specs.Read.{read}
use Rattle.serde_json.specs.Written.{compact_text}

-- a member for each pair: its key, and its value as a string
abbrev pub members_of : List (List ℕ × List ℕ) → Members
members_of [] = no_members
members_of (pair ∷ pairs) = member pair.0 (string pair.1) (members_of pairs)

-- the JSON object with a member for each pair, as a value of `serde_json`
abbrev pub object_of : List (List ℕ × List ℕ) → Data
object_of pairs = object (members_of pairs)

-- the text of the JSON object of these pairs, with no spaces between keys and values
abbrev pub object_text : List (List ℕ × List ℕ) → List ℕ
object_text pairs = compact_text (object_of pairs)

-- ---- the way back

-- Puts the pair of a member before the pairs of the members after it. The result is `None` if the value of the
-- member, or of one after it, isn't a string.
abbrev pub with_pair : List ℕ → Data
    → Option (List (List ℕ × List ℕ)) → Option (List (List ℕ × List ℕ))
with_pair key (string text) pairs = option_map (λ pairs. (key, text) ∷ pairs) pairs
with_pair key null pairs = None
with_pair key (boolean b) pairs = None
with_pair key (number n) pairs = None
with_pair key (array items) pairs = None
with_pair key (object inner) pairs = None

-- the keys and values of all members, or `None` if the value of one of them isn't a string
abbrev pub pairs_in_members : Members → Option (List (List ℕ × List ℕ))
pairs_in_members no_members = Some []
pairs_in_members (member key d more) = with_pair key d (pairs_in_members more)

-- the keys and values of the members of an object, or `None` if it isn't an object or one of the values isn't a
-- string
abbrev pub pairs_in : Data → Option (List (List ℕ × List ℕ))
pairs_in (object inner) = pairs_in_members inner
pairs_in null = None
pairs_in (boolean b) = None
pairs_in (number n) = None
pairs_in (string text) = None
pairs_in (array items) = None

-- If the keys are in byte order, each once, then `serde_json` reads the text as an object with these pairs.
abbrev pub ReadsBack : List (List ℕ × List ℕ) → List ℕ → Type 0
ReadsBack pairs text =
    IsStrictlySortedBy (slice_cmp nat_cmp) (keys_of pairs)
    → option_and_then pairs_in (read text) ≡ Some pairs
