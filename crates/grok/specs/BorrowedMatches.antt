-- What contracts see of a match that is borrowed from its matcher.
use Rattle.std.specs.Prelude.{ℕ, List, Option}
use Rattle.grok.specs.KeyTable.{Entries}
use Rattle.grok.specs.Groups.{texts_in_line}
use Rattle.grok.specs.declared.matches.borrowed.MatchesRef.{MatchesRef}

-- the line of a borrowed match
abbrev pub borrowed_line : MatchesRef → List ℕ
borrowed_line matches = matches.located.line.now

-- the key table (each key with its group) of the pattern of a borrowed match
abbrev pub borrowed_keys : MatchesRef → Entries
borrowed_keys matches = matches.keys.now

-- of each group of a borrowed match, from group 0 on, the text that it captured, or `None` if it took no part in the
-- match
abbrev pub borrowed_captures : MatchesRef → List (Option (List ℕ))
borrowed_captures matches = texts_in_line matches.located

-- of each group of a borrowed match, from group 0 on, the start and the end of what it captured in the line, or `None` if it
-- took no part in the match
abbrev pub borrowed_locations : MatchesRef → List (Option (ℕ × ℕ))
borrowed_locations matches = matches.located.locations.now
