use Rattle.std.proofs.Common.{◌≡◌, ◌++◌, map}
use Rattle.std.specs.List.{AllByRecursion}
use Rattle.std.specs.String.{string_bytes}
use Rattle.grok.specs.steps.KeyRanges.{entries_at, entry_of, IsKeyRange}
use Rattle.grok.proofs.key_table.KeyTable.new.Given as goal

-- the entries so far, and those that are left, make the whole
abbrev pub invariant-groups : goal.invariant-groups
invariant-groups l = record {
  within : AllByRecursion (IsKeyRange (string_bytes l.text)) l.ranges.items;
  whole : entries_at (string_bytes l.text) l.ranges.items ++ map entry_of l.key-iterator ≡ map entry_of l.groups.entries;
}
