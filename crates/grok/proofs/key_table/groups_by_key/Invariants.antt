use Rattle.std.proofs.Common.{◌≡◌, ℕ, List, map, drop}
use Rattle.std.specs.BTreeMap.{get_by}
use Rattle.std.specs.Cmp.Lexicographic.{slice_cmp}
use Rattle.std.specs.Ordering.{nat_cmp}
use Rattle.grok.specs.KeyNumbers.{key_text}
use Rattle.grok.specs.KeyTable.{last_or, groups_from, group_of}
use Rattle.grok.specs.Captures.{name_texts}
use Rattle.grok.proofs.key_table.groups_by_key.Given as goal

-- the groups so far, and those of the names that are left, make the whole
abbrev pub invariant-names : goal.invariant-names
invariant-names l = (key : List ℕ) →
    last_or (get_by (λ k. slice_cmp nat_cmp key k.now) l.groups) (groups_from (map key_text l.keys) key l.group (name_texts (drop l.group l.names)))
    ≡ group_of (map key_text l.keys) (name_texts l.names) key
