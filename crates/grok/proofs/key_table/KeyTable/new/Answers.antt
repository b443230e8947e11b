use Rattle.std.proofs.Common.{◌≡◌, ℕ, List, [], ◌∷◌, ◌++◌, Bor, map, append-nil, append_assoc, sym, ◌∙◌, ap, subst}
use Rattle.std.specs.List.Sorted.{IsStrictlySortedBy}
use Rattle.std.specs.Map.{keys_of}
use Rattle.std.specs.Cmp.Lexicographic.{slice_cmp}
use Rattle.std.specs.Ordering.{nat_cmp}
use Rattle.grok.specs.KeyTable.{Entries}
use Rattle.grok.specs.steps.KeyRanges.{entry_of}
use Rattle.grok.proofs.KeyTables.OneMoreKey.{sorted_shown}
use Rattle.grok.proofs.key_table.KeyTable.new.Goals as goal

-- where no entry is left, those that were made rise as the map's do
made_rise : (made : Entries) (left all : List (Bor (List ℕ) × ℕ)) → left ≡ [] → made ++ map entry_of left ≡ map entry_of all
    → IsStrictlySortedBy (λ (x y : Bor (List ℕ)). slice_cmp nat_cmp x.now y.now) (keys_of all) → IsStrictlySortedBy (slice_cmp nat_cmp) (keys_of made)
made_rise made left all over whole rises =
    let same : made ≡ map entry_of all = sym (append-nil made) ∙ ap (λ es. made ++ map entry_of es) (sym over) ∙ whole in
    subst (λ (es : Entries). IsStrictlySortedBy (slice_cmp nat_cmp) (keys_of es)) (sym same) (sorted_shown all rises)

-- one entry more is made, and one fewer is left
one_more : (made more all : Entries) (left rest : List (Bor (List ℕ) × ℕ)) (entry : Bor (List ℕ) × ℕ) → more ≡ made ++ entry_of entry ∷ []
    → left ≡ entry ∷ rest → made ++ map entry_of left ≡ all → more ++ map entry_of rest ≡ all
one_more made more all left rest entry grows cut whole =
    ap (λ es. es ++ map entry_of rest) grows ∙ append_assoc made (entry_of entry ∷ []) (map entry_of rest) ∙ ap (λ es. made ++ map entry_of es) (sym cut) ∙ whole

pub groups-preserved : goal.groups-preserved
groups-preserved c = record {
  within = c.in_ok-extend.ensures.within c.groups.invariant.within;
  whole = one_more _ _ _ c.groups.key-iterator c.next.new.self (c.in-Some.key.now, c.in-Some.group.now) (c.in_ok-extend.ensures.entries c.groups.invariant.within) c.in-Some.ensures.steps c.groups.invariant.whole;
}

pub invariant_of-result : goal.invariant_of-result
invariant_of-result c = record {
  within = c.groups.invariant.within;
  sorted = made_rise _ c.groups.key-iterator c.args.groups.now.entries c.in-None.ensures.steps.0 c.groups.invariant.whole c.len.ensures.ordered;
}

pub returns-clause-sorted : goal.returns-clause-sorted
returns-clause-sorted c = made_rise _ c.groups.key-iterator c.args.groups.now.entries c.in-None.ensures.steps.0 c.groups.invariant.whole c.len.ensures.ordered
