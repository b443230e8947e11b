use Rattle.std.proofs.Common.{rules, ◌≡◌, ℕ, List, Result, Some, None, MatchResult, length, get_or, sym, ◌∙◌, ap, subst}
use Rattle.std.specs.List.Sorted.{IsBinarySearchResult, IsSearchInRange}
use Rattle.std.specs.Cmp.Lexicographic.{slice_cmp}
use Rattle.std.specs.Ordering.{nat_cmp}
use Rattle.std.specs.String.{string_bytes}
use Rattle.std.proofs.lemmas.Fn.{always_returns_same}
use Rattle.grok.specs.declared.key_table.KeyRange.{KeyRange}
use Rattle.grok.specs.KeyTable.{Entries, group_in}
use Rattle.grok.specs.steps.KeyRanges.{key_or_none, entries_at}
use Rattle.grok.proofs.KeyTables.BinarySearchFindsKey.{halved}
use Rattle.grok.proofs.key_table.KeyTable.get.Goals as goal

pub returns-in-Ok : goal.returns-in-Ok
returns-in-Ok c =
    let text = string_bytes c.self.inside.text in
    let ranges = c.self.inside.ranges.items in
    let key = c.args.key.now in
    let facts = c.binary_search_by.ensures in
    let answered = facts.position (λ range. slice_cmp nat_cmp (key_or_none c.as_str-text.result.now range) key) (always_returns_same _ _ _ (λ a r g called. (search rules, search rules))) in
    let r : Result ℕ ℕ = c.binary_search_by.result in
    let as_text : IsBinarySearchResult (λ range. slice_cmp nat_cmp (key_or_none text range) key) c.deref.result.now r = subst (λ t. IsBinarySearchResult (λ range. slice_cmp nat_cmp (key_or_none t range) key) c.deref.result.now r) c.as_str-text.ensures.value answered in
    let on_ranges : IsBinarySearchResult (λ range. slice_cmp nat_cmp (key_or_none text range) key) ranges r = subst (λ ps. IsBinarySearchResult (λ range. slice_cmp nat_cmp (key_or_none text range) key) ps r) c.deref.ensures.value as_text in
    let bound : IsSearchInRange r (length ranges) = subst (λ (ps : List KeyRange). IsSearchInRange r (length ps)) c.deref.ensures.value facts.bound in
    let all = halved text ranges c.self.invariant key r bound on_ranges in
    let here = subst (λ s. MatchResult s (λ i. (range : KeyRange) → range ≡ get_or ranges i range → group_in (entries_at text ranges) key ≡ Some range.group) (λ i. group_in (entries_at text ranges) key ≡ None)) c.in-Ok.is all in
    sym (here c.index.result.now c.index.ensures) ∙ ap (λ (entries : Entries). group_in entries key) c.self.view_is

pub returns-in-Err : goal.returns-in-Err
returns-in-Err c =
    let text = string_bytes c.self.inside.text in
    let ranges = c.self.inside.ranges.items in
    let key = c.args.key.now in
    let facts = c.binary_search_by.ensures in
    let answered = facts.position (λ range. slice_cmp nat_cmp (key_or_none c.as_str-text.result.now range) key) (always_returns_same _ _ _ (λ a r g called. (search rules, search rules))) in
    let r : Result ℕ ℕ = c.binary_search_by.result in
    let as_text : IsBinarySearchResult (λ range. slice_cmp nat_cmp (key_or_none text range) key) c.deref.result.now r = subst (λ t. IsBinarySearchResult (λ range. slice_cmp nat_cmp (key_or_none t range) key) c.deref.result.now r) c.as_str-text.ensures.value answered in
    let on_ranges : IsBinarySearchResult (λ range. slice_cmp nat_cmp (key_or_none text range) key) ranges r = subst (λ ps. IsBinarySearchResult (λ range. slice_cmp nat_cmp (key_or_none text range) key) ps r) c.deref.ensures.value as_text in
    let bound : IsSearchInRange r (length ranges) = subst (λ (ps : List KeyRange). IsSearchInRange r (length ps)) c.deref.ensures.value facts.bound in
    let all = halved text ranges c.self.invariant key r bound on_ranges in
    let here = subst (λ s. MatchResult s (λ i. (range : KeyRange) → range ≡ get_or ranges i range → group_in (entries_at text ranges) key ≡ Some range.group) (λ i. group_in (entries_at text ranges) key ≡ None)) c.in-Err.is all in
    sym here ∙ ap (λ (entries : Entries). group_in entries key) c.self.view_is
