use Rattle.std.proofs.Common.{◌≡◌, Result, Ok, Err, map, ◌∙◌, ap, IfOk}
use Rattle.std.specs.List.Sorted.{IsStrictlySortedBy}
use Rattle.std.specs.Map.{keys_of}
use Rattle.std.specs.Cmp.Lexicographic.{slice_cmp}
use Rattle.std.specs.Ordering.{nat_cmp}
use Rattle.grok.specs.Captures.{name_texts}
use Rattle.grok.specs.KeyNumbers.{key_text}
use Rattle.grok.specs.KeyTable.{Entries, group_in, IsKeyTable}
use Rattle.grok.specs.steps.KeyRanges.{entry_of}
use Rattle.grok.proofs.KeyTables.OneMoreKey.{same_group}
use Rattle.grok.proofs.key_table.KeyTable.for_names.Goals as goal

both : {T E : Type 0} (P Q R : T → Type 0) (r : Result T E) → ((x : T) → P x → Q x → R x) → IfOk r P → IfOk r Q → IfOk r R
both P Q R (Ok x) f p q = f x p q
both P Q R (Err e) f p q = tt

pub returns : goal.returns
returns c =
    let entries = c.in_ok-groups.groups.entries in
    both (λ table. table ≡ map entry_of entries) (λ table. IsStrictlySortedBy (slice_cmp nat_cmp) (keys_of table))
    (IsKeyTable (map key_text c.args.keys.now) (name_texts c.args.names.now))
    c.new.result
    (λ table is sorted. record {
      sorted = sorted;
      groups = λ key. ap (λ (es : Entries). group_in es key) is ∙ same_group key entries ∙ c.in_ok-groups.ensures key;
    })
    c.new.ensures.entries c.new.ensures.sorted
