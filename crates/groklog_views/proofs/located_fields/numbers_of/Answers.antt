use Rattle.std.proofs.Common.{◌∙◌, ◌++◌, ◌+◌, map, filter, drop, Some, ap, sym}
use Rattle.std.specs.Prelude.{slice_get}
use Rattle.groklog_answers.specs.PlanViews.{names_of}
use Rattle.groklog_views.specs.KeyNumbers.{counts}
use Rattle.groklog_views.proofs.KeyNumbers.{counted_step, other_step, kept_on, keys_in}
use Rattle.groklog_views.proofs.located_fields.numbers_of.Goals.{then-counts+in_ok-number_of+in_ok-push, else-counts}
use Rattle.groklog_views.proofs.located_fields.numbers_of.Goals as goal

pub keys-preserved : goal.keys-preserved
keys-preserved c =
    let fields = c.args.fields in
    let pairs = c.args.by_group.now in
    elim c.if-counts.branch [
      | then-counts+in_ok-number_of+in_ok-push w ↦
          let longer = w.in_ok-number_of.ensures.kept in
          let one = counted_step (counts fields) pairs c.keys.key-index _ c.keys-test.true c.keys.all.keys w.number_of.new.all.keys
          c.keys.numbers.items w.in_ok-number_of.field-0 longer c.keys.invariant.numbers (sym c.counts.ensures ∙ w.if-counts.true) w.in_ok-number_of.ensures.number in
          record {
            numbers = ap (λ all. map (slice_get (names_of all.keys)) c.if-counts.numbers.items ++ map Some (filter (counts fields) (keys_in (drop (c.keys.key-index + 1) pairs)))) w.all-is
                ∙ ap (λ numbers. map (slice_get (names_of w.number_of.new.all.keys)) numbers ++ map Some (filter (counts fields) (keys_in (drop (c.keys.key-index + 1) pairs)))) (ap (λ numbers. numbers.items) w.numbers-is ∙ w.in_ok-push.ensures.items)
                ∙ one;
            kept = kept_on c.args.all.now.keys c.keys.all.keys c.if-counts.all.keys c.keys.invariant.kept (longer.0, ap (λ all. all.keys) w.all-is ∙ longer.1);
          }
      | else-counts w ↦ record {
        numbers = ap (λ all. map (slice_get (names_of all.keys)) c.if-counts.numbers.items ++ map Some (filter (counts fields) (keys_in (drop (c.keys.key-index + 1) pairs)))) w.all-is
            ∙ ap (λ numbers. map (slice_get (names_of c.keys.all.keys)) numbers.items ++ map Some (filter (counts fields) (keys_in (drop (c.keys.key-index + 1) pairs)))) w.numbers-is
            ∙ other_step (counts fields) pairs c.keys.key-index _ c.keys-test.true c.keys.all.keys c.keys.numbers.items c.keys.invariant.numbers (sym c.counts.ensures ∙ w.if-counts.false);
        kept = (c.keys.invariant.kept.0, ap (λ all. all.keys) w.all-is ∙ c.keys.invariant.kept.1);
      }
    ]
