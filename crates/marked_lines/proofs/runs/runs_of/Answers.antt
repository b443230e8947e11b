-- One more character has the key of those before it, or a run ends before it. At the end what is left is the last run.
use Rattle.std.proofs.Common.{◌∙◌, ◌++◌, ap, sym, subst, arith, take, drop, flat_map}
use Rattle.std.proofs.lemmas.List.{take-append-drop}
use Rattle.std.proofs.lemmas.Str.{IsCharBoundary-start}
use Rattle.std.specs.Str.{IsCharBoundary}
use Rattle.std.specs.Str.Iter.{char_indices_rest, char_indices_offset}
use Rattle.marked_lines.specs.Runs.{key_at, runs_text, run_bytes, with_key}
use Rattle.marked_lines.proofs.RunsOfLines.{IsKeyed, part, first_place, first_keys, next_place, take_more, same_key, next_run, last_run}
use Rattle.marked_lines.proofs.runs.runs_of.Goals as goal

pub chars-init : goal.chars-init
chars-init c =
    let same = c.into_iter-at-iterator.ensures.into_iter_gives in
    let first = c.char_indices-at-items.ensures in
    let at = ap char_indices_offset same ∙ first.offset in
    record {
      place = first_place c.args.line.now _ _ c.utf8.line at (ap char_indices_rest same ∙ first.rest);
      begins = IsCharBoundary-start c.args.line.now c.utf8.line;
      until = λ p from to. c.next_bound-bound.ensures p from to ∙ sym c.key_at-key.ensures;
      order = omega arith;
      text = ap runs_text c.new-runs.ensures.items;
      keys = first_keys c.args.fields.now c.args.line.now c.new-runs.result.items c.key_at-key.result _ c.new-runs.ensures.items at;
    }

pub range-requires-clause-start_le_end : goal.range-requires-clause-start_le_end
range-requires-clause-start_le_end c = omega (arith, c.chars.invariant.order, c.in-Some.ensures.steps.0)

pub range-requires-clause-start_boundary : goal.range-requires-clause-start_boundary
range-requires-clause-start_boundary c = λ _. c.chars.invariant.begins

pub chars-preserved-then-bound-at : goal.chars-preserved-then-bound-at
chars-preserved-then-bound-at c =
    let steps = c.in-Some.ensures.steps in
    let before = c.chars.invariant in
    let run = c.in_ok-push_run.ensures in
    let at = char_indices_offset c.chars.at-iterator in
    let cut = c.range.ensures.value ∙ ap (λ n. part c.chars.start n c.args.line.now) steps.0 in
    let next = next_run c.args.fields.now c.args.line.now c.chars.runs.items c.push_run.new.runs.items c.chars.key c.key_at-key-then-bound-at.result
    c.chars.start _ (run.keys ∙ ap (λ t. flat_map run_bytes c.chars.runs.items ++ with_key c.chars.key t) cut) before.keys in
    record {
      place = next_place c.args.line.now _ _ _ _ c.in-Some.field-0-1 c.utf8.line before.place steps.1 steps.2;
      begins = subst (IsCharBoundary c.args.line.now) (sym steps.0) before.place.0;
      until = λ p from to. c.next_bound-bound-then-bound-at.ensures p from to ∙ sym c.key_at-key-then-bound-at.ensures;
      order = omega (arith, steps.0, steps.2);
      text = run.text ∙ (ap (λ t. runs_text c.chars.runs.items ++ t) cut
          ∙ (ap (λ t. t ++ part c.chars.start at c.args.line.now) before.text
          ∙ (take_more c.chars.start _ c.args.line.now before.order ∙ ap (λ n. take n c.args.line.now) (sym steps.0))));
      keys = same_key c.args.fields.now c.args.line.now _ _ c.push_run.new.runs.items c.key_at-key-then-bound-at.result c.in-Some.at _ _ c.in-Some.field-0-1
          c.utf8.line before.place steps.1 steps.2 (omega (arith, steps.0))
          (ap (key_at c.args.fields.now) (sym steps.0) ∙ sym c.key_at-key-then-bound-at.ensures)
          (subst (λ n. IsKeyed c.args.fields.now c.args.line.now c.push_run.new.runs.items c.key_at-key-then-bound-at.result n at) (sym steps.0) next);
    }

pub chars-preserved : goal.chars-preserved
chars-preserved c =
    let steps = c.in-Some.ensures.steps in
    let before = c.chars.invariant in
    record {
      place = next_place c.args.line.now _ _ _ _ c.in-Some.field-0-1 c.utf8.line before.place steps.1 steps.2;
      begins = before.begins;
      until = before.until;
      order = omega (arith, before.order, steps.2);
      text = before.text;
      keys = same_key c.args.fields.now c.args.line.now _ _ c.chars.runs.items c.chars.key c.chars.start _ _ c.in-Some.field-0-1
          c.utf8.line before.place steps.1 steps.2 before.order
          (before.until _ before.order (omega (arith, c.if-bound-at.false, steps.0)))
          before.keys;
    }

pub range_from-requires : goal.range_from-requires
range_from-requires c = λ _. c.chars.invariant.begins

pub returns-clause-text : goal.returns-clause-text
returns-clause-text c = c.in_ok-push_run-2.ensures.text
    ∙ (ap (λ t. runs_text c.chars.runs.items ++ t) c.range_from.ensures.value
    ∙ (ap (λ t. t ++ drop c.chars.start c.args.line.now) c.chars.invariant.text ∙ take-append-drop c.chars.start c.args.line.now))

pub returns-clause-keys : goal.returns-clause-keys
returns-clause-keys c = last_run c.args.fields.now c.args.line.now _ c.chars.runs.items c.push_run-2.new.runs.items c.chars.key c.chars.start _
    c.chars.invariant.place c.in-None.ensures.steps.0 c.chars.invariant.order
    (c.in_ok-push_run-2.ensures.keys ∙ ap (λ t. flat_map run_bytes c.chars.runs.items ++ with_key c.chars.key t) c.range_from.ensures.value)
    c.chars.invariant.keys
