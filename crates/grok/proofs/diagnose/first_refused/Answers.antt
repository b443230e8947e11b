use Rattle.std.proofs.Common.{ℕ, List, Bor, Some, [], ◌∷◌, ◌++◌, refl, sym, ◌∙◌, ap, subst, arith}
use Rattle.std.specs.Prelude.{is_some}
use Rattle.std.specs.FinMap as finite
use Rattle.std.proofs.lemmas.Map.Text.{btree_map_updates_str}
use Rattle.grok.specs.Items.{item_view, label_view, meaning_view}
use Rattle.grok.specs.FaultLocations.{IsPieceAt}
use Rattle.grok.specs.Diagnoses.{IsNotToBlame, IfPlaceholder}
use Rattle.grok.specs.steps.RefusedParts.{IsToBlame}
use Rattle.grok.proofs.Keys.BasesOfRows.{has_no_base, holds_of_each}
use Rattle.grok.proofs.Trees.BlamedParts.{one_more, no_placeholder}
use Rattle.grok.proofs.diagnose.first_refused.Goals as goal

pub items-init : goal.items-init
items-init g c = record {
  read = ([], c.of_text-items.ensures.read, λ i d none. absurd (omega (arith, none)));
  text = ap (λ (text : Bor (List ℕ)). text.now) c.of_text-items.ensures.text;
  seen = λ definition has. absurd (has_no_base c.new-seen.result c.new-seen.ensures.empty definition has);
}

pub items-preserved-in_default-item : goal.items-preserved-in_default-item
items-preserved-in_default-item g c =
    let P = (IsNotToBlame g.B.BuildFromText.is_built_from g.B.BuildFromText.refuses c.args.settings.grok.now c.args.settings.with_alias_only) in
    let (before, read, innocent) = c.items.invariant.read in
    let (stands, of_library, later) = rw c.in-Some.is at (c.in_ok-placed.ensures.stands (finite.get c.args.settings.grok.now) before read) in
    record {
      read = (before ++ item_view c.in-Some.placed.item ∷ [], later, one_more (IfPlaceholder P) before (item_view c.in-Some.placed.item) innocent (no_placeholder P c.in-Some.placed.item c.in_default-item.not-Placeholder));
      text = ap (λ (text : Bor (List ℕ)). text.now) c.in_ok-placed.ensures.text ∙ c.items.invariant.text;
      seen = c.items.invariant.seen;
    }

pub items-preserved-then-is_some : goal.items-preserved-then-is_some
items-preserved-then-is_some g c =
    let P = (IsNotToBlame g.B.BuildFromText.is_built_from g.B.BuildFromText.refuses c.args.settings.grok.now c.args.settings.with_alias_only) in
    let definition = c.text-definition.result.now in
    let known : P definition = c.items.invariant.seen definition (sym (ap is_some c.in_ok-insert.ensures.old) ∙ sym c.is_some.ensures ∙ c.if-is_some.true) in
    let (before, read, innocent) = c.items.invariant.read in
    let (stands, of_library, later) = rw c.in-Some.is at (c.in_ok-placed.ensures.stands (finite.get c.args.settings.grok.now) before read) in
    record {
      read = (before ++ item_view c.in-Some.placed.item ∷ [], later, one_more (IfPlaceholder P) before (item_view c.in-Some.placed.item) innocent (subst (λ item. IfPlaceholder P (item_view item)) (sym c.in-Placeholder.is) (subst P c.text-definition.ensures known)));
      text = ap (λ (text : Bor (List ℕ)). text.now) c.in_ok-placed.ensures.text ∙ c.items.invariant.text;
      seen = holds_of_each definition tt c.items.seen c.insert.new.self (btree_map_updates_str definition c.items.seen c.insert.new.self (Some tt) c.in_ok-insert.ensures.updates) P c.items.invariant.seen known;
    }

pub items-preserved : goal.items-preserved
items-preserved g c =
    let P = (IsNotToBlame g.B.BuildFromText.is_built_from g.B.BuildFromText.refuses c.args.settings.grok.now c.args.settings.with_alias_only) in
    let definition = c.text-definition.result.now in
    let known : P definition = rw c.in_default-2.is at c.in_ok-refused.ensures in
    let (before, read, innocent) = c.items.invariant.read in
    let (stands, of_library, later) = rw c.in-Some.is at (c.in_ok-placed.ensures.stands (finite.get c.args.settings.grok.now) before read) in
    record {
      read = (before ++ item_view c.in-Some.placed.item ∷ [], later, one_more (IfPlaceholder P) before (item_view c.in-Some.placed.item) innocent (subst (λ item. IfPlaceholder P (item_view item)) (sym c.in-Placeholder.is) (subst P c.text-definition.ensures known)));
      text = ap (λ (text : Bor (List ℕ)). text.now) c.in_ok-placed.ensures.text ∙ c.items.invariant.text;
      seen = holds_of_each definition tt c.items.seen c.insert.new.self (btree_map_updates_str definition c.items.seen c.insert.new.self (Some tt) c.in_ok-insert.ensures.updates) P c.items.invariant.seen known;
    }

pub returns-in-Some-2 : goal.returns-in-Some-2
returns-in-Some-2 g c =
    let stored = finite.get c.args.settings.grok.now in
    let placed = c.in-Some.placed in
    let (before, read, innocent) = c.items.invariant.read in
    let (stands, of_library, later) = rw c.in-Some.is at (c.in_ok-placed.ensures.stands stored before read) in
    record {
      before = before;
      label = label_view c.in-Placeholder.label;
      meaning = meaning_view c.in-Placeholder.meaning;
      stands = subst (IsPieceAt stored c.args.text.now before placed.range.start placed.range.end) (ap item_view c.in-Placeholder.is)
          (subst (λ text. IsPieceAt stored text before placed.range.start placed.range.end (item_view placed.item)) c.items.invariant.text stands);
      named = refl;
      blame = subst (λ definition. IsToBlame g.B.BuildFromText.refuses c.args.settings definition c.in-Some-2.refused) c.text-definition.ensures (rw c.in-Some-2.is at c.in_ok-refused.ensures);
    }
