use Rattle.std.proofs.Common.{Some, sym, ◌∙◌, ap, subst}
use Rattle.std.specs.FinMap as finite
use Rattle.grok.specs.Tree.{tree, deepest}
use Rattle.grok.specs.Items.{item_view}
use Rattle.grok.specs.FaultLocations.{path_view, IsFaultAt}
use Rattle.grok.proofs.Trees.FirstFaultIsLocated.{fault_found}
use Rattle.grok.proofs.locate.locate_fault.Goals as goal

pub returns-in-None-clause-fault : goal.returns-in-None-clause-fault
returns-in-None-clause-fault c = sym (rw c.in-None.is at c.in_ok-descend.ensures.found)

pub returns-clause-fault : goal.returns-clause-fault
returns-clause-fault c =
    let stored = finite.get c.args.measurer.settings.grok.now in
    let place = c.in-Some.place in
    let f = rw c.in-Some.is at c.in_ok-descend.ensures.found in
    let both = fault_found stored deepest c.args.pattern.now (path_view place.location.path.items) place.location.text.now place.location.range.start place.location.range.end (item_view place.item) f.before f.event f.after (tree stored c.args.pattern.now) f.stands f.cut f.passed f.sought in
    ap Some c.fault_of_item.ensures ∙ both.0

pub returns-clause-location : goal.returns-clause-location
returns-clause-location c =
    let stored = finite.get c.args.measurer.settings.grok.now in
    let place = c.in-Some.place in
    let f = rw c.in-Some.is at c.in_ok-descend.ensures.found in
    let both = fault_found stored deepest c.args.pattern.now (path_view place.location.path.items) place.location.text.now place.location.range.start place.location.range.end (item_view place.item) f.before f.event f.after (tree stored c.args.pattern.now) f.stands f.cut f.passed f.sought in
    subst (IsFaultAt stored deepest c.args.pattern.now (path_view place.location.path.items) place.location.text.now place.location.range.start place.location.range.end) (sym c.fault_of_item.ensures) both.1
