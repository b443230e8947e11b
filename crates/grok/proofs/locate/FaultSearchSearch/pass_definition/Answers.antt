use Rattle.std.proofs.Common.{◌≡◌, ◌+◌, suc, arith}
use Rattle.std.specs.FinMap as finite
use Rattle.grok.specs.Tree.{items_of, events, inside}
use Rattle.grok.proofs.Trees.FirstFaultIsLocated.{passed_if}
use Rattle.grok.proofs.locate.FaultSearchSearch.pass_definition.Goals as goal

pub returns-clause-passed : goal.returns-clause-passed
returns-clause-passed c start before clean =
    let stored = finite.get c.args.self.now.measurer.settings.grok.now in
    let one_more : c.args.levels + 1 ≡ suc c.args.levels = omega arith in
    passed_if c.is_none.result c.in_ok-fault.fault (events (inside (items_of stored) c.args.levels) (items_of stored c.args.definition.now)) c.is_none.ensures (rw one_more at (c.in_ok-fault.ensures.fault c.requires.ready.is c.requires.is)) before clean
