use Rattle.std.specs.FinMap as finite
use Rattle.grok.specs.Tree.{tree}
use Rattle.grok.proofs.Trees.ByteIsLocated.{measured_clean}
use Rattle.grok.proofs.locate_byte.locate_measured.Goals as goal

pub locate_written-requires-clause-clean : goal.locate_written-requires-clause-clean
locate_written-requires-clause-clean c =
    let settings = c.args.found.now.measurer.settings in
    measured_clean settings.with_alias_only (tree (finite.get settings.grok.now) c.args.pattern.now) c.args.found.now.measure c.in_default.not-Fault c.requires.counted.answer
