use Rattle.std.specs.FinMap as finite
use Rattle.grok.specs.Tree.{tree}
use Rattle.grok.specs.Compiled.{expansion_of}
use Rattle.grok.proofs.Trees.StepsCompile.{expansion_if, no_structural}
use Rattle.grok.proofs.compile.expand_clean.Goals as goal

pub write-requires-clause-clean : goal.write-requires-clause-clean
write-requires-clause-clean c = no_structural c.args.settings.with_alias_only (tree (finite.get c.args.settings.grok.now) c.args.pattern.now) c.requires.clean

pub returns : goal.returns
returns c = expansion_if (expansion_of c.args.settings.grok.now c.args.settings.with_alias_only c.args.pattern.now) c.write.result c.requires.some
    c.requires.clean c.write.ensures.text c.write.ensures.keys
