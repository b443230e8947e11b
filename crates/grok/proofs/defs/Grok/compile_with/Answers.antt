use Rattle.grok.specs.Compiled.{expansion_of}
use Rattle.grok.proofs.Trees.StepsCompile.{unexpanded_answer, built_answer}
use Rattle.grok.proofs.defs.Grok.compile_with.Goals as goal

pub returns-in_err-text : goal.returns-in_err-text
returns-in_err-text g c =
    unexpanded_answer g.E.Engine.source_of g.E.Engine.group_names g.E.Engine.may_refuse (expansion_of c.args.self.now c.args.with_alias_only c.args.pattern.now)
    c.from_residual.result c.in_err-text.field-0.0 c.from_residual.ensures.1 c.in_err-text.ensures

pub returns : goal.returns
returns g c =
    built_answer g.E.Engine.source_of g.E.Engine.group_names g.E.Engine.may_refuse (expansion_of c.args.self.now c.args.with_alias_only c.args.pattern.now)
    c.in_ok-text.field-0 c.as_str.result.now c.build.result c.in_ok-text.ensures c.as_str.ensures.value c.build.ensures
