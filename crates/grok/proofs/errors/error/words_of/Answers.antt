use Rattle.std.proofs.Common.{refl, sym, subst}
use Rattle.grok_parser.specs.Texts.{IsFaultText}
use Rattle.grok.proofs.Texts.WrittenTextIsAppended.{written_is_appended}
use Rattle.grok.proofs.errors.error.words_of.Goals as goal

pub returns-in-Ok : goal.returns-in-Ok
returns-in-Ok c =
    let shown = c.in-Ok.ensures.any c.new-f.ensures.plain refl in
    subst (IsFaultText c.args.fault.now)
    (sym (written_is_appended _ _ c.new-f.result c.fmt.new.f shown.0 _ c.new-f.ensures.writer c.new.ensures.bytes shown.2 c.into_inner.ensures))
    shown.1
