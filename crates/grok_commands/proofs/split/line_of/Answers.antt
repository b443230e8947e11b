use Rattle.std.proofs.Common.{◌++◌, codes, refl, ◌∙◌, ap, string_bytes, arith}
use Rattle.grok.proofs.Texts.WrittenTextIsAppended.{written_is_appended}
use Rattle.grok_commands.proofs.split.line_of.Goals as goal

pub returns-in_ok-push-in-Ok : goal.returns-in_ok-push-in-Ok
returns-in_ok-push-in-Ok c =
    let shown = c.in-Ok.ensures.any c.new-f.ensures.plain refl in (
      shown.0,
      shown.1,
      c.in_ok-push-in-Ok.ensures.bytes ∙ ap (λ end. string_bytes c.into_inner-line.result ++ end) (c.in_ok-push-in-Ok.ensures.ascii (omega arith))
          ∙ ap (λ text. text ++ codes "\n") (written_is_appended _ _ c.new-f.result c.fmt.new.f shown.0 _ c.new-f.ensures.writer c.clear.ensures.bytes shown.2 c.into_inner-line.ensures),
    )
