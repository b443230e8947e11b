use Rattle.std.proofs.Common.{sym, ◌∙◌}
use Rattle.std.proofs.lemmas.Bool.{true≢false}
use Rattle.grok.proofs.Texts.EqualBytesAreSameText.{same_text, text_same}
use Rattle.grok.proofs.Keys.UsesOfKeys.{own_counted, other_counted}
use Rattle.grok.proofs.expand.uses.Uses.of_key.Goals as goal

pub returns-then-eq : goal.returns-then-eq
returns-then-eq c = own_counted c.args.base.now c.args.key.now (same_text c.args.key.now c.args.base.now (sym c.eq.ensures ∙ c.if-eq.true))

pub returns : goal.returns
returns c =
    other_counted c.args.base.now c.args.key.now c.number_of_base.result
    (λ is. true≢false (sym (text_same c.args.key.now c.args.base.now is) ∙ sym c.eq.ensures ∙ c.if-eq.false)) c.number_of_base.ensures
