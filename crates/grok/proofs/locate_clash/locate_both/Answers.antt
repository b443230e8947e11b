use Rattle.std.proofs.Common.{◌∙◌}
use Rattle.std.specs.FinMap as finite
use Rattle.grok.proofs.Keys.ClashIsLocated.{own_is_found, numbered_is_found, own_first, numbered_first}
use Rattle.grok.proofs.locate_clash.locate_both.Goals as goal

pub returns-in_default-clause-found : goal.returns-in_default-clause-found
returns-in_default-clause-found c nothing =
    own_is_found (finite.get c.args.settings.grok.now) c.args.settings.with_alias_only c.args.pattern.now c.args.clash c.requires.clash c.as_str.result.now (c.as_str.ensures.value ∙ c.in_ok-key.ensures) c.in_ok-own.field-0 c.in_ok-own.ensures c.in_default.is

pub returns-in_default-2-clause-found : goal.returns-in_default-2-clause-found
returns-in_default-2-clause-found c nothing =
    numbered_is_found (finite.get c.args.settings.grok.now) c.args.settings.with_alias_only c.args.pattern.now c.args.clash c.requires.clash c.in_ok-numbered.field-0 c.in_ok-numbered.ensures c.in_default-2.is

pub returns-then-clash-clause-location : goal.returns-then-clash-clause-location
returns-then-clash-clause-location c =
    own_first (finite.get c.args.settings.grok.now) c.args.settings.with_alias_only c.args.pattern.now c.args.clash c.requires.clash c.in_ok-key.key c.in_ok-key.ensures c.in_ok-base.base c.in_ok-base.ensures.ok c.as_str.result.now (c.as_str.ensures.value ∙ c.in_ok-key.ensures)
    c.in-Some.own c.in-Some-2.numbered (rw c.in-Some.is at c.in_ok-own.ensures) (rw c.in-Some-2.is at c.in_ok-numbered.ensures) c.if-clash.true

pub returns-else-clash-clause-location : goal.returns-else-clash-clause-location
returns-else-clash-clause-location c =
    numbered_first (finite.get c.args.settings.grok.now) c.args.settings.with_alias_only c.args.pattern.now c.args.clash c.requires.clash c.in_ok-key.key c.in_ok-key.ensures c.in_ok-base.base c.in_ok-base.ensures.ok c.as_str.result.now (c.as_str.ensures.value ∙ c.in_ok-key.ensures)
    c.in-Some.own c.in-Some-2.numbered (rw c.in-Some.is at c.in_ok-own.ensures) (rw c.in-Some-2.is at c.in_ok-numbered.ensures) c.if-clash.false

pub find_use-requires-2-clause-low : goal.find_use-requires-2-clause-low
find_use-requires-2-clause-low c = c.requires.clash.fits
