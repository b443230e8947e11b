use Rattle.std.proofs.Common.{◌≡◌, ◌+◌, ◌<◌, ◌-◌, ◌^◌, get_or, unwrap_or, refl, ◌∙◌, ap, ap₂, arith}
use Rattle.std.specs.FinMap as finite
use Rattle.grok.specs.Tree.{items_of, events, inside}
use Rattle.grok.specs.Keys.{capturing, how_often}
use Rattle.grok.specs.steps.CountedUses.{no_uses}
use Rattle.grok.specs.declared.expand.uses.Uses.{Uses}
use Rattle.grok.specs.declared.locate_clash.UseSearch.{UseSearch}
use Rattle.grok.proofs.Keys.PartsAreKnown.{none_left}
use Rattle.grok.proofs.Keys.UsesArePassed.{passed_if, part_uses, goes_on}
use Rattle.grok.proofs.locate_clash.UseSearchSearch.pass_definition.Goals as goal

pub returns-in-Some-clause-passed : goal.returns-in-Some-clause-passed
returns-in-Some-clause-passed c =
    let self = c.args.self.now in
    let part = c.in-Some.part.now in
    let known = c.requires.ready.is.known in
    let left = c.pass_uses.new.left in
    let new : UseSearch = record { settings = self.settings; parts = self.parts; counts = self.counts; base = self.base; left = left } in
    let text = c.args._definition.now in
    let items = items_of (finite.get self.settings.grok.now) in
    let es = events (inside items c.args.levels) (items text) in
    let counted : Uses = get_or self.counts.now part.index no_uses in
    let is : c.unwrap_or-uses.result ≡ counted = c.unwrap_or-uses.ensures ∙ ap₂ unwrap_or c.copied-counted.ensures c.none.ensures ∙ c.get.ensures.lookup.4 (omega arith) no_uses in
    let times : c.unwrap_or-uses.result.times ≡ counted.times = ap (λ (u : Uses). u.times) is in
    passed_if self new c.pass_uses.result es refl refl
    (λ passed.
    let fewer : c.unwrap_or-uses.result.times + left ≡ self.left = c.pass_uses.ensures.passed passed in
    let low : counted.times < 2 ^ 64 - 1 = omega (arith, fewer, times, c.requires.ready.is.low) in
    let uses : how_often (capturing self.settings.with_alias_only es) self.base.now ≡ counted.times =
    part_uses self.settings known.done text part c.args.levels self.base.now self.counts.now (c.in-Some.ensures.part self.settings known text c.requires.is)
    (none_left part.stop c.is_none.result c.is_none.ensures c.if-is_none.true) c.if-part-levels.true c.requires.ready.is.counted low in
    let whole : how_often (capturing self.settings.with_alias_only es) self.base.now + left ≡ self.left = omega (arith, uses, times, fewer) in
    whole)
    (λ stopped. (c.pass_uses.ensures.stopped stopped).1)

pub returns-in-Some-clause-ready : goal.returns-in-Some-clause-ready
returns-in-Some-clause-ready c rest ready = goes_on c.args.self.now c.pass_uses.new.left c.pass_uses.ensures.less ready
