use Rattle.std.proofs.Common.{◌≡◌, ◌+◌, suc, refl, arith}
use Rattle.std.specs.FinMap as finite
use Rattle.grok.specs.Tree.{items_of, events, inside}
use Rattle.grok.specs.steps.Sizes.{size_or_fault}
use Rattle.grok.specs.steps.ByteSearches.{IsSizeOf}
use Rattle.grok.proofs.Trees.ByteIsLocated.{passed_if, definition_size}
use Rattle.grok.proofs.locate_byte.ByteSearchSearch.pass_definition.Goals as goal

pub returns-in-Some-clause-passed : goal.returns-in-Some-clause-passed
returns-in-Some-clause-passed c =
    let old = c.args.self.now in
    let alias_only = old.measurer.now.settings.with_alias_only in
    let resolve = items_of (finite.get old.measurer.now.settings.grok.now) in
    let text = c.args._definition.now in
    let es = events (inside resolve c.args.levels) (resolve text) in
    let one_more : c.args.levels + 1 ≡ suc c.args.levels = omega arith in
    let size : IsSizeOf alias_only c.in-Some.size es = definition_size alias_only resolve c.args.levels text c.in-Some.size (size_or_fault alias_only resolve (suc c.args.levels) text) refl
    (rw one_more at (c.in-Some.ensures text c.requires.ready.is c.requires.is)) in
    passed_if old c.pass_size.new.self c.pass_size.result es (λ passed. c.pass_size.ensures.passed passed es size) c.pass_size.ensures.same
