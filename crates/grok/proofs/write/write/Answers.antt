use Rattle.std.proofs.Common.{refl, arith}
use Rattle.std.specs.FinMap as finite
use Rattle.grok.specs.Tree.{tree}
use Rattle.grok.specs.declared.write.Writer.{Writer}
use Rattle.grok.proofs.Keys.KeysAreAssigned.{keyed}
use Rattle.grok.proofs.Trees.TextIsWritten.{all_written, room_at_first}
use Rattle.grok.proofs.write.write.Goals as goal

pub descend-requires : goal.descend-requires
descend-requires c κs =
    let start : Writer = record { settings = c.args.settings; text = c.args.text; keys = c.new.result } in
    ((refl, tt), (room_at_first (finite.get c.args.settings.grok.now) c.args.pattern.now start c.new.ensures c.requires.empty (omega (arith, c.requires.room)), (refl, record { settings = refl; text = c.requires.empty; keys = c.new.ensures })))

pub returns-clause-text : goal.returns-clause-text
returns-clause-text c =
    let start : Writer = record { settings = c.args.settings; text = c.args.text; keys = c.new.result } in
    (all_written (finite.get c.args.settings.grok.now) c.args.pattern.now c.in_ok-descend.field-0 start c.descend.new.search c.requires.clean c.in_ok-descend.ensures.found).text

pub returns-clause-keys : goal.returns-clause-keys
returns-clause-keys c =
    let start : Writer = record { settings = c.args.settings; text = c.args.text; keys = c.new.result } in
    let whole = tree (finite.get c.args.settings.grok.now) c.args.pattern.now in
    keyed c.args.settings.with_alias_only whole c.descend.new.search.keys
    (all_written (finite.get c.args.settings.grok.now) c.args.pattern.now c.in_ok-descend.field-0 start c.descend.new.search c.requires.clean c.in_ok-descend.ensures.found).keys
