use Rattle.std.proofs.Common.{◌≤◌, ◌<◌, length, refl, arith}
use Rattle.std.specs.FinMap as finite
use Rattle.grok.specs.declared.locate_byte.ByteSearch.{ByteSearch}
use Rattle.grok.specs.Tree.{tree}
use Rattle.grok.specs.Expanded.{expanded}
use Rattle.grok.specs.Items.{item_view}
use Rattle.grok.specs.FaultLocations.{path_view}
use Rattle.grok.proofs.Trees.ByteIsLocated.{nothing_passed, byte_found}
use Rattle.grok.proofs.locate_byte.locate_written.Goals as goal

pub descend-requires : goal.descend-requires
descend-requires c κs =
    let start : ByteSearch = record { measurer = c.args.measurer; byte = c.args.byte; before = c.size_of_text.result } in
    ((refl, tt), (c.requires.cache, (refl, nothing_passed start c.size_of_text.ensures.shown)))

pub returns-in-None : goal.returns-in-None
returns-in-None c has =
    let whole = tree (finite.get c.args.measurer.now.settings.grok.now) c.args.pattern.now in
    let passed = rw c.in-None.is at c.in_ok-descend.ensures.found in
    let past : length (expanded c.args.measurer.now.settings.with_alias_only whole) ≤ c.args.byte = passed.later.passed in
    let within : c.args.byte < length (expanded c.args.measurer.now.settings.with_alias_only whole) = has.within in
    absurd (omega (arith, past, within))

pub returns-in-Some : goal.returns-in-Some
returns-in-Some c =
    let stored = finite.get c.args.measurer.now.settings.grok.now in
    let start : ByteSearch = record { measurer = c.args.measurer; byte = c.args.byte; before = c.size_of_text.result } in
    let place = c.in-Some.place in
    let f = rw c.in-Some.is at c.in_ok-descend.ensures.found in
    byte_found stored c.args.pattern.now (path_view place.location.path.items) place.location.text.now place.location.range.start place.location.range.end (item_view place.item) f.before f.event f.after start c.descend.new.search c.offset_after.result c.part_of_item.result
    c.requires.clean f.cut f.stands f.passed f.sought c.offset_after.ensures c.part_of_item.ensures
