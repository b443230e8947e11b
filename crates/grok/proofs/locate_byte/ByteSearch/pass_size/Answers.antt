use Rattle.std.proofs.Common.{◌∷◌, []}
use Rattle.grok.proofs.Trees.ByteIsLocated.{size_stops, size_passed}
use Rattle.grok.proofs.locate_byte.ByteSearch.pass_size.Goals as goal

pub returns-then-has_byte-clause-stopped : goal.returns-then-has_byte-clause-stopped
returns-then-has_byte-clause-stopped c stopped event size start before p =
    size_stops c.args.self.now c.args.size c.add-after.result (event ∷ []) size c.add-after.ensures.adds c.has_byte.result c.has_byte.ensures start before p c.if-has_byte.true

pub returns-clause-passed : goal.returns-clause-passed
returns-clause-passed c passed es size start before p =
    size_passed c.args.self.now c.args.size c.add-after.result es size c.add-after.ensures.adds c.has_byte.result c.has_byte.ensures start before p c.if-has_byte.false
