use Rattle.std.proofs.Common.{◌≡◌, ◌-◌, drop}
use Rattle.grok.proofs.defs.items.Items.pass_over.Given as goal

abbrev pub invariant-items : goal.invariant-items
invariant-items l = drop (l.count - l._index) l.self ≡ drop l.count l.fn.self
