use Rattle.std.proofs.Common.{◌≡◌, ◌⊎◌, ◌+◌, ◌-◌, ◌<◌, ◌≤◌, length}
use Rattle.regex_beginnings.specs.Finds.{FindsIn, FindsNothingIn}
use Rattle.regex_beginnings.specs.Pieces.{beginning_text}
use Rattle.regex_beginnings.specs.Beginnings.{pieces_of}
use Rattle.regex_beginnings.proofs.beginnings.Beginnings.longest.Given as goal

abbrev pub invariant-halves : goal.invariant-halves
invariant-halves l = record {
  same : pieces_of l.self ≡ pieces_of l.fn.self;
  finds : (l.count ≡ 0) ⊎ FindsIn (beginning_text (pieces_of l.fn.self) l.count) l.fn.line;
  next : (l.too_many ≡ length (pieces_of l.fn.self) + 1)
      ⊎ FindsNothingIn (beginning_text (pieces_of l.fn.self) l.too_many) l.fn.line;
  order : l.count < l.too_many;
  most : l.too_many ≤ length (pieces_of l.fn.self) + 1;
}

abbrev pub decreases-halves : goal.decreases-halves
decreases-halves l = l.too_many - l.count
