use Rattle.std.proofs.Common.{take}
use Rattle.std.specs.List.{AllZip}
use Rattle.std.specs.FinMap as finite
use Rattle.grok.specs.ByteLocations.{LocatesByte}
use Rattle.grok.proofs.defs.Grok.locate_bytes.Given as goal

abbrev pub invariant-bytes : goal.invariant-bytes
invariant-bytes l = record {
  located : AllZip (LocatesByte (finite.get l.self) l.with_alias_only l.pattern) (take l.byte-index l.bytes) l.locations.items;
}
