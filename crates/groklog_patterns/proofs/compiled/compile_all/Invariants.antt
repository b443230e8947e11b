-- The patterns so far are compiled from the texts so far, one after another, and the other texts are still to come.
use Rattle.std.proofs.Common.{◌≡◌, ◌++◌, length}
use Rattle.std.specs.List.{AllZip}
use Rattle.std.specs.Vec.Iter.{into_iter_items, into_iter_len}
use Rattle.groklog_patterns.specs.Compiled.{IsRunPattern}
use Rattle.groklog_patterns.proofs.compiled.compile_all.Given as goal

abbrev pub invariant-texts : goal.invariant-texts
invariant-texts l = record {
  compiled : AllZip (IsRunPattern l.library.grok l.library.limit) l.yielded l.all.items;
  left : l.yielded ++ into_iter_items l.text-iterator ≡ l.fn.texts.items;
  count : length (into_iter_items l.text-iterator) ≡ into_iter_len l.text-iterator;
}
