-- The patterns so far have the texts so far.
use Rattle.std.proofs.Common.{◌≡◌, map, take}
use Rattle.groklog_definitions.specs.Texts.{pattern_texts}
use Rattle.groklog_definitions.proofs.pattern_text.patterns_of.Given as goal

abbrev pub invariant-texts : goal.invariant-texts
invariant-texts l = pattern_texts l.patterns.items ≡ map (λ text. (text.now, l.with_alias_only)) (take l.index l.texts)
