use Rattle.std.proofs.Common.{◌≡◌, vec_len}
use Rattle.regex_shared.specs.Texts.{capture_texts, AreSlicesOf}
use Rattle.regex_shared.specs.Texts.{texts_at}
use Rattle.regex_shared.specs.steps.Searches.{span_of_cells}
use Rattle.regex_shared.proofs.texts.write_texts.Given as goal

abbrev pub invariant-groups : goal.invariant-groups
invariant-groups l =
    (capture_texts l.texts.items ≡ texts_at l.line (span_of_cells l.whole l.cells) l.number)
    × AreSlicesOf l.line (capture_texts l.texts.items)
    × (vec_len l.texts ≡ l.number)
