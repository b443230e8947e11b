use Rattle.std.proofs.Common.{vec_len}
use Rattle.regex_meta.specs.Programs.{pattern_of}
use Rattle.regex_shared.proofs.AutomataFindMatches.{spans_found, cells_found}
use Rattle.regex_shared.proofs.regex_search.RegexSearch.find.Goals as goal

pub returns-clause-span : goal.returns-clause-span
returns-clause-span c =
    spans_found (pattern_of c.args.self.now.searcher.program) c.args.line.now c.in_ok-found.found
    (rw c.as_bytes.ensures.value at c.in_ok-found.ensures.span) (c.starts_inside.ensures c.if-starts_inside.false)

pub returns-clause-cells : goal.returns-clause-cells
returns-clause-cells c =
    cells_found (pattern_of c.args.self.now.searcher.program) c.args.line.now c.in_ok-found.found
    (rw c.as_bytes.ensures.value at c.in_ok-found.ensures.span) (c.starts_inside.ensures c.if-starts_inside.false)
    _ (vec_len c.args.self.now.cells) (rw c.as_bytes.ensures.value at c.in_ok-found.ensures.cells)
