use Rattle.std.proofs.Common.{◌≡◌, ◌∙◌, ap, subst, length, option_map, IfSome}
use Rattle.regex_meta.proofs.ProgramLemmas.{first_match-leftmost}
use Rattle.regex_vm.specs.Found.{span, group_cells}
use Rattle.regex_shared.proofs.searcher.by_backtracking.Goals as goal

pub returns-clause-span : goal.returns-clause-span
returns-clause-span c =
    c.in_ok-found.ensures.span ∙ ap (option_map span) (first_match-leftmost c.args.program.now c.args.hay.now 0)

pub returns-clause-cells : goal.returns-clause-cells
returns-clause-cells c =
    subst (λ o. IfSome o (λ m. c.find.new.groups ≡ group_cells m (length c.args.cells.now)))
    (first_match-leftmost c.args.program.now c.args.hay.now 0) c.in_ok-found.ensures.groups
