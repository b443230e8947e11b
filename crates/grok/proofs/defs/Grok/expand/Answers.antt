use Rattle.std.proofs.Common.{◌≡◌, ℕ, List, Some, None, sym, ◌∙◌, ap, subst}
use Rattle.std.specs.Option.{option_map}
use Rattle.std.specs.FinMap as finite
use Rattle.grok.specs.Tree.{Event, tree, first_structural, Fault}
use Rattle.grok.specs.Keys.{Structural}
use Rattle.grok.specs.Items.{fault_view}
use Rattle.grok.specs.Errors.{error_value, CompiledPatternIsEmpty}
use Rattle.grok.specs.Compiled.{NeverRefuses, expansion_of, IsCompileError, Empty, First, NoMemory}
use Rattle.grok.specs.Measured.{measure_view}
use Rattle.grok.proofs.Trees.StepsCompile.{expansion_without_memory, faulty_is, structural_error, sized_is, sized_fits, some_bytes, no_bytes}
use Rattle.grok.proofs.defs.Grok.expand.Goals as goal

pub returns-then-is_empty : goal.returns-then-is_empty
returns-then-is_empty c =
    subst (λ (bs : List ℕ). IsCompileError NeverRefuses (expansion_of c.args.self.now c.args.with_alias_only c.args.pattern.now) (CompiledPatternIsEmpty bs)) (sym c.new.ensures.bytes)
    (Empty (no_bytes c.args.pattern.now (sym c.is_empty.ensures ∙ c.if-is_empty.true)))

pub returns-in_err-found : goal.returns-in_err-found
returns-in_err-found c =
    expansion_without_memory (expansion_of c.args.self.now c.args.with_alias_only c.args.pattern.now)
    (some_bytes c.args.pattern.now (sym c.is_empty.ensures ∙ c.if-is_empty.false)) c.from_residual.result c.from_residual.ensures.1

pub returns-in-TooLong : goal.returns-in-TooLong
returns-in-TooLong c = NoMemory (some_bytes c.args.pattern.now (sym c.is_empty.ensures ∙ c.if-is_empty.false))

pub returns-in_err-error-in-Fault : goal.returns-in_err-error-in-Fault
returns-in_err-error-in-Fault c =
    expansion_without_memory (expansion_of c.args.self.now c.args.with_alias_only c.args.pattern.now)
    (some_bytes c.args.pattern.now (sym c.is_empty.ensures ∙ c.if-is_empty.false)) c.from_residual-in_err-error-in-Fault.result c.from_residual-in_err-error-in-Fault.ensures.1

pub returns-in-Some : goal.returns-in-Some
returns-in-Some c =
    let events : List Event = tree (finite.get c.args.self.now) c.args.pattern.now in
    let fault : Fault = fault_view c.in-Fault.fault in
    let faulty : first_structural events ≡ Some fault = faulty_is c.args.with_alias_only events fault (sym (ap measure_view c.in-Fault.is) ∙ c.in_ok-found.ensures.counted.answer) in
    First (error_value c.in-Some.error) (some_bytes c.args.pattern.now (sym c.is_empty.ensures ∙ c.if-is_empty.false)) (rw c.in-Some.is at c.in_ok-error-in-Fault.ensures)
    (λ clean. let both : None ≡ Some fault = sym clean ∙ faulty in cc)

pub returns-in_err-to_error-in-None : goal.returns-in_err-to_error-in-None
returns-in_err-to_error-in-None c =
    expansion_without_memory (expansion_of c.args.self.now c.args.with_alias_only c.args.pattern.now)
    (some_bytes c.args.pattern.now (sym c.is_empty.ensures ∙ c.if-is_empty.false)) c.from_residual-in_err-to_error-in-None.result c.from_residual-in_err-to_error-in-None.ensures.1

pub returns-in-Fault : goal.returns-in-Fault
returns-in-Fault c =
    let events : List Event = tree (finite.get c.args.self.now) c.args.pattern.now in
    let fault : Fault = fault_view c.in-Fault.fault in
    let faulty : first_structural events ≡ Some fault = faulty_is c.args.with_alias_only events fault (sym (ap measure_view c.in-Fault.is) ∙ c.in_ok-found.ensures.counted.answer) in
    First (error_value c.in_ok-to_error-in-None.field-0) (some_bytes c.args.pattern.now (sym c.is_empty.ensures ∙ c.if-is_empty.false))
    (structural_error c.args.with_alias_only events fault (error_value c.in_ok-to_error-in-None.field-0) (rw c.in-None.is at c.in_ok-error-in-Fault.ensures) faulty c.in_ok-to_error-in-None.ensures)
    (λ clean. let both : None ≡ Some fault = sym clean ∙ faulty in cc)

pub returns-in_err-error-in-Size : goal.returns-in_err-error-in-Size
returns-in_err-error-in-Size c =
    expansion_without_memory (expansion_of c.args.self.now c.args.with_alias_only c.args.pattern.now)
    (some_bytes c.args.pattern.now (sym c.is_empty.ensures ∙ c.if-is_empty.false)) c.from_residual-in_err-error-in-Size.result c.from_residual-in_err-error-in-Size.ensures.1

pub returns-in-Some-2 : goal.returns-in-Some-2
returns-in-Some-2 c =
    let events : List Event = tree (finite.get c.args.self.now) c.args.pattern.now in
    First (error_value c.in-Some-2.error) (some_bytes c.args.pattern.now (sym c.is_empty.ensures ∙ c.if-is_empty.false)) (rw c.in-Some-2.is at c.in_ok-error-in-Size.ensures)
    (λ clean. sized_fits c.args.with_alias_only events c.in-Size.length c.in-Size.groups c.in-Size.nesting (sym (ap measure_view c.in-Size.is) ∙ c.in_ok-found.ensures.counted.answer))

pub returns-in_err-expand_clean-in-Size : goal.returns-in_err-expand_clean-in-Size
returns-in_err-expand_clean-in-Size c =
    expansion_without_memory (expansion_of c.args.self.now c.args.with_alias_only c.args.pattern.now)
    (some_bytes c.args.pattern.now (sym c.is_empty.ensures ∙ c.if-is_empty.false)) c.from_residual-in_err-expand_clean-in-Size.result c.from_residual-in_err-expand_clean-in-Size.ensures.1

pub expand_clean-requires-clause-long : goal.expand_clean-requires-clause-long
expand_clean-requires-clause-long c =
    let events : List Event = tree (finite.get c.args.self.now) c.args.pattern.now in
    (sized_is c.args.with_alias_only events c.in-Size.length c.in-Size.groups c.in-Size.nesting (sym (ap measure_view c.in-Size.is) ∙ c.in_ok-found.ensures.counted.answer)).1

pub expand_clean-requires-clause-clean : goal.expand_clean-requires-clause-clean
expand_clean-requires-clause-clean c =
    let events : List Event = tree (finite.get c.args.self.now) c.args.pattern.now in
    let sized = sized_is c.args.with_alias_only events c.in-Size.length c.in-Size.groups c.in-Size.nesting (sym (ap measure_view c.in-Size.is) ∙ c.in_ok-found.ensures.counted.answer) in
    (rw c.in_default.is at c.in_ok-error-in-Size.ensures) ∙ ap (option_map Structural) sized.0
