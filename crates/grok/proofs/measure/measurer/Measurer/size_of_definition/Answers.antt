use Rattle.std.proofs.Common.{suc, ◌-◌, ◌≡◌, Result, Ok, Err, subst, sym, arith}
use Rattle.std.specs.Prelude.{IfOk}
use Rattle.grok.specs.steps.Sizes.{size_or_fault, sizes}
use Rattle.grok.specs.steps.MeasureCache.{items_in, result_view, shown_result, ShowsCorrectState}
use Rattle.grok.specs.declared.settings.Settings.{Settings}
use Rattle.grok.proofs.Sizes.KnownResultsAreRight.{known_is}
use Rattle.grok.proofs.Sizes.MeasuringAgain.{size_is, stays_true}
use Rattle.grok.proofs.measure.measurer.Measurer.size_of_definition.Goals as goal

if_both : {A E : Type 0} (P Q R : A → Type 0) (r : Result A E) → ((x : A) → P x → Q x → R x) → IfOk r P → IfOk r Q → IfOk r R
if_both P Q R (Ok x) both p q = both x p q
if_both P Q R (Err e) both p q = tt

pub returns-in-Some-clause-size : goal.returns-in-Some-clause-size
returns-in-Some-clause-size c true_before stored =
    known_is c.args.self.now.settings.grok.now c.args.self.now.settings.with_alias_only c.args.name.now c.args.stored.now c.args.levels c.in-Some.known true_before.st true_before.is_true stored
    (c.in-Some.ensures.known true_before.st true_before.shows)

pub returns-clause-size : goal.returns-clause-size
returns-clause-size c =
    let texts = c.args.self.now.settings.grok.now in
    let alias_only = c.args.self.now.settings.with_alias_only in
    let inner = c.args.levels - 1 in
    let more : suc inner ≡ c.args.levels = let some = c.requires.some in omega arith in
    if_both _ _ _ c.measure_within.result
    (λ r reads same true_before stored.
    subst (λ n. result_view r ≡ shown_result (size_or_fault alias_only (items_in texts) n c.args.stored.now)) more
    (subst (λ t. result_view r ≡ shown_result (sizes alias_only (size_or_fault alias_only (items_in texts) inner) (items_in texts t))) c.text.ensures
    (size_is texts alias_only inner c.text.result.now r c.args.self.now.cache c.measure_within.new.self.cache reads true_before)))
    c.measure_within.ensures.reading c.measure_within.ensures.settings

pub returns-clause-cache : goal.returns-clause-cache
returns-clause-cache c =
    let texts = c.args.self.now.settings.grok.now in
    let alias_only = c.args.self.now.settings.with_alias_only in
    if_both _ _ _ c.measure_within.result
    (λ r reads same true_before.
    subst (λ (settings : Settings). ShowsCorrectState settings.grok.now settings.with_alias_only c.measure_within.new.self.cache) (sym same)
    (stays_true texts alias_only (c.args.levels - 1) c.text.result.now r c.args.self.now.cache c.measure_within.new.self.cache reads true_before))
    c.measure_within.ensures.reading c.measure_within.ensures.settings
