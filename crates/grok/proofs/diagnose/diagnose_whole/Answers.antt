use Rattle.std.proofs.Common.{◌≡◌, length, None, sym, ap, subst, ◌∙◌}
use Rattle.std.specs.Option.{option_map}
use Rattle.std.specs.FinMap as finite
use Rattle.grok.specs.Tree.{tree}
use Rattle.grok.specs.Keys.{Structural, first_fault}
use Rattle.grok.specs.Expanded.{expanded}
use Rattle.grok.specs.Measured.{measure_view}
use Rattle.grok.specs.declared.settings.Settings.{Settings}
use Rattle.grok.proofs.Keys.KeysAreDistinct.{other_fault_is_structural}
use Rattle.grok.proofs.Trees.StepsCompile.{sized_is}
use Rattle.grok.proofs.Trees.DiagnosisIsFirstFault.{no_clash}
use Rattle.grok.proofs.diagnose.diagnose_whole.Goals as goal

pub diagnose_refusal-requires-clause-clean : goal.diagnose_refusal-requires-clause-clean
diagnose_refusal-requires-clause-clean g c =
    let events = tree (finite.get c.args.settings.grok.now) c.args.pattern.now in
    let sized = sized_is c.args.settings.with_alias_only events c.in-Size.length c.in-Size.groups c.in-Size.nesting (sym (ap measure_view c.in-Size.is) ∙ c.in_ok-found.ensures.counted.answer) in
    let other = no_clash (first_fault c.args.settings.with_alias_only events) c.in_ok-clash-in-Size.field-0 c.in_ok-clash-in-Size.ensures.first c.in-None-2.is in
    subst (λ (settings : Settings). first_fault settings.with_alias_only (tree (finite.get settings.grok.now) c.args.pattern.now) ≡ None) (sym c.in_ok-found.ensures.settings_same)
    (other_fault_is_structural c.args.settings.with_alias_only events other ∙ ap (option_map Structural) sized.0)

pub diagnose_refusal-requires-clause-long : goal.diagnose_refusal-requires-clause-long
diagnose_refusal-requires-clause-long g c =
    let events = tree (finite.get c.args.settings.grok.now) c.args.pattern.now in
    let sized = sized_is c.args.settings.with_alias_only events c.in-Size.length c.in-Size.groups c.in-Size.nesting (sym (ap measure_view c.in-Size.is) ∙ c.in_ok-found.ensures.counted.answer) in
    subst (λ (settings : Settings). c.in-Size.length ≡ length (expanded settings.with_alias_only (tree (finite.get settings.grok.now) c.args.pattern.now))) (sym c.in_ok-found.ensures.settings_same) sized.1
