use Rattle.std.proofs.Common.{◌≡◌, ◌∙◌, ℕ, List, Bor, map, ap, sym}
use Rattle.std.proofs.lemmas.Result.{IfOk-weaker}
use Rattle.grok_commands.specs.Commands.{texts}
use Rattle.grok_commands.specs.SizeTexts.{measured_in}
use Rattle.grok_commands.proofs.LinesHaveTheirMeasures.{map_twice}
use Rattle.grok_commands.proofs.check.measures_of.Goals as goal

pub returns : goal.returns
returns c =
    let F = measured_in c.args.grok.now c.args.alias_only in
    IfOk-weaker c.measure_all.result _ _ (λ measures measured.
    measured ∙ sym (map_twice F (λ (pattern : Bor (List ℕ)). pattern.now) c.deref.result.now)
    ∙ ap (λ patterns. map F (texts patterns)) c.deref.ensures.value ∙ ap (map F) c.in_ok-texts.ensures)
    c.measure_all.ensures
