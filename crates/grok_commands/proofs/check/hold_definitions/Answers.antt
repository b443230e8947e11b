use Rattle.std.proofs.Common.{◌≡◌, ◌∙◌, ℕ, List, map, ap, sym, subst, string_bytes}
use Rattle.std.proofs.lemmas.Result.{on_ok_weaker}
use Rattle.std.specs.FinMap as finite
use Rattle.std.specs.Io.KnownBytes.{append_known}
use Rattle.grok.specs.Measured.{measure_view}
use Rattle.grok_commands.specs.Answers.{HasAnswered, HasAnsweredFirst}
use Rattle.grok_commands.specs.Commands.{texts}
use Rattle.grok_commands.specs.Library.{library_of}
use Rattle.grok_commands.specs.SizeTexts.{placeholder_of, measured_in, IsCheckLine}
use Rattle.grok_commands.proofs.LinesHaveTheirMeasures.{map_twice}
use Rattle.grok_commands.proofs.check.hold_definitions.Goals as goal

pub returns-clause-ok : goal.returns-clause-ok
returns-clause-ok g c =
    let m = library_of c.args.definitions.now in
    let F = measured_in m c.args.alias_only in
    let names : texts c.deref-3.result.now ≡ finite.keys m = ap texts c.deref-3.ensures.value ∙ c.in_ok-names.ensures ∙ ap finite.keys c.in_ok-grok.ensures in
    let measured : map measure_view c.deref-4.result.now ≡ map (λ (name : List ℕ). F (placeholder_of name)) (texts c.deref-3.result.now) =
    ap (map measure_view) c.deref-4.ensures.value ∙ c.in_ok-measures.ensures
    ∙ ap (λ g. map (measured_in g c.args.alias_only) (map string_bytes c.deref-2.result.now)) c.in_ok-grok.ensures
    ∙ ap (λ patterns. map F (map string_bytes patterns)) c.deref-2.ensures.value ∙ ap (map F) c.in_ok-patterns.ensures
    ∙ map_twice F placeholder_of (texts c.deref.result.now)
    ∙ ap (λ ns. map (λ (name : List ℕ). F (placeholder_of name)) (texts ns)) (c.deref.ensures.value ∙ sym c.deref-3.ensures.value) in
    on_ok_weaker c.hold_lines.result
    (λ said. subst (λ ns. HasAnswered (IsCheckLine m c.args.alias_only) ns (append_known (g.W.Write.contents c.args.output.now) c.args.held.now.items) (append_known (g.W.Write.contents c.hold_lines.new.output) c.hold_lines.new.held.items))
    names (said (λ (name : List ℕ). F (placeholder_of name)) measured))
    c.hold_lines.ensures.ok

pub returns-clause-memory : goal.returns-clause-memory
returns-clause-memory g c h =
    let m = library_of c.args.definitions.now in
    let F = measured_in m c.args.alias_only in
    let names : texts c.deref-3.result.now ≡ finite.keys m = ap texts c.deref-3.ensures.value ∙ c.in_ok-names.ensures ∙ ap finite.keys c.in_ok-grok.ensures in
    let measured : map measure_view c.deref-4.result.now ≡ map (λ (name : List ℕ). F (placeholder_of name)) (texts c.deref-3.result.now) =
    ap (map measure_view) c.deref-4.ensures.value ∙ c.in_ok-measures.ensures
    ∙ ap (λ g. map (measured_in g c.args.alias_only) (map string_bytes c.deref-2.result.now)) c.in_ok-grok.ensures
    ∙ ap (λ patterns. map F (map string_bytes patterns)) c.deref-2.ensures.value ∙ ap (map F) c.in_ok-patterns.ensures
    ∙ map_twice F placeholder_of (texts c.deref.result.now)
    ∙ ap (λ ns. map (λ (name : List ℕ). F (placeholder_of name)) (texts ns)) (c.deref.ensures.value ∙ sym c.deref-3.ensures.value) in
    subst (λ ns. HasAnsweredFirst (IsCheckLine m c.args.alias_only) ns (append_known (g.W.Write.contents c.args.output.now) c.args.held.now.items) (append_known (g.W.Write.contents c.hold_lines.new.output) c.hold_lines.new.held.items))
    names (c.hold_lines.ensures.memory h (λ (name : List ℕ). F (placeholder_of name)) measured)
