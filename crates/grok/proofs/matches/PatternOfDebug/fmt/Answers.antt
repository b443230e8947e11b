use Rattle.std.proofs.Common.{codes, string_bytes, ◌≡◌, Ok, Some, refl, ap, ◌∙◌, take, length}
use Rattle.std.specs.Fmt.{debug_str, ◌++?◌}
use Rattle.std.proofs.Math.Seq.{take-length}
use Rattle.grok.specs.Debugs.{debug_braces, debug_item, debug_texts}
use Rattle.grok.proofs.Texts.DebugOfEntries.{then_assoc, displays_then, displays_same, true_on_ok, texts_shown}
use Rattle.grok.proofs.matches.PatternOfDebug.fmt.Goals as goal

pub returns : goal.returns
returns g c =
    let took = g.W.Write.write_str_gives in
    let f = c.args.f.now in
    let entries = c.self.inside.extracts.entries in
    let text = debug_str (g.E.Engine.source_of c.args.self.now.engine) in
    let texts = debug_texts c.args.self.now.extracts in
    let before = Some (codes "Pattern { text: ") in
    let between = Some (codes ", extracts: ") in
    let after = Some (codes " }") in
    let whole : take (length c.text-text.result.now) c.text-text.result.now ≡ g.E.Engine.source_of c.args.self.now.engine = take-length c.text-text.result.now ∙ c.text-text.ensures in
    let extracts_shown : debug_braces (debug_item (λ s. debug_str (string_bytes s))) entries ≡ texts =
    texts_shown string_bytes entries (true_on_ok (Ok c.in_ok-write_map.field-0) _ c.in_ok-write_map.ensures.sorted refl) ∙ ap (λ p. debug_texts p.extracts) c.self.view_is in
    let inner = displays_then took c.write.new.self c.write_map.new.f c.write_str.new.self (Ok c.in_ok-write_map.field-0) c.write_str.result
    (debug_braces (debug_item (λ s. debug_str (string_bytes s))) entries) after c.in_ok-write_map.ensures.writes refl c.write_str.ensures.writes in
    let written = displays_then took f c.write.new.self c.write_str.new.self (Ok c.in_ok-write.field-0) c.write_str.result (before ++? text ++? between)
    (debug_braces (debug_item (λ s. debug_str (string_bytes s))) entries ++? after) (rw whole at c.in_ok-write.ensures.writes) refl inner in
    record {
      writes = displays_same took f c.write_str.new.self c.write_str.result _ (before ++? text ++? between ++? texts ++? after) written (λ ok.
          ap (λ o. (before ++? text ++? between) ++? (o ++? after)) extracts_shown
          ∙ then_assoc before (text ++? between) (texts ++? after) ∙ ap (λ o. before ++? o) (then_assoc text between (texts ++? after)));
    }
