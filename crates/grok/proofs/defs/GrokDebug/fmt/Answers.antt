use Rattle.std.proofs.Common.{codes, Ok, Some, refl, ap, ◌∙◌}
use Rattle.grok.specs.Debugs.{debug_braces, debug_item, debug_texts}
use Rattle.std.specs.Fmt.{debug_str}
use Rattle.grok.proofs.Texts.DebugOfEntries.{displays_then, displays_same, true_on_ok, texts_shown}
use Rattle.grok.proofs.defs.GrokDebug.fmt.Goals as goal

pub returns : goal.returns
returns g c =
    let took = g.W.Write.write_str_gives in
    let entries = c.self.inside.definitions.entries in
    let inner = displays_same took c.write_str.new.self c.write_map.new.f c.write_map.result (debug_braces (debug_item debug_str) entries) (debug_texts c.args.self.now) c.write_map.ensures.writes
    (λ ok. texts_shown (λ text. text) entries (true_on_ok c.write_map.result _ c.write_map.ensures.sorted ok) ∙ ap debug_texts c.self.view_is) in
    record {
      writes = displays_then took c.args.f.now c.write_str.new.self c.write_map.new.f (Ok c.in_ok-write_str.field-0) c.write_map.result (Some (codes "Grok ")) (debug_texts c.args.self.now)
          c.in_ok-write_str.ensures.writes refl inner;
    }
