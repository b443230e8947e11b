use Rattle.std.proofs.Common.{◌≡◌, [], ◌∷◌, Some, option_map, sym, ap, ◌∙◌, string_bytes, rules}
use Rattle.std.proofs.lemmas.List.{length-map}
use Rattle.grok.specs.Captures.{capture_texts}
use Rattle.grok_engines.proofs.WholeLines.{whole}
use Rattle.grok_engines.proofs.bare.BareEngine.captures.Goals as goal

pub returns : goal.returns
returns c =
    let pushed : c.push.new.self.items ≡ Some c.args.line ∷ [] = search rules in
    let texts : capture_texts c.push.new.self.items ≡ Some c.args.line.now ∷ [] = ap capture_texts pushed in
    record {
      answer = ap Some texts;
      all_groups = rw texts (sym (length-map c.args.self.now.names (option_map string_bytes) ∙ c.args.self.now.one));
      slices = rw texts (search (rules, whole));
    }
