use Rattle.std.proofs.Common.{◌≡◌, [], ◌∷◌, Some, option_map, sym, ap, ◌∙◌, string_bytes, rules}
use Rattle.std.proofs.lemmas.List.{length-map}
use Rattle.grok.specs.{capture_texts}
use Rattle.grok_uses.specs.Uses.{prefix_answer}
use Rattle.grok_uses.proofs.Slices.{whole_line}
use Rattle.grok_uses.proofs.engine.PrefixEngine.captures.Goals as goal

pub returns : goal.returns
returns c =
    let pushed : c.push.new.self.items ≡ Some c.args.line ∷ [] = search rules in
    let texts : capture_texts c.push.new.self.items ≡ Some c.args.line.now ∷ [] = ap capture_texts pushed in
    let begins : Some (Some c.args.line.now ∷ []) ≡ prefix_answer (string_bytes c.args.self.now.text) c.args.line.now = search rules in
    record {
      answer = ap Some texts ∙ begins;
      all_groups = rw texts (sym (length-map c.args.self.now.names (option_map string_bytes) ∙ c.args.self.now.one));
      slices = rw texts (search (rules, whole_line));
    }
