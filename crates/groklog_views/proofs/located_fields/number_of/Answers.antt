use Rattle.std.proofs.Common.{◌∙◌, Some, option_map, ap, sym}
use Rattle.std.specs.Cmp.Lexicographic.{same_text}
use Rattle.std.proofs.lemmas.Option.{slice_get-map}
use Rattle.groklog_views.proofs.located_fields.number_of.Goals as goal

pub returns-clause-number : goal.returns-clause-number
returns-clause-number c =
    let stored = c.in_ok-number.ensures.stored in
    slice_get-map (λ key. key.now) c.insert_full.new.self.keys c.in_ok-number.number ∙ ap (option_map (λ key. key.now)) stored.1
    ∙ ap (λ text. Some text) (sym (same_text c.args.key.now stored.0.now (sym stored.2)))
