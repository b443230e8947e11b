use Rattle.std.proofs.Common.{ℕ, Bool, length, drop, sym, ap, ◌∙◌}
use Rattle.std.specs.List.{prefix_len, slice_get}
use Rattle.std.specs.Str.{chars}
use Rattle.grok_parser.proofs.MalformedHasReason.{word_stops, word_odd}
use Rattle.grok_parser.proofs.placeholder.read_word.Goals as goal

pub returns-in_default-clause-malformed : goal.returns-in_default-clause-malformed
returns-in_default-clause-malformed c kind legal =
    let text = c.args.text.now in
    let rest = c.split_word.ensures.rest ∙ ap (λ (p : ℕ → Bool). drop (prefix_len p text) text) (sym legal) in
    word_stops kind text c.split_word.result.1.now rest (sym (ap length c.chars-characters.ensures.rest) ∙ c.in_default.ensures.steps.0.0)

pub returns-then-not-is_terminator-clause-malformed : goal.returns-then-not-is_terminator-clause-malformed
returns-then-not-is_terminator-clause-malformed c kind legal =
    let text = c.args.text.now in
    let rest = c.split_word.ensures.rest ∙ ap (λ (p : ℕ → Bool). drop (prefix_len p text) text) (sym legal) in
    word_odd kind text c.split_word.result.1.now rest c.in-Some.terminator c.next.new.self.rest.now (sym c.chars-characters.ensures.rest ∙ c.in-Some.ensures.steps.0)
    (c.in-Some.ensures.steps.2 ∙ ap (λ bs. slice_get (chars bs) 0) c.chars-characters.ensures.rest) (sym c.is_terminator.ensures ∙ c.if-not-is_terminator.true)
