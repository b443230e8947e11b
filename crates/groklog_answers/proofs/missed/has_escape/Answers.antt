-- The first escape character is looked for in the bytes of the text.
use Rattle.std.proofs.Common.{is_some, ap, ◌∙◌}
use Rattle.memchr.specs.Find.{first_of, is_byte, places}
use Rattle.memchr.proofs.lemmas.ValueLemmas.{IsFirstByte-value}
use Rattle.groklog_answers.proofs.missed.has_escape.Goals as goal

pub returns : goal.returns
returns c = c.is_some.ensures
    ∙ (ap is_some (IsFirstByte-value (is_byte 27) c.as_bytes.result.now c.memchr.result c.memchr.ensures)
    ∙ ap (λ text. is_some (first_of (places (is_byte 27) text))) c.as_bytes.ensures.value)
