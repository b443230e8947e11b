use Rattle.std.proofs.Common.{◌∙◌, ap, subst, length}
use Rattle.grok.specs.Captures.{AreSlicesOf, capture_texts}
use Rattle.grok.proofs.Captures.CapturesAreOfMatch.{captured, uncaptured, listed}
use Rattle.grok.proofs.engine.regex_engine.write_captures_uncached.Goals as goal

pub returns-in-Some : goal.returns-in-Some
returns-in-Some c =
    let found = c.in-Some.ensures.found in
    let texts = c.in_ok-texts-in-Some in
    let names = c.in-Some.ensures.names ∙ c.in_ok-matcher.ensures.names in
    listed texts.field-0
    (captured _ _ _ c.in-Some.found found.0 _ (rw c.in_ok-matcher.ensures.pattern at found.1) found.2 names texts.ensures.texts)
    (texts.ensures.count ∙ ap length names)
    (subst (λ line. AreSlicesOf line (capture_texts texts.field-0.items)) found.2.0 texts.ensures.slices)

pub returns : goal.returns
returns c = record { answer = uncaptured _ _ _ (rw c.in_ok-matcher.ensures.pattern at c.in-None.ensures.found); all_groups = tt; slices = tt }
