use Rattle.std.proofs.Common.{◌≡◌, vec_len}
use Rattle.grok.specs.Captures.{capture_texts, AreSlicesOf}
use Rattle.grok.specs.RegexFinds.{texts_at}
use Rattle.regex.specs.Strings.{captures_haystack, captures_span}
use Rattle.grok.proofs.engine.regex_engine.group_texts.Given as goal

abbrev pub invariant-groups : goal.invariant-groups
invariant-groups l =
    (capture_texts l.captures.items ≡ texts_at (captures_haystack l.found) (captures_span l.found) l.number)
    × AreSlicesOf (captures_haystack l.found) (capture_texts l.captures.items)
    × (vec_len l.captures ≡ l.number)
