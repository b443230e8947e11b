use Rattle.std.proofs.Common.{◌≡◌, [], ◌∷◌, ◌++◌, option_map, IfSome, sym, zero-add, rules}
use Rattle.std.proofs.lemmas.List.{map-append}
use Rattle.std.proofs.lemmas.List.Elements.{All-push}
use Rattle.std.proofs.lemmas.List.FromFn.{map-range_with_len_more}
use Rattle.grok.specs.Captures.{capture_texts, text_of, IsSliceOf}
use Rattle.grok.specs.RegexFinds.{text_at}
use Rattle.regex.specs.Strings.{captures_haystack, captures_span}
use Rattle.grok.proofs.engine.regex_engine.group_texts.Goals as goal

pub groups-preserved : goal.groups-preserved
groups-preserved c =
    let old = c.groups.captures.items in
    let new : capture_texts c.push.new.self.items ≡ capture_texts old ++ option_map text_of c.group_text.result ∷ [] =
    rw c.in_ok-push.ensures.items (map-append (option_map text_of) old (c.group_text.result ∷ [])) in (
      rw (new, c.groups.invariant.0, c.group_text.ensures.text)
          (sym (map-range_with_len_more (text_at (captures_haystack c.args.found.now) (captures_span c.args.found.now)) 0 c.groups.number c.groups.number (zero-add _))),
      rw new (All-push (λ text. IfSome text (IsSliceOf (captures_haystack c.args.found.now))) _ _ c.groups.invariant.1 c.group_text.ensures.slice),
      search rules,
    )
