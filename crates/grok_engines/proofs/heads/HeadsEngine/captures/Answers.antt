use Rattle.std.proofs.Common.{◌≡◌, ℕ, ◌+◌, List, [], ◌∷◌, ◌++◌, Option, option_map, map, IfSome, sym, zero-add, rules}
use Rattle.std.proofs.lemmas.List.{map-append}
use Rattle.std.proofs.lemmas.List.Elements.{All-push}
use Rattle.std.proofs.lemmas.List.FromFn.{map-range_with_len_more}
use Rattle.grok.specs.Captures.{capture_texts, text_of, IsSliceOf}
use Rattle.grok_engines.specs.Wholes.{line_at}
use Rattle.grok_engines.proofs.heads.HeadsEngine.captures.Goals as goal

pub all_groups-preserved : goal.all_groups-preserved
all_groups-preserved c =
    let old = c.all_groups.captures.items in
    let new : capture_texts c.push.new.self.items ≡ capture_texts old ++ option_map text_of c.whole_at-capture.result ∷ [] =
    rw c.in_ok-push.ensures.items (map-append (option_map text_of) old (c.whole_at-capture.result ∷ [])) in (
      rw (new, c.all_groups.invariant.0, c.whole_at-capture.ensures.text)
          (sym (map-range_with_len_more (line_at c.args.line.now) 0 c.all_groups.group c.all_groups.group (zero-add _))),
      rw new (All-push (λ text. IfSome text (IsSliceOf c.args.line.now)) _ _ c.all_groups.invariant.1 c.whole_at-capture.ensures.slice),
      search rules,
    )
