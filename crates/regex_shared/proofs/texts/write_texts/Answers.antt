use Rattle.std.proofs.Common.{◌≡◌, [], ◌∷◌, ◌++◌, option_map, IfSome, sym, zero-add, rules}
use Rattle.std.proofs.lemmas.List.{map-append}
use Rattle.std.proofs.lemmas.List.Elements.{All-push}
use Rattle.std.proofs.lemmas.List.FromFn.{map-range_with_len_more}
use Rattle.regex_shared.specs.Texts.{capture_texts, text_of, IsSliceOf}
use Rattle.regex_shared.specs.Texts.{text_at}
use Rattle.regex_shared.specs.steps.Searches.{span_of_cells}
use Rattle.regex_shared.proofs.texts.write_texts.Goals as goal

pub groups-preserved : goal.groups-preserved
groups-preserved c =
    let old = c.groups.texts.items in
    let line = c.args.line.now in
    let spans = span_of_cells c.args.whole c.args.cells.now in
    let new : capture_texts c.push.new.self.items ≡ capture_texts old ++ option_map text_of c.in_ok-text.text ∷ [] =
    rw c.in-Ok.ensures.items (map-append (option_map text_of) old (c.in_ok-text.text ∷ [])) in (
      rw (new, c.groups.invariant.0, c.in_ok-text.ensures.text)
          (sym (map-range_with_len_more (text_at line spans) 0 c.groups.number c.groups.number (zero-add _))),
      rw new (All-push (λ text. IfSome text (IsSliceOf line)) _ _ c.groups.invariant.1 c.in_ok-text.ensures.slice),
      search rules,
    )
