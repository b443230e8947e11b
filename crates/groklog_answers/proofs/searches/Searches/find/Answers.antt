use Rattle.std.proofs.Common.{◌≡◌, ◌+◌, Some, cond, refl, sym, ap, map, ◌∙◌, rules, arith}
use Rattle.std.specs.Option.{is_some}
use Rattle.std.proofs.lemmas.List.{with_items_is}
use Rattle.groklog_answers.specs.Patterns.{first_match}
use Rattle.groklog_answers.specs.Views.{searched}
use Rattle.groklog_answers.specs.Searches.{first_index, one_more_at}
use Rattle.groklog_answers.proofs.FirstMatchIsFound.{first_is_found}
use Rattle.groklog_answers.proofs.searches.Searches.find.Goals as goal

pub returns-in-Some : goal.returns-in-Some
returns-in-Some c =
    let items = with_items_is c.args.self.now.searches c.find_first.new.searches (omega arith) in
    let first = c.in_ok-find_first.ensures.index
    ∙ ap (λ searches. first_index (map searched searches) c.args.line.now) c.deref_mut.ensures.value in (
      (
        refl,
        (λ _. tt),
        (
          record {
            patterns = ap (map searched) items ∙ c.find_first.ensures.same ∙ ap (map searched) c.deref_mut.ensures.value;
            ok = search rules;
            err = tt;
          },
          record {
            matched = ap (map (λ search. search.matched)) items ∙ c.in_ok-find_first.ensures.count
                ∙ ap (λ index. one_more_at index (map (λ search. search.matched) c.deref_mut.result.now)) first
                ∙ ap (λ searches. one_more_at (first_index (map searched c.args.self.now.searches.items) c.args.line.now) (map (λ search. search.matched) searches)) c.deref_mut.ensures.value;
            unmatched = ap (λ index. cond (is_some index) c.args.self.now.unmatched (c.args.self.now.unmatched + 1)) (sym c.in-Some.is ∙ first);
            broken = refl;
          },
        ),
      ),
      (
        first_is_found (map searched c.deref_mut.result.now) c.args.line.now c.find_first.new.searches c.deref.result.now c.in-Some.index
            c.in_ok-find_first.field-0 _ c.in-Some.is c.in_ok-find_first.ensures.some (search rules) (c.deref.ensures.value ∙ items) c.match_at.ensures.found
            ∙ ap (λ searches. first_match (map searched searches) c.args.line.now) c.deref_mut.ensures.value,
        (ap Some c.match_at.ensures.index ∙ sym c.in-Some.is ∙ first, c.match_at.ensures.line),
      ),
    )
