use Rattle.std.proofs.Common.{◌≡◌, ◌<◌, ◌+◌, ℕ, Bool, true, false, cond, set, get_or, map, length, sym, ap, ◌∙◌, subst, arith}
use Rattle.std.proofs.Math.Seq.{map-set_same}
use Rattle.std.proofs.lemmas.List.{map-set, get_or-map, get_or-set_same}
use Rattle.groklog_answers.specs.Patterns.{match_of}
use Rattle.groklog_answers.specs.Views.{searched}
use Rattle.groklog_answers.specs.Searches.{HasFirstMatch}
use Rattle.groklog_answers.proofs.FirstMatchIsOfFirstPattern.{found_at, left_after, index_at, index_after}
use Rattle.groklog_answers.proofs.searches.find_first.Goals as goal

more_count : (b : Bool) (count more same : ℕ) → count ≡ cond b more same → b ≡ true → count ≡ more
more_count b count more same is holds = is ∙ ap (λ b. cond b more same) holds

same_count : (b : Bool) (count more same : ℕ) → count ≡ cond b more same → b ≡ false → count ≡ same
same_count b count more same is fails = is ∙ ap (λ b. cond b more same) fails

pub returns-in_err-read-clause-same : goal.returns-in_err-read-clause-same
returns-in_err-read-clause-same c =
    map-set_same searched c.searches.searches c.searches.i c.read.new.self c.index-searches-i.result c.read.ensures.same
    ∙ c.searches.invariant.same

pub returns-then-branch-clause-some : goal.returns-then-branch-clause-some
returns-then-branch-clause-some c d =
    let inside : c.searches.i < length c.searches.searches = omega arith in
    let is = sym c.if-branch.true ∙ c.in_ok-read.ensures.is_match in
    let first = found_at searched c.searches.searches (map searched c.args.searches.now) c.searches.i c.index-searches-i.result c.args.line.now
    c.searches.invariant.same inside c.searches.invariant.rest is in
    subst (HasFirstMatch (map searched c.args.searches.now) c.args.line.now)
    (sym (get_or-set_same c.searches.searches c.searches.i c.read.new.self d inside))
    (record {
      found = c.in_ok-read.ensures.found c.if-branch.true;
      first = first ∙ ap (λ pattern. match_of pattern c.args.line.now) (sym c.read.ensures.same);
    })

pub returns-then-branch-clause-index : goal.returns-then-branch-clause-index
returns-then-branch-clause-index c =
    let inside : c.searches.i < length c.searches.searches = omega arith in
    let is = sym c.if-branch.true ∙ c.in_ok-read.ensures.is_match in
    index_at searched c.searches.searches (map searched c.args.searches.now) c.searches.i c.index-searches-i.result c.args.line.now
    c.searches.invariant.same inside c.searches.invariant.index is

pub returns-then-branch-clause-count : goal.returns-then-branch-clause-count
returns-then-branch-clause-count c =
    let inside : c.searches.i < length c.searches.searches = omega arith in
    map-set (λ search. search.matched) c.searches.searches c.searches.i c.read.new.self
    ∙ ap (λ count. set (map (λ search. search.matched) c.searches.searches) c.searches.i count)
    (more_count c.in_ok-read.field-0 _ _ _ c.in_ok-read.ensures.count c.if-branch.true
    ∙ ap (λ count. count + 1) (sym (get_or-map (λ search. search.matched) c.searches.searches c.searches.i c.index-searches-i.result 0 inside)))
    ∙ ap (λ counts. set counts c.searches.i (get_or counts c.searches.i 0 + 1)) c.searches.invariant.count

pub returns-then-branch-clause-same : goal.returns-then-branch-clause-same
returns-then-branch-clause-same c =
    map-set_same searched c.searches.searches c.searches.i c.read.new.self c.index-searches-i.result c.read.ensures.same
    ∙ c.searches.invariant.same

pub searches-preserved : goal.searches-preserved
searches-preserved c =
    let inside : c.searches.i < length c.searches.searches = omega arith in
    let is = sym c.if-branch.false ∙ c.in_ok-read.ensures.is_match in
    record {
      same = map-set_same searched c.searches.searches c.searches.i c.read.new.self c.index-searches-i.result c.read.ensures.same
          ∙ c.searches.invariant.same;
      index = index_after searched c.searches.searches (map searched c.args.searches.now) c.searches.i c.index-searches-i.result c.args.line.now
          c.searches.invariant.same inside c.searches.invariant.index is;
      count = map-set_same (λ search. search.matched) c.searches.searches c.searches.i c.read.new.self c.index-searches-i.result
          (same_count c.in_ok-read.field-0 _ _ _ c.in_ok-read.ensures.count c.if-branch.false) ∙ c.searches.invariant.count;
      rest = left_after searched c.searches.searches (map searched c.args.searches.now) c.searches.i c.index-searches-i.result c.args.line.now
          c.searches.invariant.same inside c.searches.invariant.rest is;
    }
