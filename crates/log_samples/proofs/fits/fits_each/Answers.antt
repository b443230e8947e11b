use Rattle.std.proofs.Common.{rules, ℕ, List, Bool, Bor, ◌++◌, [], ◌∷◌, filter, get_or, map, not, take, ap, sym, refl, ◌∙◌}
use Rattle.std.proofs.lemmas.List.{take_all, take_more, map-append}
use Rattle.log_samples.specs.Fits.{texts_of, fits, has_key_in, has_key}
use Rattle.log_samples.proofs.KeysLeft.{all_stay, filtered_twice, none_of_one_more}
use Rattle.log_samples.proofs.fits.fits_each.Goals as goal

pub lines-init : goal.lines-init
lines-init c = record {
  each = search rules;
  missing = sym (all_stay (λ (key : Bor (List ℕ)). not (has_key c.args.pattern.now [] key.now)) (λ key. refl) c.args.missing.now.items);
  same = search rules;
}

pub lines-preserved : goal.lines-preserved
lines-preserved c =
    let pattern = c.args.pattern.now in
    let is = rw c.lines.invariant.same at c.in_ok-is_fit.ensures.fits in
    let drops = rw c.lines.invariant.same at c.in_ok-is_fit.ensures.missing in
    let f : Bor (List ℕ) → Bool = λ (line : Bor (List ℕ)). fits c.args.pattern.now line.now in
    let so_far : List (Bor (List ℕ)) = take c.lines.line-index c.args.lines.now in
    let line : Bor (List ℕ) = get_or c.args.lines.now c.lines.line-index _ in
    let longer = take_more c.args.lines.now c.lines.line-index _ c.lines-test.true in
    let next = ap (map f) longer ∙ map-append f so_far (_ ∷ []) in
    record {
      each = c.in_ok-push.ensures.items ∙ ap (λ (each : List Bool). each ++ c.in_ok-is_fit.is_fit ∷ []) c.lines.invariant.each
          ∙ ap (λ (is_fit : Bool). map f so_far ++ is_fit ∷ []) is ∙ sym next;
      missing = drops
          ∙ ap (filter (λ (key : Bor (List ℕ)). not (has_key_in pattern key.now line.now))) c.lines.invariant.missing
          ∙ filtered_twice (λ (key : Bor (List ℕ)). not (has_key pattern (texts_of so_far) key.now)) (λ (key : Bor (List ℕ)). not (has_key_in pattern key.now line.now))
          (λ (key : Bor (List ℕ)). not (has_key pattern (texts_of (so_far ++ line ∷ [])) key.now)) (λ key. none_of_one_more (has_key_in pattern key.now) so_far line) c.args.missing.now.items
          ∙ ap (λ (lines : List (Bor (List ℕ))). filter (λ (key : Bor (List ℕ)). not (has_key pattern (texts_of lines) key.now)) c.args.missing.now.items) (sym longer);
      same = c.fits.ensures.same ∙ c.lines.invariant.same;
    }

pub returns-clause-each : goal.returns-clause-each
returns-clause-each c = c.lines.invariant.each ∙ ap (map (λ (line : Bor (List ℕ)). fits c.args.pattern.now line.now)) (take_all c.lines.line-index c.args.lines.now c.lines-test.false)

pub returns-clause-missing : goal.returns-clause-missing
returns-clause-missing c = c.lines.invariant.missing
    ∙ ap (λ (lines : List (Bor (List ℕ))). filter (λ (key : Bor (List ℕ)). not (has_key c.args.pattern.now (texts_of lines) key.now)) c.args.missing.now.items) (take_all c.lines.line-index c.args.lines.now c.lines-test.false)
