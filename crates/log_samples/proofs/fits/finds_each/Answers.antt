use Rattle.std.proofs.Common.{ℕ, List, Bool, Bor, ◌++◌, [], ◌∷◌, map, take, ap, sym, ◌∙◌}
use Rattle.std.proofs.lemmas.List.{take_all, take_more, map-append}
use Rattle.log_samples.specs.Fits.{finds}
use Rattle.log_samples.proofs.fits.finds_each.Goals as goal

pub lines-preserved : goal.lines-preserved
lines-preserved c =
    let is = rw c.lines.invariant.same at c.in_ok-is_found.ensures.finds in
    let f : Bor (List ℕ) → Bool = λ (line : Bor (List ℕ)). finds c.args.pattern.now line.now in
    let so_far : List (Bor (List ℕ)) = take c.lines.line-index c.args.lines.now in
    let longer = take_more c.args.lines.now c.lines.line-index _ c.lines-test.true in
    let next = ap (map f) longer ∙ map-append f so_far (_ ∷ []) in
    record {
      each = c.in_ok-push.ensures.items ∙ ap (λ (each : List Bool). each ++ c.in_ok-is_found.is_found ∷ []) c.lines.invariant.each
          ∙ ap (λ (is_found : Bool). map f so_far ++ is_found ∷ []) is ∙ sym next;
      same = c.finds.ensures.same ∙ c.lines.invariant.same;
    }

pub returns : goal.returns
returns c = c.lines.invariant.each ∙ ap (map (λ (line : Bor (List ℕ)). finds c.args.pattern.now line.now)) (take_all c.lines.line-index c.args.lines.now c.lines-test.false)
