-- The search for one base key cuts its rows before the placeholder with which the base key is used too often.
use Rattle.std.proofs.Common.{◌≡◌, ℕ, suc, ◌+◌, ◌-◌, ◌<◌, ◌≤◌, ◌^◌, List, [], ◌∷◌, ◌++◌, length, get_or, take, drop, Some, None, Option, Bor, refl, sym, ◌∙◌, ap, subst, arith, append_assoc, unwrap_or}
use Rattle.std.specs.Str.{bytes_eq}
use Rattle.grok.specs.steps.KeyUses.{IsFree}
use Rattle.grok.specs.declared.expand.rows.Row.{Row}
use Rattle.grok.specs.declared.expand.rows.Row.TheVariants.{Use, Part}
use Rattle.grok.specs.declared.expand.uses.Uses.{Uses}
use Rattle.grok.specs.declared.expand.clash_search.FoundClash.{FoundClash}
use Rattle.grok.specs.steps.Rows.{uses_in, part_keys, flat, AreBelow}
use Rattle.grok.specs.steps.FirstClashes.{FindsClash, IsFirstClashIn}
use Rattle.grok.specs.steps.CountedUses.{AreUsesOf, IsFreeAt, IsOverused, StopsAt, IsCutAt, IsCutOrSame}
use Rattle.grok.proofs.Keys.UsesOfKeys.{AreFewer, front_is_fewer, same_counts, is_free, number_fits, clashes_after}
use Rattle.grok.proofs.Keys.RowsAreFlat.{flat_row_more, flat_cut, flat_part}
use Rattle.grok.proofs.Keys.RowsOfOnePartMore.{flat-append}

-- ---- one base key

-- 0 for a base key. For a part it is the index, counted from 1.
abbrev pub row_height : Row → ℕ
row_height (Use key) = 0
row_height (Part index) = suc index

-- a row that names no part from `bound` on is at most that high
pub row_is_low : (bound : ℕ) (row : Row) → AreBelow bound (row ∷ []) → row_height row ≤ bound
row_is_low bound (Use key) below = omega arith
row_is_low bound (Part index) below = omega (arith, below.0)

-- The search stopped at a row of the base keys `old`. The rows `top` come before it, and `so_far` counts their uses.
pub record IsCutting (done : List (List (List ℕ))) (base : List ℕ) (old : List (List ℕ)) (top : List Row) (row : Row) (so_far : Uses) : Type 0 where
  pub rest : List (List ℕ)
  pub cut : old ≡ flat done top ++ (flat done (row ∷ []) ++ rest)
  pub passed : AreUsesOf base (flat done top) so_far
  pub over : IsOverused base (flat done top ++ flat done (row ∷ []))

module _ (done : List (List (List ℕ))) (base : List ℕ) where
  pub cutting_starts : (rows : List Row) (so_far : Uses) (index : ℕ) (row : Row) → index < length rows → row ≡ get_or rows index row → StopsAt done base [] rows so_far index
      → IsCutting done base (flat done rows) (take index rows) row so_far
  cutting_starts rows so_far index row low is stop = record {
    rest = flat done (drop (index + 1) rows);
    cut = subst (λ r. flat done rows ≡ flat done (take index rows) ++ (flat done (r ∷ []) ++ flat done (drop (index + 1) rows))) (sym is) (flat_cut done rows index row low);
    passed = stop.passed;
    over = subst (IsOverused base) (subst (λ r. flat done (take (index + 1) rows) ≡ flat done (take index rows) ++ flat done (r ∷ [])) (sym is) (flat_row_more done rows index row low)) stop.over;
  }

  regroup : (a t r d e : List (List ℕ)) → a ++ ((t ++ (r ++ d)) ++ e) ≡ (a ++ t) ++ (r ++ (d ++ e))
  regroup a t r d e = simp append_assoc

  module _ (old : List (List ℕ)) (top : List Row) (part : ℕ) (so_far : Uses) (c : IsCutting done base old top (Part part) so_far) (rows : List Row) (each : part_keys done part ≡ flat done rows) where
    -- it goes on in the rows of a part
    pub cutting_goes_on : (new : Uses) (index : ℕ) (row : Row) → index < length rows → row ≡ get_or rows index row → StopsAt done base (flat done top) rows new index
        → IsCutting done base old (top ++ take index rows) row new
    cutting_goes_on new index row low is stop =
        let front = flat done top in
        let passed = flat done (take index rows) in
        let here = flat done (row ∷ []) in
        let after = flat done (drop (index + 1) rows) in
        let both : flat done (top ++ take index rows) ≡ front ++ passed = flat-append done top (take index rows) in
        let whole : flat done (Part part ∷ []) ≡ passed ++ (here ++ after) = flat_part done part ∙ each ∙ subst (λ r. flat done rows ≡ passed ++ (flat done (r ∷ []) ++ after)) (sym is) (flat_cut done rows index row low) in
        let more : flat done (take (index + 1) rows) ≡ passed ++ here = subst (λ r. flat done (take (index + 1) rows) ≡ passed ++ flat done (r ∷ [])) (sym is) (flat_row_more done rows index row low) in
        record {
          rest = after ++ c.rest;
          cut = c.cut ∙ ap (λ keys. front ++ (keys ++ c.rest)) whole ∙ regroup front passed here after c.rest ∙ ap (λ keys. keys ++ (here ++ (after ++ c.rest))) (sym both);
          passed = subst (λ keys. AreUsesOf base keys new) (sym both) stop.passed;
          over = subst (IsOverused base) (ap (λ keys. front ++ keys) more ∙ sym (append_assoc front passed here) ∙ ap (λ keys. keys ++ here) (sym both)) stop.over;
        }

    -- it can't pass all of them
    pub stops_in_part : (new : Uses) → AreUsesOf base (flat done top ++ flat done rows) new → IsFreeAt new.times new.least → ⊥
    stops_in_part new passed free =
        c.over.over (same_counts base (flat done top ++ flat done (Part part ∷ [])) new c.over.uses (subst (λ keys. AreUsesOf base (flat done top ++ keys) new) (sym (flat_part done part ∙ each)) passed) c.over.are_uses free)

  -- it ends at a placeholder
  pub cut_at : (old : List (List ℕ)) (top : List Row) (key : Bor (List ℕ)) (so_far after : Uses) (found : FoundClash) → IsCutting done base old top (Use key) so_far → IsFreeAt so_far.times so_far.least
      → AreUsesOf base (flat done top ++ key.now ∷ []) after → found.base.now ≡ base → found.number ≡ unwrap_or after.least (2 ^ 64 - 1) → bytes_eq key.now base ≡ found.is_alias_first → IsCutAt old (flat done top) found
  cut_at old top key so_far after found c free counted base_is number_is test =
      let over : IsFreeAt after.times after.least → ⊥ = λ is. c.over.over (same_counts base (flat done top ++ key.now ∷ []) after c.over.uses counted c.over.are_uses is) in
      record {
        key = key.now;
        rest = c.rest;
        cut = c.cut;
        fits = omega (arith, number_is, number_fits base (flat done top ++ key.now ∷ []) after.least counted.least);
        clashes = λ low. rw (base_is, number_is) (clashes_after base (flat done top) key.now found.is_alias_first test (is_free base (flat done top) so_far c.passed free) after counted over (omega (arith, number_is, low)));
      }

-- ---- one base key after another

-- what was cut again
pub cut_again : (old mid new : List (List ℕ)) (found : Option FoundClash) (stop : FoundClash) → IsCutOrSame old mid found → IsCutAt mid new stop → IsCutAt old new stop
cut_again old mid new None stop same c = rw same at c
cut_again old mid new (Some found) stop earlier c = record {
  key = c.key;
  rest = c.rest ++ earlier.key ∷ earlier.rest;
  cut = earlier.cut ∙ ap (λ keys. keys ++ earlier.key ∷ earlier.rest) c.cut ∙ append_assoc new (c.key ∷ c.rest) (earlier.key ∷ earlier.rest);
  fits = c.fits;
  clashes = c.clashes;
}

pub cut_is_fewer : (old new : List (List ℕ)) (found : Option FoundClash) → IsCutOrSame old new found → AreFewer new old
cut_is_fewer old new None same = λ key. omega (arith, ap (λ keys. uses_in keys key) same)
cut_is_fewer old new (Some found) c = front_is_fewer old new (c.key ∷ c.rest) c.cut

pub first_clash : (old new : List (List ℕ)) (found : FoundClash) → IsCutAt old new found → found.number < 2 ^ 64 - 1 → IsFree (uses_in new) → IsFirstClashIn old found
first_clash old new found c low free = record {
  before = new;
  key = c.key;
  rest = c.rest;
  cut = c.cut;
  free = free;
  some = (c.clashes low).0;
  fits = low;
  clashes = (c.clashes low).1;
}

-- the base keys before the last cut are free of clashes, so that cut is at the first clash
pub finds_clash : (old new : List (List ℕ)) (found : Option FoundClash) → IsCutOrSame old new found → IsFree (uses_in new) → ((clash : FoundClash) → found ≡ Some clash → clash.number ≡ 2 ^ 64 - 1 → ⊥) → FindsClash old found
finds_clash old new None same free fits = subst (λ keys. IsFree (uses_in keys)) same free
finds_clash old new (Some clash) c free fits =
    let other : clash.number ≡ 2 ^ 64 - 1 → ⊥ = fits clash refl in
    first_clash old new clash c (omega (arith, other, c.fits)) free
