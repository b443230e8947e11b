-- The numbers of keys stay right while more keys follow.
use native.Mathlib.Omega.{arith}
use Rattle.std.proofs.Common.{◌≡◌, ◌∙◌, ℕ, zero, suc, Bool, true, false, List, [], ◌∷◌, ◌++◌, Bor, Option, Some, map, filter, length, drop, get_or, ◌+◌, ◌<◌, ap, sym, refl}
use Rattle.std.proofs.lemmas.List.{drop_more, map-append, append_assoc, append-nil}
use Rattle.groklog_answers.specs.PlanViews.{names_of}
use Rattle.groklog_views.specs.KeyNumbers.{AreNumbers, AreNumbersOf}
use Rattle.groklog_views.specs.steps.MoreKeys.{HasMore}
use Rattle.groklog_answers.specs.declared.searches.NamedPattern.{NamedPattern}
use Rattle.std.specs.List.{AllZip}
use Rattle.std.specs.Prelude.{Vec}
use Rattle.std.specs.Global.{Global}
use Rattle.std.specs.Prelude.{slice_get}
use Rattle.std.proofs.lemmas.Grind.{common_steps}

-- A place in a list has the same key.
place_kept : (keys more : List (List ℕ)) (n : ℕ) (key : List ℕ) → slice_get keys n ≡ Some key → slice_get (keys ++ more) n ≡ Some key
place_kept [] more n key is = grind (arith, is)
place_kept (k ∷ ks) more zero key is = is
place_kept (k ∷ ks) more (suc n) key is = place_kept ks more n key is

-- So have several, before others.
pub places_kept : (keys more : List (List ℕ)) (numbers : List ℕ) (names : List (List ℕ)) (rest : List (Option (List ℕ)))
    → map (slice_get keys) numbers ++ rest ≡ map Some names → map (slice_get (keys ++ more)) numbers ++ rest ≡ map Some names
places_kept keys more [] names rest is = is
places_kept keys more (n ∷ ns) [] rest is = grind (arith, is)
places_kept keys more (n ∷ ns) (x ∷ xs) rest is =
    let place : slice_get keys n ≡ Some x = grind (arith, is) in
    let others : map (slice_get keys) ns ++ rest ≡ map Some xs = grind (arith, is) in
    let first = place_kept keys more n x place in
    let after = places_kept keys more ns xs rest others in
    grind (arith, first, after)

-- One more key counts, and has its number.
pub one_counted : (counts : List ℕ → Bool) (keys more : List (List ℕ)) (numbers : List ℕ) (n : ℕ) (x : List ℕ) (rest all : List (List ℕ))
    → map (slice_get keys) numbers ++ map Some (filter counts (x ∷ rest)) ≡ map Some (filter counts all)
    → counts x ≡ true → slice_get (keys ++ more) n ≡ Some x
    → map (slice_get (keys ++ more)) (numbers ++ n ∷ []) ++ map Some (filter counts rest) ≡ map Some (filter counts all)
one_counted counts keys more numbers n x rest all so_far does place =
    let kept = places_kept keys more numbers (filter counts all) (map Some (filter counts (x ∷ rest))) so_far in
    let first : map Some (filter counts (x ∷ rest)) ≡ Some x ∷ map Some (filter counts rest) = rw does refl in
    grind (arith, common_steps, kept, first, place)

-- The keys of pairs.
abbrev pub keys_in : List (ℕ × Bor (List ℕ)) → List (List ℕ)
keys_in pairs = map (λ pair. pair.1.now) pairs

module _ (counts : List ℕ → Bool) (pairs : List (ℕ × Bor (List ℕ))) (i : ℕ) (d : ℕ × Bor (List ℕ)) (within : i < length pairs) where
  rest_is : keys_in (drop i pairs) ≡ (get_or pairs i d).1.now ∷ keys_in (drop (i + 1) pairs)
  rest_is = ap keys_in (drop_more pairs i d within)

  -- The next pair is one whose key counts.
  pub counted_step : (keys longer : List (Bor (List ℕ))) (numbers : List ℕ) (n : ℕ) → HasMore keys longer
      → map (slice_get (names_of keys)) numbers ++ map Some (filter counts (keys_in (drop i pairs))) ≡ map Some (filter counts (keys_in pairs))
      → counts (get_or pairs i d).1.now ≡ true → slice_get (names_of longer) n ≡ Some (get_or pairs i d).1.now
      → map (slice_get (names_of longer)) (numbers ++ n ∷ []) ++ map Some (filter counts (keys_in (drop (i + 1) pairs))) ≡ map Some (filter counts (keys_in pairs))
  counted_step keys longer numbers n kept so_far does place =
      let names : names_of longer ≡ names_of keys ++ names_of kept.0 = ap names_of kept.1 ∙ map-append (λ name. name.now) keys kept.0 in
      let place' : slice_get (names_of keys ++ names_of kept.0) n ≡ Some (get_or pairs i d).1.now = rw names at place in
      let so_far' : map (slice_get (names_of keys)) numbers ++ map Some (filter counts ((get_or pairs i d).1.now ∷ keys_in (drop (i + 1) pairs))) ≡ map Some (filter counts (keys_in pairs)) = rw rest_is at so_far in
      rw names (one_counted counts (names_of keys) (names_of kept.0) numbers n (get_or pairs i d).1.now (keys_in (drop (i + 1) pairs)) (keys_in pairs) so_far' does place')

  -- Its key doesn't count.
  pub other_step : (keys : List (Bor (List ℕ))) (numbers : List ℕ)
      → map (slice_get (names_of keys)) numbers ++ map Some (filter counts (keys_in (drop i pairs))) ≡ map Some (filter counts (keys_in pairs))
      → counts (get_or pairs i d).1.now ≡ false
      → map (slice_get (names_of keys)) numbers ++ map Some (filter counts (keys_in (drop (i + 1) pairs))) ≡ map Some (filter counts (keys_in pairs))
  other_step keys numbers so_far does =
      let same : filter counts (keys_in (drop i pairs)) ≡ filter counts (keys_in (drop (i + 1) pairs)) = ap (filter counts) rest_is ∙ rw does refl in
      ap (λ rest. map (slice_get (names_of keys)) numbers ++ map Some rest) (sym same) ∙ so_far

-- What follows more keys follows the keys.
pub kept_on : (keys longer longest : List (Bor (List ℕ))) → HasMore keys longer → HasMore longer longest → HasMore keys longest
kept_on keys longer longest more others = (more.0 ++ others.0, others.1 ∙ ap (λ all. all ++ others.0) more.1 ∙ append_assoc keys more.0 others.0)

-- The numbers of a pattern are right.
one_kept : (counts : List ℕ → Bool) (keys longer : List (Bor (List ℕ))) → HasMore keys longer → (pairs : List (ℕ × Bor (List ℕ))) (numbers : List ℕ)
    → AreNumbers counts (names_of keys) pairs numbers → AreNumbers counts (names_of longer) pairs numbers
one_kept counts keys longer more pairs numbers are =
    let names : names_of longer ≡ names_of keys ++ names_of more.0 = ap names_of more.1 ∙ map-append (λ name. name.now) keys more.0 in
    let kept = places_kept (names_of keys) (names_of more.0) numbers (filter counts (keys_in pairs)) [] (append-nil _ ∙ are) in
    rw names (sym (append-nil _) ∙ kept)

-- So are those of several patterns.
pub all_kept : (counts : List ℕ → Bool) (keys longer : List (Bor (List ℕ))) → HasMore keys longer → (patterns : List NamedPattern) (numbers : List (Vec ℕ Global))
    → AllZip (λ named numbers. AreNumbersOf counts (names_of keys) named numbers.items) patterns numbers
    → AllZip (λ named numbers. AreNumbersOf counts (names_of longer) named numbers.items) patterns numbers
all_kept counts keys longer more [] [] are = are
all_kept counts keys longer more [] (n ∷ ns) are = elim are [ ]
all_kept counts keys longer more (p ∷ ps) [] are = elim are [ ]
all_kept counts keys longer more (p ∷ ps) (n ∷ ns) are = (
  record {
    by_group = are.0.by_group;
    all = are.0.all;
    in_order = are.0.in_order;
    numbered = one_kept counts keys longer more are.0.by_group n.items are.0.numbered;
  },
  all_kept counts keys longer more ps ns are.1,
)
