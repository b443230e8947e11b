-- The counted values are listed, and sorted by their counts.
use Rattle.std.proofs.Common.{◌≡◌, ℕ, ◌+◌, ◌-◌, ◌<◌, ◌≤◌, ◌^◌, All, List, [], ◌∷◌, ◌++◌, length, map, get_or, refl, sym, ap, ◌∙◌, subst, arith, string_bytes, Bor, String, Global}
use Rattle.std.specs.List.{AllAdjacentBelow}
use Rattle.std.specs.List.Sorted.{IsNonDecreasingBy}
use Rattle.std.proofs.lemmas.List.{map-append, length-map, get_or-map}
use Rattle.std.proofs.lemmas.List.Elements.{All-get_or, All-append}
use Rattle.std.proofs.lemmas.List.Sorted.{all_adjacent_from_non_decreasing}
use Rattle.std.specs.Map.Iter.{deref_pair}
use Rattle.groklog_answers.specs.ValueCounts.{counted_pair}
use Rattle.groklog_answers.specs.declared.value_counts.Counted.{Counted}

-- An entry of the map as a value and its count.
abbrev pub lent_pair : Bor (String Global) × Bor ℕ → List ℕ × ℕ
lent_pair entry = (string_bytes entry.0.now, entry.1.now)

abbrev pub entry_pair : String Global × ℕ → List ℕ × ℕ
entry_pair entry = (string_bytes entry.0, entry.1)

-- One more entry is listed.
pub listed_more : (all new : List Counted) (xs : List (Bor (String Global) × Bor ℕ)) (x : Bor (String Global) × Bor ℕ) (counted : Counted)
    → new ≡ all ++ counted ∷ [] → counted_pair counted ≡ lent_pair x → map counted_pair all ≡ map lent_pair xs
    → map counted_pair new ≡ map lent_pair (xs ++ x ∷ [])
listed_more all new xs x counted is same before =
    ap (map counted_pair) is ∙ (map-append counted_pair all (counted ∷ [])
    ∙ (ap (λ t. t ++ counted_pair counted ∷ []) before
    ∙ (ap (λ p. map lent_pair xs ++ p ∷ []) same ∙ sym (map-append lent_pair xs (x ∷ [])))))

-- One more count fits into 64 bits.
pub fits_more : (all new : List Counted) (counted : Counted) → new ≡ all ++ counted ∷ [] → counted.count < 2 ^ 64
    → All (λ counted. counted.count < 2 ^ 64) all → All (λ counted. counted.count < 2 ^ 64) new
fits_more all new counted is fits before = subst (All (λ counted. counted.count < 2 ^ 64)) (sym is)
    (All-append (λ counted. counted.count < 2 ^ 64) all (counted ∷ []) before (λ k d below. grind (arith, below)))

-- What is lent of the entries are the entries.
pub lent_are_entries : (xs : List (Bor (String Global) × Bor ℕ)) → map lent_pair xs ≡ map entry_pair (map deref_pair xs)
lent_are_entries [] = refl
lent_are_entries (x ∷ xs) = ap (λ t. lent_pair x ∷ t) (lent_are_entries xs)

-- A list that is sorted by how far the counts are below the greatest number has no count before a greater one.
by_default : (xs : List Counted) (one : Counted) → All (λ counted. counted.count < 2 ^ 64) xs
    → AllAdjacentBelow (λ a b. (2 ^ 64 - 1) - a.count ≤ (2 ^ 64 - 1) - b.count) xs (length xs)
    → (k : ℕ) (d : List ℕ × ℕ) → k + 1 < length xs → (get_or (map counted_pair xs) (k + 1) d).1 ≤ (get_or (map counted_pair xs) k d).1
by_default xs one fits up k d below =
    let here : k < length xs = omega arith in
    let less : (2 ^ 64 - 1) - (get_or xs k one).count ≤ (2 ^ 64 - 1) - (get_or xs (k + 1) one).count = up k one below in
    let fit : (get_or xs (k + 1) one).count < 2 ^ 64 = All-get_or (λ counted. counted.count < 2 ^ 64) xs (k + 1) one below fits in
    let this : get_or (map counted_pair xs) k d ≡ counted_pair (get_or xs k one) = get_or-map counted_pair xs k one d here in
    let next : get_or (map counted_pair xs) (k + 1) d ≡ counted_pair (get_or xs (k + 1) one) = get_or-map counted_pair xs (k + 1) one d below in
    let counts : (get_or xs (k + 1) one).count ≤ (get_or xs k one).count = omega arith in
    let first : (get_or (map counted_pair xs) k d).1 ≡ (get_or xs k one).count = ap (λ p. p.1) this in
    let second : (get_or (map counted_pair xs) (k + 1) d).1 ≡ (get_or xs (k + 1) one).count = ap (λ p. p.1) next in
    omega arith

pub sorted_by_count : (xs : List Counted) → All (λ counted. counted.count < 2 ^ 64) xs
    → IsNonDecreasingBy (λ counted. (2 ^ 64 - 1) - counted.count) xs
    → AllAdjacentBelow (λ pair next. next.1 ≤ pair.1) (map counted_pair xs) (length (map counted_pair xs))
sorted_by_count [] fits up = λ k d below. absurd (omega arith)
sorted_by_count (x ∷ xs) fits up = λ k d below.
    let within : k + 1 < length (x ∷ xs) = omega (arith, length-map xs counted_pair) in
    by_default (x ∷ xs) x fits (all_adjacent_from_non_decreasing (λ counted. (2 ^ 64 - 1) - counted.count) (x ∷ xs) up) k d within
