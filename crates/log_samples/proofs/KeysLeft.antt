-- Which keys are left, and how many are not.
use native.Mathlib.Omega.{arith}
use Rattle.std.proofs.Common.{◌≡◌, ℕ, suc, Bool, true, false, List, [], ◌∷◌, ◌++◌, Bor, map, filter, length, not, cond, ◌&&◌, ◌-◌, ap, refl}
use Rattle.std.specs.Prelude.{count_by}
use Rattle.std.specs.List.{list_any}
use Rattle.grok.specs.Answers.{PatternValue}
use Rattle.grok.specs.declared.engine.regex_engine.RegexEngine.{RegexEngine}
use Rattle.log_samples.specs.Fits.{fits, has_key_in}
use Rattle.std.proofs.lemmas.List.Sums.{length-filter}
use Rattle.std.proofs.lemmas.List.Filters.{length-filter_both}

-- Tests that agree on each item let the same items through.
pub same_filter : {X : Type 0} (p q : X → Bool) → ((x : X) → p x ≡ q x) → (xs : List X) → filter p xs ≡ filter q xs
same_filter p q same [] = refl
same_filter p q same (x ∷ xs) = grind (arith, same x, same_filter p q same xs)

-- A test that each item passes lets all through.
pub all_stay : {X : Type 0} (p : X → Bool) → ((x : X) → p x ≡ true) → (xs : List X) → filter p xs ≡ xs
all_stay p passes [] = refl
all_stay p passes (x ∷ xs) = grind (arith, passes x, all_stay p passes xs)

-- Two tests one after another are one.
pub filtered_twice : {X : Type 0} (p q r : X → Bool) → ((x : X) → r x ≡ (p x && q x)) → (xs : List X) → filter q (filter p xs) ≡ filter r xs
filtered_twice p q r both [] = refl
filtered_twice p q r both (x ∷ xs) = grind (arith, both x, filtered_twice p q r both xs)

-- None of some lines passes, with one more.
pub none_of_one_more : (f : List ℕ → Bool) (lines : List (Bor (List ℕ))) (line : Bor (List ℕ))
    → not (list_any f (map (λ l. l.now) (lines ++ line ∷ []))) ≡ (not (list_any f (map (λ l. l.now) lines)) && not (f line.now))
none_of_one_more f [] line = grind (arith)
none_of_one_more f (l ∷ ls) line = grind (arith, none_of_one_more f ls line)

-- As many texts pass a test as keys that have these texts.
passed_texts : (p : List ℕ → Bool) (keys : List (Bor (List ℕ))) → length (filter p (map (λ key. key.now) keys)) ≡ length (filter (λ key. p key.now) keys)
passed_texts p [] = refl
passed_texts p (k ∷ ks) = elim (p k.now) as (λ b. length (cond b (k.now ∷ filter p (map (λ key. key.now) ks)) (filter p (map (λ key. key.now) ks)))
    ≡ length (cond b (k ∷ filter (λ key. p key.now) ks) (filter (λ key. p key.now) ks))) [
      | true ↦ ap suc (passed_texts p ks)
      | false ↦ passed_texts p ks
    ]

-- All keys without those that fail a test are as many as pass it.
pub counted : (p : List ℕ → Bool) (keys : List (Bor (List ℕ)))
    → length keys - length (filter (λ key. not (p key.now)) keys) ≡ count_by p (map (λ key. key.now) keys)
counted p keys =
    let both = length-filter_both (λ key. p key.now) (λ key. not (p key.now)) (λ key. refl) keys in
    let texts = passed_texts p keys in
    let passed = length-filter p (map (λ key. key.now) keys) in
    grind (arith, both, texts, passed)

-- In a line that the pattern doesn't fit, no key has a value.
pub no_key_in : (pattern : PatternValue RegexEngine) (line : List ℕ) → fits pattern line ≡ false → (keys : List (Bor (List ℕ)))
    → filter (λ key. not (has_key_in pattern key.now line)) keys ≡ keys
no_key_in pattern line unfit keys = all_stay (λ key. not (has_key_in pattern key.now line)) (λ key. rw unfit refl) keys
