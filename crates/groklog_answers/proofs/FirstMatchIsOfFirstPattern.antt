-- If patterns are tried one after another, the first match is that of the first pattern that matches.
use Rattle.std.proofs.Common.{◌≡◌, ℕ, ◌+◌, ◌<◌, Bool, true, false, cond, List, ◌∷◌, Option, Some, None, map, drop, length, get_or, refl, sym, ap, ◌∙◌, subst}
use Rattle.std.specs.Option.{option_or, is_some}
use Rattle.std.proofs.lemmas.List.{drop_more, drop-map}
use Rattle.std.specs.List.{position_from}
use Rattle.groklog_answers.specs.Patterns.{PatternText, match_of, first_match}
use Rattle.groklog_answers.specs.Searches.{first_index}

-- The patterns from this index on begin with the pattern of the search at this index.
next_pattern : {A : Type 0} (f : A → PatternText) (xs : List A) (patterns : List PatternText) (i : ℕ) (d : A)
    → map f xs ≡ patterns → i < length xs → drop i patterns ≡ f (get_or xs i d) ∷ drop (i + 1) patterns
next_pattern f xs patterns i d are inside =
    subst (λ (ps : List PatternText). drop i ps ≡ f (get_or xs i d) ∷ drop (i + 1) ps) are
    (drop-map f i xs ∙ ap (map f) (drop_more xs i d inside)
    ∙ ap (λ ps. f (get_or xs i d) ∷ ps) (sym (drop-map f (i + 1) xs)))

some_or : {A : Type 0} (found other : Option A) → true ≡ is_some found → option_or found other ≡ found
some_or None other h = cc
some_or (Some x) other h = refl

none_or : {A : Type 0} (found other : Option A) → false ≡ is_some found → option_or found other ≡ other
none_or None other h = refl
none_or (Some x) other h = cc

-- If the pattern at this index matches and none before it does, the first match is the one of this
-- pattern.
pub found_at : {A : Type 0} (f : A → PatternText) (xs : List A) (patterns : List PatternText) (i : ℕ) (d : A) (line : List ℕ)
    → map f xs ≡ patterns → i < length xs → first_match (drop i patterns) line ≡ first_match patterns line
    → true ≡ is_some (match_of (f (get_or xs i d)) line) → first_match patterns line ≡ match_of (f (get_or xs i d)) line
found_at f xs patterns i d line are inside rest is =
    sym rest ∙ ap (λ ps. first_match ps line) (next_pattern f xs patterns i d are inside)
    ∙ some_or (match_of (f (get_or xs i d)) line) (first_match (drop (i + 1) patterns) line) is

-- If no pattern up to this index matches, the first match is the one of a later pattern.
pub left_after : {A : Type 0} (f : A → PatternText) (xs : List A) (patterns : List PatternText) (i : ℕ) (d : A) (line : List ℕ)
    → map f xs ≡ patterns → i < length xs → first_match (drop i patterns) line ≡ first_match patterns line
    → false ≡ is_some (match_of (f (get_or xs i d)) line) → first_match (drop (i + 1) patterns) line ≡ first_match patterns line
left_after f xs patterns i d line are inside rest is =
    sym (none_or (match_of (f (get_or xs i d)) line) (first_match (drop (i + 1) patterns) line) is)
    ∙ ap (λ ps. first_match ps line) (sym (next_pattern f xs patterns i d are inside)) ∙ rest

-- Whether a pattern matches the line.
abbrev matches : List ℕ → PatternText → Bool
matches line pattern = is_some (match_of pattern line)

cond_true : {X : Type 0} (b : Bool) (x y : X) → true ≡ b → cond b x y ≡ x
cond_true true x y h = refl
cond_true false x y h = cc

cond_false : {X : Type 0} (b : Bool) (x y : X) → false ≡ b → cond b x y ≡ y
cond_false true x y h = cc
cond_false false x y h = refl

-- If the pattern at this index matches and none before it does, this is the index of the first that does.
pub index_at : {A : Type 0} (f : A → PatternText) (xs : List A) (patterns : List PatternText) (i : ℕ) (d : A) (line : List ℕ)
    → map f xs ≡ patterns → i < length xs → position_from (matches line) i (drop i patterns) ≡ first_index patterns line
    → true ≡ is_some (match_of (f (get_or xs i d)) line) → Some i ≡ first_index patterns line
index_at f xs patterns i d line are inside rest is =
    sym (cond_true (is_some (match_of (f (get_or xs i d)) line)) (Some i) (position_from (matches line) (i + 1) (drop (i + 1) patterns)) is)
    ∙ ap (position_from (matches line) i) (sym (next_pattern f xs patterns i d are inside)) ∙ rest

-- If no pattern up to this index matches, the first that does has a later one.
pub index_after : {A : Type 0} (f : A → PatternText) (xs : List A) (patterns : List PatternText) (i : ℕ) (d : A) (line : List ℕ)
    → map f xs ≡ patterns → i < length xs → position_from (matches line) i (drop i patterns) ≡ first_index patterns line
    → false ≡ is_some (match_of (f (get_or xs i d)) line)
    → position_from (matches line) (i + 1) (drop (i + 1) patterns) ≡ first_index patterns line
index_after f xs patterns i d line are inside rest is =
    sym (cond_false (is_some (match_of (f (get_or xs i d)) line)) (Some i) (position_from (matches line) (i + 1) (drop (i + 1) patterns)) is)
    ∙ ap (position_from (matches line) i) (sym (next_pattern f xs patterns i d are inside)) ∙ rest
