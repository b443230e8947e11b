-- All keys of some patterns.
use Rattle.std.specs.Prelude.{ℕ, List, [], fold, map}
use Rattle.std.specs.BTreeSet.{BTreeSet, insert_key}
use Rattle.std.specs.Borrow.{Bor}
use Rattle.std.specs.Cmp.Lexicographic.{slice_cmp}
use Rattle.std.specs.Map.{keys_of}
use Rattle.std.specs.Ordering.{nat_cmp}
use Rattle.groklog_answers.specs.declared.searches.NamedPattern.{NamedPattern}

abbrev pub texts_of : List (Bor (List ℕ)) → List (List ℕ)
texts_of keys = map (λ key. key.now) keys

abbrev pub set_texts : BTreeSet (Bor (List ℕ)) → List (List ℕ)
set_texts set = texts_of set.keys

-- The keys with one more at its place in byte order, unless it is one of them.
abbrev pub with_key : List (List ℕ) → List ℕ → List (List ℕ)
with_key keys key = insert_key (slice_cmp nat_cmp) keys key

-- The same with several more.
abbrev pub with_keys : List (List ℕ) → List (List ℕ) → List (List ℕ)
with_keys keys more = fold with_key keys more

-- The keys of a pattern.
abbrev pub own_keys : NamedPattern → List (List ℕ)
own_keys named = keys_of named.pattern.now.keys

-- ALL KEYS of these patterns, each once, in byte order.
abbrev pub all_keys : List NamedPattern → List (List ℕ)
all_keys patterns = fold (λ keys named. with_keys keys (own_keys named)) [] patterns
