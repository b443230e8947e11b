-- The entries of a map of texts are a table of its definitions: each name once, with its text.
use Rattle.std.proofs.Common.{◌≡◌, ℕ, Bool, true, false, cond, List, [], ◌∷◌, Some, None, refl, sym, ◌∙◌, ap}
use Rattle.std.specs.Prelude.{T, ◌&&◌}
use Rattle.std.specs.Str.{bytes_eq}
use Rattle.std.specs.Ordering.{is_eq, is_lt}
use Rattle.std.specs.declared.cmp.Ordering.{Ordering}
use Rattle.std.specs.declared.cmp.Ordering.TheVariants.{Less, Equal, Greater}
use Rattle.std.proofs.lemmas.Cmp.{nat_list_cmp_total, tied_itself}
use Rattle.std.proofs.lemmas.Slice.Eq.{bytes_eq-Decides}
use Rattle.std.specs.FinMap as finite
use Rattle.grok.specs.Maps.{Texts}
use Rattle.grok.proofs.Texts.MapShowsTree.{bytes_cmp, same_bytes, is_equal}
use Rattle.grok.proofs.Sizes.CountersAreExact.{found, AreApart, IsTable}
use Rattle.grok.proofs.Sizes.ReachedPlaceholdersAreSeen.{alike}

-- the name is below those of all entries
abbrev below_all : List ℕ → List (List ℕ × List ℕ) → Bool
below_all name [] = true
below_all name (entry ∷ entries) = is_lt (bytes_cmp name entry.0) && below_all name entries

-- two tests of one name
same_name_test : (name other : List ℕ) → bytes_eq other name ≡ is_eq (bytes_cmp name other)
same_name_test name other = alike _ _
    (λ e. let same : other ≡ name = (bytes_eq-Decides other name).0 e in ap is_eq (ap (bytes_cmp name) same ∙ tied_itself nat_list_cmp_total name))
    (λ e. (bytes_eq-Decides other name).1 (sym (same_bytes name other (is_equal _ e))))

found_is : (name : List ℕ) (entries : List (List ℕ × List ℕ)) → found name entries ≡ finite.find bytes_cmp name entries
found_is name [] = refl
found_is name (entry ∷ entries) = ap (λ b. cond b (Some entry.1) (found name entries)) (same_name_test name entry.0) ∙ ap (cond (is_eq (bytes_cmp name entry.0)) (Some entry.1)) (found_is name entries)

parts_of : (a b : Bool) → T (a && b) → T a × T b
parts_of true b p = (tt, p)
parts_of false b p = absurd p

less_apart : (name other : List ℕ) → T (is_lt (bytes_cmp name other)) → bytes_eq other name ≡ false
less_apart name other low = same_name_test name other ∙ go (bytes_cmp name other) low
  where
    go : (r : Ordering) → T (is_lt r) → is_eq r ≡ false
    go Less h = refl
    go Equal h = absurd h
    go Greater h = absurd h

below_none : (name : List ℕ) (entries : List (List ℕ × List ℕ)) → T (below_all name entries) → found name entries ≡ None
below_none name [] low = refl
below_none name (entry ∷ entries) low = let (here, later) = parts_of _ _ low in rw (less_apart name entry.0 here) (below_none name entries later)

sorted_apart : (entries : List (List ℕ × List ℕ)) → T (finite.is_sorted bytes_cmp entries) → AreApart entries
sorted_apart [] sorted = tt
sorted_apart (entry ∷ entries) sorted = let (here, later) = parts_of _ _ sorted in (below_none entry.0 entries here, sorted_apart entries later)

pub table_of : (texts : Texts) → IsTable (finite.get texts) (finite.entries texts)
table_of texts = record {
  apart = sorted_apart (finite.entries texts) (finite.entries_sorted texts);
  same = λ name. found_is name (finite.entries texts) ∙ sym (finite.get-entries texts name);
}
