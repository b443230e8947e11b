-- After a text is set for one name, the map has it for that name, and the other names have what they had.
use Rattle.std.proofs.Common.{◌≡◌, ◌≢◌, ℕ, List, [], ◌∷◌, ◌++◌, Bool, true, false, cond, Some, None, refl, ap, ◌∙◌}
use Rattle.std.specs.Ordering.{is_eq, nat_cmp}
use Rattle.std.specs.Cmp.Lexicographic.{slice_cmp}
use Rattle.std.proofs.lemmas.Cmp.{nat_list_cmp_total, tied_itself}
use Rattle.std.specs.FinMap as finite
use Rattle.grok.specs.Maps.{Texts, set_all}
use Rattle.grok.specs.Named.{NoneNames}
use Rattle.grok.proofs.Texts.MapShowsTree.{same_bytes, is_equal}

pub get_set : (texts : Texts) (name text : List ℕ) → finite.get (finite.insert texts name text) name ≡ Some text
get_set texts name text =
    finite.get-insert nat_list_cmp_total texts name text name ∙ ap (λ r. cond (is_eq r) (Some text) (finite.get texts name)) (tied_itself nat_list_cmp_total name)

untied : (x y : List ℕ) → x ≢ y → (b : Bool) → is_eq (slice_cmp nat_cmp x y) ≡ b → b ≡ false
untied x y n true e = absurd (n (same_bytes x y (is_equal _ e)))
untied x y n false e = refl

pub get_kept : (texts : Texts) (name text other : List ℕ) → other ≢ name → finite.get (finite.insert texts name text) other ≡ finite.get texts other
get_kept texts name text other n =
    finite.get-insert nat_list_cmp_total texts name text other ∙ ap (λ b. cond b (Some text) (finite.get texts other)) (untied other name n (is_eq (slice_cmp nat_cmp other name)) refl)

-- a pair of another name changes nothing for this name
pub get_others : (texts : Texts) (pairs : List (List ℕ × List ℕ)) (name : List ℕ) → NoneNames pairs name → finite.get (set_all texts pairs) name ≡ finite.get texts name
get_others texts [] name n = refl
get_others texts (p ∷ ps) name n = get_others (finite.insert texts p.0 p.1) ps name n.1 ∙ get_kept texts p.0 p.1 name n.0

-- the last pair of a name counts
pub get_last : (texts : Texts) (front rest : List (List ℕ × List ℕ)) (name text : List ℕ) → NoneNames rest name → finite.get (set_all texts (front ++ (name, text) ∷ rest)) name ≡ Some text
get_last texts [] rest name text n = get_others (finite.insert texts name text) rest name n ∙ get_set texts name text
get_last texts (p ∷ ps) rest name text n = get_last (finite.insert texts p.0 p.1) ps rest name text n

pub get_none : (name : List ℕ) → finite.get (let texts : Texts = finite.empty in texts) name ≡ None
get_none name = finite.get-empty (slice_cmp nat_cmp) name

pub ruleset sets = (get_none, get_set, get_kept, get_others, get_last)
