-- A placeholder with an inline definition sets the definition of its own name, and leaves those of other names.
use Rattle.std.proofs.Common.{◌≡◌, ℕ, Bool, true, false, cond, List, [], ◌∷◌, length, Option, Some, refl, sym, ap, arith, ◌&&◌}
use Rattle.std.specs.Prelude.{◌==◌, not}
use Rattle.std.specs.Option.{option_map}
use Rattle.std.specs.Borrow.{Bor}
use Rattle.std.proofs.lemmas.Bool.{ne_eqb}
use Rattle.grok.specs.Tree.{is_absent}

-- a part is missing exactly if it has no byte
pub absent_is : (e : List ℕ) → is_absent e ≡ (length e == 0)
absent_is [] = refl
absent_is (c ∷ cs) = sym (ne_eqb (length (c ∷ cs)) 0 (λ h. absurd (omega arith)))

-- a text that was set for a name
pub written_more : (e : List ℕ) → is_absent e ≡ false → (same : Bool) (text : Bor (List ℕ)) (o : Option (Bor (List ℕ))) → text.now ≡ e
    → option_map (λ (t : Bor (List ℕ)). t.now) (cond same (Some text) o) ≡ cond (same && not (is_absent e)) (Some e) (option_map (λ (t : Bor (List ℕ)). t.now) o)
written_more e some true text o is = rw some (ap Some is)
written_more e some false text o is = refl
