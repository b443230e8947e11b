-- There is one measure for each name, in the order of the names, so each line of `check` has the measure of its name.
use Rattle.std.proofs.Common.{◌≡◌, ℕ, ◌<◌, List, [], ◌∷◌, Bor, length, map, get_or, refl, sym, ◌∙◌, ap, subst, arith}
use Rattle.std.proofs.lemmas.List.{length-map, get_or-map}
use Rattle.grok.specs.declared.measure.Measure.{Measure}
use Rattle.grok.specs.Measured.{Measured, measure_view}
use Rattle.grok_commands.specs.Commands.{texts}
use Rattle.grok_commands.specs.SizeTexts.{IsMeasuredLine}

pub map_twice : {A B C : Type 0} (f : B → C) (g : A → B) (xs : List A) → map f (map g xs) ≡ map (λ x. f (g x)) xs
map_twice f g [] = refl
map_twice f g (x ∷ xs) = ap (λ ys. f (g x) ∷ ys) (map_twice f g xs)

module _ (F : List ℕ → Measured) (measures : List Measure) (names : List (Bor (List ℕ)))
    (measured : map measure_view measures ≡ map F (texts names)) where
  whole : map measure_view measures ≡ map (λ (name : Bor (List ℕ)). F name.now) names
  whole = measured ∙ map_twice F (λ (name : Bor (List ℕ)). name.now) names

  measure_at : (i : ℕ) (measure : Measure) (name : Bor (List ℕ)) → i < length names
      → measure_view (get_or measures i measure) ≡ F (get_or names i name).now
  measure_at i measure name low =
      let first : length (map measure_view measures) ≡ length measures = simp length-map in
      let last : length (map (λ (name : Bor (List ℕ)). F name.now) names) ≡ length names = simp length-map in
      let many : length measures ≡ length names = sym first ∙ ap length whole ∙ last in
      sym (get_or-map measure_view measures i measure (measure_view measure) (omega (arith, many)))
      ∙ ap (λ xs. get_or xs i (measure_view measure)) whole ∙ get_or-map (λ (n : Bor (List ℕ)). F n.now) names i name (measure_view measure) low

  -- the line of a measure is that of the name with its index
  pub line_at : (i : ℕ) (measure : Measure) (name : Bor (List ℕ)) (line : List ℕ) → i < length names
      → IsMeasuredLine (measure_view (get_or measures i measure)) (get_or names i name).now line → IsMeasuredLine (F (get_or names i name).now) (get_or names i name).now line
  line_at i measure name line low h = subst (λ size. IsMeasuredLine size (get_or names i name).now line) (measure_at i measure name low) h
