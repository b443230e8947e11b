-- The key assigner gives each capturing placeholder its key, one event after another.
use Rattle.std.proofs.Common.{◌≡◌, ℕ, ◌+◌, ◌<◌, ◌^◌, Bool, cond, List, [], ◌∷◌, ◌++◌, length, map, Some, sym, ◌∙◌, ap, arith, length-append, ◌&&◌}
use Rattle.std.specs.Prelude.{not, unwrap_or}
use Rattle.std.specs.Option.{option_map}
use Rattle.std.specs.Str.{bytes_eq}
use Rattle.std.specs.String.{string_bytes}
use Rattle.std.specs.BTreeMap.{get_by_text}
use Rattle.std.proofs.lemmas.List.{length-map}
use Rattle.std.proofs.lemmas.List.Sums.{count_by-le-length}
use Rattle.grok.specs.Tree.{is_absent, Label, Event}
use Rattle.grok.specs.Keys.{base_key, numbered, how_often, key_after, capturing}
use Rattle.grok.specs.steps.CapturedSoFar.{onto, in_order, extract_before, after}
use Rattle.grok.specs.KeyNumbers.{key_text, key_number}
use Rattle.grok.specs.declared.expand.key_assigner.KeyAssigner.{KeyAssigner}
use Rattle.grok.specs.steps.AssignedKeys.{HasAssigned, CanAssign, HasKeys}
use Rattle.grok.proofs.Keys.KeysAreDistinct.{how_often_more}
use Rattle.grok.proofs.Keys.FirstFaultAndLastExtract.{in_order_onto, numbers_in_order_onto, extract_onto}

-- ---- one more capturing placeholder

module _ (before : List Label) (label : Label) (old : KeyAssigner) (shows : HasAssigned old before) where
  pub key_named : (base name : List ℕ) (count : ℕ) → base ≡ base_key label → count ≡ unwrap_or (get_by_text old.uses base) 0 → name ≡ numbered base count → name ≡ key_after before label
  key_named base name count asks counted named =
      let often : count ≡ how_often before base = counted ∙ shows.uses base in
      named ∙ ap (numbered base) often ∙ ap (λ w. numbered w (how_often before w)) asks

  pub assigned_now : (new : KeyAssigner) (base name : List ℕ) → base ≡ base_key label → name ≡ key_after before label
      → ((key : List ℕ) → unwrap_or (get_by_text new.uses key) 0 ≡ cond (bytes_eq base key) 1 0 + unwrap_or (get_by_text old.uses key) 0)
      → map key_text new.keys.items ≡ map key_text old.keys.items ++ name ∷ []
      → map key_number new.keys.items ≡ map key_number old.keys.items ++ how_often before (base_key label) ∷ []
      → ((key : List ℕ) → option_map string_bytes (get_by_text new.extracts key) ≡ cond (bytes_eq name key && not (is_absent label.extract)) (Some label.extract) (option_map string_bytes (get_by_text old.extracts key)))
      → HasAssigned new (label ∷ before)
  assigned_now new base name asks is counts keys numbered_so extracts = record {
    uses = λ key. counts key ∙ ap (λ n. cond {A = ℕ} (bytes_eq base key) 1 0 + n) (shows.uses key) ∙ ap (λ w. cond {A = ℕ} (bytes_eq w key) 1 0 + how_often before key) asks ∙ sym (how_often_more label before key);
    keys = keys ∙ ap (λ ks. ks ++ name ∷ []) shows.keys ∙ ap (λ k. in_order before ++ k ∷ []) is;
    numbers = numbered_so ∙ ap (λ ns. ns ++ how_often before (base_key label) ∷ []) shows.numbers;
    extracts = λ key. extracts key ∙ ap (λ o. cond (bytes_eq name key && not (is_absent label.extract)) (Some label.extract) o) (shows.extracts key)
        ∙ ap (λ k. cond (bytes_eq k key && not (is_absent label.extract)) (Some label.extract) (extract_before before key)) is;
  }

length_in_order : (before : List Label) → length (in_order before) ≡ length before
length_in_order [] = omega arith
length_in_order (label ∷ before) = omega (arith, length_in_order before, length-append (in_order before) (key_after before label ∷ []))

-- each placeholder has a key
pub keys_counted : (assigner : KeyAssigner) (before : List Label) → HasAssigned assigner before → length assigner.keys.items ≡ length before
keys_counted assigner before shows = omega (arith, length-map assigner.keys.items key_text, ap length shows.keys, length_in_order before)

-- the uses of a base key are no more than the placeholders
pub can_count : (assigner : KeyAssigner) (base : List ℕ) (count : ℕ) → CanAssign assigner → count ≡ unwrap_or (get_by_text assigner.uses base) 0 → count + 1 < 2 ^ 64
can_count assigner base count can counted =
    omega (arith, counted, can.shows.uses base, keys_counted assigner can.before can.shows, assigner.keys.ok.0, assigner.keys.ok.1, assigner.keys.small, count_by-le-length (λ earlier. bytes_eq (base_key earlier) base) can.before)

-- ---- a whole tree

length_onto : (before labels : List Label) → length (onto before labels) ≡ length before + length labels
length_onto before [] = omega arith
length_onto before (label ∷ labels) = omega (arith, length_onto (label ∷ before) labels)

pub length_after : (alias_only : Bool) (es : List Event) → length (after alias_only [] es) ≡ length (capturing alias_only es)
length_after alias_only es = omega (arith, length_onto [] (capturing alias_only es))

pub keyed : (alias_only : Bool) (all : List Event) (assigner : KeyAssigner) → HasAssigned assigner (after alias_only [] all) → HasKeys alias_only all assigner
keyed alias_only all assigner shows = record {
  keys = shows.keys ∙ in_order_onto [] (capturing alias_only all);
  numbers = shows.numbers ∙ numbers_in_order_onto [] (capturing alias_only all);
  extracts = λ key. shows.extracts key ∙ extract_onto [] (capturing alias_only all) key;
}
