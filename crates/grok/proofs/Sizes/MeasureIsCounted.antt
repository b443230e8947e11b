-- When measuring stops, it has counted at most the pieces and ends that the pattern reaches, at least the pieces of the pattern
-- itself up to the first fault, and exactly those that it reaches if there is no structural fault, and it knows whether a reached alias ends in a number in brackets.
use Rattle.std.proofs.Common.{◌≡◌, ℕ, ◌≤◌, Bool, false, List, [], length, Result, None, Bor, refl, ◌∙◌, ap, arith}
use Rattle.std.specs.Ordering.{nat_cmp}
use Rattle.std.specs.Cmp.Lexicographic.{slice_cmp}
use Rattle.std.specs.BTreeMap.{BTreeMap, is_at}
use Rattle.std.specs.Map.{lookup}
use Rattle.std.specs.Option.{option_map}
use Rattle.std.specs.FinMap as finite
use Rattle.grok.specs.declared.measure.partial_size.Failure.{Failure}
use Rattle.grok.specs.declared.measure.partial_size.PartialSize.{PartialSize}
use Rattle.grok.specs.declared.measure.cache.MeasureCache.{MeasureCache}
use Rattle.grok.specs.declared.measure.cache.Progress.{Progress}
use Rattle.grok.specs.Maps.{Texts}
use Rattle.grok.specs.Tree.{Item, items_of, Event, deepest, tree, first_structural, reached}
use Rattle.grok.specs.Keys.{has_numbered_alias}
use Rattle.grok.specs.steps.MeasuredOnce.{Reading, items_within, nothing_measured, measure_within}
use Rattle.grok.specs.Measured.{reached_pieces, reached_texts, pieces_to_fault, saturated}
use Rattle.grok.specs.steps.MeasureCache.{progress_view, ShowsState, AnswersReading}
use Rattle.grok.proofs.Sizes.ItemsAreSound.{length-items_of, sound_texts}
use Rattle.grok.proofs.Texts.EntriesAreTable.{table_of}
use Rattle.grok.proofs.Sizes.ReadIsReached.{ReadsTree, reads_tree, table_weight}
use Rattle.grok.proofs.Sizes.PiecesToFault.{reads_to_fault}

pub shows_nothing : (by_name : BTreeMap (Bor (List ℕ)) Progress) → by_name.entries ≡ []
    → ShowsState (record { by_name = by_name; looks = record { pieces = 0; ends = 0 }; has_numbered = false }) nothing_measured
shows_nothing by_name empty = record {
  by_name = λ name. ap (λ entries. option_map progress_view (lookup (is_at (λ (key : Bor (List ℕ)). slice_cmp nat_cmp name key.now)) entries)) empty;
  pieces = refl;
  ends = refl;
  has_numbered = refl;
}

module _ (texts : Texts) (alias_only : Bool) (pattern : List ℕ) where
  abbrev resolve : List ℕ → List Item
  resolve = items_of (finite.get texts)

  abbrev answer : Reading
  answer = measure_within deepest alias_only resolve pattern

  abbrev whole : List Event
  whole = tree (finite.get texts) pattern

  theorem : ReadsTree resolve (finite.entries texts) pattern whole answer.1
  unfolding tree
  theorem = reads_tree alias_only resolve (finite.get texts) (finite.entries texts) (table_of texts) (sound_texts (finite.get texts)) deepest pattern

  weight_same : table_weight (λ text. length (resolve text)) (finite.entries texts) pattern whole ≡ reached_pieces texts pattern
  weight_same = ap (λ (weight : List ℕ → ℕ). table_weight weight (finite.entries texts) pattern whole) (λ i text. length-items_of (finite.get texts) text i)

  module _ (r : Result PartialSize Failure) (cache : MeasureCache) (read : AnswersReading r cache (items_within alias_only resolve deepest (resolve pattern) nothing_measured)) where
    given : AnswersReading r cache answer
    unfolding measure_within
    given = read

    pub pieces_most : cache.looks.pieces ≤ saturated (reached_pieces texts pattern)
    pieces_most = omega (arith, given.leaves.pieces, theorem.looks, weight_same)

    pub ends_most : cache.looks.ends ≤ saturated (reached_texts texts pattern)
    ends_most = omega (arith, given.leaves.ends, theorem.ends)

    pub pieces_least : saturated (pieces_to_fault texts pattern) ≤ cache.looks.pieces
    pieces_least = omega (arith, given.leaves.pieces, reads_to_fault alias_only resolve (finite.get texts) (sound_texts (finite.get texts)) deepest pattern)

    pub pieces_all : first_structural whole ≡ None → cache.looks.pieces ≡ saturated (reached_pieces texts pattern)
    pieces_all clean = given.leaves.pieces ∙ ap saturated (theorem.looks_exact clean ∙ weight_same)

    pub ends_all : first_structural whole ≡ None → cache.looks.ends ≡ saturated (reached_texts texts pattern)
    ends_all clean = given.leaves.ends ∙ ap saturated (theorem.ends_exact clean)

    pub numbered_is : cache.has_numbered ≡ has_numbered_alias (reached whole)
    numbered_is = given.leaves.has_numbered ∙ theorem.has_numbered
