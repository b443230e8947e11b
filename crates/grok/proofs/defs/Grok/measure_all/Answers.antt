use Rattle.std.proofs.Common.{◌≡◌, ℕ, ◌+◌, ◌<◌, List, [], ◌∷◌, ◌++◌, length, get_or, take, map, Bor, sym, ◌∙◌, ap, ap₂}
use Rattle.std.proofs.lemmas.List.{map-append, take_more}
use Rattle.grok.specs.Measured.{tree_of, measured_tree, measure_view}
use Rattle.grok.specs.declared.settings.Settings.{Settings}
use Rattle.grok.proofs.defs.Grok.measure_all.Goals as goal

one_more : {A B C : Type 0} (f : A → C) (g : B → C) (done : List A) (last : A) (all : List B) (i : ℕ) (d : B) → i < length all → f last ≡ g (get_or all i d) → map f done ≡ map g (take i all) → map f (done ++ last ∷ []) ≡ map g (take (i + 1) all)
one_more f g done last all i d more same so_far =
    map-append f done (last ∷ []) ∙ ap (λ xs. xs ++ f last ∷ []) so_far ∙ ap (λ x. map g (take i all) ++ x ∷ []) same
    ∙ sym (map-append g (take i all) (get_or all i d ∷ [])) ∙ ap (map g) (sym (take_more all i d more))

pub patterns-init : goal.patterns-init
patterns-init c = record {
  grok = ap (λ (settings : Settings). settings.grok.now) c.new-measurer.ensures.settings;
  alias_only = ap (λ (settings : Settings). settings.with_alias_only) c.new-measurer.ensures.settings;
  remembers = c.new-measurer.ensures.cache;
  measured = ap (map measure_view) c.new-measures.ensures.items;
}

pub patterns-preserved : goal.patterns-preserved
patterns-preserved c =
    let invariant = c.patterns.invariant in
    let settings = c.in_ok-measure.ensures.settings in
    let pattern : Bor (List ℕ) = get_or c.args.patterns.now c.patterns.pattern-index (record { ref_ptr = (0, 0); now = [] }) in
    record {
      grok = ap (λ (settings : Settings). settings.grok.now) settings ∙ invariant.grok;
      alias_only = ap (λ (settings : Settings). settings.with_alias_only) settings ∙ invariant.alias_only;
      remembers = c.in_ok-measure.ensures.cache invariant.remembers;
      measured = ap (map measure_view) c.in_ok-push.ensures.items
          ∙ one_more measure_view (λ (pattern : Bor (List ℕ)). measured_tree c.args.with_alias_only (tree_of c.args.self.now pattern.now)) c.patterns.measures.items c.in_ok-measure.measure c.args.patterns.now c.patterns.pattern-index
          (record { ref_ptr = (0, 0); now = [] }) c.patterns-test.true
          (c.in_ok-measure.ensures.answer invariant.remembers ∙ ap₂ (λ alias_only texts. measured_tree alias_only (tree_of texts pattern.now)) invariant.alias_only invariant.grok) invariant.measured;
    }
