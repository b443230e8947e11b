use Rattle.std.proofs.Common.{sym, ◌∙◌, subst}
use Rattle.grok.specs.Tree.{deepest}
use Rattle.grok.specs.Measured.{measure_view}
use Rattle.grok.specs.steps.MeasureCache.{ShowsState, AnswersReading, ShowsCorrectState, items_in}
use Rattle.grok.specs.steps.MeasuredOnce.{State, items_within, nothing_measured}
use Rattle.grok.specs.declared.settings.Settings.{Settings}
use Rattle.grok.proofs.Sizes.MeasuringAgain.{answer_is, nothing_true, stays_true}
use Rattle.grok.proofs.Sizes.MeasureIsCounted.{pieces_most, pieces_least, ends_most, pieces_all, ends_all, numbered_is}
use Rattle.grok.proofs.measure.full_measure.FullMeasure.of_pattern.Goals as goal

pub returns : goal.returns
returns c =
    let settings = c.args.settings in
    let texts = settings.grok.now in
    let alias_only = settings.with_alias_only in
    let pattern = c.args.pattern.now in
    let r = c.in_ok-answer.answer in
    let before = c.new-measurer.result.cache in
    let cache = c.measure_within.new.self.cache in
    let reads : (st : State) → ShowsState before st → AnswersReading r cache (items_within alias_only (items_in texts) deepest (items_in texts pattern) st) =
    subst (λ (settings : Settings). (st : State) → ShowsState before st → AnswersReading r cache (items_within settings.with_alias_only (items_in settings.grok.now) deepest (items_in settings.grok.now pattern) st)) c.new-measurer.ensures.settings c.in_ok-answer.ensures.reading in
    let read = reads nothing_measured c.new-measurer.ensures.nothing in
    record {
      settings_same = c.in_ok-answer.ensures.settings ∙ c.new-measurer.ensures.settings;
      correct = subst (λ (settings : Settings). ShowsCorrectState settings.grok.now settings.with_alias_only cache) (sym (c.in_ok-answer.ensures.settings ∙ c.new-measurer.ensures.settings))
          (stays_true texts alias_only deepest pattern r before cache reads (record { st = nothing_measured; shows = c.new-measurer.ensures.nothing; is_true = nothing_true texts alias_only }));
      counted = record {
        answer = answer_is texts alias_only pattern r before cache reads nothing_measured c.new-measurer.ensures.nothing (nothing_true texts alias_only) (measure_view c.measure_of_result.result) c.measure_of_result.ensures;
        pieces = pieces_most texts alias_only pattern r cache read;
        pieces_to_fault = pieces_least texts alias_only pattern r cache read;
        ends = ends_most texts alias_only pattern r cache read;
        all_pieces = pieces_all texts alias_only pattern r cache read;
        all_ends = ends_all texts alias_only pattern r cache read;
      };
      numbered = numbered_is texts alias_only pattern r cache read;
    }
