use Rattle.std.proofs.Common.{◌≡◌, None, refl, sym, ap, ◌∙◌}
use Rattle.grok_parser.specs.Grammar.{ExtractWord, FourthWord}
use Rattle.grok_parser.specs.Malformations.{word_reason, IsMalformedFrom, Here}
use Rattle.grok_parser.specs.steps.Readings.{IsDefinitionUnread}
use Rattle.grok_parser.proofs.MalformedHasReason.{malformed_word, malformed_later, malformed_definition, same_error, error_of_rest}
use Rattle.grok_parser.specs.Views.{word_view}
use Rattle.grok_parser.proofs.placeholder.read_extract.Goals as goal

pub returns-in_err-extract-clause-malformed : goal.returns-in_err-extract-clause-malformed
returns-in_err-extract-clause-malformed c =
    let found = c.in_err-extract.field-0.0 in
    same_error (IsMalformedFrom ExtractWord c.args.text.now) c.from_residual.result found c.from_residual.ensures.1
    (Here ExtractWord c.args.text.now found.reason found.rest.now (c.in_err-extract.ensures.malformed ExtractWord refl))

pub returns-then-is_empty-clause-malformed : goal.returns-then-is_empty-clause-malformed
returns-then-is_empty-clause-malformed c =
    let extract = word_view c.in_ok-extract.extract in
    malformed_word ExtractWord c.args.text.now extract c.in_ok-extract.ensures.reading _
    (ap (λ empty. word_reason ExtractWord empty extract.terminator) (sym c.is_empty.ensures ∙ c.if-is_empty.true))

pub returns-in_err-read_word-clause-malformed : goal.returns-in_err-read_word-clause-malformed
returns-in_err-read_word-clause-malformed c =
    let extract = word_view c.in_ok-extract.extract in
    let found = c.in_err-read_word.field-0.0 in
    let fine : word_reason ExtractWord _ extract.terminator ≡ None = ap (λ empty. word_reason ExtractWord empty extract.terminator) (sym c.is_empty.ensures ∙ c.if-is_empty.false) in
    same_error (IsMalformedFrom ExtractWord c.args.text.now) c.from_residual-in_err-read_word.result found c.from_residual-in_err-read_word.ensures.1
    (malformed_later ExtractWord c.args.text.now extract c.in_ok-extract.ensures.reading fine found.reason found.rest.now c.if-extract-eq58.true
    (Here FourthWord extract.rest found.reason found.rest.now (c.in_err-read_word.ensures.malformed FourthWord refl)))

pub returns-then-extract-eq58-clause-malformed : goal.returns-then-extract-eq58-clause-malformed
returns-then-extract-eq58-clause-malformed c =
    let extract = word_view c.in_ok-extract.extract in
    let fine : word_reason ExtractWord _ extract.terminator ≡ None = ap (λ empty. word_reason ExtractWord empty extract.terminator) (sym c.is_empty.ensures ∙ c.if-is_empty.false) in
    malformed_later ExtractWord c.args.text.now extract c.in_ok-extract.ensures.reading fine _ extract.rest c.if-extract-eq58.true
    (malformed_word FourthWord extract.rest (word_view c.in_ok-read_word.field-0) c.in_ok-read_word.ensures.reading _ refl)

pub returns-clause-malformed : goal.returns-clause-malformed
returns-clause-malformed c =
    let extract = word_view c.in_ok-extract.extract in
    let fine : word_reason ExtractWord _ extract.terminator ≡ None = ap (λ empty. word_reason ExtractWord empty extract.terminator) (sym c.is_empty.ensures ∙ c.if-is_empty.false) in
    error_of_rest (IsDefinitionUnread c.in_ok-extract.extract) (IsMalformedFrom ExtractWord c.args.text.now) c.read_close.result
    (λ why rest (open_, is). malformed_definition ExtractWord c.args.text.now extract c.in_ok-extract.ensures.reading fine why rest c.if-extract-eq58.false open_ is)
    c.read_close.ensures.malformed
