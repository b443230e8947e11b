use Rattle.std.proofs.Common.{◌≡◌, None, refl, sym, ap, ◌∙◌}
use Rattle.grok_parser.specs.Grammar.{NameWord, AliasWord}
use Rattle.grok_parser.specs.Malformations.{word_reason, IsMalformedFrom, Here}
use Rattle.grok_parser.specs.steps.Readings.{IsDefinitionUnread}
use Rattle.grok_parser.proofs.MalformedHasReason.{malformed_word, malformed_later, malformed_definition, same_error, error_of_rest}
use Rattle.grok_parser.specs.Views.{word_view}
use Rattle.grok_parser.proofs.placeholder.read_placeholder.Goals as goal

pub returns-in_err-name-clause-malformed : goal.returns-in_err-name-clause-malformed
returns-in_err-name-clause-malformed c =
    let found = c.in_err-name.field-0.0 in
    same_error (IsMalformedFrom NameWord c.args.text.now) c.from_residual.result found c.from_residual.ensures.1
    (Here NameWord c.args.text.now found.reason found.rest.now (c.in_err-name.ensures.malformed NameWord refl))

pub returns-then-is_empty-clause-malformed : goal.returns-then-is_empty-clause-malformed
returns-then-is_empty-clause-malformed c =
    let name = word_view c.in_ok-name.name in
    malformed_word NameWord c.args.text.now name c.in_ok-name.ensures.reading _
    (ap (λ empty. word_reason NameWord empty name.terminator) (sym c.is_empty.ensures ∙ c.if-is_empty.true))

pub returns-then-name-eq58-clause-malformed : goal.returns-then-name-eq58-clause-malformed
returns-then-name-eq58-clause-malformed c =
    let name = word_view c.in_ok-name.name in
    let fine : word_reason NameWord _ name.terminator ≡ None = ap (λ empty. word_reason NameWord empty name.terminator) (sym c.is_empty.ensures ∙ c.if-is_empty.false) in
    error_of_rest (IsMalformedFrom AliasWord name.rest) (IsMalformedFrom NameWord c.args.text.now) c.read_alias.result
    (λ why rest later. malformed_later NameWord c.args.text.now name c.in_ok-name.ensures.reading fine why rest c.if-name-eq58.true later)
    c.read_alias.ensures.malformed

pub returns-clause-malformed : goal.returns-clause-malformed
returns-clause-malformed c =
    let name = word_view c.in_ok-name.name in
    let fine : word_reason NameWord _ name.terminator ≡ None = ap (λ empty. word_reason NameWord empty name.terminator) (sym c.is_empty.ensures ∙ c.if-is_empty.false) in
    error_of_rest (IsDefinitionUnread c.in_ok-name.name) (IsMalformedFrom NameWord c.args.text.now) c.read_close.result
    (λ why rest (open_, is). malformed_definition NameWord c.args.text.now name c.in_ok-name.ensures.reading fine why rest c.if-name-eq58.false open_ is)
    c.read_close.ensures.malformed
