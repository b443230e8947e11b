use Rattle.std.proofs.Common.{◌≡◌, None, refl, sym, ap, ◌∙◌}
use Rattle.grok_parser.specs.Pieces.{is_empty}
use Rattle.grok_parser.specs.Grammar.{AliasWord, ExtractWord}
use Rattle.grok_parser.specs.Malformations.{word_reason, IsMalformedFrom, Here}
use Rattle.grok_parser.specs.steps.Readings.{IsDefinitionUnread}
use Rattle.grok_parser.proofs.MalformedHasReason.{malformed_word, malformed_later, malformed_definition, alias_before_extract, alias_is_missing, same_error, error_of_rest}
use Rattle.grok_parser.specs.Views.{word_view}
use Rattle.grok_parser.proofs.placeholder.read_alias.Goals as goal

pub returns-in_err-alias-clause-malformed : goal.returns-in_err-alias-clause-malformed
returns-in_err-alias-clause-malformed c =
    let found = c.in_err-alias.field-0.0 in
    same_error (IsMalformedFrom AliasWord c.args.text.now) c.from_residual.result found c.from_residual.ensures.1
    (Here AliasWord c.args.text.now found.reason found.rest.now (c.in_err-alias.ensures.malformed AliasWord refl))

pub returns-then-alias-eq58-clause-malformed : goal.returns-then-alias-eq58-clause-malformed
returns-then-alias-eq58-clause-malformed c =
    let alias = word_view c.in_ok-alias.alias in
    let fine : word_reason AliasWord (is_empty alias.word) alias.terminator ≡ None =
    ap (word_reason AliasWord (is_empty alias.word)) c.if-alias-eq58.true ∙ alias_before_extract (is_empty alias.word) in
    error_of_rest (IsMalformedFrom ExtractWord alias.rest) (IsMalformedFrom AliasWord c.args.text.now) c.read_extract.result
    (λ why rest later. malformed_later AliasWord c.args.text.now alias c.in_ok-alias.ensures.reading fine why rest c.if-alias-eq58.true later)
    c.read_extract.ensures.malformed

pub returns-then-is_empty-clause-malformed : goal.returns-then-is_empty-clause-malformed
returns-then-is_empty-clause-malformed c =
    let alias = word_view c.in_ok-alias.alias in
    malformed_word AliasWord c.args.text.now alias c.in_ok-alias.ensures.reading _
    (ap (λ empty. word_reason AliasWord empty alias.terminator) (sym c.is_empty.ensures ∙ c.if-is_empty.true) ∙ alias_is_missing alias.terminator c.if-alias-eq58.false)

pub returns-clause-malformed : goal.returns-clause-malformed
returns-clause-malformed c =
    let alias = word_view c.in_ok-alias.alias in
    let fine : word_reason AliasWord _ alias.terminator ≡ None = ap (λ empty. word_reason AliasWord empty alias.terminator) (sym c.is_empty.ensures ∙ c.if-is_empty.false) in
    error_of_rest (IsDefinitionUnread c.in_ok-alias.alias) (IsMalformedFrom AliasWord c.args.text.now) c.read_close.result
    (λ why rest (open_, is). malformed_definition AliasWord c.args.text.now alias c.in_ok-alias.ensures.reading fine why rest c.if-alias-eq58.false open_ is)
    c.read_close.ensures.malformed
