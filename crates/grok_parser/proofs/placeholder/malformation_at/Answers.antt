use Rattle.std.proofs.Common.{sym, ap, ◌∙◌}
use Rattle.grok_parser.specs.Pieces.{placeholder_at}
use Rattle.grok_parser.proofs.PlaceholderFaults.{fault_is_read}
use Rattle.grok_parser.proofs.MalformedHasReason.{malformed_at, malformed_ends_within, inside_begins}
use Rattle.grok_parser.proofs.placeholder.malformation_at.Goals as goal

pub range_from-requires : goal.range_from-requires
range_from-requires c some = inside_begins c.args.text.now c.args.from c.utf8.text c.requires.1.0

-- a placeholder with a fault of the grammar can't be read
pub unreachable-requires : goal.unreachable-requires
unreachable-requires c =
    let both = sym c.in-Ok.ensures.reading ∙ ap placeholder_at c.range_from.ensures.value ∙ fault_is_read _ c.requires.0 c.requires.1.1 in cc

pub overflow_sub-result : goal.overflow_sub-result
overflow_sub-result c =
    let found = c.in-Err.found in
    malformed_ends_within c.args.text.now c.args.from found.reason c.range_from.result.now found.rest.now c.range_from.ensures.value c.in-Err.ensures.malformed

pub returns-clause-malformed : goal.returns-clause-malformed
returns-clause-malformed c =
    let found = c.in-Err.found in
    malformed_at c.args.text.now c.args.from found.reason c.range_from.result.now found.rest.now c.range_from.ensures.value c.in-Err.ensures.malformed

pub returns-clause-fault : goal.returns-clause-fault
returns-clause-fault c fault at =
    let both = sym c.in-Err.ensures.reading ∙ ap placeholder_at c.range_from.ensures.value ∙ fault_is_read _ fault at.1 in cc
