use Rattle.std.proofs.Common.{rules}
use Rattle.grok.proofs.measure.cache.MeasureCache.known.Goals as goal

-- by one tactic, so that a wrong body is refused at once
pub returns-in-Some-HasSize-clause-known : goal.returns-in-Some-HasSize-clause-known
returns-in-Some-HasSize-clause-known c = search rules

pub returns-in-Some-HasSize-clause-low : goal.returns-in-Some-HasSize-clause-low
returns-in-Some-HasSize-clause-low c = search rules

pub returns-in-Some-NeedsMoreThan-clause-known : goal.returns-in-Some-NeedsMoreThan-clause-known
returns-in-Some-NeedsMoreThan-clause-known c = search rules

pub returns-in-Some-clause-known : goal.returns-in-Some-clause-known
returns-in-Some-clause-known c = search rules
