use Rattle.grok.proofs.errors.error.ErrorDisplay.fmt.Goals as goal

-- a term, so that other words are refused at once
pub returns-in-Memory-clause-writes : goal.returns-in-Memory-clause-writes
returns-in-Memory-clause-writes g c = rw c.in-Memory.is c.write-in-Memory.ensures.writes
