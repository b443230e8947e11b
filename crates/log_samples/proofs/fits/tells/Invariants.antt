use Rattle.std.proofs.Common.{◌≡◌, ◌==◌, length}
use Rattle.std.specs.List.{list_any}
use Rattle.grok.specs.Answers.{walk}
use Rattle.grok.specs.BorrowedMatches.{borrowed_keys, borrowed_captures}
use Rattle.log_samples.proofs.fits.tells.Given as goal

abbrev pub invariant-pairs : goal.invariant-pairs
invariant-pairs l = list_any (λ pair. length pair.1 == length l.line) l.pair-iterator
    ≡ list_any (λ pair. length pair.1 == length l.line) (walk (borrowed_keys l.fn.matches) (borrowed_captures l.fn.matches))
