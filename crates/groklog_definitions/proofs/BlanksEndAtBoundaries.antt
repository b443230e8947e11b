-- A run of blanks ends at a character boundary.
use Rattle.std.proofs.Common.{◌≡◌, ℕ, ◌<◌, true, List, arith}
use Rattle.std.specs.List.{prefix_len}
use Rattle.std.specs.Str.{IsUtf8, IsCharBoundary}
use Rattle.std.proofs.lemmas.List.Sums.{prefix_len-le-length, prefix_len_passes}
use Rattle.std.proofs.lemmas.Bool.Decides.{nat_tests}
use Rattle.grok_parser.proofs.RunsEndAtBoundaries.{IsCharBoundary-after_run}
use Rattle.groklog_definitions.specs.DefinitionTexts.{is_blank}

blank_ascii : (b : ℕ) → is_blank b ≡ true → b < 128
blank_ascii b e = grind (arith, nat_tests)

pub IsCharBoundary-blanks : (bs : List ℕ) → IsUtf8 bs → IsCharBoundary bs (prefix_len is_blank bs)
IsCharBoundary-blanks bs u =
    IsCharBoundary-after_run bs _ u (prefix_len-le-length is_blank bs) (λ k l. blank_ascii _ (prefix_len_passes is_blank bs k 0 l))

pub ruleset run_ends = (IsCharBoundary-blanks)
