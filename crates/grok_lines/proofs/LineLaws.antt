-- Proves the laws of lines: the lines of an input and their line feeds make it up, no line holds a line feed, only
-- the last may lack its own, and no other lines make up the input.
use Rattle.std.proofs.Common.{◌≡◌, ℕ, Bool, true, false, List, [], ◌∷◌, ◌++◌, ◌==◌, if◌then◌else◌, refl, sym, ap, ◌∙◌, append_assoc}
use Rattle.std.proofs.lemmas.Bool.{eqb-true}
use Rattle.std.specs.List.{AllByRecursion}
use Rattle.grok_lines.specs.Lines.{ended_lines_of, unended_of, onto_ended, is_none, IsLine}
use Rattle.grok_lines.specs.LineLaws.{joined_lines, InputsAreTheirLines, NoLineHoldsALineFeed, OnlyTheLastMayLackItsLineFeed, NoOtherLinesMakeUpAnInput}
use Rattle.grok_lines.proofs.LinesOfTwoParts.{ended-line, unended-line, ended-none, unended-none, unended-all, lines-split}

-- by the first byte and by whether a line ends after it
join-step : (t : Bool) (x : ℕ) (input rest : List ℕ) (lines : List (List ℕ)) → joined_lines lines ++ rest ≡ input → t ≡ (x == 10)
    → joined_lines (if t then [] ∷ lines else onto_ended x lines) ++ (if is_none (if t then [] ∷ lines else onto_ended x lines) then x ∷ input else rest) ≡ x ∷ input
join-step true x input rest lines h q = let feed : x ≡ 10 = eqb-true x 10 (sym q) in rw feed (ap (λ v. 10 ∷ v) h)
join-step false x input rest [] h q = refl
join-step false x input rest (line ∷ lines) h q = ap (λ v. x ∷ v) h

pub inputs_are_their_lines : InputsAreTheirLines
inputs_are_their_lines [] = refl
inputs_are_their_lines (x ∷ input) = join-step (x == 10) x input (unended_of input) (ended_lines_of input) (inputs_are_their_lines input) refl

free-step : (t : Bool) (x : ℕ) (input rest : List ℕ) (lines : List (List ℕ)) → AllByRecursion IsLine lines → IsLine rest → (lines ≡ [] → rest ≡ input) → t ≡ (x == 10)
    → AllByRecursion IsLine (if t then [] ∷ lines else onto_ended x lines) × IsLine (if is_none (if t then [] ∷ lines else onto_ended x lines) then x ∷ input else rest)
free-step true x input rest lines are is whole q = ((tt, are), is)
free-step false x input rest [] are is whole q = let same : rest ≡ input = whole refl in (tt, (sym q, rw (← same) is))
free-step false x input rest (line ∷ lines) are is whole q = (((sym q, are.0), are.1), is)

pub no_line_holds_a_line_feed : NoLineHoldsALineFeed
no_line_holds_a_line_feed [] = (tt, tt)
no_line_holds_a_line_feed (x ∷ input) =
    let before = no_line_holds_a_line_feed input in
    free-step (x == 10) x input (unended_of input) (ended_lines_of input) before.0 before.1 (unended-all input) refl

pub only_the_last_may_lack_its_line_feed : OnlyTheLastMayLackItsLineFeed
only_the_last_may_lack_its_line_feed = lines-split

pub no_other_lines_make_up_an_input : NoOtherLinesMakeUpAnInput
no_other_lines_make_up_an_input [] rest are is = (ended-none rest is, unended-none rest is)
no_other_lines_make_up_an_input (line ∷ lines) rest are is =
    let more = no_other_lines_make_up_an_input lines rest are.1 is in
    let after = joined_lines lines ++ rest in
    let whole : joined_lines (line ∷ lines) ++ rest ≡ line ++ 10 ∷ after =
    append_assoc (line ++ 10 ∷ []) (joined_lines lines) rest ∙ append_assoc line (10 ∷ []) after in (
      ap ended_lines_of whole ∙ ended-line line after are.0 ∙ ap (λ v. line ∷ v) more.0,
      ap unended_of whole ∙ unended-line line after are.0 ∙ more.1,
    )
