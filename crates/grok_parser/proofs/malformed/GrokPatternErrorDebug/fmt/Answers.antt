use Rattle.std.proofs.Common.{rules, codes, refl}
use Rattle.std.specs.Fmt.{debug_char, WritesOnOk}
use Rattle.grok_parser.proofs.TextStandsAroundCharacter.{written_alone, around_known}
use Rattle.grok_parser.proofs.malformed.GrokPatternErrorDebug.fmt.Goals as goal

-- by one tactic, so that a wrong body is refused at once
pub returns-in-InvalidPattern-clause-writes : goal.returns-in-InvalidPattern-clause-writes
returns-in-InvalidPattern-clause-writes g c = search rules

pub returns-in_ok-write-in-InvalidCharacter-clause-writes : goal.returns-in_ok-write-in-InvalidCharacter-clause-writes
returns-in_ok-write-in-InvalidCharacter-clause-writes g c =
    rw c.in-InvalidCharacter.is
    (around_known (λ bs. WritesOnOk g.W.Write.write_str_gives c.args.f.now c.write-in-InvalidCharacter.result bs c.write-in-InvalidCharacter.new.self)
    (codes "InvalidCharacter(") (codes ")") c.as_str.result.now (debug_char c.in-InvalidCharacter.c)
    (rw c.as_str.ensures.value (written_alone c.new-shown.result (debug_char c.in-InvalidCharacter.c) c.write.new.self c.in_ok-write-in-InvalidCharacter.ensures.writes c.new-shown.ensures.intact c.new-shown.ensures.text))
    c.write-in-InvalidCharacter.ensures.writes)

pub returns-in_ok-write-in-InvalidCharacter-clause-any : goal.returns-in_ok-write-in-InvalidCharacter-clause-any
returns-in_ok-write-in-InvalidCharacter-clause-any g c =
    λ plain ok.
    rw c.in-InvalidCharacter.is (
      _,
      (
        c.as_str.result.now,
        rw c.as_str.ensures.value (written_alone c.new-shown.result (debug_char c.in-InvalidCharacter.c) c.write.new.self c.in_ok-write-in-InvalidCharacter.ensures.writes c.new-shown.ensures.intact c.new-shown.ensures.text),
        refl,
      ),
      c.write-in-InvalidCharacter.ensures.writes plain ok,
    )
