use Rattle.std.proofs.Common.{codes, refl}
use Rattle.std.proofs.lemmas.Grind.{put_three}
use Rattle.grok_parser.proofs.parser.GrokComponentDisplay.fmt.Goals as goal

pub returns-in_ok-fmt-in-PatternError-clause-any : goal.returns-in_ok-fmt-in-PatternError-clause-any
returns-in_ok-fmt-in-PatternError-clause-any g c =
    λ plain ok.
    let opened = c.in_ok-write_str-in-PatternError.ensures.writes plain refl in
    let shown = c.in_ok-fmt-in-PatternError.ensures.any opened.plain refl in
    let closed = c.write_str-in-PatternError-2.ensures.writes shown.2.plain ok in
    rw c.in-PatternError.is (
      _,
      (shown.0, shown.1, refl),
      put_three g.W.Write.write_str_gives _ _ _ _ (codes "<error ") shown.0 (codes ">") _ opened shown.2 closed refl,
    )
