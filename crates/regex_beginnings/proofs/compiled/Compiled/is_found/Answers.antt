use Rattle.std.proofs.Common.{◌≡◌, is_some, refl, sym, ap, ◌∙◌}
use Rattle.regex.specs.Patterns.{find_str}
use Rattle.regex_beginnings.proofs.compiled.Compiled.is_found.Goals as goal

pub returns : goal.returns
returns c = (
  c.args.self.now.regex,
  refl,
  c.args.self.now.by_default,
  ap (λ pattern. is_some (find_str pattern c.args.line.now 0)) (sym c.in_ok-matcher.ensures.pattern) ∙ sym c.is_match.ensures.found,
)
