-- Any other character stays as it is.
use Rattle.std.proofs.Common.{◌≡◌, [], ◌∷◌, arith}
use Rattle.std.proofs.lemmas.Grind.{common_steps}
use Rattle.marked_lines.specs.Html.{escaped_byte}
use Rattle.marked_lines.proofs.HtmlShowsText.{plain_char}
use Rattle.marked_lines.proofs.escaped.push_escaped_char.Goals as goal

pub returns-in_default : goal.returns-in_default
returns-in_default c =
    let plain : escaped_byte c.args.c ≡ c.args.c ∷ [] = grind arith in
    grind (arith, common_steps, plain_char c.args.c plain)
