use Rattle.std.proofs.Common.{◌≡◌, List, ℕ, Option, Some, None, IfSome, Bor, sym}
use Rattle.std.specs.Option.{option_copied}
use Rattle.std.specs.FinMap as finite
use Rattle.grok.specs.steps.KnownParts.{IsKnownPartOf, known_part_of, AreKnown}
use Rattle.grok.specs.declared.settings.Settings.{Settings}
use Rattle.grok.specs.declared.expand.known_parts.KnownPart.{KnownPart}
use Rattle.grok.proofs.expand.known_parts.KnownParts.of_name.Goals as goal

pub returns : goal.returns
returns c = record { kept = c.get.ensures.value; part = found c.get.result c.get.ensures.value }
  where
    found : (o : Option (Bor KnownPart)) → option_copied o ≡ known_part_of c.args.self.now.by_name c.args.name.now → IfSome o (λ part. (settings : Settings) (known : AreKnown settings c.args.self.now) (text : List ℕ) → finite.get settings.grok.now c.args.name.now ≡ Some text → IsKnownPartOf settings known.done text part.now)
    found None e = tt
    found (Some part) e = λ settings known text is. known.known c.args.name.now text part.now (sym e) is
