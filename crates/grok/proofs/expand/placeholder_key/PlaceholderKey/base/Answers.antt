use Rattle.std.proofs.Common.{◌≡◌, ℕ, zero, suc, List, Option, Some, None, Bor, false, refl, sym, ◌∙◌, ap}
use Rattle.std.specs.Option.{MatchOption, unwrap_or}
use Rattle.std.proofs.lemmas.Bool.{true≢false}
use Rattle.grok.specs.Keys.{numbered, ends_in_number}
use Rattle.grok.proofs.Keys.KeysAreDistinct.{numbered_both}
use Rattle.grok.proofs.Keys.NumberedKeysEndInNumber.{ends_in_number_where_numbered}
use Rattle.grok.proofs.expand.placeholder_key.PlaceholderKey.base.Goals as goal

base_from : (whole : Bor (List ℕ)) (base : List ℕ) (number : ℕ) (found : Option (Bor (List ℕ))) → (number ≡ 0 → ⊥) → whole.now ≡ numbered base number
    → MatchOption found (ends_in_number whole.now ≡ false) (λ b. (count : ℕ) × (whole.now ≡ numbered b.now (suc count)))
    → (unwrap_or found whole).now ≡ base
base_from whole base zero found some is h = absurd (some refl)
base_from whole base (suc count) None some is h = absurd (true≢false (sym ((ends_in_number_where_numbered whole.now).1 (base, count, is)) ∙ h))
base_from whole base (suc count) (Some b) some is (n, other) = (numbered_both b.now base n count (sym other ∙ is)).0

pub returns : goal.returns
returns c base is =
    ap (λ b. b.now) c.unwrap_or.ensures
    ∙ base_from c.as_str-key.result base c.args.self.now.number c.base_of_numbered.result c.if-self-eq0.false (c.as_str-key.ensures.value ∙ is) c.base_of_numbered.ensures
