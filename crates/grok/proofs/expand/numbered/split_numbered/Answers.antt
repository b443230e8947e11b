use Rattle.std.proofs.Common.{◌≡◌, ℕ, suc, ◌∙◌, sym, subst, false, Option, MatchOption, None, Some, List, Bor, arith}
use Rattle.std.proofs.lemmas.Bool.{true≢false}
use Rattle.std.proofs.lemmas.Str.Pattern.{strip_suffix_char}
use Rattle.grok.specs.Keys.{numbered, ends_in_number}
use Rattle.grok.specs.Numeral.{numeral}
use Rattle.grok.proofs.Keys.NumberedKeysAreReadBack.{no_bracket, is_split, not_closed, not_opened, no_number, is_numbered}
use Rattle.grok.proofs.expand.numbered.split_numbered.Goals as goal

abbrev Answers : List ℕ → Option (Bor (List ℕ) × Bor (List ℕ)) → Type 0
Answers key r = MatchOption r (ends_in_number key ≡ false) (λ parts. (count : ℕ) × (parts.1.now ≡ numeral (suc count)) × (key ≡ numbered parts.0.now (suc count)))

pub returns-in_err-inside : goal.returns-in_err-inside
returns-in_err-inside c =
    let unclosed = strip_suffix_char 93 c.args.key.now None c.in_err-inside.ensures.cases (omega arith) in
    subst (Answers c.args.key.now) (sym c.from_residual.ensures) (not_closed c.args.key.now unclosed)

pub returns-in_err-base : goal.returns-in_err-base
returns-in_err-base c =
    let inside = c.in_ok-inside.inside.now in
    let ends = strip_suffix_char 93 c.args.key.now (Some c.in_ok-inside.inside) c.in_ok-inside.ensures.cases (omega arith) in
    subst (Answers c.args.key.now) (sym c.from_residual-in_err-base.ensures) (not_opened c.args.key.now inside ends (no_bracket inside c.in_err-base.ensures.cases))

pub returns-then-is_numeral_from_one : goal.returns-then-is_numeral_from_one
returns-then-is_numeral_from_one c =
    let inside = c.in_ok-inside.inside.now in
    let ends = strip_suffix_char 93 c.args.key.now (Some c.in_ok-inside.inside) c.in_ok-inside.ensures.cases (omega arith) in
    let (i, j, found, before, after, le, front_long, back_long) = c.in_ok-base.ensures.cases in
    let split = is_split inside c.in_ok-base.base.now c.in_ok-base.digits.now i j found before after in
    let (count, is) = c.is_numeral_from_one.ensures.0 c.if-is_numeral_from_one.true in
    (count, is, is_numbered c.args.key.now inside ends c.in_ok-base.base.now c.in_ok-base.digits.now split count is)

pub returns-else-is_numeral_from_one : goal.returns-else-is_numeral_from_one
returns-else-is_numeral_from_one c =
    let inside = c.in_ok-inside.inside.now in
    let ends = strip_suffix_char 93 c.args.key.now (Some c.in_ok-inside.inside) c.in_ok-inside.ensures.cases (omega arith) in
    let (i, j, found, before, after, le, front_long, back_long) = c.in_ok-base.ensures.cases in
    let split = is_split inside c.in_ok-base.base.now c.in_ok-base.digits.now i j found before after in
    no_number c.args.key.now inside ends c.in_ok-base.base.now c.in_ok-base.digits.now split
    (λ count is. true≢false (sym (c.is_numeral_from_one.ensures.1 (count, is)) ∙ c.if-is_numeral_from_one.false))
