use Rattle.std.proofs.Common.{rules, tests, ◌∙◌, length, sym, ap, arith}
use Rattle.std.specs.Prelude.{not}
use Rattle.std.specs.Char.{is_ascii_digit}
use Rattle.std.proofs.lemmas.Bool.{true≢false, eqb-true, eqb-false, not-true, not-false}
use Rattle.std.proofs.lemmas.Iterator.{YieldsList-from_slice}
use Rattle.std.proofs.lemmas.Iterator.Search.{all_from_yields_List}
use Rattle.std.proofs.lemmas.Str.Pattern.{starts_char}
use Rattle.grok.proofs.Keys.NumberedKeysEndInNumber.{none_first, zero_first, other_first}
use Rattle.grok.proofs.numeral.is_numeral_from_one.Goals as goal
use Rattle.grok.proofs.numeral.is_numeral_from_one.Goals.{then-not-is_empty, else-not-is_empty}

pub returns-then-not-starts_with : goal.returns-then-not-starts_with
returns-then-not-starts_with c =
    let text = c.args.text.now in
    let all = all_from_yields_List is_ascii_digit _ _ c.all.result c.all.ensures.ran (YieldsList-from_slice text cc) (λ x b q k. search (rules, tests)) in
    elim c.if-not-is_empty.branch [
      | then-not-is_empty w ↦
          let zero = starts_char 48 text w.starts_with.result w.starts_with.ensures.cases (omega arith) (omega arith) in
          let none = eqb-false (length text) 0 (sym c.is_empty.ensures ∙ w.if-not-is_empty.true) in
          other_first text c.all.result (omega (arith, none)) (λ is. true≢false (sym (zero.1 is) ∙ not-true w.starts_with.result (sym w.value-is ∙ c.if-not-starts_with.true))) all
      | else-not-is_empty w ↦ absurd (true≢false (sym c.if-not-starts_with.true ∙ w.value-is ∙ ap not w.if-not-is_empty.false))
    ]

pub returns-else-not-starts_with : goal.returns-else-not-starts_with
returns-else-not-starts_with c =
    let text = c.args.text.now in (
      λ holds. absurd (true≢false (sym holds ∙ c.if-not-starts_with.false)),
      λ (count, is). absurd (elim c.if-not-is_empty.branch [
        | then-not-is_empty w ↦
            let zero = starts_char 48 text w.starts_with.result w.starts_with.ensures.cases (omega arith) (omega arith) in
            zero_first text (zero.0 (not-false w.starts_with.result (sym w.value-is ∙ c.if-not-starts_with.false))) count is
        | else-not-is_empty w ↦ none_first text (eqb-true (length text) 0 (sym c.is_empty.ensures ∙ w.if-not-is_empty.false)) count is
      ]),
    )
