use Rattle.std.proofs.Common.{◌≡◌, ℕ, List, [], map, ◌+◌, ◌∙◌, sym, ap, length, arith}
use Rattle.grok.specs.GeneratedNames.{generated}
use Rattle.grok.specs.KeyNumbers.{key_text}
use Rattle.grok.specs.KeyTable.{meant_from}
use Rattle.grok.proofs.KeyTables.NamesMeanKeys.{meant_given, meant_itself, generated_same, get_mapped}
use Rattle.std.proofs.lemmas.List.{length-map}
use Rattle.grok.proofs.key_table.meant.Goals as goal

pub returns-in-Some : goal.returns-in-Some
returns-in-Some c =
    let keys : List (List ℕ) = map key_text c.args.keys.now in
    let number = c.in-Some.number in
    let long : length keys ≡ length c.args.keys.now = length-map c.args.keys.now key_text in
    let plain : 0 + number ≡ number = omega arith in
    c.as_str.ensures.value ∙ sym (get_mapped key_text c.args.keys.now number c.index-keys-number.result [] c.if-number-keys.true)
    ∙ sym (meant_given keys 0 number (omega arith)) ∙ ap (λ n. meant_from 0 keys (generated n)) plain ∙ ap (meant_from 0 keys) (sym c.in-Some.ensures)

pub returns-in_default : goal.returns-in_default
returns-in_default c =
    let keys : List (List ℕ) = map key_text c.args.keys.now in
    let long : length keys ≡ length c.args.keys.now = length-map c.args.keys.now key_text in
    sym (meant_itself keys 0 c.args.name.now (λ number low e.
    let same : c.in-Some.number ≡ 0 + number = generated_same c.in-Some.number (0 + number) (sym c.in-Some.ensures ∙ e) in
    omega (arith, c.if-number-keys.false)))

pub returns-in_default-2 : goal.returns-in_default-2
returns-in_default-2 c =
    let keys : List (List ℕ) = map key_text c.args.keys.now in
    let long : length keys ≡ length c.args.keys.now = length-map c.args.keys.now key_text in
    sym (meant_itself keys 0 c.args.name.now (λ number low e. c.in_default.ensures (0 + number) (omega arith) e))
