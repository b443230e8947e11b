use Rattle.std.proofs.Common.{◌≡◌, ◌++◌, ◌∙◌, ap, sym, arith, append_assoc}
use Rattle.std.specs.Prelude.{codes}
use Rattle.std.specs.String.{string_bytes}
use Rattle.grok.specs.GeneratedNames.{name_start}
use Rattle.grok.specs.Numeral.{numeral}
use Rattle.grok.proofs.Texts.NumeralsAreDecimal.{numeral_is_decimal}
use Rattle.grok.proofs.Texts.RoomIsLeft.{room_first, room_after}
use Rattle.grok.proofs.generated_name.put_head.Goals as goal

pub put-requires-2 : goal.put-requires-2
put-requires-2 c =
    let rest = numeral c.args.number ++ codes ">" in
    room_first c.put.new.out name_start rest (room_after c.args.out.now c.put.new.out (codes "(?<") (name_start ++ rest) c.put.ensures.bytes c.put.ensures.capacity c.requires)

pub put-requires-3 : goal.put-requires-3
put-requires-3 c =
    let digits : c.format.result.now ≡ numeral c.args.number = c.format.ensures.text ∙ sym (numeral_is_decimal c.args.number (omega arith)) in
    let rest = numeral c.args.number ++ codes ">" in
    let named = room_after c.args.out.now c.put.new.out (codes "(?<") (name_start ++ rest) c.put.ensures.bytes c.put.ensures.capacity c.requires in
    rw digits (room_first c.put-2.new.out (numeral c.args.number) (codes ">") (room_after c.put.new.out c.put-2.new.out name_start rest c.put-2.ensures.bytes c.put-2.ensures.capacity named))

pub put-requires-4 : goal.put-requires-4
put-requires-4 c =
    let digits : c.format.result.now ≡ numeral c.args.number = c.format.ensures.text ∙ sym (numeral_is_decimal c.args.number (omega arith)) in
    let rest = numeral c.args.number ++ codes ">" in
    let named = room_after c.args.out.now c.put.new.out (codes "(?<") (name_start ++ rest) c.put.ensures.bytes c.put.ensures.capacity c.requires in
    let numbered = room_after c.put.new.out c.put-2.new.out name_start rest c.put-2.ensures.bytes c.put-2.ensures.capacity named in
    room_after c.put-2.new.out c.put-3.new.out (numeral c.args.number) (codes ">") (rw digits at c.put-3.ensures.bytes) c.put-3.ensures.capacity numbered

pub returns-clause-bytes : goal.returns-clause-bytes
returns-clause-bytes c =
    let digits : c.format.result.now ≡ numeral c.args.number = c.format.ensures.text ∙ sym (numeral_is_decimal c.args.number (omega arith)) in
    c.put-4.ensures.bytes
    ∙ (ap (λ bs. bs ++ codes ">") c.put-3.ensures.bytes
    ∙ (ap (λ bs. (string_bytes c.put-2.new.out ++ bs) ++ codes ">") digits
    ∙ (ap (λ bs. (bs ++ numeral c.args.number) ++ codes ">") c.put-2.ensures.bytes
    ∙ (ap (λ bs. ((bs ++ name_start) ++ numeral c.args.number) ++ codes ">") c.put.ensures.bytes
    ∙ simp append_assoc))))
