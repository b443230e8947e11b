use Rattle.std.proofs.Common.{◌≡◌, ℕ, List, Bool, true, ◌&&◌, sym, ap, ◌∙◌, rules, tests}
use Rattle.std.specs.Prelude.{slice_get}
use Rattle.std.specs.List.{list_all}
use Rattle.std.specs.Str.{chars}
use Rattle.std.proofs.lemmas.Iterator.{YieldsList-from_chars}
use Rattle.std.proofs.lemmas.Iterator.Search.{all_from_yields_List}
use Rattle.oniguruma_syntax.specs.Forms.{continues_name, may_begin}
use Rattle.oniguruma_syntax.proofs.names.is_group_name.Goals as goal

pub returns-then-begins_name : goal.returns-then-begins_name
returns-then-begins_name c =
    let name = c.args.name.now in
    let all : c.all.result ≡ list_all continues_name (chars name) =
    all_from_yields_List continues_name _ _ c.all.result c.all.ensures.ran (YieldsList-from_chars name c.utf8.name c.chars-then-begins_name.ensures.rest) (λ x b q k. search (rules, tests)) in
    let head : may_begin (slice_get (chars name) 0) ≡ true =
    ap may_begin (sym (c.in-Some.ensures.steps.2 ∙ ap (λ (bs : List ℕ). slice_get (chars bs) 0) c.chars.ensures.rest)) ∙ sym c.begins_name.ensures ∙ c.if-begins_name.true in
    all ∙ ap (λ (b : Bool). b && list_all continues_name (chars name)) (sym head)
