use Rattle.std.proofs.Common.{List, ℕ, sym, ◌∙◌, subst}
use Rattle.std.specs.FinMap as finite
use Rattle.grok.specs.Tree.{tree}
use Rattle.grok.specs.Keys.{Clash, numbered}
use Rattle.grok.specs.Errors.{error_value}
use Rattle.grok.specs.Compiled.{IsErrorOf}
use Rattle.grok.proofs.Keys.KeysAreDistinct.{clash_needs_number}
use Rattle.grok.proofs.Keys.ClashIsFirst.{clash_is_first}
use Rattle.grok.proofs.compile.error_of_clash.Goals as goal

pub returns-then-not-has_numbered : goal.returns-then-not-has_numbered
returns-then-not-has_numbered c =
    clash_needs_number c.args.settings.with_alias_only (finite.get c.args.settings.grok.now) c.args.pattern.now (sym c.requires.numbered ∙ sym c.has_numbered.ensures ∙ c.if-not-has_numbered.true)

pub returns-in_default : goal.returns-in_default
returns-in_default c = rw c.in_default.is at c.in_ok-clash.ensures

pub returns : goal.returns
returns c =
    let clash = c.in-Some.clash in
    record {
      tree_fault = Clash (numbered clash.base.now clash.number);
      first = clash_is_first c.args.settings.with_alias_only (tree (finite.get c.args.settings.grok.now) c.args.pattern.now) clash (rw c.in-Some.is at c.in_ok-clash.ensures);
      is = subst (λ (key : List ℕ). IsErrorOf (Clash key) (error_value c.in_ok-clash_error.field-0)) (c.as_str.ensures.value ∙ c.in_ok-key.ensures) c.in_ok-clash_error.ensures;
    }
