-- One more text was compiled, or refused. At the end none is left.
use Rattle.std.proofs.Common.{◌∙◌, ◌++◌, [], ◌∷◌, sym, subst, arith}
use Rattle.std.proofs.lemmas.Grind.{common_steps}
use Rattle.std.specs.List.{AllZip, Any}
use Rattle.std.specs.Vec.Iter.{into_iter_items}
use Rattle.groklog_patterns.specs.Compiled.{IsRunPattern, IsRefused}
use Rattle.groklog_patterns.proofs.FaultsOfPatterns.{fault_if}
use Rattle.groklog_patterns.proofs.PlaceByPlace.{all_zip_push, one_more_came, what_comes_is_one, all_came}
use Rattle.groklog_patterns.proofs.compiled.compile_all.Goals as goal

pub texts-preserved : goal.texts-preserved
texts-preserved c = record {
  compiled = subst (λ all. AllZip (IsRunPattern c.args.library.now.grok c.args.library.now.limit) (c.texts.yielded ++ c.in-Some.text ∷ []) all)
      (sym c.in_ok-push.ensures.items)
      (all_zip_push _ c.texts.yielded c.texts.all.items c.in-Some.text c.in_ok-compile_text.field-0 c.texts.invariant.compiled c.in_ok-compile_text.ensures.pattern);
  left = one_more_came c.texts.yielded (into_iter_items c.texts.text-iterator) (into_iter_items c.next.new.self) c.args.texts.items c.in-Some.text
      c.in-Some.ensures.steps.0 c.texts.invariant.left;
  count = grind (arith, common_steps, c.in-Some.ensures.steps.0, c.in-Some.ensures.steps.1, c.texts.invariant.count);
}

pub returns-clause-patterns : goal.returns-clause-patterns
returns-clause-patterns c = subst (λ texts. AllZip (IsRunPattern c.args.library.now.grok c.args.library.now.limit) texts c.texts.all.items)
    (all_came c.texts.yielded (into_iter_items c.texts.text-iterator) c.args.texts.items c.texts.invariant.left
    (c.texts.invariant.count ∙ c.in-None.ensures.steps.0))
    c.texts.invariant.compiled

pub returns-in_err-compile_text-clause-fault : goal.returns-in_err-compile_text-clause-fault
returns-in_err-compile_text-clause-fault c =
    let one_of_them = what_comes_is_one (IsRefused c.args.library.now.grok c.args.library.now.limit) c.texts.yielded
    (into_iter_items c.texts.text-iterator) (into_iter_items c.next.new.self) c.args.texts.items c.in-Some.text
    c.in-Some.ensures.steps.0 c.texts.invariant.left in
    let here = fault_if (IsRefused c.args.library.now.grok c.args.library.now.limit c.in-Some.text)
    (Any (IsRefused c.args.library.now.grok c.args.library.now.limit) c.args.texts.items) one_of_them
    c.in_err-compile_text.field-0.0 c.in_err-compile_text.ensures.fault in
    grind (arith, here)
