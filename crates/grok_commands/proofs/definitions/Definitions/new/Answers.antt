use Rattle.std.proofs.Common.{◌≡◌, true, false, sym, ◌∙◌}
use Rattle.std.specs.List.{list_all}
use Rattle.std.proofs.lemmas.List.Folds.{list_all-map}
use Rattle.grok_commands.specs.Commands.{texts, has_equals}
use Rattle.grok_commands.proofs.definitions.Definitions.new.Goals as goal

pub invariant_of-result : goal.invariant_of-result
invariant_of-result c = list_all-map has_equals (λ word. word.now) c.args.words.now ∙ sym c.each_has_equals.ensures ∙ c.if-each_has_equals.true

pub returns-then-each_has_equals : goal.returns-then-each_has_equals
returns-then-each_has_equals c =
    let all : list_all has_equals (texts c.args.words.now) ≡ true = list_all-map has_equals (λ word. word.now) c.args.words.now ∙ sym c.each_has_equals.ensures ∙ c.if-each_has_equals.true in
    rw all

pub returns-else-each_has_equals : goal.returns-else-each_has_equals
returns-else-each_has_equals c =
    let all : list_all has_equals (texts c.args.words.now) ≡ false = list_all-map has_equals (λ word. word.now) c.args.words.now ∙ sym c.each_has_equals.ensures ∙ c.if-each_has_equals.false in
    rw all
