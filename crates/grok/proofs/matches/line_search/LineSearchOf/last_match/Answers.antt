use Rattle.std.proofs.Common.{Some, length, sym, subst, ap, ap₂, ◌∙◌}
use Rattle.grok.specs.Captures.{IsMatchIn}
use Rattle.grok.specs.Locations.{AreLocationsIn, located_texts}
use Rattle.grok.proofs.Captures.SearchKeepsMatch.{match_is_kept}
use Rattle.grok.proofs.matches.line_search.LineSearchOf.last_match.Goals as goal

pub new-requires : goal.new-requires
new-requires g c = subst (AreLocationsIn c.args.line.now) (sym (c.deref.ensures.value ∙ ap (λ search. search.ranges) c.self.view_is)) c.requires.inside

pub returns-clause-captures : goal.returns-clause-captures
returns-clause-captures g c =
    subst (λ texts. IsMatchIn c.args.line.now (g.E.Engine.finds c.args.self.now.pattern.engine) (length (g.E.Engine.group_names c.args.self.now.pattern.engine)) (Some texts))
    (sym (c.new-2.ensures.captures ∙ ap₂ located_texts c.new.ensures.line (c.new.ensures.locations ∙ c.deref.ensures.value ∙ ap (λ search. search.ranges) c.self.view_is)))
    (match_is_kept c.args.line.now _ _ c.args.self.now c.requires)
