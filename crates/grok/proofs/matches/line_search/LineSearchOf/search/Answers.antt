use Rattle.std.proofs.Common.{sym, ◌∙◌}
use Rattle.std.proofs.lemmas.Result.{IfOk-weaker}
use Rattle.grok.proofs.Captures.SearchKeepsMatch.{match_kept}
use Rattle.grok.proofs.matches.line_search.LineSearchOf.search.Goals as goal

pub returns-clause-found : goal.returns-clause-found
returns-clause-found g c = match_kept c.args.line.now _ _ _ _ _ c.captures_read.result c.self.inside.answers c.self.inside.count
    c.captures_read.ensures.answer
    (IfOk-weaker c.captures_read.result _ _ (λ is_match all is. sym c.captures_read.new.locations.ok.0 ∙ all is) c.captures_read.ensures.all_groups)
    c.captures_read.ensures.inside
