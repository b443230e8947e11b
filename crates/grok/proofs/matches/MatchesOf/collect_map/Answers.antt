use Rattle.grok.proofs.KeyTables.WalksAreSorted.{put_more}
use Rattle.std.proofs.Common.{◌++◌, ◌∙◌, map, subst, ap}
use Rattle.std.specs.List.Sorted.{IsStrictlySortedBy}
use Rattle.std.specs.Map.{keys_of}
use Rattle.std.specs.Cmp.Lexicographic.{slice_cmp}
use Rattle.std.specs.Ordering.{nat_cmp}
use Rattle.grok.specs.Maps.{pair_texts}
use Rattle.grok.specs.Answers.{walk}
use Rattle.grok.proofs.matches.MatchesOf.collect_map.Goals as goal

pub pairs-preserved : goal.pairs-preserved
pairs-preserved g c =
    let all = walk c.args.self.now.pattern.keys c.args.self.now.captures in
    let rises : IsStrictlySortedBy (slice_cmp nat_cmp) (keys_of all) = subst (λ xs. IsStrictlySortedBy (slice_cmp nat_cmp) (keys_of xs)) c.iter-name-items.ensures.pairs c.iter-name-items.ensures.sorted in
    ap (λ es. map pair_texts es ++ c.next.new.self) c.in_ok-insert.ensures.entries
    ∙ put_more c.pairs.texts.entries c.in-Some.name c.in-Some.text c.pairs.name-iterator c.next.new.self all rises c.pairs.invariant c.in-Some.ensures.steps
