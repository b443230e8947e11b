use Rattle.std.proofs.Common.{◌≡◌, length}
use Rattle.grok.specs.Groups.{group_texts}
use Rattle.grok.specs.Answers.{walk}
use Rattle.grok.proofs.matches.MatchesIterIterator.next.Given as goal

abbrev pub invariant-entries : goal.invariant-entries
invariant-entries l = record {
  whole : walk l.initial.self-inside.entries (group_texts l.initial.self-inside.groups) ≡ walk l.self-inside.entries (group_texts l.self-inside.groups);
  same : l.self-inside.groups ≡ l.initial.self-inside.groups;
}

abbrev pub decreases-entries : goal.decreases-entries
decreases-entries l = length l.self-inside.entries
