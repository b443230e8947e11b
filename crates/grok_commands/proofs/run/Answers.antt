use Rattle.std.proofs.Common.{◌≡◌, ◌⊎◌, inl, inr, ℕ, List, Option, Some, None, Result, Ok, Err, OnOk, IfErr, IsErrOf, map, refl, subst}
use Rattle.std.specs.FinMap as finite
use Rattle.std.specs.Io.KnownBytes.{Keeps}
use Rattle.grok_parser.specs.Pieces.{pieces}
use Rattle.grok_commands.specs.Answers.{HasAnswered, HasAnsweredFirst}
use Rattle.grok_commands.specs.Commands.{CommandValue, Split, Check, texts, command_of}
use Rattle.grok_commands.specs.Library.{library_of}
use Rattle.grok_commands.specs.Runs.{Answer, Job, Each, PieceLine, CheckLine, IsAnswer, HasJob, IsDone, IsCutShort, IsWriteFault, EndsAs, IsRunOf}
use Rattle.grok_commands.specs.declared.fault.ToolFault.{ToolFault}
use Rattle.grok_commands.specs.declared.fault.ToolFault.TheVariants as fault
use Rattle.grok_lines.specs.Traffic.{traffic}
use Rattle.grok_commands.proofs.FirstAnswersHaveGoneOut.{answered_mapped, begun_mapped}
use Rattle.grok_commands.proofs.run.Goals as goal

-- bytes that are neither read nor written stay as they are
kept : (bytes : Option (List ℕ)) → Keeps bytes bytes
kept None = tt
kept (Some bytes) = refl

-- how a run of `split` or `check` ends, which writes an answer for each of these and reads nothing
each_ended : {A : Type 0} (answer : A → Answer) (xs : List A) (r w v : Option (List ℕ)) (command : CommandValue)
    → ((Is : Job → Type 0) → Is (Each (map answer xs)) → HasJob command Is)
    → (result : Result (Unit {0}) ToolFault)
    → OnOk result (HasAnswered (λ x. IsAnswer (answer x)) xs w v)
    → (IsErrOf result fault.Memory → HasAnsweredFirst (λ x. IsAnswer (answer x)) xs w v)
    → IfErr result (λ f. (f ≡ fault.Memory) ⊎ (f ≡ fault.Write))
    → EndsAs command result (traffic r r w v)
each_ended answer xs r w v command has (Ok _) ok memory kind =
    has (IsDone (traffic r r w v)) (kept r, answered_mapped IsAnswer answer xs w v ok)
each_ended answer xs r w v command has (Err fault.Memory) ok memory kind =
    inr (has (IsCutShort (traffic r r w v)) (kept r, begun_mapped IsAnswer answer xs w v (memory refl)))
each_ended answer xs r w v command has (Err fault.Write) ok memory kind =
    has (IsWriteFault (traffic r r w v)) (kept r)
each_ended answer xs r w v command has (Err fault.Read) ok memory kind = elim kind [ inl is ↦ cc | inr is ↦ cc ]
each_ended answer xs r w v command has (Err fault.Usage) ok memory kind = elim kind [ inl is ↦ cc | inr is ↦ cc ]
each_ended answer xs r w v command has (Err (fault.Pattern error)) ok memory kind = elim kind [ inl is ↦ cc | inr is ↦ cc ]

pub returns-in-Split : goal.returns-in-Split
returns-in-Split g c =
    let r = g.R.Read.remaining c.args.input.now in
    let w = g.W.Write.contents c.args.output.now in
    let v = g.W.Write.contents c.split.new.output in
    let pattern = c.in-Split.pattern.now in
    let is : Some (Split pattern) ≡ command_of (texts c.args.words.now) = rw c.in-Split.is at c.in-Some.ensures in
    subst (λ command. IsRunOf command c.split.result (traffic r r w v)) is
    (each_ended PieceLine (pieces pattern) r w v (Split pattern) (λ Is h. h) c.split.result
    c.split.ensures.ok c.split.ensures.memory c.split.ensures.kind)

pub returns-in-Check : goal.returns-in-Check
returns-in-Check g c =
    let r = g.R.Read.remaining c.args.input.now in
    let w = g.W.Write.contents c.args.output.now in
    let v = g.W.Write.contents c.check_definitions.new.output in
    let alias_only = c.in-Check.alias_only in
    let definitions = c.in-Check.definitions in
    let all = library_of definitions in
    let is : Some (Check alias_only definitions) ≡ command_of (texts c.args.words.now) = rw c.in-Check.is at c.in-Some.ensures in
    subst (λ command. IsRunOf command c.check_definitions.result (traffic r r w v)) is
    (each_ended (CheckLine all alias_only) (finite.keys all) r w v (Check alias_only definitions) (λ Is h. h) c.check_definitions.result
    c.check_definitions.ensures.ok c.check_definitions.ensures.memory c.check_definitions.ensures.kind)
