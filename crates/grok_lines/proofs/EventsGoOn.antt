-- Each line takes a handler of events on by that line.
use Rattle.std.proofs.Common.{◌≡◌, ℕ, ◌+◌, ◌≤◌, Bool, true, false, List, [], ◌∷◌, ◌++◌, ◌==◌, if◌then◌else◌, length, inl, inr, refl, sym, ap, ◌∙◌, append-nil, append_assoc, arith}
use Rattle.std.proofs.lemmas.Bool.{cases_Bool, eqb-true}
use Rattle.grok_lines.specs.Streams.{GoesOn}
use Rattle.grok_lines.specs.EventStates.{EventState, begins_event, is_full, answer_so_far, answer_if_full, with_line, after_end, ended_if_full, answers_after, IsNextState}
use Rattle.grok_lines.proofs.HandlersGoOn.{goes_on_none}

-- what a line adds to the answers, if it begins an event or not
abbrev pub answered_at : Bool → EventState → List ℕ → List ℕ
answered_at begins state line = (if begins then answer_so_far state else []) ++ answer_if_full (with_line begins line state)

pub at_line : (last : EventState → List ℕ) (begins : Bool) (state : EventState) (line : List ℕ) (lines : List (List ℕ)) → begins_event state line ≡ begins
    → answers_after last state (line ∷ lines) ≡ answered_at begins state line ++ answers_after last (ended_if_full (with_line begins line state)) lines
at_line last begins state line lines h =
    ap (λ begins. (if begins then answer_so_far state else [])
    ++ (answer_if_full (with_line begins line state) ++ answers_after last (ended_if_full (with_line begins line state)) lines)) h
    ∙ sym (append_assoc (if begins then answer_so_far state else []) (answer_if_full (with_line begins line state))
    (answers_after last (ended_if_full (with_line begins line state)) lines))

-- the lines are numbered on
numbered-line : (begins : Bool) (state : EventState) (line : List ℕ) (n : ℕ)
    → (with_line begins line state).answer ((with_line begins line state).line_count + n) ≡ state.answer (state.line_count + (1 + n))
numbered-line true state line n = refl
numbered-line false state line n = let same : state.line_count + 1 + n ≡ state.line_count + (1 + n) = omega arith in ap state.answer same

if-full : (full : Bool) (state : EventState) (n : ℕ) → (if full then after_end state else state).answer ((if full then after_end state else state).line_count + n) ≡ state.answer (state.line_count + n)
if-full true state n = let same : state.line_count + (0 + n) ≡ state.line_count + n = omega arith in ap state.answer same
if-full false state n = refl

same-starts : (full begins : Bool) (state : EventState) (line : List ℕ) → (if full then after_end (with_line begins line state) else with_line begins line state).starts ≡ state.starts
same-starts true true state line = refl
same-starts true false state line = refl
same-starts false true state line = refl
same-starts false false state line = refl

same-most : (full begins : Bool) (state : EventState) (line : List ℕ) → (if full then after_end (with_line begins line state) else with_line begins line state).most ≡ state.most
same-most true true state line = refl
same-most true false state line = refl
same-most false true state line = refl
same-most false false state line = refl

at_next : (begins : Bool) (state : EventState) (line : List ℕ) (more : List (List ℕ)) (later : EventState)
    → IsNextState (ended_if_full (with_line begins line state)) more later → IsNextState state (line ∷ more) later
at_next begins state line more later is =
    let next = with_line begins line state in
    let closed = ended_if_full next in
    record {
      none = is.none;
      starts = is.starts ∙ same-starts (is_full next) begins state line;
      most = is.most ∙ same-most (is_full next) begins state line;
      answer = λ n.
          let one : closed.line_count + length more + n ≡ closed.line_count + (length more + n) = omega arith in
          let two : state.line_count + (1 + (length more + n)) ≡ state.line_count + length (line ∷ more) + n = omega arith in
          is.answer n ∙ ap closed.answer one ∙ if-full (is_full next) next (length more + n) ∙ numbered-line begins state line (length more + n) ∙ ap state.answer two;
    }

taken : (begins : Bool) (state : EventState) (line : List ℕ) → begins_event state line ≡ begins
    → GoesOn (answers_after answer_so_far) (answers_after (λ state. [])) IsNextState state (line ∷ []) (ended_if_full (with_line begins line state))
taken begins state line h =
    let next = ended_if_full (with_line begins line state) in
    let first : answered_at begins state line ≡ answers_after (λ state. []) state (line ∷ [])
    = sym (at_line (λ state. []) begins state line [] h ∙ append-nil (answered_at begins state line)) in
    record {
      first = λ more. at_line (λ state. []) begins state line more h ∙ ap (λ v. v ++ answers_after (λ state. []) next more) first;
      all = λ more. at_line answer_so_far begins state line more h ∙ ap (λ v. v ++ answers_after answer_so_far next more) first;
      next = λ more later is. at_next begins state line more later is;
    }

pub state_taken : (begins : Bool) (state new : EventState) (line : List ℕ) → begins_event state line ≡ begins → new ≡ ended_if_full (with_line begins line state)
    → GoesOn (answers_after answer_so_far) (answers_after (λ state. [])) IsNextState state (line ∷ []) new
state_taken begins state new line h is = rw is (taken begins state line h)

pub state_same : (state new : EventState) → new ≡ state → GoesOn (answers_after answer_so_far) (answers_after (λ state. [])) IsNextState state [] new
state_same state new is = rw is (goes_on_none (answers_after answer_so_far) (answers_after (λ state. [])) IsNextState (λ state. refl) state)

-- ---- whether a line begins an event

pub begins_first : (state : EventState) (line : List ℕ) → state.line_count ≡ 0 → begins_event state line ≡ true
begins_first state line none = rw none refl

pub begins_at_start : (state : EventState) (line : List ℕ) → 1 ≤ state.line_count → begins_event state line ≡ state.starts line
begins_at_start state line one =
    elim (cases_Bool (state.line_count == 0)) [
      | inl none ↦ let is : state.line_count ≡ 0 = eqb-true state.line_count 0 none in absurd (omega arith)
      | inr some ↦ ap (λ none. if none then true else state.starts line) some
    ]
