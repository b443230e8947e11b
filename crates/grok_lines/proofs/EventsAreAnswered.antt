-- What is answered line by line are the answers to the events of the lines, and lines have no other events.
use Rattle.std.proofs.Common.{◌≡◌, ℕ, ◌+◌, ◌≤◌, ◌<◌, Bool, true, false, List, [], ◌∷◌, ◌++◌, ◌⊎◌, inl, inr, ◌==◌, if◌then◌else◌, nat_le, length, drop, refl, sym, ap, subst, ◌∙◌, append_assoc, append-nil, arith}
use Rattle.std.proofs.Math.Path.{fun_ext}
use Rattle.std.proofs.lemmas.Bool.{cases_Bool, eqb-true}
use Rattle.std.proofs.lemmas.Bool.Decides.{nat_tests}
use Rattle.std.proofs.lemmas.List.{length-append}
use Rattle.std.specs.List.{AllByRecursion, flat_map}
use Rattle.grok_lines.specs.Events.{event_text, EndOnlyWhenDue, AreEventsOf, event_answers, ended_events, AnswersEvents}
use Rattle.grok_lines.specs.LineLaws.{NoOtherEvents}
use Rattle.grok_lines.specs.EventStates.{EventState, begins_event, is_full, answer_so_far, answer_if_full, after_begin, after_more, after_end, ended_if_full, answers_after, StatesAnswerEvents}
use Rattle.grok_lines.proofs.EventsGoOn.{at_line, begins_first, begins_at_start}

-- ---- the events of an event that has begun and of the lines after it

-- a line after this many lines of an event begins the next one
abbrev ends_before : (List ℕ → Bool) → ℕ → ℕ → List ℕ → Bool
ends_before starts most count line = if nat_le most count then true else starts line

abbrev events_from : (List ℕ → Bool) → ℕ → List ℕ → List (List ℕ) → List (List ℕ) → List (List (List ℕ))
events_from starts most first more [] = (first ∷ more) ∷ []
events_from starts most first more (line ∷ lines) =
    if ends_before starts most (length (first ∷ more)) line then (first ∷ more) ∷ events_from starts most line [] lines
    else events_from starts most first (more ++ line ∷ []) lines

from_end : (starts : List ℕ → Bool) (most : ℕ) (first : List ℕ) (more : List (List ℕ)) (line : List ℕ) (lines : List (List ℕ)) → ends_before starts most (length (first ∷ more)) line ≡ true
    → events_from starts most first more (line ∷ lines) ≡ (first ∷ more) ∷ events_from starts most line [] lines
from_end starts most first more line lines h =
    ap (λ ends. if ends then (first ∷ more) ∷ events_from starts most line [] lines else events_from starts most first (more ++ line ∷ []) lines) h

from_more : (starts : List ℕ → Bool) (most : ℕ) (first : List ℕ) (more : List (List ℕ)) (line : List ℕ) (lines : List (List ℕ)) → ends_before starts most (length (first ∷ more)) line ≡ false
    → events_from starts most first more (line ∷ lines) ≡ events_from starts most first (more ++ line ∷ []) lines
from_more starts most first more line lines h =
    ap (λ ends. if ends then (first ∷ more) ∷ events_from starts most line [] lines else events_from starts most first (more ++ line ∷ []) lines) h

-- the first event begins with this line
head : (starts : List ℕ → Bool) (most : ℕ) (first : List ℕ) (more lines : List (List ℕ))
    → (rest : List (List ℕ)) × (others : List (List (List ℕ))) × (events_from starts most first more lines ≡ (first ∷ rest) ∷ others)
head starts most first more [] = (more, [], refl)
head starts most first more (line ∷ lines) =
    elim (cases_Bool (ends_before starts most (length (first ∷ more)) line)) [
      | inl ends ↦ (more, events_from starts most line [] lines, from_end starts most first more line lines ends)
      | inr goes_on ↦
          let h = head starts most first (more ++ line ∷ []) lines in
          (h.0, h.1, from_more starts most first more line lines goes_on ∙ h.2)
    ]

-- ---- they are the events

full-due : (full starts : Bool) → (if full then true else starts) ≡ true → (full ≡ true) ⊎ (starts ≡ true)
full-due true starts h = inl refl
full-due false starts h = inr h

not-full : (full starts : Bool) → (if full then true else starts) ≡ false → (full ≡ false) × (starts ≡ false)
not-full true starts h = let not : ⊥ = cc in absurd not
not-full false starts h = (refl, h)

le-true : (m n : ℕ) → nat_le m n ≡ true → m ≤ n
le-true m n h = grind (arith, nat_tests)

le-false : (m n : ℕ) → nat_le m n ≡ false → n < m
le-false m n h = grind (arith, nat_tests)

all-append : (P : List ℕ → Type 0) (lines : List (List ℕ)) (line : List ℕ) → AllByRecursion P lines → P line → AllByRecursion P (lines ++ line ∷ [])
all-append P [] line all p = (p, tt)
all-append P (x ∷ lines) line all p = (all.0, all-append P lines line all.1 p)

ends-cons : (starts : List ℕ → Bool) (most : ℕ) (event : List (List ℕ)) (line : List ℕ) (rest : List (List ℕ)) (others events : List (List (List ℕ)))
    → events ≡ (line ∷ rest) ∷ others → (length event ≡ most) ⊎ (starts line ≡ true) → EndOnlyWhenDue starts most events → EndOnlyWhenDue starts most (event ∷ events)
ends-cons starts most event line rest others events e due ends = let more : EndOnlyWhenDue starts most ((line ∷ rest) ∷ others) = rw e at ends in rw e (due, more)

due-at : (starts : List ℕ → Bool) (most count : ℕ) (line : List ℕ) → count ≤ most → ends_before starts most count line ≡ true → (count ≡ most) ⊎ (starts line ≡ true)
due-at starts most count line le ends =
    elim (full-due (nat_le most count) (starts line) ends) [
      | inl full ↦ let ge : most ≤ count = le-true most count full in let same : count ≡ most = omega arith in inl same
      | inr start ↦ inr start
    ]

are_events : (starts : List ℕ → Bool) (most : ℕ) (first : List ℕ) (more lines : List (List ℕ)) → 1 ≤ most → length (first ∷ more) ≤ most
    → AllByRecursion (λ line. starts line ≡ false) more → AreEventsOf starts most ((first ∷ more) ++ lines) (events_from starts most first more lines)
are_events starts most first more [] one le none = record {
  joined = refl;
  sizes = ((omega arith, le), tt);
  inside = (none, tt);
  ends = tt;
}
are_events starts most first more (line ∷ lines) one le none =
    elim (cases_Bool (ends_before starts most (length (first ∷ more)) line)) [
      | inl ends ↦
          let one_line : length (line ∷ []) ≤ most = omega arith in
          let rest = are_events starts most line [] lines one one_line tt in
          let h = head starts most line [] lines in
          let due = due-at starts most (length (first ∷ more)) line le ends in
          rw (from_end starts most first more line lines ends) (record {
            joined = ap (λ v. (first ∷ more) ++ v) rest.joined;
            sizes = ((omega arith, le), rest.sizes);
            inside = (none, rest.inside);
            ends = ends-cons starts most (first ∷ more) line h.0 h.1 (events_from starts most line [] lines) h.2 due rest.ends;
          })
      | inr goes_on ↦
          let no = not-full (nat_le most (length (first ∷ more))) (starts line) goes_on in
          let room : length (first ∷ more) < most = le-false most (length (first ∷ more)) no.0 in
          let size : length (first ∷ (more ++ line ∷ [])) ≤ most = omega (arith, length-append more (line ∷ [])) in
          let rest = are_events starts most first (more ++ line ∷ []) lines one size (all-append (λ line. starts line ≡ false) more line none no.1) in
          rw (from_more starts most first more line lines goes_on) (record {
            joined = rest.joined ∙ append_assoc (first ∷ more) (line ∷ []) lines;
            sizes = rest.sizes;
            inside = rest.inside;
            ends = rest.ends;
          })
    ]

-- ---- they are answered

text-append : (first : List ℕ) (more : List (List ℕ)) (line : List ℕ) → event_text (first ∷ (more ++ line ∷ [])) ≡ event_text (first ∷ more) ++ 10 ∷ line
text-append first [] line = refl
text-append first (second ∷ more) line =
    ap (λ v. first ++ 10 ∷ v) (text-append second more line) ∙ sym (append_assoc first (10 ∷ event_text (second ∷ more)) (10 ∷ line))

ended-cons : (most : ℕ) (event next : List (List ℕ)) (others events : List (List (List ℕ))) → events ≡ next ∷ others
    → ended_events most (event ∷ events) ≡ event ∷ ended_events most events
ended-cons most event next others events e = rw e refl

some-lines : (count : ℕ) (x y : List ℕ) → 1 ≤ count → (if count == 0 then x else y) ≡ y
some-lines count x y one =
    elim (cases_Bool (count == 0)) [
      | inl none ↦ let is : count ≡ 0 = eqb-true count 0 none in absurd (omega arith)
      | inr some ↦ ap (λ none. if none then x else y) some
    ]

-- what is answered from a state on that has taken the last line of `first ∷ more`, an event that may be full now
pub record Answered (state : EventState) (first : List ℕ) (more lines : List (List ℕ)) : Type 0 where
  pub all : answer_if_full state ++ answers_after answer_so_far (ended_if_full state) lines
      ≡ event_answers state.answer (events_from state.starts state.most first more lines)
  pub known : answer_if_full state ++ answers_after (λ state. []) (ended_if_full state) lines
      ≡ event_answers state.answer (ended_events state.most (events_from state.starts state.most first more lines))

-- by whether it is full
at_full : (last : EventState → List ℕ) (full : Bool) (state : EventState) (lines : List (List ℕ)) → is_full state ≡ full
    → answer_if_full state ++ answers_after last (ended_if_full state) lines
    ≡ (if full then state.answer 0 state.text else []) ++ answers_after last (if full then after_end state else state) lines
at_full last full state lines h = ap (λ full. (if full then state.answer 0 state.text else []) ++ answers_after last (if full then after_end state else state) lines) h

text_answer : (state : EventState) (first : List ℕ) (more : List (List ℕ)) → state.text ≡ event_text (first ∷ more) → state.answer 0 state.text ≡ state.answer 0 (event_text (first ∷ more))
text_answer state first more text = ap (state.answer 0) text

-- the answers to later events, which are numbered on from this one
later_is : (state : EventState) (first : List ℕ) (more : List (List ℕ)) → state.line_count ≡ length (first ∷ more) → (k : ℕ → ℕ) → ((n : ℕ) → k n ≡ state.line_count + n)
    → (events : List (List (List ℕ)))
    → event_answers (λ n. state.answer (k n)) events ≡ event_answers (λ n. state.answer (length (first ∷ more) + n)) events
later_is state first more count k same events =
    ap (λ (k : ℕ → ℕ). event_answers (λ n. state.answer (k n)) events) (fun_ext (λ n. same n ∙ ap (λ m. m + n) count))

ends-full : (starts : List ℕ → Bool) (most count : ℕ) (line : List ℕ) → nat_le most count ≡ true → ends_before starts most count line ≡ true
ends-full starts most count line h = ap (λ full. if full then true else starts line) h

ends-room : (starts : List ℕ → Bool) (most count : ℕ) (line : List ℕ) → nat_le most count ≡ false → ends_before starts most count line ≡ starts line
ends-room starts most count line h = ap (λ full. if full then true else starts line) h

answered : (state : EventState) (first : List ℕ) (more lines : List (List ℕ)) → state.line_count ≡ length (first ∷ more) → state.text ≡ event_text (first ∷ more)
    → Answered state first more lines
answered state first more [] count text =
    elim (cases_Bool (is_full state)) [
      | inl full ↦
          let size : nat_le state.most (length (first ∷ more)) ≡ true = ap (nat_le state.most) (sym count) ∙ full in
          record {
            all = at_full answer_so_far true state [] full ∙ ap (λ v. v ++ []) (text_answer state first more text);
            known = at_full (λ state. []) true state [] full ∙ ap (λ v. v ++ []) (text_answer state first more text)
                ∙ ap (λ full. event_answers state.answer (if full then (first ∷ more) ∷ [] else [])) (sym size);
          }
      | inr room ↦
          let one : 1 ≤ state.line_count = omega (arith, count) in
          let size : nat_le state.most (length (first ∷ more)) ≡ false = ap (nat_le state.most) (sym count) ∙ room in
          record {
            all = at_full answer_so_far false state [] room ∙ some-lines state.line_count [] (state.answer 0 state.text) one
                ∙ text_answer state first more text ∙ sym (append-nil (state.answer 0 (event_text (first ∷ more))));
            known = at_full (λ state. []) false state [] room
                ∙ ap (λ full. event_answers state.answer (if full then (first ∷ more) ∷ [] else [])) (sym size);
          }
    ]
answered state first more (line ∷ lines) count text =
    let one : 1 ≤ state.line_count = omega (arith, count) in
    let h = head state.starts state.most line [] lines in
    let events = events_from state.starts state.most line [] lines in
    let answer = state.answer 0 (event_text (first ∷ more)) in
    elim (cases_Bool (is_full state)) [
      | inl full ↦
          let size : nat_le state.most (length (first ∷ more)) ≡ true = ap (nat_le state.most) (sym count) ∙ full in
          let from = from_end state.starts state.most first more line lines (ends-full state.starts state.most (length (first ∷ more)) line size) in
          let ended = ap (ended_events state.most) from ∙ ended-cons state.most (first ∷ more) (line ∷ h.0) h.1 events h.2 in
          let next = after_begin line (after_end state) in
          let rest = answered next line [] lines refl refl in
          let begins : begins_event (after_end state) line ≡ true = refl in
          let numbered : (n : ℕ) → state.line_count + (0 + n) ≡ state.line_count + n = λ n. omega arith in
          let later = later_is state first more count (λ n. state.line_count + (0 + n)) numbered in
          record {
            all = at_full answer_so_far true state (line ∷ lines) full
                ∙ ap (λ v. state.answer 0 state.text ++ v) (at_line answer_so_far true (after_end state) line lines begins ∙ rest.all ∙ later events)
                ∙ ap (λ v. v ++ event_answers (λ n. state.answer (length (first ∷ more) + n)) events) (text_answer state first more text)
                ∙ ap (event_answers state.answer) (sym from);
            known = at_full (λ state. []) true state (line ∷ lines) full
                ∙ ap (λ v. state.answer 0 state.text ++ v) (at_line (λ state. []) true (after_end state) line lines begins ∙ rest.known ∙ later (ended_events state.most events))
                ∙ ap (λ v. v ++ event_answers (λ n. state.answer (length (first ∷ more) + n)) (ended_events state.most events)) (text_answer state first more text)
                ∙ ap (event_answers state.answer) (sym ended);
          }
      | inr room ↦
          let size : nat_le state.most (length (first ∷ more)) ≡ false = ap (nat_le state.most) (sym count) ∙ room in
          let ends = ends-room state.starts state.most (length (first ∷ more)) line size in
          let begins = begins_at_start state line one in
          elim (cases_Bool (state.starts line)) [
            | inl start ↦
                let from = from_end state.starts state.most first more line lines (ends ∙ start) in
                let ended = ap (ended_events state.most) from ∙ ended-cons state.most (first ∷ more) (line ∷ h.0) h.1 events h.2 in
                let next = after_begin line state in
                let rest = answered next line [] lines refl refl in
                let numbered : (n : ℕ) → state.line_count + n ≡ state.line_count + n = λ n. refl in
                let later = later_is state first more count (λ n. state.line_count + n) numbered in
                let so_far : answer_so_far state ≡ answer = some-lines state.line_count [] (state.answer 0 state.text) one ∙ text_answer state first more text in
                record {
                  all = at_full answer_so_far false state (line ∷ lines) room
                      ∙ at_line answer_so_far true state line lines (begins ∙ start)
                      ∙ append_assoc (answer_so_far state) (answer_if_full next) (answers_after answer_so_far (ended_if_full next) lines)
                      ∙ ap (λ v. answer_so_far state ++ v) (rest.all ∙ later events)
                      ∙ ap (λ v. v ++ event_answers (λ n. state.answer (length (first ∷ more) + n)) events) so_far
                      ∙ ap (event_answers state.answer) (sym from);
                  known = at_full (λ state. []) false state (line ∷ lines) room
                      ∙ at_line (λ state. []) true state line lines (begins ∙ start)
                      ∙ append_assoc (answer_so_far state) (answer_if_full next) (answers_after (λ state. []) (ended_if_full next) lines)
                      ∙ ap (λ v. answer_so_far state ++ v) (rest.known ∙ later (ended_events state.most events))
                      ∙ ap (λ v. v ++ event_answers (λ n. state.answer (length (first ∷ more) + n)) (ended_events state.most events)) so_far
                      ∙ ap (event_answers state.answer) (sym ended);
                }
            | inr no_start ↦
                let longer : state.line_count + 1 ≡ length (first ∷ (more ++ line ∷ [])) = omega (arith, count, length-append more (line ∷ [])) in
                let joined : state.text ++ 10 ∷ line ≡ event_text (first ∷ (more ++ line ∷ [])) = ap (λ v. v ++ 10 ∷ line) text ∙ sym (text-append first more line) in
                let rest = answered (after_more line state) first (more ++ line ∷ []) lines longer joined in
                let from = from_more state.starts state.most first more line lines (ends ∙ no_start) in
                record {
                  all = at_full answer_so_far false state (line ∷ lines) room ∙ at_line answer_so_far false state line lines (begins ∙ no_start)
                      ∙ rest.all ∙ ap (event_answers state.answer) (sym from);
                  known = at_full (λ state. []) false state (line ∷ lines) room ∙ at_line (λ state. []) false state line lines (begins ∙ no_start)
                      ∙ rest.known ∙ ap (λ events. event_answers state.answer (ended_events state.most events)) (sym from);
                }
          ]
    ]

none_so_far : (state : EventState) → state.line_count ≡ 0 → answer_so_far state ≡ []
none_so_far state none = rw none refl

numbered_on : (state : EventState) → state.line_count ≡ 0 → (λ (n : ℕ). state.answer (state.line_count + n)) ≡ state.answer
numbered_on state none = fun_ext (λ n. let same : state.line_count + n ≡ n = omega (arith, none) in ap state.answer same)

pub states_answer_events : StatesAnswerEvents
states_answer_events state none one [] = (
  [],
  record { joined = refl; sizes = tt; inside = tt; ends = tt },
  none_so_far state none,
  refl,
)
states_answer_events state none one (line ∷ lines) =
    let one_line : length (line ∷ []) ≤ state.most = omega arith in
    let are = are_events state.starts state.most line [] lines one one_line tt in
    let next = after_begin line state in
    let rest = answered next line [] lines refl refl in
    let events = events_from state.starts state.most line [] lines in
    let begins = begins_first state line none in (
      events,
      are,
      at_line answer_so_far true state line lines begins
          ∙ append_assoc (answer_so_far state) (answer_if_full next) (answers_after answer_so_far (ended_if_full next) lines)
          ∙ ap (λ v. v ++ (answer_if_full next ++ answers_after answer_so_far (ended_if_full next) lines)) (none_so_far state none)
          ∙ rest.all ∙ ap (λ answer. event_answers answer events) (numbered_on state none),
      at_line (λ state. []) true state line lines begins
          ∙ append_assoc (answer_so_far state) (answer_if_full next) (answers_after (λ state. []) (ended_if_full next) lines)
          ∙ ap (λ v. v ++ (answer_if_full next ++ answers_after (λ state. []) (ended_if_full next) lines)) (none_so_far state none)
          ∙ rest.known ∙ ap (λ answer. event_answers answer (ended_events state.most events)) (numbered_on state none),
    )

-- A new `EventAnswers` answers the events.
pub new_answers : (answer : ℕ → List ℕ → List ℕ) (starts : List ℕ → Bool) (most value : ℕ) → value ≡ most → 0 < value
    → AnswersEvents answer starts most
    (answers_after answer_so_far (record { answer = λ n. answer (0 + n); starts = starts; most = value; line_count = 0; text = [] }))
    (answers_after (λ state. []) (record { answer = λ n. answer (0 + n); starts = starts; most = value; line_count = 0; text = [] }))
new_answers answer starts most value is some lines =
    let state : EventState = record { answer = λ n. answer (0 + n); starts = starts; most = value; line_count = 0; text = [] } in
    let one : 1 ≤ value = omega arith in
    let all = states_answer_events state refl one lines in
    let Are : ℕ → Type 0 = λ most. AreEventsOf starts most lines all.0 in
    let same : (λ (n : ℕ). answer (0 + n)) ≡ answer = fun_ext (λ n. let zero_more : 0 + n ≡ n = omega arith in ap answer zero_more) in (
      all.0,
      subst Are is all.1,
      all.2 ∙ ap (λ answer. event_answers answer all.0) same,
      all.3 ∙ ap (λ answer. event_answers answer (ended_events value all.0)) same ∙ ap (λ most. event_answers answer (ended_events most all.0)) is,
    )

-- ---- there are no others

-- the lines that no event may begin at go into the event so far
walk : (starts : List ℕ → Bool) (most : ℕ) (first : List ℕ) (before more tail : List (List ℕ)) → length (first ∷ before) + length more ≤ most
    → AllByRecursion (λ line. starts line ≡ false) more
    → events_from starts most first before (more ++ tail) ≡ events_from starts most first (before ++ more) tail
walk starts most first before [] tail le none = ap (λ v. events_from starts most first v tail) (sym (append-nil before))
walk starts most first before (line ∷ more) tail le none =
    let room : length (first ∷ before) < most = omega arith in
    let le' : length (first ∷ (before ++ line ∷ [])) + length more ≤ most = omega (arith, length-append before (line ∷ [])) in
    let goes_on : ends_before starts most (length (first ∷ before)) line ≡ false = stays (nat_le most (length (first ∷ before))) (starts line) (not-le most (length (first ∷ before)) room) none.0 in
    from_more starts most first before line (more ++ tail) goes_on ∙ walk starts most first (before ++ line ∷ []) more tail le' none.1
    ∙ ap (λ v. events_from starts most first v tail) (append_assoc before (line ∷ []) more)
  where
    stays : (full start : Bool) → full ≡ false → start ≡ false → (if full then true else start) ≡ false
    stays full start f s = rw f s

    not-le : (m n : ℕ) → n < m → nat_le m n ≡ false
    not-le m n lt = grind (arith, nat_tests)

-- these events are those that are found by reading their lines
unique : (starts : List ℕ → Bool) (most : ℕ) (first : List ℕ) (more : List (List ℕ)) (rest : List (List (List ℕ)))
    → AllByRecursion (λ event. (1 ≤ length event) × (length event ≤ most)) ((first ∷ more) ∷ rest)
    → AllByRecursion (λ event. AllByRecursion (λ line. starts line ≡ false) (drop 1 event)) ((first ∷ more) ∷ rest)
    → EndOnlyWhenDue starts most ((first ∷ more) ∷ rest)
    → events_from starts most first [] (more ++ flat_map (λ event. event) rest) ≡ (first ∷ more) ∷ rest
unique starts most first more [] sizes inside ends =
    let le : length (first ∷ []) + length more ≤ most = omega (arith, sizes.0.1) in
    walk starts most first [] more [] le inside.0
unique starts most first more ([] ∷ rest) sizes inside ends = absurd (omega (arith, sizes.1.0.0))
unique starts most first more ((line ∷ lines) ∷ rest) sizes inside ends =
    let le : length (first ∷ []) + length more ≤ most = omega (arith, sizes.0.1) in
    let due = due-true starts most (length (first ∷ more)) line ends.0 in
    walk starts most first [] more (line ∷ (lines ++ flat_map (λ event. event) rest)) le inside.0
    ∙ from_end starts most first more line (lines ++ flat_map (λ event. event) rest) due
    ∙ ap (λ events. (first ∷ more) ∷ events) (unique starts most line lines rest sizes.1 inside.1 ends.1)
  where
    le-self : (m n : ℕ) → n ≡ m → nat_le m n ≡ true
    le-self m n e = grind (arith, nat_tests)

    started : (full start : Bool) → start ≡ true → (if full then true else start) ≡ true
    started true start h = refl
    started false start h = h

    due-true : (starts : List ℕ → Bool) (most count : ℕ) (line : List ℕ) → (count ≡ most) ⊎ (starts line ≡ true) → ends_before starts most count line ≡ true
    due-true starts most count line due = elim due [
      | inl full ↦ ap (λ full. if full then true else starts line) (le-self most count full)
      | inr start ↦ started (nat_le most count) (starts line) start
    ]

pub no_other_events : NoOtherEvents
no_other_events starts most lines [] [] a b = refl
no_other_events starts most lines ([] ∷ events) others a b = absurd (omega (arith, a.sizes.0.0))
no_other_events starts most lines events ([] ∷ others) a b = absurd (omega (arith, b.sizes.0.0))
no_other_events starts most lines [] ((first ∷ more) ∷ others) a b =
    let bad : (first ∷ more) ++ flat_map (λ event. event) others ≡ [] = b.joined ∙ sym a.joined in
    let not : ⊥ = cc in absurd not
no_other_events starts most lines ((first ∷ more) ∷ events) [] a b =
    let bad : (first ∷ more) ++ flat_map (λ event. event) events ≡ [] = a.joined ∙ sym b.joined in
    let not : ⊥ = cc in absurd not
no_other_events starts most lines ((first ∷ more) ∷ events) ((first' ∷ more') ∷ others) a b =
    let same : first' ∷ (more' ++ flat_map (λ event. event) others) ≡ first ∷ (more ++ flat_map (λ event. event) events) = b.joined ∙ sym a.joined in
    let of_a = unique starts most first more events a.sizes a.inside a.ends in
    let of_b = unique starts most first' more' others b.sizes b.inside b.ends in
    let first_same : first' ≡ first = cc in
    let more_same : more' ++ flat_map (λ event. event) others ≡ more ++ flat_map (λ event. event) events = cc in
    sym of_b ∙ ap (λ line. events_from starts most line [] (more' ++ flat_map (λ event. event) others)) first_same
    ∙ ap (λ lines. events_from starts most first [] lines) more_same ∙ of_a
