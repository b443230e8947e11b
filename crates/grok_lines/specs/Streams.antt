-- The answers to the lines of an input, and how many of them were written. `answers lines` is what is written for
-- `lines`: the answer to each of them, one after another.
use Rattle.std.specs.Prelude.{◌≡◌, ℕ, suc, ◌+◌, List, [], ◌∷◌, ◌++◌, Option, length}
use Rattle.std.specs.Io.KnownBytes.{Appends, Consumes, IsAtEnd, append_known}
use Rattle.grok_lines.specs.Lines.{lines_of, ended_lines_of}
use Rattle.grok_lines.specs.Traffic.{Traffic, traffic}

-- ---- answers that may depend on how many lines came before

-- the answers to these lines, where `answer n` answers the n-th of them, counted from 0
abbrev pub answers_of : (ℕ → List ℕ → List ℕ) → List (List ℕ) → List ℕ
answers_of answer [] = []
answers_of answer (line ∷ lines) = answer 0 line ++ answers_of (λ n. answer (suc n)) lines

-- `later` answers the lines that follow the first `count` lines. It numbers them from 0, so line `n` of `later` is line
-- `count + n` of `answer`.
abbrev pub AreAnswersAfter : ℕ → (ℕ → List ℕ → List ℕ) → (ℕ → List ℕ → List ℕ) → Type 0
AreAnswersAfter count answer later = (n : ℕ) → later n ≡ answer (count + n)

-- ---- handlers of lines, which may wait for later lines before they write

-- A handler that was `old` is `new` after these lines. `answers`, `first_answers` and `is_next` are what the trait
-- `LineHandler` says of a handler. More lines, and the end of the input, are to `old` after the lines what they are to
-- `new`.
pub record GoesOn {H : Type 0} (answers first_answers : H → List (List ℕ) → List ℕ) (is_next : H → List (List ℕ) → H → Type 0)
    (old : H) (lines : List (List ℕ)) (new : H) : Type 0 where
  pub first : (more : List (List ℕ)) → first_answers old (lines ++ more) ≡ first_answers old lines ++ first_answers new more
  pub all : (more : List (List ℕ)) → answers old (lines ++ more) ≡ first_answers old lines ++ answers new more
  pub next : (more : List (List ℕ)) (later : H) → is_next new more later → is_next old (lines ++ more) later

-- ---- which answers were written

-- The answers to the first of the lines (none, some or all) were written, each as a whole, and nothing else. `old`
-- and `new` are the bytes that the output had before and has after.
abbrev pub HasBegunLines : (List (List ℕ) → List ℕ) → List (List ℕ) → Option (List ℕ) → Option (List ℕ) → Type 0
HasBegunLines answers lines old new = (sent unsent : List (List ℕ)) × (lines ≡ sent ++ unsent)
    × Appends old new (answers sent)

-- the whole input was read, and the answers to its lines were written, and nothing else
abbrev pub HasAnsweredInput : (List (List ℕ) → List ℕ) → Traffic → Type 0
HasAnsweredInput answers t = (bytes : List ℕ) × Consumes t.unread_old t.unread_new bytes × IsAtEnd t.unread_new
    × Appends t.written_old t.written_new (answers (lines_of bytes))

-- The whole input was read, and the answers to its lines by `answer` were written, and nothing else. `later` answers
-- the lines of the next input, whose numbers go on after those of this input.
abbrev pub HasAnsweredInputThen : (ℕ → List ℕ → List ℕ) → (ℕ → List ℕ → List ℕ) → Traffic → Type 0
HasAnsweredInputThen answer later t = (bytes : List ℕ) × Consumes t.unread_old t.unread_new bytes × IsAtEnd t.unread_new
    × Appends t.written_old t.written_new (answers_of answer (lines_of bytes))
    × AreAnswersAfter (length (lines_of bytes)) answer later

-- The whole input was read, and the answers to its lines were written, and nothing else. Of its lines, `Holds` is true.
abbrev pub HasAnsweredInputAnd : (List (List ℕ) → List ℕ) → (List (List ℕ) → Type 0) → Traffic → Type 0
HasAnsweredInputAnd answers Holds t = (bytes : List ℕ) × Consumes t.unread_old t.unread_new bytes × IsAtEnd t.unread_new
    × Appends t.written_old t.written_new (answers (lines_of bytes))
    × Holds (lines_of bytes)

-- the answers to those lines of what was read that end in a line feed were written, and nothing else
abbrev pub HasAnsweredEnded : (List (List ℕ) → List ℕ) → Traffic → Type 0
HasAnsweredEnded answers t = (bytes : List ℕ) × Consumes t.unread_old t.unread_new bytes
    × Appends t.written_old t.written_new (answers (ended_lines_of bytes))

-- The answers to those lines of what was read that end in a line feed were written, and nothing else. Of these lines,
-- `Holds` is true.
abbrev pub HasAnsweredEndedAnd : (List (List ℕ) → List ℕ) → (List (List ℕ) → Type 0) → Traffic → Type 0
HasAnsweredEndedAnd answers Holds t = (bytes : List ℕ) × Consumes t.unread_old t.unread_new bytes
    × Appends t.written_old t.written_new (answers (ended_lines_of bytes))
    × Holds (ended_lines_of bytes)

-- The answers to the first lines of what was read (none, some or all) were written, each as a whole, and nothing
-- else.
abbrev pub HasAnsweredSome : (List (List ℕ) → List ℕ) → Traffic → Type 0
HasAnsweredSome answers t = (bytes : List ℕ) × Consumes t.unread_old t.unread_new bytes
    × HasBegunLines answers (lines_of bytes) t.written_old t.written_new

-- ---- what was written when the output failed

-- The output got a beginning of `bytes` (none, some or all of them). If it had got `unsent` too, it would have got all.
abbrev pub AppendsBeginning : Option (List ℕ) → Option (List ℕ) → List ℕ → Type 0
AppendsBeginning old new bytes = (unsent : List ℕ) × Appends old (append_known new unsent) bytes

-- The output got a beginning of something that it might have got. If it had got the bytes `unsent` too, `Is` would be
-- true of what was read and written.
abbrev pub HasBegun : (Traffic → Type 0) → Traffic → Type 0
HasBegun Is t = (unsent : List ℕ)
    × Is (traffic t.unread_old t.unread_new t.written_old (append_known t.written_new unsent))
