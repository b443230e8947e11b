-- What a command prints, and how a run of it ends.
use Rattle.std.specs.Prelude.{◌≡◌, ◌≢◌, ◌⊎◌, ℕ, Bool, List, [], ◌∷◌, ◌++◌, Option, Some, None, Result, Ok, Err, map, codes, length, flat_map}
use Rattle.std.specs.Io.KnownBytes.{Appends, Keeps}
use Rattle.std.specs.FinMap as finite
use Rattle.grok.specs.Strings.{regex_source, regex_names}
use Rattle.grok.specs.declared.engine.regex_engine.RegexEngine.{RegexEngine}
use Rattle.grok_parser.specs.Pieces.{Piece, pieces}
use Rattle.grok.specs.Maps.{Texts}
use Rattle.grok.specs.Engines.{engine_regex}
use Rattle.grok.specs.RegexFinds.{captures_by, IsReadByDefault, MayRefuse}
use Rattle.grok.specs.Answers.{PatternValue}
use Rattle.grok.specs.Errors.{ErrorValue, Memory, error_value}
use Rattle.grok.specs.Compiled.{Expansion, expansion_of, IsCompileError, IsPatternOf}
use Rattle.grok_commands.specs.Commands.{RequestValue, CommandValue, Split, Measure, Match, Json, Check}
use Rattle.grok_commands.specs.Answers.{HasAnswered, HasAnsweredFirst}
use Rattle.grok_commands.specs.Library.{library_of}
use Rattle.grok_commands.specs.LineTexts.{Finds, line_answer}
use Rattle.grok_commands.specs.SizeTexts.{text_of_size, measure_of, IsFaulty, IsCheckLine}
use Rattle.grok_commands.specs.Split.{IsPieceLine}
use Rattle.grok_lines.specs.Streams.{HasAnsweredInput, HasAnsweredEnded, HasAnsweredSome, HasBegun}
use Rattle.grok_lines.specs.Traffic.{Traffic}
use Rattle.grok_commands.specs.declared.fault.ToolFault.{ToolFault}
use Rattle.grok_commands.specs.declared.fault.ToolFault.TheVariants as fault
use Rattle.grok_commands.specs.declared.line_answers.LineFormat.{LineFormat}
use Rattle.grok_commands.specs.declared.line_answers.LineFormat.TheVariants.{Pairs, Object}

-- ---- the pattern of a command that reads

-- what contracts see of a compiled pattern whose engine is `regex`
abbrev pub Compiled : Type 0
Compiled = PatternValue RegexEngine

-- the text from which `regex` built the engine
abbrev pub source_of : RegexEngine → List ℕ
source_of engine = regex_source (engine_regex engine)

-- the names of the engine's groups (`None` for a group without a name)
abbrev pub names_of : RegexEngine → List (Option (List ℕ))
names_of engine = regex_names (engine_regex engine)

-- what `regex` captures in a line
abbrev pub finds_of : RegexEngine → Finds
finds_of engine = captures_by (engine_regex engine)

-- What is compiled for a request: its pattern, the tree of this (what its placeholders stand for by the default
-- definitions and those of the request, as events in reading order), and whether only placeholders with an alias
-- capture.
abbrev pub expansion_of_request : RequestValue → Expansion
expansion_of_request request = expansion_of
    (library_of request.definitions) request.alias_only request.pattern

-- `pattern` is the compiled pattern of the request. `regex` built its engine from the expanded text, with the
-- default options of `regex`.
pub record IsCompiled (request : RequestValue) (pattern : Compiled) : Type 0 where
  pub is : IsPatternOf source_of names_of (expansion_of_request request) pattern
  pub read : ∥ IsReadByDefault (engine_regex pattern.engine) ∥₁

-- `error` is an error that compiling the pattern of the request may return, other than `Memory`
abbrev pub IsRefused : RequestValue → ErrorValue → Type 0
IsRefused request error =
    IsCompileError MayRefuse (expansion_of_request request) error × (error ≢ Memory)

-- the answer to a line that is matched against this pattern
abbrev pub answer_by : LineFormat → Compiled → List ℕ → List ℕ
answer_by format pattern = line_answer format (finds_of pattern.engine) pattern.keys

-- the pattern of the request compiles to some `pattern`, which has the property `Is`
abbrev pub HasPattern : RequestValue → (Compiled → Type 0) → Type 0
HasPattern request Is = (pattern : Compiled) × IsCompiled request pattern × Is pattern

-- ---- WHAT A COMMAND PRINTS

-- one answer of `split` or of `check`: the line that is written for a piece, or for the definition of a name
pub data Answer : Type 0 where
  PieceLine : (piece : Piece) → Answer
  CheckLine : (texts : Texts) (alias_only : Bool) (name : List ℕ) → Answer

-- `line` is what is written for this answer
abbrev pub IsAnswer : Answer → List ℕ → Type 0
IsAnswer (PieceLine piece) line = IsPieceLine piece line
IsAnswer (CheckLine texts alias_only name) line = IsCheckLine texts alias_only name line

-- WHAT A RUN HAS TO WRITE: one text, a list of answers, or an answer to each line of the input
pub data Job : Type 0 where
  One : (text : List ℕ) → Job
  Each : (answers : List Answer) → Job
  EachLine : (answer : List ℕ → List ℕ) → Job

-- The pattern of the command has no fault, and what the command has to write has the property `Is`.
abbrev pub HasJob : CommandValue → (Job → Type 0) → Type 0
HasJob (Split pattern) Is = Is (Each (map PieceLine (pieces pattern)))
HasJob (Measure request) Is =
    (size : List ℕ) × (text_of_size (measure_of request) ≡ Some size) × Is (One (size ++ codes "\n"))
HasJob (Match request) Is = HasPattern request (λ pattern. Is (EachLine (answer_by Pairs pattern)))
HasJob (Json request) Is = HasPattern request (λ pattern. Is (EachLine (answer_by Object pattern)))
HasJob (Check alias_only definitions) Is =
    let texts = library_of definitions in
    Is (Each (map (CheckLine texts alias_only) (finite.keys texts)))

-- `error` is an error of the command's pattern, so that the command has nothing to write. `split` and `check`
-- never have such an error.
abbrev pub IsPatternFault : CommandValue → ErrorValue → Type 0
IsPatternFault (Split pattern) error = ⊥
IsPatternFault (Measure request) error = IsFaulty (measure_of request) error
IsPatternFault (Match request) error = IsRefused request error
IsPatternFault (Json request) error = IsRefused request error
IsPatternFault (Check alias_only definitions) error = ⊥

-- ---- what was read and written when a run ended

-- nothing was read
abbrev pub IsUnread : Traffic → Type 0
IsUnread t = Keeps t.unread_old t.unread_new

-- nothing was read or written
abbrev pub IsUntouched : Traffic → Type 0
IsUntouched t = IsUnread t × Keeps t.written_old t.written_new

-- THE RUN SUCCEEDED: it has written what it had to, and nothing else. `match` and `json` have read the whole
-- input, and the other commands nothing.
abbrev pub IsDone : Traffic → Job → Type 0
IsDone t (One text) = IsUnread t × Appends t.written_old t.written_new text
IsDone t (Each answers) = IsUnread t × HasAnswered IsAnswer answers t.written_old t.written_new
IsDone t (EachLine answer) = HasAnsweredInput (flat_map answer) t

-- AN ALLOCATION FAILED: `measure` has written nothing, and the other commands have written the first of their
-- answers (none, some or all), each as a whole.
abbrev pub IsCutShort : Traffic → Job → Type 0
IsCutShort t (One text) = IsUntouched t
IsCutShort t (Each answers) = IsUnread t × HasAnsweredFirst IsAnswer answers t.written_old t.written_new
IsCutShort t (EachLine answer) = HasAnsweredSome (flat_map answer) t

-- THE INPUT FAILED: `match` or `json` has answered the lines that had ended by then. The other commands don't
-- read.
abbrev pub IsReadFault : Traffic → Job → Type 0
IsReadFault t (One text) = ⊥
IsReadFault t (Each answers) = ⊥
IsReadFault t (EachLine answer) = HasAnsweredEnded (flat_map answer) t

-- THE OUTPUT FAILED: what `match` or `json` has written is a beginning of the answers to the first lines of what was
-- read, which may end inside an answer. `split`, `measure` and `check` have read nothing, and nothing else is stated of
-- them.
abbrev pub IsWriteFault : Traffic → Job → Type 0
IsWriteFault t (One text) = IsUnread t
IsWriteFault t (Each answers) = IsUnread t
IsWriteFault t (EachLine answer) = HasBegun (HasAnsweredSome (flat_map answer)) t

-- ---- HOW A RUN ENDS

-- HOW A RUN OF THIS COMMAND ENDS: what it returns, and what was read and written by then.
-- If the pattern has a fault, nothing was read or written. An allocation can fail before it is known
-- whether the pattern has one.
abbrev pub EndsAs : CommandValue → Result (Unit {0}) ToolFault → Traffic → Type 0
EndsAs command (Ok _) t = HasJob command (IsDone t)
EndsAs command (Err fault.Usage) t = ⊥
EndsAs command (Err (fault.Pattern error)) t = IsPatternFault command (error_value error) × IsUntouched t
EndsAs command (Err fault.Memory) t = IsUntouched t ⊎ HasJob command (IsCutShort t)
EndsAs command (Err fault.Read) t = HasJob command (IsReadFault t)
EndsAs command (Err fault.Write) t = HasJob command (IsWriteFault t)

-- HOW A RUN OF A COMMAND LINE ENDS. Its words are this command, or no command (`None`). If they are no command,
-- the run returns `Usage`, and nothing was read or written.
abbrev pub IsRunOf : Option CommandValue → Result (Unit {0}) ToolFault → Traffic → Type 0
IsRunOf None result t = (result ≡ Err fault.Usage) × IsUntouched t
IsRunOf (Some command) result t = EndsAs command result t
