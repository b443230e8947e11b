-- What is wrong with a pattern, and where.
use Rattle.std.specs.Prelude.{◌≡◌, ◌≢◌, ◌⊎◌, All, length, ◌<◌, ℕ, ◌+◌, ◌-◌, min, Bool, List, [], ◌∷◌, ◌++◌, Option, Some, None, MatchOption, string_bytes}
use Rattle.std.specs.FinMap as finite
use Rattle.grok.specs.Maps.{Texts}
use Rattle.grok.specs.Tree as tree
use Rattle.grok.specs.Tree.{Definitions, MalformedPiece, first_structural}
use Rattle.grok.specs.Keys.{Structural, first_fault}
use Rattle.grok.specs.Keys as keys
use Rattle.grok.specs.Expanded.{expanded}
use Rattle.grok.specs.Compiled.{expansion_of, Fits, CanBuild}
use Rattle.grok.specs.FaultLocations.{Step, IsPieceAt, IsFaultOf, path_view}
use Rattle.grok.specs.ByteLocations.{HasByte, IsByteLocation}
use Rattle.grok.specs.ClashLocations.{IsClashAt}
use Rattle.grok_parser.specs.Malformations.{fault_of, IsMalformedAt}
use Rattle.grok.specs.Refusals.{IsAccepted, IsReasonFor, IsOfSyntax, IsOfBrackets}
use Rattle.regex.specs.declared.error.Error.{Error}
use Rattle.grok.specs.declared.location.Location.{Location}
use Rattle.grok.specs.declared.locate_clash.Clash.{Clash}
use Rattle.grok.specs.declared.locate_byte.WrittenByte.{WrittenByte}
use Rattle.grok.specs.declared.locate_byte.WrittenByte.TheVariants.{Copied, OfGroup}
use Rattle.grok_parser.specs.declared.malformed.MalformedReason.{MalformedReason}
use Rattle.grok.specs.declared.why_refused.RefusalReason.{RefusalReason}
use Rattle.grok.specs.declared.why_refused.RefusalReason.TheVariants.{Syntax, TooBig}
use Rattle.grok.specs.declared.diagnose.Refused.{Refused}
use Rattle.grok.specs.declared.diagnose.Diagnosis.{Diagnosis}
use Rattle.grok.specs.declared.diagnose.Diagnosis.TheVariants as diagnosis

-- ---- where a part of the expanded text comes from

-- The range of a text that a part of `length` bytes of the expanded text comes from, which begins in the piece from `from`
-- to `to`. A part that begins in regular text was copied from there, up to the end of the piece at most. A part that begins
-- in the group of a placeholder comes from the whole placeholder.
abbrev pub IsRangeOf : (length from to : ℕ) → WrittenByte → (begin end : ℕ) → Type 0
IsRangeOf length from to (Copied offset) begin end = (begin ≡ min (from + offset) to) × (end ≡ min (begin + length) to)
IsRangeOf length from to OfGroup begin end = (begin ≡ from) × (end ≡ to)

-- the location from which the part from `start` to `stop` of the expanded text comes
pub record IsOriginOf (stored : Definitions) (alias_only : Bool) (pattern : List ℕ) (start stop : ℕ) (location : Location)
    : Type 0 where
  pub from : ℕ
  pub to : ℕ
  pub written : WrittenByte
  pub begins : IsByteLocation stored alias_only pattern start (path_view location.path.items) location.text.now from to written
  pub range : IsRangeOf (stop - start) from to written location.range.start location.range.end

-- Where the reason of a refusal stands: where the part of an error of syntax comes from, or nowhere if that part is at the
-- end of the expanded text, or if the regex is too big.
abbrev pub LocatesReason : Definitions → Bool → List ℕ → RefusalReason → Option Location → Type 0
LocatesReason stored alias_only pattern (Syntax error) found = MatchOption found
    (HasByte alias_only (tree.tree stored pattern) error.span.start → ⊥)
    (IsOriginOf stored alias_only pattern error.span.start error.span.end)
LocatesReason stored alias_only pattern TooBig found = found ≡ None

-- ---- diagnoses

-- what compiling finds first is this structural fault, and it stands at this location
pub record IsFirstStructural (texts : Texts) (alias_only : Bool) (pattern : List ℕ) (fault : tree.Fault) (location : Location)
    : Type 0 where
  pub first : first_fault alias_only (tree.tree (finite.get texts) pattern) ≡ Some (Structural fault)
  pub stands : IsFaultOf (finite.get texts) pattern fault location

-- what compiling finds first is a malformed placeholder, which stands at this location, and is malformed for this reason
-- from the position `byte` of its text on
pub record IsFirstMalformed (texts : Texts) (alias_only : Bool) (pattern : List ℕ) (why : MalformedReason) (byte : ℕ)
    (location : Location) : Type 0 where
  pub structural : IsFirstStructural texts alias_only pattern (MalformedPiece (fault_of why)) location
  pub malformed : IsMalformedAt location.text.now location.range.start why byte

-- What compiling finds first is this clash. If the tree is clean, the expanded text fits a `usize`.
pub record IsFirstClashOf (texts : Texts) (alias_only : Bool) (pattern : List ℕ) (clash : Clash) : Type 0 where
  pub first : first_fault alias_only (tree.tree (finite.get texts) pattern) ≡ Some (keys.Clash (string_bytes clash.key))
  pub stands : IsClashAt (finite.get texts) alias_only pattern clash
  pub fits : first_structural (tree.tree (finite.get texts) pattern) ≡ None → Fits (expansion_of texts alias_only pattern)

-- The path leads from the text `start` to the text `part`: each step is a placeholder, and the next text is what that
-- placeholder stands for.
pub data LeadsTo (stored : Definitions) (start : List ℕ) : (path : List Step) (part : List ℕ) → Type 0 where
  Here : LeadsTo stored start [] start
  Further : (path : List Step) (text : List ℕ) (before : List tree.Item) (from to : ℕ) (label : tree.Label) (meaning : tree.Meaning)
      → LeadsTo stored start path text
      → IsPieceAt stored text before from to (tree.PlaceholderItem label meaning)
      → LeadsTo stored start (path ++ record { name = label.name; from = from; to = to } ∷ []) (tree.meaning_text meaning)

-- Taken as a pattern of its own, the part has no fault, and its expanded text was refused for this reason.
pub record IsRefusedPart (refuses : List ℕ → Error → Type 0) (texts : Texts) (alias_only : Bool) (refused : Refused)
    : Type 0 where
  pub some : refused.part.now ≢ []
  pub can : CanBuild (expansion_of texts alias_only refused.part.now)
  pub text : string_bytes refused.text ≡ expanded alias_only (tree.tree (finite.get texts) refused.part.now)
  pub reason : IsReasonFor refuses (string_bytes refused.text) refused.reason
  pub location : LocatesReason (finite.get texts) alias_only refused.part.now refused.reason refused.location

-- Why a part is blamed for the refusal of a pattern. If no placeholder leads to it, it is the pattern, with its own reason.
-- A definition is blamed only if brackets of the pattern don't match, and only for its own syntax.
abbrev pub IsBlamed : (path : List Step) (whole reason : RefusalReason) → Type 0
IsBlamed [] whole reason = reason ≡ whole
IsBlamed (step ∷ path) whole reason = IsOfBrackets whole × IsOfSyntax reason

-- The pattern has no fault, and its expanded text was refused. The refused part is the pattern, or a definition to which its
-- path leads, whose own expanded text was refused.
pub record IsRefusedAs (refuses : List ℕ → Error → Type 0) (texts : Texts) (alias_only : Bool) (pattern : List ℕ)
    (refused : Refused) : Type 0 where
  pub some : pattern ≢ []
  pub can : CanBuild (expansion_of texts alias_only pattern)
  pub whole : RefusalReason
  pub refusal : IsReasonFor refuses (expanded alias_only (tree.tree (finite.get texts) pattern)) whole
  pub blamed : IsBlamed (path_view refused.path.items) whole refused.reason
  pub leads : LeadsTo (finite.get texts) pattern (path_view refused.path.items) refused.part.now
  pub part : IsRefusedPart refuses texts alias_only refused

-- The definition isn't to blame: unless it is empty or has a fault, its own expanded text was accepted, or was refused for its
-- size.
abbrev pub IsNotToBlame : {E : Type 0} → (is_built_from : E → List ℕ → Type 0) → (refuses : List ℕ → Error → Type 0)
    → Texts → Bool → List ℕ → Type 0
IsNotToBlame is_built_from refuses texts alias_only text = text ≢ [] → CanBuild (expansion_of texts alias_only text)
    → IsAccepted is_built_from (expanded alias_only (tree.tree (finite.get texts) text))
    ⊎ IsReasonFor refuses (expanded alias_only (tree.tree (finite.get texts) text)) TooBig

-- if the item is a placeholder, what it stands for has the property
abbrev pub IfPlaceholder : (List ℕ → Type 0) → tree.Item → Type 0
IfPlaceholder P (tree.TextItem text) = Unit {0}
IfPlaceholder P (tree.FaultItem fault) = Unit {0}
IfPlaceholder P (tree.PlaceholderItem label meaning) = P (tree.meaning_text meaning)

-- no definition that the text uses is to blame
abbrev pub AreNotToBlame : {E : Type 0} → (is_built_from : E → List ℕ → Type 0) → (refuses : List ℕ → Error → Type 0)
    → Texts → Bool → List ℕ → Type 0
AreNotToBlame is_built_from refuses texts alias_only text =
    All (IfPlaceholder (IsNotToBlame is_built_from refuses texts alias_only)) (tree.items_of (finite.get texts) text)

-- The search for the part to blame goes as far as it can: if brackets of the part don't match, no definition that it uses is
-- to blame. (At most 1,023 placeholders are nested, so a part to which that many lead uses no definition.)
abbrev pub IsInnermost : {E : Type 0} → (is_built_from : E → List ℕ → Type 0) → (refuses : List ℕ → Error → Type 0)
    → Texts → Bool → Refused → Type 0
IsInnermost is_built_from refuses texts alias_only refused = IsOfBrackets refused.reason
    → length refused.path.items < 1023 → AreNotToBlame is_built_from refuses texts alias_only refused.part.now

-- if `regex` refuses the pattern, what is refused has the property
abbrev pub IfRefused : (Refused → Type 0) → Diagnosis → Type 0
IfRefused P (diagnosis.Refused refused) = P refused
IfRefused P diagnosis.Empty = Unit {0}
IfRefused P (diagnosis.Malformed reason byte location) = Unit {0}
IfRefused P (diagnosis.Missing name location) = Unit {0}
IfRefused P (diagnosis.TooDeep location) = Unit {0}
IfRefused P (diagnosis.Clash clash) = Unit {0}
IfRefused P diagnosis.TooLong = Unit {0}

-- The pattern has no structural fault, and its expanded text is longer than the greatest `usize`.
pub record IsTooLong (texts : Texts) (alias_only : Bool) (pattern : List ℕ) : Type 0 where
  pub clean : first_structural (tree.tree (finite.get texts) pattern) ≡ None
  pub long : Fits (expansion_of texts alias_only pattern) → ⊥

-- what is wrong with the pattern
abbrev pub IsDiagnosis : (refuses : List ℕ → Error → Type 0) → Texts → Bool → List ℕ → Diagnosis → Type 0
IsDiagnosis refuses texts alias_only pattern diagnosis.Empty = pattern ≡ []
IsDiagnosis refuses texts alias_only pattern (diagnosis.Malformed reason byte location) =
    IsFirstMalformed texts alias_only pattern reason byte location
IsDiagnosis refuses texts alias_only pattern (diagnosis.Missing name location) =
    IsFirstStructural texts alias_only pattern (tree.Missing name.now) location
IsDiagnosis refuses texts alias_only pattern (diagnosis.TooDeep location) =
    IsFirstStructural texts alias_only pattern tree.TooDeep location
IsDiagnosis refuses texts alias_only pattern (diagnosis.Clash clash) = IsFirstClashOf texts alias_only pattern clash
IsDiagnosis refuses texts alias_only pattern (diagnosis.Refused refused) =
    IsRefusedAs refuses texts alias_only pattern refused
IsDiagnosis refuses texts alias_only pattern diagnosis.TooLong = IsTooLong texts alias_only pattern

-- Nothing is wrong with the pattern: it isn't empty, it has no fault, and its expanded text was accepted.
pub record IsFine {E : Type 0} (is_built_from : E → List ℕ → Type 0) (texts : Texts) (alias_only : Bool) (pattern : List ℕ)
    : Type 0 where
  pub some : pattern ≢ []
  pub can : CanBuild (expansion_of texts alias_only pattern)
  pub accepted : IsAccepted is_built_from (expanded alias_only (tree.tree (finite.get texts) pattern))

-- THE DIAGNOSIS OF A PATTERN: what is wrong with it, or `None` if nothing is. Two parameters state which texts may be
-- accepted, and which may be refused. For `diagnose` they are what the contract of `regex` states, by which some texts may be
-- both. But the code is proved for all such parameters, so it reports only what a build of the same text returned.
abbrev pub FindsDiagnosis : {E : Type 0} → (is_built_from : E → List ℕ → Type 0) → (refuses : List ℕ → Error → Type 0)
    → Texts → Bool → List ℕ → Option Diagnosis → Type 0
FindsDiagnosis is_built_from refuses texts alias_only pattern found =
    MatchOption found (IsFine is_built_from texts alias_only pattern) (IsDiagnosis refuses texts alias_only pattern)
