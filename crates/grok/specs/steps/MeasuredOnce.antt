-- Measuring a pattern in a way that measures each definition once and remembers its size or fault.
use Rattle.std.specs.Prelude.{ℕ, zero, suc, ◌+◌, max, Bool, false, ◌||◌, List, [], ◌∷◌, if◌then◌else◌, nat_lt, Option, Some, None, Result, Ok, Err}
use Rattle.std.specs.Str.{bytes_eq}
use Rattle.grok.specs.Tree.{Fault, MalformedPiece, Missing, TooDeep, Label, Inline, Stored, Item, TextItem, FaultItem, PlaceholderItem}
use Rattle.grok.specs.Keys.{ends_in_number}
use Rattle.grok.specs.steps.Sizes.{Size, no_size, size_of_bytes, both, wrapped}

-- How far measuring a definition has come. It is in progress. Or it has this size. Or it has this first fault
-- if more levels than the height are left, and is nested too deeply otherwise. Or it needs more than this many
-- levels.
pub data Progress (S : Type 0) : Type 0 where
  InProgress : Progress S
  HasSize : (size : S) → Progress S
  HasFault : (fault : Fault) (height : ℕ) → Progress S
  NeedsMoreThan : (levels : ℕ) → Progress S

-- What the progress of a definition says about it if `levels` levels are left: its size or its fault, or `None` if it
-- has to be measured again.
abbrev pub known_result : Progress Size → ℕ → Option (Result Size Fault)
known_result InProgress levels = Some (Err TooDeep)
known_result (HasSize size) levels = Some (if nat_lt size.height levels then Ok size else Err TooDeep)
known_result (HasFault fault height) levels = Some (if nat_lt height levels then Err fault else Err TooDeep)
known_result (NeedsMoreThan most) levels = if nat_lt most levels then None else Some (Err TooDeep)

-- The nesting before the remembered fault, in levels, if `levels` levels are left. It is 0 if the result for
-- these levels is a size, `TooDeep`, or not known.
abbrev pub reach_within : Progress Size → ℕ → ℕ
reach_within InProgress levels = 0
reach_within (HasSize size) levels = 0
reach_within (HasFault fault height) levels = if nat_lt height levels then height else 0
reach_within (NeedsMoreThan most) levels = 0

-- What is remembered of a definition that has this fault. It was measured with `levels` levels left, and the
-- nesting before the fault is `reach` levels.
abbrev pub failed_progress : {S : Type 0} → Fault → ℕ → ℕ → Progress S
failed_progress (MalformedPiece fault) levels reach = HasFault (MalformedPiece fault) reach
failed_progress (Missing name) levels reach = HasFault (Missing name) reach
failed_progress TooDeep levels reach = NeedsMoreThan levels

-- What measuring remembers: the progress of each definition by its name, how many pieces and ends of texts were read,
-- whether an alias was read that ends in a number in brackets (as `x[1]` does), and after a fault, how many levels were
-- nested before it.
pub record State : Type 0 where
  pub by_name : List ℕ → Option (Progress Size)
  pub looks : ℕ
  pub ends : ℕ
  pub has_numbered : Bool
  pub reach : ℕ

-- the progress of each name, after this name got this progress
abbrev pub updated : (List ℕ → Option (Progress Size)) → List ℕ → Progress Size → List ℕ → Option (Progress Size)
updated by_name name progress other = if bytes_eq name other then Some progress else by_name other

-- the state `st`, with this progress for the name `name`
abbrev pub with_progress : State → List ℕ → Progress Size → State
with_progress st name progress = record { by_name = updated st.by_name name progress; looks = st.looks; ends = st.ends; has_numbered = st.has_numbered; reach = st.reach }

-- the state `st`, with `reach` levels as the nesting before the fault
abbrev pub with_reach : State → ℕ → State
with_reach st reach = record { by_name = st.by_name; looks = st.looks; ends = st.ends; has_numbered = st.has_numbered; reach = reach }

-- the state after one more piece was read
abbrev pub piece_read : State → State
piece_read st = record { by_name = st.by_name; looks = st.looks + 1; ends = st.ends; has_numbered = st.has_numbered; reach = st.reach }

-- The state after a placeholder with this label was read. If its alias ends in a number in brackets, as `x[1]` does,
-- that is remembered.
abbrev pub labelled : Label → State → State
labelled label st = record { by_name = st.by_name; looks = st.looks; ends = st.ends; has_numbered = ends_in_number label.alias || st.has_numbered; reach = st.reach }

-- the state after one more end of a text was read
abbrev pub ended : State → State
ended st = record { by_name = st.by_name; looks = st.looks; ends = st.ends + 1; has_numbered = st.has_numbered; reach = st.reach }

-- the state with one more level before the fault: that of the placeholder around the text
abbrev pub deeper : State → State
deeper st = with_reach st (suc st.reach)

-- the size of an inline definition: its bytes, if a level is left
abbrev pub inlined : ℕ → List ℕ → Result Size Fault
inlined zero text = Err TooDeep
inlined (suc levels) text = Ok (size_of_bytes text)

-- a size or fault, and what is remembered after it was found
abbrev pub Reading : Type 0
Reading = Result Size Fault × State

-- The result of one item, combined with that of the items after it. If one of those has a fault, the nesting
-- before it is at least that of this item.
abbrev pub then_rest : Result Size Fault → State → (State → Reading) → Reading
then_rest (Err fault) st rest = (Err fault, st)
then_rest (Ok size) st rest = let more = rest st in (
  both (Ok size) more.0,
  with_reach more.1
      (max size.height more.1.reach),
)

-- the result of a placeholder, given `inner`, the result of its definition
abbrev pub enclosed : Bool → Label → Reading → Reading
enclosed alias_only label inner = (wrapped alias_only label inner.0, deeper inner.1)

-- the result of one item, where `visit` measures a stored definition and `inline` an inline one
abbrev pub item_reading : Bool → (List ℕ → List ℕ → State → Reading) → (List ℕ → Result Size Fault) → Item
    → State → Reading
item_reading alias_only visit inline (TextItem text) st = (Ok (size_of_bytes text), st)
item_reading alias_only visit inline (FaultItem fault) st = (Err fault, with_reach st 0)
item_reading alias_only visit inline (PlaceholderItem label (Inline text)) st =
    enclosed alias_only label (inline text, with_reach (labelled label st) 0)
item_reading alias_only visit inline (PlaceholderItem label (Stored text)) st =
    enclosed alias_only label (visit label.name text (labelled label st))

-- the result of the items of a text, one after another
abbrev pub items_reading : Bool → (List ℕ → List ℕ → State → Reading) → (List ℕ → Result Size Fault) → List Item
    → State → Reading
items_reading alias_only visit inline [] st = (Ok no_size, ended st)
items_reading alias_only visit inline (item ∷ items) st =
    let first = item_reading alias_only visit inline item (piece_read st) in
    then_rest first.0 first.1 (items_reading alias_only visit inline items)

-- The result of measuring a definition, after its size or fault is also remembered for the name `name`. It was
-- measured with `levels` levels left, its own among them.
abbrev pub finish : List ℕ → ℕ → Reading → Reading
finish name levels (Ok size, st) = (Ok size, with_progress st name (HasSize size))
finish name levels (Err fault, st) = (Err fault, with_progress st name (failed_progress fault levels st.reach))

-- the size or fault that is remembered, with the state `st`, or if none is, `fresh`: the result of measuring now
abbrev pub by_result : Option (Result Size Fault) → State → Reading → Reading
by_result None st fresh = fresh
by_result (Some r) st fresh = (r, st)

-- The result of a definition with this progress, if `levels` levels are left: the size or fault that is remembered
-- for that many levels, or `fresh` if none is. `fresh` is the result of measuring now.
abbrev pub by_progress : Option (Progress Size) → ℕ → State → Reading → Reading
by_progress None levels st fresh = fresh
by_progress (Some progress) levels st fresh = by_result (known_result progress levels)
    (with_reach st (reach_within progress levels)) fresh

-- the result of a stored definition with `levels` levels left, its own among them
abbrev pub visit : Bool → (List ℕ → List Item) → ℕ → List ℕ → List ℕ → State → Reading
visit alias_only resolve zero name text st = (Err TooDeep, with_reach st 0)
visit alias_only resolve (suc levels) name text st =
    by_progress (st.by_name name) (suc levels) st
    (finish name (suc levels) (items_reading alias_only (visit alias_only resolve levels) (inlined levels)
    (resolve text) (with_progress st name InProgress)))

-- the result of items, if `levels` more levels are allowed
abbrev pub items_within : Bool → (List ℕ → List Item) → ℕ → List Item → State → Reading
items_within alias_only resolve levels items st = items_reading alias_only (visit alias_only resolve levels)
    (inlined levels) items st

-- the result of one item, if `levels` more levels are allowed
abbrev pub item_within : Bool → (List ℕ → List Item) → ℕ → Item → State → Reading
item_within alias_only resolve levels item st = item_reading alias_only (visit alias_only resolve levels)
    (inlined levels) item st

-- the result of a placeholder with a stored definition, if `levels` more levels are allowed
abbrev pub stored_within : Bool → (List ℕ → List Item) → ℕ → Label → List ℕ → State → Reading
stored_within alias_only resolve levels label text st =
    enclosed alias_only label (visit alias_only resolve levels label.name text st)

-- What measuring remembers before it reads anything: no definition has a size or fault yet, and nothing is counted.
abbrev pub nothing_measured : State
nothing_measured = record { by_name = λ name. None; looks = 0; ends = 0; has_numbered = false; reach = 0 }

-- the result of measuring a whole pattern, if `levels` levels are allowed
unfoldable pub measure_within : ℕ → Bool → (List ℕ → List Item) → List ℕ → Reading
measure_within levels alias_only resolve pattern = items_within alias_only resolve levels
    (resolve pattern) nothing_measured
