-- A search for an event in the tree of a pattern. It is any type `S`, with what it needs, what it passes over and what it
-- seeks.
use Rattle.std.specs.Prelude.{List, ◌++◌}
use Rattle.grok.specs.Tree.{Event}

-- what the search needs to go on, if these events remain
abbrev pub Needing : Type 0 → Type 1
Needing S = S → List Event → Type 0

-- what the search passed over on its way from one state to another
abbrev pub Passing : Type 0 → Type 1
Passing S = S → List Event → S → Type 0

-- which event is sought, after these ones
abbrev pub Seeking : Type 0 → Type 1
Seeking S = S → List Event → Event → Type 0

-- the search can go on with the events `es`, after which others remain
pub record IsReadyFor {S : Type 0} (ready : Needing S) (search : S) (es : List Event) : Type 0 where
  pub rest : List Event
  pub is : ready search (es ++ rest)

-- If the search at `old` can go on with the events `es` and others after them, it can go on with the others at `new`.
abbrev pub StaysReady : {S : Type 0} → Needing S → Passing S
StaysReady {S} ready old es new = (rest : List Event) → ready old (es ++ rest) → ready new rest

-- From `old` to `new`, the search passes over the events `es` too.
abbrev pub PassesMore : {S : Type 0} → Passing S → Passing S
PassesMore {S} passed old es new = (start : S) (before : List Event) → passed start before old → passed start (before ++ es) new

-- from `old` to `new`, the search passes over the events `es` too, and can go on with those after them
abbrev pub Passes : {S : Type 0} → Needing S → Passing S → Passing S
Passes {S} ready passed old es new = PassesMore passed old es new × StaysReady ready old es new

-- the next event is the sought one
abbrev pub StopsAt : {S : Type 0} → Passing S → Seeking S → S → Event → Type 0
StopsAt {S} passed sought at event = (start : S) (before : List Event) → passed start before at → sought start before event
