-- The expanded text of a clean tree, and its size.
use Rattle.std.specs.Prelude.{ℕ, suc, ◌-◌, max, Bool, List, [], ◌∷◌, ◌++◌, length, if◌then◌else◌, codes}
use Rattle.grok.specs.Tree.{Event, Text, Open, Close, FaultEvent}
use Rattle.grok.specs.Keys.{is_capturing, capturing}
use Rattle.grok.specs.GeneratedNames.{named_head, unnamed_head}

-- The text of these events after `count` capturing placeholders. A capturing placeholder begins a group with
-- its number, such as `(?<_n_0>`, and any other placeholder begins a group without a name, `(?:`.
abbrev pub text_after : Bool → ℕ → List Event → List ℕ
text_after alias_only count [] = []
text_after alias_only count (Text text ∷ events) = text ++ text_after alias_only count events
text_after alias_only count (Close ∷ events) = codes ")" ++ text_after alias_only count events
text_after alias_only count (FaultEvent fault ∷ events) = text_after alias_only count events
text_after alias_only count (Open label meaning ∷ events) =
    if is_capturing alias_only label
    then named_head count ++ text_after alias_only (suc count) events
    else unnamed_head ++ text_after alias_only count events

-- the expanded text of a clean tree (one without a structural fault)
abbrev pub expanded : Bool → List Event → List ℕ
expanded alias_only tree = text_after alias_only 0 tree

-- the number of groups with a generated name
abbrev pub groups : Bool → List Event → ℕ
groups alias_only tree = length (capturing alias_only tree)

-- The greatest nesting that these events reach, in levels, if `depth` placeholders are open before them. It is
-- 0 if no placeholder is opened.
abbrev pub nesting_after : ℕ → List Event → ℕ
nesting_after depth [] = 0
nesting_after depth (Text text ∷ events) = nesting_after depth events
nesting_after depth (Close ∷ events) = nesting_after (depth - 1) events
nesting_after depth (FaultEvent fault ∷ events) = nesting_after depth events
nesting_after depth (Open label meaning ∷ events) = max (suc depth) (nesting_after (suc depth) events)

-- the greatest nesting of a whole tree, in levels
abbrev pub nesting : List Event → ℕ
nesting tree = nesting_after 0 tree
