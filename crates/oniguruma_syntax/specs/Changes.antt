-- What is recorded of the changes of a text.
use Rattle.std.specs.Prelude.{◌≡◌, ◌≢◌, ℕ, Bool, not, ◌&&◌, List, [], ◌∷◌, ◌++◌, AllPairs, map, fold, if◌then◌else◌, string_bytes}
use Rattle.std.specs.List.{list_any}
use denote.Enum.Bare.{sameb}
use Rattle.oniguruma_syntax.specs.contracts.change.ChangeKind.{the_type}
use Rattle.oniguruma_syntax.specs.declared.change.Change.{Change}
use Rattle.oniguruma_syntax.specs.declared.change.ChangeKind.{ChangeKind}
use Rattle.oniguruma_syntax.specs.declared.change.ChangeKind.TheVariants.{Lost}

-- `==` on kinds.
abbrev pub same_kind : ChangeKind → ChangeKind → Bool
same_kind = sameb the_type

-- Whether a further change of this kind isn't recorded: there is one already, and the kind isn't `Lost`.
abbrev pub has_kind : List Change → ChangeKind → Bool
has_kind changes kind = not (same_kind kind Lost) && list_any (λ change. same_kind change.kind kind) changes

-- The changes after this one was recorded, unless there is one of its kind already.
abbrev pub with_change : List Change → Change → List Change
with_change changes change = if has_kind changes change.kind then changes else changes ++ change ∷ []

-- The contents of a change: its kind, the text that was changed, and the keys that are never found. A copy has the same
-- contents.
abbrev pub change_text : Change → ChangeKind × List ℕ × List ℕ
change_text change = (change.kind, string_bytes change.text, string_bytes change.keys)

-- The changes after copies of others were recorded, one after another.
abbrev pub HasCopies : List Change → List Change → List Change → Type 0
HasCopies old others new = (copies : List Change) × (map change_text copies ≡ map change_text others)
    × (new ≡ fold with_change old copies)

-- NO KIND TWICE: two of the changes are of one kind only if each of them is `Lost`.
abbrev pub NameKindsOnce : List Change → Type 0
NameKindsOnce changes = AllPairs (λ earlier later. earlier.kind ≢ Lost → earlier.kind ≢ later.kind) changes
