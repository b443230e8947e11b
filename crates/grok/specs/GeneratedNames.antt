-- The generated names of groups, and the brackets that a placeholder writes.
use Rattle.std.specs.Prelude.{ℕ, Bool, List, ◌++◌, length, codes, if◌then◌else◌}
use Rattle.grok.specs.Numeral.{numeral}

-- what each generated name begins with
abbrev pub name_start : List ℕ
name_start = codes "_n_"

-- the generated name of the group with this number, such as `_n_0`
abbrev pub generated : ℕ → List ℕ
generated number = name_start ++ numeral number

-- the start of the group with this number, which has a generated name, such as `(?<_n_0>`
abbrev pub named_head : ℕ → List ℕ
named_head number = codes "(?<" ++ generated number ++ codes ">"

-- the start of a group without a name
abbrev pub unnamed_head : List ℕ
unnamed_head = codes "(?:"

-- how many bytes a group has besides its contents and its number
abbrev pub bracket_bytes : Bool → ℕ
bracket_bytes is_named = if is_named then length (codes "(?<" ++ name_start ++ codes ">)")
    else length (unnamed_head ++ codes ")")
