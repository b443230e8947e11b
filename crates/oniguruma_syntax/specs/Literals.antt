-- Characters that stand for themselves, as `regex` spells them.
use Rattle.std.specs.Prelude.{ℕ, Bool, List, ◌∷◌, ◌==◌, ◌||◌, if◌then◌else◌}
use Rattle.std.specs.Char.{encode_utf8}

-- The characters that have a meaning outside a class: `\ . + * ? ( ) | [ ] { } ^ $`.
abbrev pub is_meta : ℕ → Bool
is_meta c = (c == 92) || ((c == 46) || ((c == 43) || ((c == 42) || ((c == 63) || ((c == 40) || ((c == 41) || ((c == 124)
    || ((c == 91) || ((c == 93) || ((c == 123) || ((c == 125) || ((c == 94) || (c == 36)))))))))))))

-- The characters that have a meaning in a class: `\ [ ] ^ - & ~`.
abbrev pub is_class_meta : ℕ → Bool
is_class_meta c = (c == 92) || ((c == 91) || ((c == 93) || ((c == 94) || ((c == 45) || ((c == 38) || (c == 126))))))

-- A character that stands for itself outside a class.
abbrev pub literal : ℕ → List ℕ
literal c = if is_meta c then 92 ∷ encode_utf8 c else encode_utf8 c

-- A character that stands for itself in a class.
abbrev pub class_literal : ℕ → List ℕ
class_literal c = if is_class_meta c then 92 ∷ encode_utf8 c else encode_utf8 c
