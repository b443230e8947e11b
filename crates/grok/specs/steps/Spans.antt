-- The pieces of a text, kept as ranges of it.
use Rattle.std.specs.Prelude.{◌≡◌, ℕ, ◌+◌, ◌-◌, ◌≤◌, if◌then◌else◌, ◌==◌, List, All, map, length, slice_range, IsCharBoundary}
use Rattle.grok.specs.declared.defs.spans.TextRange.{TextRange}
use Rattle.grok.specs.declared.defs.spans.PartRanges.{PartRanges}
use Rattle.grok.specs.declared.defs.spans.Span.{Span}
use Rattle.grok.specs.declared.defs.spans.Span.TheVariants.{Regular, Placeholder, Malformed}
use Rattle.grok_parser.specs.Pieces as spec

-- ---- reading a span

-- the part of T in this byte range
abbrev pub text_in : List ℕ → TextRange → List ℕ
text_in T p = slice_range T p.from p.to

-- the parts of a placeholder in these byte ranges
abbrev pub parts_in : List ℕ → PartRanges → spec.Parts
parts_in T p = record { name = text_in T p.name; alias = text_in T p.alias; extract = text_in T p.extract; definition = text_in T p.definition }

-- the piece that a span of the text stands for
abbrev pub piece_in : List ℕ → Span → spec.Piece
piece_in T (Regular p) = spec.Regular p.from p.to (text_in T p)
piece_in T (Placeholder p parts) = spec.Placeholder p.from p.to (text_in T p) (parts_in T parts)
piece_in T (Malformed f) = spec.Malformed f

-- the range begins and ends at character boundaries of T
pub record IsRangeOf (T : List ℕ) (p : TextRange) : Type 0 where
  pub ordered : p.from ≤ p.to
  pub begins : IsCharBoundary T p.from
  pub ends : IsCharBoundary T p.to

-- the range of each part of a placeholder begins and ends at character boundaries of T
pub record AreRangesOf (T : List ℕ) (p : PartRanges) : Type 0 where
  pub name : IsRangeOf T p.name
  pub alias : IsRangeOf T p.alias
  pub extract : IsRangeOf T p.extract
  pub definition : IsRangeOf T p.definition

-- each range of the span begins and ends at character boundaries of T
abbrev pub IsSpanOf : List ℕ → Span → Type 0
IsSpanOf T (Regular p) = IsRangeOf T p
IsSpanOf T (Placeholder p parts) = IsRangeOf T p × AreRangesOf T parts
IsSpanOf T (Malformed f) = Unit {0}

-- The spans stand for all pieces of T, in their order, and each of their ranges begins and ends at character
-- boundaries of T.
pub record AreSpansOf (T : List ℕ) (spans : List Span) : Type 0 where
  pub reads : map (piece_in T) spans ≡ spec.pieces T
  pub within : All (IsSpanOf T) spans

-- ---- the ranges of the parts of a piece

-- The range that begins at `from` and has `len` bytes. An empty part has the empty range at the start of T.
abbrev pub range_from : ℕ → ℕ → TextRange
range_from from len = if len == 0 then record { from = 0; to = 0 } else record { from = from; to = from + len }

-- T has `part` at the byte range that `range_from` returns for `from` and the length of `part`
pub record IsPartAt (T : List ℕ) (from : ℕ) (part : List ℕ) : Type 0 where
  pub range : IsRangeOf T (range_from from (length part))
  pub reads : text_in T (range_from from (length part)) ≡ part

-- The placeholder in the byte range from s to e of T has its parts where the form `%{name:alias:extract=definition}` has
-- them: the name after `%{`, the alias and the extract each after one more byte, and the definition before the `}` at the
-- end. An absent part is empty.
pub record PartsStand (T : List ℕ) (s e : ℕ) (p : spec.Parts) : Type 0 where
  pub fits : s + 2 + length p.name + length p.alias + length p.extract + length p.definition + 1 ≤ e
  pub name : IsPartAt T (s + 2) p.name
  pub alias : IsPartAt T (s + 2 + length p.name + 1) p.alias
  pub extract : IsPartAt T (s + 2 + length p.name + 1 + length p.alias + 1) p.extract
  pub definition : IsPartAt T (e - 1 - length p.definition) p.definition

-- `text` is what T has in the range from s to e, which begins and ends at character boundaries of T
pub record PieceStands (T : List ℕ) (s e : ℕ) (text : List ℕ) : Type 0 where
  pub range : IsRangeOf T (record { from = s; to = e })
  pub reads : text ≡ slice_range T s e

-- each text in the piece is what T has in its byte range
abbrev pub IsPieceOf : List ℕ → spec.Piece → Type 0
IsPieceOf T (spec.Regular s e text) = PieceStands T s e text
IsPieceOf T (spec.Placeholder s e text parts) = PieceStands T s e text × PartsStand T s e parts
IsPieceOf T (spec.Malformed f) = Unit {0}
