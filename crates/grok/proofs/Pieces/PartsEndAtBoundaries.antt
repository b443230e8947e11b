-- The byte ranges of the parts of a placeholder, and those of pieces, lie between characters of the text.
use Rattle.std.proofs.Common.{◌≡◌, ℕ, ◌+◌, ◌-◌, ◌<◌, ◌≤◌, List, [], ◌∷◌, ◌++◌, length, get_or, drop, Option, Some, None, false, ◌==◌, refl, sym, ap, ◌∙◌, subst, arith, length-drop, get_or-drop, drop-drop, ◌⊎◌, inl, inr}
use Rattle.std.specs.List.{All, slice_range}
use Rattle.std.specs.Str.{IsUtf8, IsCharBoundary}
use Rattle.std.proofs.Math.Seq.{drop-append_seam, take-append_seam}
use Rattle.std.proofs.lemmas.Str.{IsCharBoundary-start, IsCharBoundary-end, IsCharBoundary-after_ascii, IsCharBoundary-before_ascii}
use Rattle.std.proofs.lemmas.List.Elements.{All-nil, All-cons}
use Rattle.std.proofs.lemmas.Bool.Decides.{nat_tests}
use Rattle.grok_parser.specs.Pieces.{Parts, Piece, Regular, Placeholder, Malformed, pieces}
use Rattle.grok_parser.specs.Grammar.{or_empty, MayStand, HasByteAt, IsRegularPiece, Plain, Last, Percent, IsPlaceholder, ArePieces}
use Rattle.grok.specs.steps.Spans.{range_from, text_in, IsRangeOf, IsPartAt, PartsStand, PieceStands, IsPieceOf}
use Rattle.grok_parser.proofs.WrittenPlaceholderIsRead.{after_name, last_byte, last_rest, written_is}
use Rattle.grok_parser.proofs.PiecesAreUnique.{regular_within, placeholder_within, pieces_are}

-- a part that begins at a character boundary and is followed by an ASCII byte
pub record EndsBefore (T : List ℕ) (from : ℕ) (part rest : List ℕ) : Type 0 where
  pub stands : IsPartAt T from part
  pub next : IsCharBoundary T (from + length part + 1)
  pub more : drop (from + length part + 1) T ≡ rest

some_bytes : (x : ℕ) (xs : List ℕ) → (length (x ∷ xs) == 0) ≡ false
some_bytes x xs = grind (arith, nat_tests)

range_from_some : (from n : ℕ) → (n == 0) ≡ false → range_from from n ≡ record { from = from; to = from + n }
range_from_some from n e = rw e refl

module _ (T : List ℕ) (u : IsUtf8 T) where
  stands_by : (from : ℕ) (part : List ℕ) → IsCharBoundary T from → IsCharBoundary T (from + length part) → slice_range T from (from + length part) ≡ part → IsPartAt T from part
  stands_by from [] b e s = record { range = record { ordered = omega arith; begins = IsCharBoundary-start T u; ends = IsCharBoundary-start T u }; reads = refl }
  stands_by from (x ∷ xs) b e s =
      let is = range_from_some from (length (x ∷ xs)) (some_bytes x xs) in
      let here : IsRangeOf T (record { from = from; to = from + length (x ∷ xs) }) = record { ordered = omega arith; begins = b; ends = e } in
      record { range = subst (IsRangeOf T) (sym is) here; reads = subst (λ p. text_in T p ≡ x ∷ xs) (sym is) s }

  pub stands_nowhere : (from : ℕ) → IsPartAt T from []
  stands_nowhere from = record { range = record { ordered = omega arith; begins = IsCharBoundary-start T u; ends = IsCharBoundary-start T u }; reads = refl }

  pub ends_before : (from : ℕ) (part rest : List ℕ) (b : ℕ) → IsCharBoundary T from → drop from T ≡ part ++ b ∷ rest → b < 128 → EndsBefore T from part rest
  ends_before from part rest b h e small =
      let n = length part in
      let slice : slice_range T from (from + n) ≡ part = let m : (from + n) - from ≡ n = omega arith in rw m (rw e (take-append_seam part (b ∷ rest))) in
      let after : drop (from + n) T ≡ b ∷ rest = sym (drop-drop n from T) ∙ (ap (λ xs. drop n xs) e ∙ drop-append_seam part (b ∷ rest)) in
      let len : length T - (from + n) ≡ length (b ∷ rest) = sym (length-drop (from + n) T) ∙ ap length after in
      let within : from + n < length T = omega arith in
      let at : get_or T (from + n) 0 ≡ b = ap (λ k. get_or T k 0) (omega arith) ∙ (sym (get_or-drop (from + n) T 0 0) ∙ ap (λ xs. get_or xs 0 0) after) in
      let low : get_or T (from + n) 0 < 128 = omega arith in
      let more : drop (from + n + 1) T ≡ rest = ap (λ k. drop k T) (omega arith) ∙ (sym (drop-drop 1 (from + n) T) ∙ ap (λ xs. drop 1 xs) after) in
      record {
        stands = stands_by from part h (IsCharBoundary-before_ascii T (from + n) within low) slice;
        next = IsCharBoundary-after_ascii T (from + n) u within low;
        more = more;
      }

  same_end : (a e : ℕ) → a ≤ length T → e ≤ length T → drop a T ≡ drop e T → a ≡ e
  same_end a e h l d =
      let x : length T - a ≡ length T - e = sym (length-drop a T) ∙ (ap length d ∙ length-drop e T) in
      omega arith

  -- The last word begins at `from`. After it comes the end of the placeholder, with its definition if it has
  -- one, up to e.
  pub record LastStands (from e : ℕ) (word definition : List ℕ) : Type 0 where
    pub word_at : IsPartAt T from word
    pub enough : from + length word + 1 + length definition ≤ e
    pub ends : IsCharBoundary T e
    pub definition_at : IsPartAt T (e - 1 - length definition) definition

  pub last_stands : (from e : ℕ) (word : List ℕ) (d : Option (List ℕ)) → IsCharBoundary T from → e ≤ length T → drop from T ≡ word ++ last_byte d ∷ last_rest d (drop e T) → LastStands from e word (or_empty d)
  last_stands from e word None h l x =
      let w = ends_before from word (drop e T) 125 h x (omega arith) in
      let same : from + length word + 1 ≡ e = same_end _ e w.next.0 l w.more in
      record { word_at = w.stands; enough = omega arith; ends = rw (← same) w.next; definition_at = stands_nowhere _ }
  last_stands from e word (Some d) h l x =
      let w = ends_before from word (d ++ 125 ∷ drop e T) 61 h x (omega arith) in
      let v = ends_before (from + length word + 1) d (drop e T) 125 w.next w.more (omega arith) in
      let same : from + length word + 1 + length d + 1 ≡ e = same_end _ e v.next.0 l v.more in
      let range : e - 1 - length d ≡ from + length word + 1 = omega arith in
      record { word_at = w.stands; enough = omega arith; ends = rw (← same) v.next; definition_at = rw range v.stands }

  pub parts_of : (name : List ℕ) (alias extract d : Option (List ℕ)) → Parts
  parts_of name alias extract d = record { name = name; alias = or_empty alias; extract = or_empty extract; definition = or_empty d }

  pub parts_stand : (s e : ℕ) (name : List ℕ) (alias extract d : Option (List ℕ)) → IsCharBoundary T (s + 2) → e ≤ length T → MayStand alias extract → drop (s + 2) T ≡ name ++ after_name alias extract d (drop e T) → PartsStand T s e (parts_of name alias extract d) × IsCharBoundary T e
  unfolding parts_of
  parts_stand s e name None None d h l m x =
      let w = last_stands (s + 2) e name d h l x in
      (record { fits = let k = w.enough in omega arith; name = w.word_at; alias = stands_nowhere _; extract = stands_nowhere _; definition = w.definition_at }, w.ends)
  parts_stand s e name None (Some extract) d h l m x = absurd m
  parts_stand s e name (Some alias) None d h l m x =
      let n = ends_before (s + 2) name (alias ++ last_byte d ∷ last_rest d (drop e T)) 58 h x (omega arith) in
      let w = last_stands (s + 2 + length name + 1) e alias d n.next l n.more in
      (record { fits = let k = w.enough in omega arith; name = n.stands; alias = w.word_at; extract = stands_nowhere _; definition = w.definition_at }, w.ends)
  parts_stand s e name (Some alias) (Some extract) d h l m x =
      let n = ends_before (s + 2) name (alias ++ 58 ∷ (extract ++ last_byte d ∷ last_rest d (drop e T))) 58 h x (omega arith) in
      let a = ends_before (s + 2 + length name + 1) alias (extract ++ last_byte d ∷ last_rest d (drop e T)) 58 n.next n.more (omega arith) in
      let w = last_stands (s + 2 + length name + 1 + length alias + 1) e extract d a.next l a.more in
      (record { fits = let k = w.enough in omega arith; name = n.stands; alias = a.stands; extract = w.word_at; definition = w.definition_at }, w.ends)

  same_parts : (p : Parts) (a x d : List ℕ) → p.alias ≡ a → p.extract ≡ x → p.definition ≡ d → ◌≡◌ {A = Parts} (record { name = p.name; alias = a; extract = x; definition = d }) p
  same_parts p a x d e f g = rw (sym e) (rw (sym f) (rw (sym g) refl))

  pub placeholder_stands : (s e : ℕ) (p : Parts) → IsPlaceholder T s e p → PartsStand T s e p × IsCharBoundary T e
  unfolding parts_of
  placeholder_stands s e p h =
      let r = h.reads in
      let o = h.opens.1 in
      let two : (s + 1) + 1 ≡ s + 2 = omega arith in
      let low : get_or T (s + 1) 0 < 128 = omega (arith, o.1) in
      let at : IsCharBoundary T (s + 2) = rw (← two) (IsCharBoundary-after_ascii T (s + 1) u o.0 low) in
      let stand = parts_stand s e p.name r.alias r.extract r.definition at h.within r.words (r.spelled ∙ written_is p.name r.alias r.extract r.definition (drop e T)) in
      (subst (PartsStand T s e) (same_parts p _ _ _ r.alias_is r.extract_is r.definition_is) stand.0, stand.1)

  percent_or_end : (e : ℕ) → (e ≡ length T) ⊎ HasByteAt T e 37 → IsCharBoundary T e
  percent_or_end e (inl l) = rw l (IsCharBoundary-end T)
  percent_or_end e (inr h) = IsCharBoundary-before_ascii T e h.0 (omega (arith, h.1))

  regular_ends : (s e : ℕ) → IsRegularPiece T s e → IsCharBoundary T e
  regular_ends s e (Plain l f) = percent_or_end e f.ends
  regular_ends s e (Last h a l) = percent_or_end e (inl l)
  regular_ends s e (Percent h l n m f) = percent_or_end e f.ends

  pub items_stand : (s : ℕ) (items : List Piece) → ArePieces T s items → IsCharBoundary T s → All (IsPieceOf T) items
  items_stand s [] h b = All-nil _
  items_stand s (Regular a e text ∷ ps) h b =
      let r = regular_ends s e h.1 in
      let l = (regular_within T s e h.1).0 in
      let is : PieceStands T s e text = record { range = record { ordered = omega arith; begins = b; ends = r }; reads = h.2 } in
      All-cons (IsPieceOf T) (Regular a e text) ps (rw h.0 is) (items_stand e ps h.3 r)
  items_stand s (Placeholder a e text parts ∷ ps) h b =
      let r = placeholder_stands s e parts h.1 in
      let l = (placeholder_within T s e parts h.1).0 in
      let is : PieceStands T s e text = record { range = record { ordered = omega arith; begins = b; ends = r.1 }; reads = h.2 } in
      All-cons (IsPieceOf T) (Placeholder a e text parts) ps (rw h.0 (is, r.0)) (items_stand e ps h.3 r.1)
  items_stand s (Malformed f ∷ ps) h b = All-cons (IsPieceOf T) (Malformed f) ps tt (rw h.0 (All-nil (IsPieceOf T)))

  -- each piece of a text has the text that its range has
  pub pieces_stand : All (IsPieceOf T) (pieces T)
  pieces_stand = items_stand 0 (pieces T) (pieces_are T) (IsCharBoundary-start T u)
