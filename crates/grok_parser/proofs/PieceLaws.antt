-- The laws of pieces follow from the grammar alone.
use Rattle.std.proofs.Common.{◌≡◌, ℕ, suc, zero, ◌+◌, ◌-◌, ◌<◌, ◌≤◌, Bool, false, List, [], ◌∷◌, ◌++◌, length, get_or, take, drop, Option, Some, None, refl, subst, sym, ap, ◌∙◌, arith, drop-drop, length-drop, append-nil}
use Rattle.std.specs.List.{slice_range}
use Rattle.std.proofs.lemmas.List.{take-append-drop, drop_all, length-append}
use Rattle.std.proofs.Math.Seq.{take-append_seam, take-length}
use Rattle.grok_parser.proofs.TextBeginsWithOpening.{is_open_split}
use Rattle.grok_parser.proofs.RegularPieces.{drop_two_more}
use Rattle.grok_parser.specs.Pieces.{Piece, Parts, Regular, Placeholder, Malformed, pieces, is_brace}
use Rattle.grok_parser.specs.Grammar.{ArePieces, NonePass, HasByteAt, IsOpenAt, IsPlaceholder, ReadsParts, MayDefine, or_empty, written}
use Rattle.grok_parser.specs.Tiles.{Tile}
use Rattle.grok_parser.specs.declared.malformed.GrokPatternError.{GrokPatternError}
use Rattle.grok_parser.specs.Joined.{joined_pieces, AreWellFormed, AreRegular}
use Rattle.grok_parser.proofs.PiecesAreUnique.{pieces_are, pieces_are_only, open_from, regular_within, placeholder_within}

-- a range of the text, and the text after it
range_and_rest : (T : List ℕ) (s e : ℕ) → s ≤ e → slice_range T s e ++ drop e T ≡ drop s T
range_and_rest T s e l =
    let m = e - s in
    let same_end : s + m ≡ e = omega arith in
    ap (λ k. take m (drop s T) ++ drop k T) (sym same_end) ∙ (ap (λ xs. take m (drop s T) ++ xs) (sym (drop-drop m s T)) ∙ take-append-drop m (drop s T))

-- the texts of the pieces join to the text
pub joined_clean : (T : List ℕ) (s : ℕ) (items : List Piece) → ArePieces T s items → AreWellFormed items → joined_pieces items ≡ drop s T
joined_clean T s [] h c = sym (ap (λ k. drop k T) h ∙ drop_all (length T) T (omega arith))
joined_clean T s (Regular a e text ∷ ps) h c =
    let b = regular_within T s e h.1 in
    ap (λ t. t ++ joined_pieces ps) h.2 ∙ (ap (λ xs. slice_range T s e ++ xs) (joined_clean T e ps h.3 c) ∙ range_and_rest T s e (omega arith))
joined_clean T s (Placeholder a e text parts ∷ ps) h c =
    let b = placeholder_within T s e parts h.1 in
    ap (λ t. t ++ joined_pieces ps) h.2 ∙ (ap (λ xs. slice_range T s e ++ xs) (joined_clean T e ps h.3 c) ∙ range_and_rest T s e (omega arith))
joined_clean T s (Malformed f ∷ ps) h c = absurd c

none_at : (p : ℕ → Bool) (T : List ℕ) (i : ℕ) → NonePass p T → i < length T → p (get_or T i 0) ≡ false
none_at p [] i h l = absurd (omega arith)
none_at p (b ∷ bs) zero h l = h.0
none_at p (b ∷ bs) (suc i) h l = none_at p bs i h.1 (omega arith)

no_open : (T : List ℕ) (i : ℕ) → NonePass is_brace T → HasByteAt T i 123 → ⊥
no_open T i h b = let e = none_at is_brace T i h b.0 in let f : is_brace 123 ≡ false = ap is_brace (sym b.1) ∙ e in cc

-- a text without braces has regular pieces alone
pub regular_alone : (T : List ℕ) (s : ℕ) (items : List Piece) → NonePass is_brace T → ArePieces T s items → AreRegular items
regular_alone T s [] n h = tt
regular_alone T s (Regular a e text ∷ ps) n h = regular_alone T e ps n h.3
regular_alone T s (Placeholder a e text parts ∷ ps) n h = no_open T (s + 1) n h.1.opens.1
regular_alone T s (Malformed f ∷ ps) n h = no_open T (s + 1) n h.1.1

-- ---- ranges and faults

pub tiles_from : (T : List ℕ) (s : ℕ) (items : List Piece) → ArePieces T s items → Tile T s items
tiles_from T s [] h = h
tiles_from T s (Regular a e text ∷ ps) h =
    let b = regular_within T s e h.1 in
    let begins : a ≡ s = h.0 in
    (record { begins = begins; nonempty = omega arith; within = omega arith; reads = h.2 ∙ ap (λ k. slice_range T k e) (sym begins) }, tiles_from T e ps h.3)
tiles_from T s (Placeholder a e text parts ∷ ps) h =
    let b = placeholder_within T s e parts h.1 in
    let begins : a ≡ s = h.0 in
    (record { begins = begins; nonempty = omega arith; within = omega arith; reads = h.2 ∙ ap (λ k. slice_range T k e) (sym begins) }, tiles_from T e ps h.3)
tiles_from T s (Malformed f ∷ ps) h = h.0

pub tiles : (T : List ℕ) → Tile T 0 (pieces T)
tiles T = tiles_from T 0 (pieces T) (pieces_are T)

not_nil : {X : Type 0} (xs : List X) (x : X) (ys : List X) → xs ++ x ∷ ys ≡ [] → ⊥
not_nil [] x ys e = cc
not_nil (z ∷ xs) x ys e = cc

-- the pieces after some of them are those from their end on
pieces_after : (T : List ℕ) (s : ℕ) (front : List Piece) (p : Piece) (rest : List Piece) → ArePieces T s (front ++ p ∷ rest) → (e : ℕ) × ArePieces T e (p ∷ rest)
pieces_after T s [] p rest h = (s, h)
pieces_after T s (Regular a e text ∷ ps) p rest h = pieces_after T e ps p rest h.3
pieces_after T s (Placeholder a e text parts ∷ ps) p rest h = pieces_after T e ps p rest h.3
pieces_after T s (Malformed f ∷ ps) p rest h = absurd (not_nil ps p rest h.0)

pub fault_last : (T : List ℕ) (front rest : List Piece) (f : GrokPatternError) → pieces T ≡ front ++ Malformed f ∷ rest → rest ≡ []
fault_last T front rest f e = let h = pieces_after T 0 front (Malformed f) rest (subst (ArePieces T 0) e (pieces_are T)) in h.1.0

-- ---- inline definitions

defined_without_braces : (definition : Option (List ℕ)) → MayDefine definition → NonePass is_brace (or_empty definition)
defined_without_braces None h = tt
defined_without_braces (Some d) h = h.0

pub inline_without_braces : (T : List ℕ) (front rest : List Piece) (a e : ℕ) (text : List ℕ) (parts : Parts) → pieces T ≡ front ++ Placeholder a e text parts ∷ rest → NonePass is_brace parts.definition
inline_without_braces T front rest a e text parts is =
    let h = pieces_after T 0 front (Placeholder a e text parts) rest (subst (ArePieces T 0) is (pieces_are T)) in
    let r = h.1.1.reads in
    subst (NonePass is_brace) (sym r.definition_is) (defined_without_braces r.definition r.defined)

-- ---- a placeholder alone

-- how the placeholder in a range is spelled
spelled_as : (T : List ℕ) (s e : ℕ) (parts : Parts) (h : IsPlaceholder T s e parts) → slice_range T s e ≡ 37 ∷ 123 ∷ written parts.name h.reads.alias h.reads.extract h.reads.definition
spelled_as T s e parts h =
    let r = h.reads in
    let W = written parts.name r.alias r.extract r.definition in
    let X = 37 ∷ 123 ∷ W in
    let b = placeholder_within T s e parts h in
    let whole : drop s T ≡ X ++ drop e T = is_open_split (drop s T) (open_from T s h.opens) ∙ ap (λ xs. 37 ∷ 123 ∷ xs) (drop_two_more T s ∙ r.spelled) in
    let front = length-drop s T in
    let back = length-drop e T in
    let sum = ap length whole ∙ length-append X (drop e T) in
    let count : e - s ≡ length X = omega arith in
    ap (λ k. take k (drop s T)) count ∙ (ap (take (length X)) whole ∙ take-append_seam X (drop e T))

alone_is : (parts : Parts) (alias extract definition : Option (List ℕ)) (X : List ℕ) → X ≡ 37 ∷ 123 ∷ written parts.name alias extract definition →
    ((text rest : List ℕ) → text ≡ written parts.name alias extract definition ++ rest → ReadsParts text parts rest) → pieces X ≡ Placeholder 0 (length X) X parts ∷ []
alone_is parts alias extract definition X is reads =
    let W = written parts.name alias extract definition in
    let n = length X in
    let long = ap length is in
    let first : get_or X 0 0 ≡ 37 = ap (λ xs. get_or xs 0 0) is in
    let second : get_or X (0 + 1) 0 ≡ 123 = ap (λ xs. get_or xs 1 0) is in
    let opens : IsOpenAt X 0 = ((omega arith, first), (omega arith, second)) in
    let inner : drop (0 + 2) X ≡ W ++ drop n X = ap (drop 2) is ∙ (sym (append-nil W) ∙ ap (λ xs. W ++ xs) (sym (drop_all n X (omega arith)))) in
    let range : X ≡ slice_range X 0 n = sym (take-length X) ∙ ap (λ k. take k X) (let k : n ≡ n - 0 = omega arith in k) in
    let placeholder : IsPlaceholder X 0 n parts = record { opens = opens; within = omega arith; reads = reads (drop (0 + 2) X) (drop n X) inner } in
    sym (pieces_are_only X (Placeholder 0 n X parts ∷ []) (refl, placeholder, range, refl))

pub placeholder_alone : (T : List ℕ) (front rest : List Piece) (a e : ℕ) (text : List ℕ) (parts : Parts) → pieces T ≡ front ++ Placeholder a e text parts ∷ rest → pieces text ≡ Placeholder 0 (length text) text parts ∷ []
placeholder_alone T front rest a e text parts is =
    let h = pieces_after T 0 front (Placeholder a e text parts) rest (subst (ArePieces T 0) is (pieces_are T)) in
    let r = h.1.1.reads in
    alone_is parts r.alias r.extract r.definition text (h.1.2 ∙ spelled_as T h.0 e parts h.1.1)
    (λ xs ys spelled. record { alias = r.alias; extract = r.extract; definition = r.definition; spelled = spelled; named = r.named; nonempty = r.nonempty; words = r.words; defined = r.defined; alias_is = r.alias_is; extract_is = r.extract_is; definition_is = r.definition_is })

-- ---- the laws

clean : (items : List Piece) → AreRegular items → AreWellFormed items
clean [] h = tt
clean (Regular a e text ∷ ps) h = clean ps h
clean (Placeholder a e text parts ∷ ps) h = absurd h
clean (Malformed f ∷ ps) h = absurd h

pub pieces_are_joined : (T : List ℕ) → AreWellFormed (pieces T) → joined_pieces (pieces T) ≡ T
pieces_are_joined T c = joined_clean T 0 (pieces T) (pieces_are T) c

pub regular_pieces : (T : List ℕ) → NonePass is_brace T → AreRegular (pieces T) × (joined_pieces (pieces T) ≡ T)
regular_pieces T n = let h = regular_alone T 0 (pieces T) n (pieces_are T) in (h, pieces_are_joined T (clean (pieces T) h))

pub ruleset laws = (tiles, fault_last, pieces_are_joined, regular_pieces, inline_without_braces, placeholder_alone)
