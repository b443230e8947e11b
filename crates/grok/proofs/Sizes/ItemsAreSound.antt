-- A text has as many items as pieces, and an inline definition has no placeholder.
use Rattle.std.proofs.Common.{◌≡◌, ℕ, suc, Bool, true, false, cond, ◌&&◌, List, [], ◌∷◌, length, Option, Some, None, refl, sym, ◌∙◌, ap, subst, arith, length-append}
use Rattle.std.specs.Prelude.{not}
use Rattle.std.specs.Str.{bytes_eq}
use Rattle.grok_parser.specs.Pieces.{Parts, Piece, Regular, Placeholder, Malformed, pieces, is_brace}
use Rattle.grok_parser.specs.Grammar.{NonePass, MayDefine, or_empty, ArePieces}
use Rattle.grok_parser.specs.Joined.{joined_pieces, AreRegular}
use Rattle.grok.specs.Tree.{Definitions, no_definitions, with_written, resolved, label_of, is_absent, items_after, items_of, Item}
use Rattle.grok_parser.proofs.PiecesAreUnique.{pieces_are}
use Rattle.grok_parser.proofs.PieceLaws.{regular_pieces}
use Rattle.grok.proofs.Sizes.TextsWithoutPlaceholders.{AreBytes, bytes_in, IsFlat, AreSound, IsSound}

-- there are as many items as pieces
length-items_after : (stored written : Definitions) (ps : List Piece) → length (items_after stored written ps) ≡ length ps
length-items_after stored written [] = refl
length-items_after stored written (Regular a e text ∷ ps) = ap suc (length-items_after stored written ps)
length-items_after stored written (Placeholder a e text parts ∷ ps) = ap suc (length-items_after stored (with_written written parts) ps)
length-items_after stored written (Malformed f ∷ ps) = ap suc (length-items_after stored written ps)

pub length-items_of : (stored : Definitions) (text : List ℕ) → length (items_of stored text) ≡ length (pieces text)
length-items_of stored text = length-items_after stored no_definitions (pieces text)

-- ---- texts without braces

bytes_after : (stored written : Definitions) (ps : List Piece) → AreRegular ps → AreBytes (items_after stored written ps)
bytes_after stored written [] h = tt
bytes_after stored written (Regular a e text ∷ ps) h = bytes_after stored written ps h
bytes_after stored written (Placeholder a e text parts ∷ ps) h = absurd h
bytes_after stored written (Malformed f ∷ ps) h = absurd h

adds_up_after : (stored written : Definitions) (ps : List Piece) → AreRegular ps → bytes_in (items_after stored written ps) ≡ length (joined_pieces ps)
adds_up_after stored written [] h = refl
adds_up_after stored written (Regular a e text ∷ ps) h = omega (arith, adds_up_after stored written ps h, length-append text (joined_pieces ps))
adds_up_after stored written (Placeholder a e text parts ∷ ps) h = absurd h
adds_up_after stored written (Malformed f ∷ ps) h = absurd h

pub flat_text : (stored : Definitions) (text : List ℕ) → NonePass is_brace text → IsFlat (items_of stored) text
flat_text stored text none =
    let (regular, whole) = regular_pieces text none in
    record { bytes = bytes_after stored no_definitions (pieces text) regular; adds_up = adds_up_after stored no_definitions (pieces text) regular ∙ ap length whole }

-- ---- sound items

-- each of these definitions holds no brace
abbrev ArePlain : Definitions → Type 0
ArePlain written = (name text : List ℕ) → written name ≡ Some text → NonePass is_brace text

defined_plainly : (definition : Option (List ℕ)) → MayDefine definition → NonePass is_brace (or_empty definition)
defined_plainly None h = tt
defined_plainly (Some d) h = h.0

plain_written : (written : Definitions) (parts : Parts) → ArePlain written → NonePass is_brace parts.definition → ArePlain (with_written written parts)
plain_written written parts plain own name text e = go (bytes_eq parts.name name && not (is_absent parts.definition)) e
  where
    go : (b : Bool) → cond b (Some parts.definition) (written name) ≡ Some text → NonePass is_brace text
    go true e = let same : parts.definition ≡ text = cc in subst (NonePass is_brace) same own
    go false e = plain name text e

sound_opened : (stored : Definitions) (parts : Parts) (rest : List Item) (own : Option (List ℕ)) → ((text : List ℕ) → own ≡ Some text → NonePass is_brace text) → AreSound (items_of stored) stored rest
    → (kept : Option (List ℕ)) → stored parts.name ≡ kept → AreSound (items_of stored) stored (resolved (label_of parts) own kept ∷ rest)
sound_opened stored parts rest (Some text) plain sound kept is = (flat_text stored text (plain text refl), sound)
sound_opened stored parts rest None plain sound (Some text) is = (is, sound)
sound_opened stored parts rest None plain sound None is = sound

sound_after : (stored written : Definitions) (T : List ℕ) (s : ℕ) (ps : List Piece) → ArePlain written → ArePieces T s ps → AreSound (items_of stored) stored (items_after stored written ps)
sound_after stored written T s [] plain h = tt
sound_after stored written T s (Regular a e text ∷ ps) plain h = sound_after stored written T e ps plain h.3
sound_after stored written T s (Malformed f ∷ ps) plain h = subst (λ qs. AreSound (items_of stored) stored (items_after stored written qs)) (sym h.0) tt
sound_after stored written T s (Placeholder a e text parts ∷ ps) plain h =
    let r = h.1.reads in
    let own : NonePass is_brace parts.definition = subst (NonePass is_brace) (sym r.definition_is) (defined_plainly r.definition r.defined) in
    let plain' : ArePlain (with_written written parts) = plain_written written parts plain own in
    sound_opened stored parts (items_after stored (with_written written parts) ps) (with_written written parts parts.name) (plain' parts.name) (sound_after stored (with_written written parts) T e ps plain' h.3) (stored parts.name) refl

pub sound_texts : (stored : Definitions) → IsSound (items_of stored) stored
sound_texts stored = record { sound = λ text. sound_after stored no_definitions text 0 (pieces text) (λ name text e. cc) (pieces_are text) }
