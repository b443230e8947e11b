-- The fault that is located is the one that compiling finds first.
use Rattle.std.proofs.Common.{◌≡◌, ℕ, Bool, List, [], ◌∷◌, ◌++◌, length, Option, Some, None, sym, ◌∙◌, ap, subst, arith}
use Rattle.std.specs.Option.{option_map}
use Rattle.std.specs.FinMap as finite
use Rattle.grok_parser.specs.declared.malformed.GrokPatternError.{GrokPatternError}
use Rattle.grok.specs.Maps.{Texts}
use Rattle.grok_parser.specs.Pieces.{Piece, Regular, Placeholder, Malformed, Parts}
use Rattle.grok_parser.specs.Malformations.{HasMalformedAt}
use Rattle.grok_parser.specs.Grammar.{ArePieces}
use Rattle.grok.specs.Tree.{Definitions, no_definitions, with_written, label_of, Fault, MalformedPiece, Item, FaultItem, resolved, items_after, tree, first_structural}
use Rattle.grok.specs.Keys.{TreeFault, Structural, Clash, first_fault}
use Rattle.grok.specs.FaultLocations.{Step, end_of_all, IsPieceAt, IsOwnFault, IsFaultAt, IsFaultOf}
use Rattle.grok.specs.FaultLocations as faults
use Rattle.grok.specs.ClashLocations.{IsFirstClash}
use Rattle.grok.specs.Diagnoses.{IsFirstStructural}
use Rattle.grok.specs.declared.location.Location.{Location}
use Rattle.grok.specs.declared.locate_clash.Clash as found
use Rattle.grok.proofs.Keys.KeysAreDistinct.{other_fault_is_structural}
use Rattle.grok_parser.proofs.PiecesAreUnique.{pieces_are}

-- if no clash is found, the first fault is none
pub no_clash : (first : Option TreeFault) (clash : Option found.Clash) → IsFirstClash first clash → clash ≡ None → (key : List ℕ) → first ≡ Some (Clash key) → ⊥
no_clash first None h e = h
no_clash first (Some clash) h e = cc

-- then the located structural fault is the first one
pub first_structural_at : (texts : Texts) (alias_only : Bool) (pattern : List ℕ) (fault : Fault) (location : Location)
    → ((key : List ℕ) → first_fault alias_only (tree (finite.get texts) pattern) ≡ Some (Clash key) → ⊥)
    → Some fault ≡ first_structural (tree (finite.get texts) pattern) → IsFaultOf (finite.get texts) pattern fault location
    → IsFirstStructural texts alias_only pattern fault location
first_structural_at texts alias_only pattern fault location other is stands = record {
  first = other_fault_is_structural alias_only (tree (finite.get texts) pattern) other ∙ ap (option_map Structural) (sym is);
  stands = stands;
}

-- ---- a malformed piece

-- the piece of an item with such a fault is malformed
resolved_missing : (stored written : Definitions) (parts : Parts) (o p : Option (List ℕ)) (fault : GrokPatternError) → resolved (label_of parts) o p ≡ FaultItem (MalformedPiece fault) → ⊥
resolved_missing stored written parts (Some text) p fault e = cc
resolved_missing stored written parts None (Some text) fault e = cc
resolved_missing stored written parts None None fault e = cc

item_heads : (x y : Item) (xs ys : List Item) → (x ∷ xs) ≡ y ∷ ys → x ≡ y
item_heads x y xs ys e = cc

item_tails : (x y : Item) (xs ys : List Item) → (x ∷ xs) ≡ y ∷ ys → xs ≡ ys
item_tails x y xs ys e = cc

malformed_piece : (stored written : Definitions) (pieces_before : List Piece) (piece : Piece) (pieces_after : List Piece) (before after : List Item) (fault : GrokPatternError)
    → items_after stored written (pieces_before ++ piece ∷ pieces_after) ≡ before ++ FaultItem (MalformedPiece fault) ∷ after → length before ≡ length pieces_before → piece ≡ Malformed fault
malformed_piece stored written [] (Regular s e text) rest [] after fault is n = cc
malformed_piece stored written [] (Placeholder s e text parts) rest [] after fault is n =
    absurd (resolved_missing stored written parts _ _ fault (item_heads _ _ _ _ is))
malformed_piece stored written [] (Malformed other) rest [] after fault is n = let same : FaultItem (MalformedPiece other) ≡ FaultItem (MalformedPiece fault) = item_heads _ _ _ _ is in cc
malformed_piece stored written [] piece rest (x ∷ before) after fault is n = absurd (omega arith)
malformed_piece stored written (p ∷ front) piece rest [] after fault is n = absurd (omega arith)
malformed_piece stored written (Regular s e text ∷ front) piece rest (x ∷ before) after fault is n = malformed_piece stored written front piece rest before after fault (item_tails _ _ _ _ is) (omega arith)
malformed_piece stored written (Placeholder s e text parts ∷ front) piece rest (x ∷ before) after fault is n =
    malformed_piece stored (with_written written parts) front piece rest before after fault (item_tails _ _ _ _ is) (omega arith)
malformed_piece stored written (Malformed other ∷ front) piece rest (x ∷ before) after fault is n = malformed_piece stored written front piece rest before after fault (item_tails _ _ _ _ is) (omega arith)

-- a malformed piece of a text begins with `%{`, and has a fault of the grammar
malformed_there : (text : List ℕ) (from : ℕ) (front rest : List Piece) (fault : GrokPatternError) → ArePieces text from (front ++ Malformed fault ∷ rest) → HasMalformedAt text (end_of_all text from front) fault
malformed_there text from [] rest fault are = (are.1, are.3)
malformed_there text from (Regular s e part ∷ front) rest fault are = malformed_there text e front rest fault are.3
malformed_there text from (Placeholder s e part parts ∷ front) rest fault are = malformed_there text e front rest fault are.3
malformed_there text from (Malformed other ∷ []) rest fault are = let none = are.0 in cc
malformed_there text from (Malformed other ∷ (p ∷ front)) rest fault are = let none = are.0 in cc

malformed_item : (stored : Definitions) (text : List ℕ) (before : List Item) (from to : ℕ) (fault : GrokPatternError) → IsPieceAt stored text before from to (FaultItem (MalformedPiece fault)) → HasMalformedAt text from fault
malformed_item stored text before from to fault at =
    let piece_is : at.piece ≡ Malformed fault =
    malformed_piece stored no_definitions at.pieces_before at.piece at.pieces_after before at.after fault (ap (items_after stored no_definitions) (sym at.pieces) ∙ at.items) at.same in
    let are : ArePieces text 0 (at.pieces_before ++ Malformed fault ∷ at.pieces_after) =
    subst (λ piece. ArePieces text 0 (at.pieces_before ++ piece ∷ at.pieces_after)) piece_is (subst (ArePieces text 0) at.pieces (pieces_are text)) in
    subst (λ from. HasMalformedAt text from fault) (sym at.begins) (malformed_there text 0 at.pieces_before at.pieces_after fault are)

own_malformed : (stored : Definitions) (text : List ℕ) (before : List Item) (from to levels : ℕ) (item : Item) (fault : Fault) (error : GrokPatternError) → IsPieceAt stored text before from to item → IsOwnFault levels item fault
    → fault ≡ MalformedPiece error → HasMalformedAt text from error
own_malformed stored text before from to levels _ _ error at (faults.Broken _ fault) is = malformed_item stored text before from to error (subst (λ fault. IsPieceAt stored text before from to (FaultItem fault)) is at)
own_malformed stored text before from to _ _ _ error at (faults.Deep label meaning) is = cc

malformed_by : (stored : Definitions) (levels : ℕ) (text : List ℕ) (path : List Step) (faulty : List ℕ) (from to : ℕ) (fault : Fault) (error : GrokPatternError) → IsFaultAt stored levels text path faulty from to fault
    → fault ≡ MalformedPiece error → HasMalformedAt faulty from error
malformed_by stored levels text _ _ from to fault error (faults.Here _ _ before _ _ item _ at none own) is = own_malformed stored text before from to levels item fault error at own is
malformed_by stored _ text _ faulty from to fault error (faults.Inside levels _ before begin end label definition path _ _ _ _ at named none below) is = malformed_by stored levels definition path faulty from to fault error below is

pub malformed_at_location : (stored : Definitions) (pattern : List ℕ) (fault : Fault) (error : GrokPatternError) (location : Location) → IsFaultOf stored pattern fault location → fault ≡ MalformedPiece error
    → HasMalformedAt location.text.now location.range.start error
malformed_at_location stored pattern fault error location at is = malformed_by stored _ pattern _ location.text.now location.range.start location.range.end fault error at is
