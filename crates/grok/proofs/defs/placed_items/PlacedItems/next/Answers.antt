use Rattle.std.proofs.Common.{◌≡◌, ℕ, List, [], ◌∷◌, ◌++◌, refl, sym, ◌∙◌, ap, subst, arith, append_assoc, length-append}
use Rattle.std.specs.FinMap as finite
use Rattle.grok_parser.specs.Pieces.{Piece}
use Rattle.grok.specs.Tree.{Definitions, Inline, Stored, Item, TextItem, FaultItem, PlaceholderItem, items_of, items_after}
use Rattle.grok_parser.specs.Views.{piece_view}
use Rattle.grok.specs.Items.{item_view, written_in}
use Rattle.grok.specs.FaultLocations.{end_of, end_of_all}
use Rattle.grok.specs.steps.PlacedItems.{IsOfLibrary, left_in}
use Rattle.grok.proofs.Sizes.TextsWithoutPlaceholders.{AreSound, sound_rest}
use Rattle.grok.proofs.Sizes.ItemsAreSound.{sound_texts}
use Rattle.grok.proofs.defs.placed_items.PlacedItems.next.Goals as goal

-- the end of the last piece is the end of all
end_of_all-last : (text : List ℕ) (from : ℕ) (before : List Piece) (piece : Piece) → end_of_all text from (before ++ piece ∷ []) ≡ end_of text piece
end_of_all-last text from [] piece = refl
end_of_all-last text from (first ∷ before) piece = end_of_all-last text (end_of text first) before piece

of_library : (stored : Definitions) (before : List Item) (item : Item) (after : List Item) → AreSound (items_of stored) stored (before ++ item ∷ after) → IsOfLibrary stored item
of_library stored (first ∷ before) item after h = of_library stored before item after (sound_rest (items_of stored) stored first (before ++ item ∷ after) h)
of_library stored [] (TextItem text) after h = tt
of_library stored [] (FaultItem fault) after h = tt
of_library stored [] (PlaceholderItem label (Inline text)) after h = tt
of_library stored [] (PlaceholderItem label (Stored text)) after h = h.0

pub returns-clause-stands : goal.returns-clause-stands
returns-clause-stands c stored before h =
    let self = c.args.self.now in
    let library = finite.get self.grok.now in
    let piece = piece_view c.in-Some.piece in
    let later = c.next.new.self in
    let item = item_view c.in_ok-item.item in
    let rest = items_after library (written_in c.item_of.new.written) later in
    let cut : self.source ≡ piece ∷ later = c.in-Some.ensures.steps in
    let more : left_in self ≡ item ∷ rest = ap (items_after library (written_in self.written)) cut ∙ c.in_ok-item.ensures later in
    let items_are : items_of stored self.text.now ≡ before ++ item ∷ rest = h.items_are ∙ ap (λ is. before ++ is) more in (
      record {
        pieces_before = h.pieces_before;
        piece = piece;
        pieces_after = later;
        after = rest;
        pieces = h.pieces_are ∙ ap (λ ps. h.pieces_before ++ ps) cut;
        items = items_are;
        same = h.same;
        begins = h.begins;
        ends = c.end_of-end.ensures;
      },
      of_library stored before item rest (subst (AreSound (items_of stored) stored) items_are ((sound_texts stored).sound self.text.now)),
      record {
        library = h.library;
        pieces_before = h.pieces_before ++ piece ∷ [];
        pieces_are = h.pieces_are ∙ ap (λ ps. h.pieces_before ++ ps) cut ∙ sym (append_assoc h.pieces_before (piece ∷ []) later);
        items_are = items_are ∙ sym (append_assoc before (item ∷ []) rest);
        same = omega (arith, length-append before (item ∷ []), length-append h.pieces_before (piece ∷ []), h.same);
        begins = c.end_of-end.ensures ∙ sym (end_of_all-last self.text.now 0 h.pieces_before piece);
      },
    )
