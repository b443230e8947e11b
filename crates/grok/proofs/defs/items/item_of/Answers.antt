use Rattle.std.proofs.Common.{◌≡◌, ℕ, List, ◌∷◌, sym, ◌∙◌, ap, subst, rules}
use Rattle.std.specs.FinMap as finite
use mathlib.Core.Path.{fun_ext}
use Rattle.grok_parser.specs.Pieces.{Parts, Piece, Placeholder}
use Rattle.grok_parser.specs.Views.{piece_view}
use Rattle.grok.specs.Tree.{Definitions, Item, items_after, with_written, resolved, label_of}
use Rattle.grok.specs.Items.{item_view, written_in}
use Rattle.grok.proofs.defs.items.item_of.Goals as goal

-- a placeholder stands for the inline definition of its name, if there is one now
opens : (stored old new : Definitions) (from to : ℕ) (text : List ℕ) (parts : Parts) (rest : List Piece) (item : Item) → new ≡ with_written old parts
    → item ≡ resolved (label_of parts) (new parts.name) (stored parts.name) → items_after stored old (Placeholder from to text parts ∷ rest) ≡ item ∷ items_after stored new rest
opens stored old new from to text parts rest item same is =
    subst (λ (w : Definitions). resolved (label_of parts) (w parts.name) (stored parts.name) ∷ items_after stored w rest ≡ item ∷ items_after stored new rest) same (ap (λ i. i ∷ items_after stored new rest) (sym is))

pub returns-in_ok-write_definition-in-GrokPattern : goal.returns-in_ok-write_definition-in-GrokPattern
returns-in_ok-write_definition-in-GrokPattern c rest =
    let p = c.in-GrokPattern in
    let stored = finite.get c.args.grok.now in
    let parts : Parts = record { name = p.name.now; alias = p.alias.now; extract = p.extract.now; definition = p.definition.now } in
    let old = written_in c.args.written.now in
    let new = written_in c.write_definition.new.written in
    let same : new ≡ with_written old parts = fun_ext c.in_ok-write_definition-in-GrokPattern.ensures in
    let is : item_view c.open_label.result ≡ resolved (label_of parts) (new parts.name) (stored parts.name) = search rules in
    ap (λ piece. items_after stored old (piece_view piece ∷ rest)) p.is ∙ opens stored old new p.range.start p.range.end p.pattern.now parts rest (item_view c.open_label.result) same is
