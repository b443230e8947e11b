-- The definitions give one example pattern its expected text and keys, and another one its expected clash.
use Rattle.std.proofs.Common.{◌≡◌, ℕ, cond, false, List, [], ◌∷◌, Some, None, refl}
use Rattle.std.specs.Prelude.{codes}
use Rattle.std.specs.Str.{bytes_eq}
use Rattle.grok_parser.specs.Pieces.{pieces_after, first_piece, regular_len, regular_skip, placeholder_at, alias_at, extract_at, close_at, definition_at, word_at}
use Rattle.grok.specs.Tree.{Definitions, tree, no_definitions}
use Rattle.grok.specs.Keys.{keys, capturing, first_fault, Clash}
use Rattle.grok.specs.Expanded.{expanded}

abbrev from_table : List (List ℕ × List ℕ) → Definitions
from_table [] name = None
from_table (row ∷ rows) name = cond (bytes_eq row.0 name) (Some row.1) (from_table rows name)

abbrev A_and_B : Definitions
A_and_B = from_table ((codes "A", codes "a") ∷ (codes "B", codes "%{A}%{A}") ∷ [])

repeated_text : expanded false (tree A_and_B (codes "%{B}")) ≡ codes "(?<_n_0>(?<_n_1>a)(?<_n_2>a))"
unfolding tree pieces_after first_piece regular_len regular_skip placeholder_at alias_at extract_at close_at definition_at word_at
repeated_text = refl

repeated_keys : keys (capturing false (tree A_and_B (codes "%{B}"))) ≡ codes "B" ∷ codes "A" ∷ codes "A[1]" ∷ []
unfolding tree pieces_after first_piece regular_len regular_skip placeholder_at alias_at extract_at close_at definition_at word_at
repeated_keys = refl

both_orders : first_fault false (tree no_definitions (codes "%{P:x=a}%{P:x:int=b}%{P:x[1]=c}")) ≡ Some (Clash (codes "x[1]"))
unfolding tree pieces_after first_piece regular_len regular_skip placeholder_at alias_at extract_at close_at definition_at word_at
both_orders = refl
