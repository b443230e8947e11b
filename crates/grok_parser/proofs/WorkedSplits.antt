-- The grammar splits five example texts into the expected pieces.
use Rattle.std.proofs.Common.{◌≡◌, [], ◌∷◌, refl}
use Rattle.std.specs.Prelude.{codes}
use Rattle.std.specs.Str.{chars}
use Rattle.grok_parser.specs.declared.malformed.GrokPatternError.TheVariants.{InvalidCharacter}
use Rattle.grok_parser.specs.Pieces.{Regular, Placeholder, Malformed, pieces, pieces_after, first_piece, regular_len, regular_skip, placeholder_at, alias_at, extract_at, close_at, definition_at, word_at}

bad_fourth : pieces (codes "%{name:a:b:c!") ≡ Malformed (InvalidCharacter 33) ∷ []
unfolding pieces_after first_piece regular_len regular_skip placeholder_at alias_at extract_at close_at definition_at word_at chars
bad_fourth = refl

accent : pieces (37 ∷ 123 ∷ 110 ∷ 195 ∷ 169 ∷ 125 ∷ []) ≡ Malformed (InvalidCharacter 233) ∷ []
unfolding pieces_after first_piece regular_len regular_skip placeholder_at alias_at extract_at close_at definition_at word_at chars
accent = refl

three : pieces (codes "%%%{name}") ≡ Regular 0 2 (codes "%%") ∷ Placeholder 2 9 (codes "%{name}") (record { name = codes "name"; alias = []; extract = []; definition = [] }) ∷ []
unfolding pieces_after first_piece regular_len regular_skip placeholder_at alias_at extract_at close_at definition_at word_at chars
three = refl

definition : pieces (codes "%{N=a=b:%}") ≡ Placeholder 0 10 (codes "%{N=a=b:%}") (record { name = codes "N"; alias = []; extract = []; definition = codes "a=b:%" }) ∷ []
unfolding pieces_after first_piece regular_len regular_skip placeholder_at alias_at extract_at close_at definition_at word_at chars
definition = refl

percent : pieces (codes "100%") ≡ Regular 0 3 (codes "100") ∷ Regular 3 4 (codes "%") ∷ []
unfolding pieces_after first_piece regular_len regular_skip placeholder_at alias_at extract_at close_at definition_at word_at chars
percent = refl
