-- What contracts see of the parser's values.
use Rattle.grok_parser.specs.declared.placeholder.Word.{Word}
use Rattle.grok_parser.specs.declared.placeholder.Parts.{Parts}
use Rattle.grok_parser.specs.declared.placeholder.Inside.{Inside}
use Rattle.grok_parser.specs.declared.parser.GrokComponent.{GrokComponent}
use Rattle.grok_parser.specs.declared.parser.GrokComponent.TheVariants.{RegularExpression, GrokPattern, PatternError}
use Rattle.grok_parser.specs.Pieces as spec

abbrev pub word_view : Word → spec.Word
word_view w = record { word = w.word.now; terminator = w.terminator; rest = w.rest.now }

abbrev pub parts_view : Parts → spec.Parts
parts_view p = record { name = p.name.now; alias = p.alias.now; extract = p.extract.now; definition = p.definition.now }

abbrev pub inside_view : Inside → spec.Inside
inside_view i = record { parts = parts_view i.parts; rest = i.rest.now }

abbrev pub piece_view : GrokComponent → spec.Piece
piece_view (RegularExpression range string) = spec.Regular range.start range.end string.now
piece_view (GrokPattern range pattern name alias extract definition) =
    spec.Placeholder range.start range.end pattern.now (record { name = name.now; alias = alias.now; extract = extract.now; definition = definition.now })
piece_view (PatternError e) = spec.Malformed e
