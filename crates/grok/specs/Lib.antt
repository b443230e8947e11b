pub mod Numeral
pub mod GeneratedNames
pub mod Maps
pub mod Debugs
pub mod Captures
pub mod Locations
pub mod RegexFinds
pub mod Engines
pub mod KeyNumbers
pub mod KeyTable
pub mod Answers
pub mod Groups
pub mod BorrowedMatches
pub mod LineSearches
pub mod AnswerLaws
pub mod DefaultDefinitions
pub mod Tree
pub mod Named
pub mod Keys
pub mod Expanded
pub mod Items
pub mod Errors
pub mod FirstFault
pub mod Compiled
pub mod PlaceholderKeys
pub mod Refusals
pub mod Measured
pub mod CountedMeasures
pub mod FaultLocations
pub mod ByteLocations
pub mod ClashLocations
pub mod Diagnoses
pub mod TreeLaws
pub mod steps
-- THE WORDS FOR CALLERS: every definition that a contract of a public call uses.
-- pieces
pub use Rattle.grok_parser.specs.Pieces.{Piece, Regular, Placeholder, Malformed, Parts, pieces}
pub use Rattle.grok_parser.specs.Pieces.{is_name_byte, is_brace, pieces_at}
pub use Rattle.grok_parser.specs.PlaceholderNames.{is_name}
pub use Rattle.grok_parser.specs.Grammar.{ArePieces, NonePass}
pub use Rattle.grok_parser.specs.Views.{piece_view}
pub use Rattle.grok_parser.specs.Uses.{UseValue, use_view, use_of, uses_in}
pub use Rattle.grok_parser.specs.Texts.{component_text, component_debug, fault_words, IsFaultText, IsPieceText}
pub use Rattle.grok_parser.specs.Tiles.{Tile}
pub use Rattle.grok_parser.specs.Joined.{AreRegular, AreWellFormed, joined_pieces}
-- definitions, and the tree of a pattern
-- (`Texts` of `Maps` is named by its path, since a file here has that name too)
pub use Rattle.grok.specs.Maps.{texts_of, texts_code, set_all, pair_texts}
pub use Rattle.grok.specs.Named.{NoneNames}
pub use Rattle.grok.specs.DefaultDefinitions.{default_definitions}
pub use Rattle.grok.specs.Tree.{Definitions, Item, Event, Fault, items_of, definition_of, tree, first_structural, reached}
pub use Rattle.grok.specs.TreeLaws.{OwnDefinitionHolds, EarlierDefinitionHolds, StoredDefinitionHolds, UnusedDefinitionsDoNotMatter, ModesFaultAlike, HeadsAloneDiffer}
pub use Rattle.grok.specs.Keys.{capturing, keys, extract_of, first_fault, numbered, EndsInNumberWhereNumbered, ClashNeedsNumber, KeysAreDistinct}
pub use Rattle.grok.specs.FirstFault.{FirstFaultIsFirst, OtherFaultIsStructural, ExtractIsLast}
pub use Rattle.grok.specs.Expanded.{expanded}
-- sizes
pub use Rattle.grok.specs.Measured.{measured_tree, reached_pieces, reached_texts, pieces_to_fault, items_to_fault, saturated, tree_of, measure_view}
pub use Rattle.grok.specs.CountedMeasures.{IsCountedMeasure}
-- what is wrong with a pattern, and where: faults and clashes, and which piece writes a byte of the expanded text
pub use Rattle.grok.specs.FaultLocations.{IsFaultAt, IsFaultOf, path_view}
pub use Rattle.grok.specs.ByteLocations.{HasByte, IsEventAt, IsByteLocation, LocatesByte}
pub use Rattle.grok.specs.ClashLocations.{HasKeyAt, IsClashAt}
pub use Rattle.grok_parser.specs.Malformations.{IsMalformedAt}
pub use Rattle.grok.specs.Diagnoses.{FindsDiagnosis, IsDiagnosis, IsFine, IsFirstStructural, IsFirstMalformed, IsFirstClashOf, IsRefusedAs, IsBlamed, IsRefusedPart, IsInnermost, AreNotToBlame, IsNotToBlame, IfPlaceholder, IfRefused, LeadsTo, IsTooLong, LocatesReason, IsOriginOf}
-- errors, and what compiling returns
pub use Rattle.grok.specs.Items.{fault_view}
pub use Rattle.grok.specs.Errors.{ErrorValue, error_value, error_text}
pub use Rattle.grok.specs.Compiled.{Expansion, expansion_of, Compiles, IsPatternOf, IsCompileError, IsFaultError, IsExpansionError}
-- the keys of the placeholders of a pattern
pub use Rattle.grok.specs.KeyNumbers.{key_text, key_number, key_and_number, numbers}
pub use Rattle.grok.specs.PlaceholderKeys.{AreKeysOf}
-- whether a text was accepted, or why it was refused
pub use Rattle.grok.specs.Refusals.{IsAccepted, IsReasonFor, IsOfSyntax, IsOfBrackets}
-- engines
pub use Rattle.grok.specs.Captures.{name_texts, text_of, capture_texts, found_texts, IsSliceOf, AreSlicesOf, IsMatchIn}
pub use Rattle.grok.specs.Engines.{engine_regex}
pub use Rattle.grok.specs.RegexFinds.{IsReadByDefault, IsWithinLimit, IsRegexOf, MayRefuse, captures_in, captures_by}
pub use Rattle.grok.specs.Locations.{IsLocationIn, AreLocationsIn, located_texts, location_of}
pub use Rattle.regex.specs.Strings
-- patterns and matches
pub use Rattle.grok.specs.KeyTable.{Entries, IsKeyTable, group_in, entry_of_group}
pub use Rattle.grok.specs.Answers.{PatternValue, MatchesValue, extract_texts, pattern_code, matches_code, value_of, walk}
pub use Rattle.grok.specs.Groups.{group_texts}
pub use Rattle.grok.specs.AnswerLaws.{WalksHaveTheAnsweredKeys, AnswersAreThoseOfTheWalk, GeneratedNamesMeanTheirKeys, OtherNamesMeanThemselves, GroupsAreTheGreatest}
pub use Rattle.grok.specs.BorrowedMatches.{borrowed_line, borrowed_keys, borrowed_captures, borrowed_locations}
pub use Rattle.grok.specs.LineSearches.{LineSearchValue, line_search_code, HasMatchIn}
pub use Rattle.grok.specs.Debugs.{debug_texts, debug_pairs}
