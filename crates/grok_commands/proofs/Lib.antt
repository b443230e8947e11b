pub mod WordsAreCutAtEquals
pub mod FirstAnswersHaveGoneOut
pub mod CommandLaws
pub mod ObjectsReadBack
pub mod LinesHaveTheirMeasures
