pub mod BlanksEndAtBoundaries
pub mod FirstCharacterDecides
pub mod MeasuresDecide
