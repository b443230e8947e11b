-- Lemmas of the groups of a match.
pub mod CapturesAreOfMatch
pub mod GroupsLieInLine
pub mod SearchKeepsMatch
