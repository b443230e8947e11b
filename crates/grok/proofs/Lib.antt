pub mod Pieces
pub mod Texts
pub mod Captures
pub mod KeyTables
pub mod Keys
pub mod Trees
pub mod Sizes
