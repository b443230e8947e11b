pub mod FaultsOfPatterns
pub mod PlaceByPlace
