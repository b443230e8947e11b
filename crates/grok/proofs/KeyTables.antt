-- Lemmas of the key table.
pub mod NamesMeanKeys
pub mod OneMoreKey
pub mod BinarySearchFindsKey
pub mod GroupIsGreatest
pub mod WalksAreSorted
pub mod WalksHaveAnsweredKeys
