mod KeysLeft
mod MarkedLines
pub mod CompiledIsWithin
