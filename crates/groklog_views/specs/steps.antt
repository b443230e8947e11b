pub mod MoreKeys
