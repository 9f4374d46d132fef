pub mod Chains
pub mod Listed
pub mod Passes
pub mod Sets
pub mod Touches
pub mod Turns
pub mod Walks
pub mod Whole
