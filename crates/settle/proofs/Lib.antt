pub mod Lines
pub mod Answered
pub mod Chains
pub mod Judging
pub mod Entering
