pub mod Refusals
pub mod Groups
