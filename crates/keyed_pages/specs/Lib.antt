pub mod Keyed
pub mod Refusals
