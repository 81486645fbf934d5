pub mod Refusals
pub mod Wide
