pub mod Halves
pub mod Rounds
pub mod Refusals
