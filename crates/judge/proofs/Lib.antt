pub mod Elimination
pub mod Counts
pub mod Verdicts
