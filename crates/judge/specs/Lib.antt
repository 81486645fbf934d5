pub mod Judge
pub mod Elimination
