pub mod Words
pub mod Iterations
