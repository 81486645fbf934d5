pub mod Iterations
pub mod Ends
