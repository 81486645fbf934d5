pub mod Links
pub mod Extended
pub mod Sound
pub mod Adding
pub mod Histories
