pub mod BitLength
pub mod Turns
pub mod Eight
