pub mod Operations
pub mod Values
pub mod Registers
