pub mod Entries
pub mod Registers
pub mod Numbers
