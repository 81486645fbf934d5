pub mod Values
pub mod Demands
pub mod Requests
pub mod Pages
pub mod Registers
