pub mod Values
pub mod Demands
pub mod Requests
pub mod Stores
pub mod Keys
pub mod Pages
pub mod Registers
