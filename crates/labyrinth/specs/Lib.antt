pub mod Blocks
pub mod Cipher
pub mod Keys
pub mod Refusals
pub mod Working
pub mod Lent
pub mod Groups
