pub mod Words
pub mod Stores
pub mod Isolation
pub mod Pages
