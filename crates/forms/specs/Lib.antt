pub mod Lists
pub mod Words
pub mod Strings
pub mod Mapped
pub mod Refusals
