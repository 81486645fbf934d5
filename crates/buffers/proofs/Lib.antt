pub mod Words
pub mod Arrays
