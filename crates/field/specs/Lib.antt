pub mod Substitution
pub mod Field
pub mod Mixing
pub mod Merged
pub mod Published
