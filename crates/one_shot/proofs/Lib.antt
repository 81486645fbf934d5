pub mod OneShot
pub mod Rows
