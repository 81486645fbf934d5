pub mod Refusals
pub mod Trips
pub mod Alike
