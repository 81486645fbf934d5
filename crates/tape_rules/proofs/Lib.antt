pub mod Cases
pub mod Ways
pub mod Bounds
pub mod Accepted
pub mod Plain
pub mod Used
pub mod Front
