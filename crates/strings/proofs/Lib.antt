pub mod Laying
pub mod Comparing
pub mod Reading
