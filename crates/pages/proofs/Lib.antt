pub mod Commands
pub mod Layouts
pub mod Places
pub mod Cuts
