pub mod Cbc
pub mod Ctr
pub mod Cmac
pub mod KeyWrap
pub mod Gf128
pub mod Refusals
