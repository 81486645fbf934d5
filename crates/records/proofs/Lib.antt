pub mod Records
pub mod Numbers
pub mod Lent
