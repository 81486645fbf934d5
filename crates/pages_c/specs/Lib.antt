pub mod LentPages
