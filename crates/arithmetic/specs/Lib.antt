pub mod BitLength
