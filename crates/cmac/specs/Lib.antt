pub mod Verification
