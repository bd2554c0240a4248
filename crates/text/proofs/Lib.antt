pub mod Parsing
pub mod Made
pub mod Outcome
pub mod Numbers
pub mod Places
pub mod Parts
pub mod Readers
