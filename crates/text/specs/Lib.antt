pub mod Grammar
pub mod Walk
pub mod Refusals
pub mod Outcome
pub mod Reads
