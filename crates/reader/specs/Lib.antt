pub mod Refusals
pub mod Outcome
pub mod Answer
pub mod Made
