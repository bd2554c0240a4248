pub mod Settled
pub mod Answers
pub mod Tests
pub mod Searches
pub mod Ends
