pub mod Front
pub mod Repeats
pub mod Units
pub mod Literals
pub mod Inside
pub mod Walks
