pub mod Copies
pub mod Leaves
