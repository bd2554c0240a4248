pub mod Picks
pub mod Along
pub mod Checked
pub mod Onward
