pub mod Packing
pub mod Exported
pub mod Version
