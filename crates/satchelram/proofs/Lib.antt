pub mod Packing
pub mod Small
