pub mod Bits
pub mod Members
pub mod Shares
pub mod Least
pub mod Ones
pub mod Bytes
pub mod Tables
