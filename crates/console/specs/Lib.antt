pub mod Lines
pub mod Page
pub mod Reading
