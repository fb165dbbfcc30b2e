pub mod Reading
pub mod Page
