pub mod Endings
pub mod Answered
pub mod Service
pub mod Session
pub mod Serving
pub mod Talking
