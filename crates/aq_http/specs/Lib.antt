pub mod Head
pub mod KeptHead
pub mod Length
pub mod Places
pub mod Reply
pub mod Routes
pub mod Step
