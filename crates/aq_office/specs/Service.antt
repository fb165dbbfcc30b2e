-- What the service of an office promises.
pub mod Replies
