-- What answers questions about an office, and what becomes of a load that is posted.
pub mod Answers
pub mod Posting
pub mod Shown
pub mod Service
