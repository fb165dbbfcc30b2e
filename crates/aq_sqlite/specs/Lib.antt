-- What a keeper tells of its connection, what a crash may leave of it, what an error is, what is told that is opened
-- late, and of what empty files hold.
pub mod Telling
pub mod Crash
pub mod Loads
pub mod Faults
pub mod Late
pub mod Nobody
