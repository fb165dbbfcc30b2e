-- What a file tells that is opened late, what a crash leaves of it, and how far it has come.
pub mod Late
pub mod States
