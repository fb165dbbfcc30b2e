pub mod Counted
pub mod Entries
pub mod Firsts
pub mod Misspelled
