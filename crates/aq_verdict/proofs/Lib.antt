-- Lemmas on the numbers of this crate and on short lists.
mod Numbers
mod Lists
mod Sums
pub mod Inserted
mod Rows
mod Copied
mod PercentilePlaces
