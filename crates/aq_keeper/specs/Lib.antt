-- Rows, keys and changes as the book of rules has them, what a keeper tells, and an office with what is told of it.
pub mod RowView
pub mod KeyView
pub mod ChangeView
pub mod Told
pub mod Standing
pub mod Memories
pub mod Rising
