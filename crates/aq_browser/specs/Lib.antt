pub mod Paths
pub mod Titles
pub mod Links
pub mod Rows
pub mod Standing
pub mod Pages
