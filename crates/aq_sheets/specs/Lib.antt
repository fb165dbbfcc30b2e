-- Sheets and their parts as the contracts see them, and what is written of them.
pub mod CellView
pub mod JsonView
pub mod PartView
pub mod Written
