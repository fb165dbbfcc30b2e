-- Lemmas on areas with one site or year more, and on the sizes of a year's parts and of exact means.
pub mod Governing
pub mod SiteRows
pub mod First
pub mod Sizes
pub mod Sums
pub mod Exact
