-- What the calls of this crate promise, over the definitions of aq_base.
pub mod DecimalIn
pub mod Magnitude
pub mod Fractions
pub mod Faults
