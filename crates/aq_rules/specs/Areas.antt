-- Areas for which designations are made, and how much the next year may measure (own).
pub mod AreaValue
pub mod CriticalValue
pub mod AreaExamples
