-- What a call of a keeper keeps of what is told, and of what a crash leaves, what any calls do, and what is told behind
-- an opening, at the first call and later.
pub mod Keeping
pub mod Through
pub mod LoadRows
pub mod LoadBatches
pub mod FromStart
pub mod LateLemmas
pub mod Reasons
