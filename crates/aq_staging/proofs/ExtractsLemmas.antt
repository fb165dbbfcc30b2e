pub mod SampleReading
pub mod Judged
pub mod ChangeTexts
pub mod DroppedLemmas
pub mod SaidLemmas
