-- Records with assumed concurrences, and why a question has no answer.
pub mod Refusals
pub mod Records
pub mod Standing
