-- The outside as the contracts see it: streams and connections, the forms in memory, and the host's.
pub mod Door
pub mod Memories
pub mod MemoryStreams
pub mod Outside
pub mod Host
