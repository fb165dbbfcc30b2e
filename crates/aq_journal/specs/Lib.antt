-- What a disk does, the disk in memory, a journal as bytes, and what is known and told of it.
pub mod Disks
pub mod Memories
pub mod JournalFormat
pub mod Reading
pub mod Writing
pub mod Scanning
pub mod Places
pub mod Calls
pub mod Keeping
pub mod Opening
pub mod Runs
