-- Lemmas on the room of connections in memory.
pub mod Rooms
