pub mod Spans
pub mod Marked
pub mod Reach
pub mod ParticleReach
pub mod Particles
pub mod OutOfReach
