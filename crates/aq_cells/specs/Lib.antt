-- What the changes of a load reach, what a change allows for those cells, and how many steps are enough for those of particles.
pub mod Allowed
pub mod Bound
pub mod Reached
