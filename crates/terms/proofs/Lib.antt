mod AllLegs
mod Factors
pub mod SoundLegs
pub mod Smallest
