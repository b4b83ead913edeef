pub mod TooMany
pub mod Values
pub mod Settled
