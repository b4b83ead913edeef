pub mod Values
pub mod Octets
pub mod Runs
pub mod Puts
mod Setting
