pub mod Octets
pub mod Calls
pub mod Reading
