-- Octets put and read
mod Laying
mod Parts
mod Standing
-- The calls
mod Lengths
mod Starts
mod Feeding
-- What others may use
pub mod RoundTrip
pub mod OneImage
pub mod Settled
pub mod Again
