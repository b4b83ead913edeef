-- Lists, places, and what one page does to the places
mod Lists
pub mod Places
mod Hold
-- Pages of a message
mod PageCode
mod Encode
mod OnePlace
-- Demand 3
mod Room
mod Run
mod Fresh
mod Used
mod Reorder
-- What others may use
pub mod Keeps
pub mod Holdings
pub mod Demand3Proved
pub mod Wrong
pub mod Refusals
pub mod Examples
-- A loop of the code that looks; tests
mod Search
pub mod Copied
mod Tests
-- What the code holds
mod Headers
pub mod Images
mod Expiry
mod Pages
mod Meeting
pub mod Steady
mod Starts
-- A head and a store that are tested
pub mod ReadBack
mod Checks
mod Checked
-- The contracts settle everything
pub mod Settled
