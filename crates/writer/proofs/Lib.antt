-- Bits put one behind another
mod Appending
mod Turns
mod Filling
-- The records, octet by octet
mod RecordFields
mod FieldOctets
mod Rows
mod Weights
mod Placing
mod SecondSystem
-- What the records of a message give
mod Gathering
mod SatelliteParts
mod CellParts
mod Cutting
mod BySystem
-- What others may use: the message as it is written, and its rendering
pub mod Canonical
mod Headed
mod ClockBlocks
pub mod Rendered
-- What is answered
mod Written
mod Bodies
mod ReadBack
mod Checks
-- Header records, and that the contract settles everything; the way back
pub mod HeaderRecords
pub mod Unique
pub mod Settled
pub mod WayBackProved
