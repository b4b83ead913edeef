-- Fields
mod Fields
pub mod Ones
-- The mask
mod SystemSteps
mod MaskSteps
-- The blocks, and the subset
mod Skipping
mod BlockRows
mod SubsetSteps
mod SubsetParts
-- The whole message
mod Planning
mod Headers
mod Messages
-- Records
mod InMask
mod RowValues
mod RowFields
mod SubsetClocks
mod FixedFields
mod RecordOctets
-- The records one behind another
mod Masked
mod Emitting
mod Turns
mod RowsStanding
mod Systems
mod Emitted
-- The answers, and that the contract settles everything
pub mod Answers
pub mod Settled
