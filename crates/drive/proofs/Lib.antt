-- What is logged of an answer, of an entry, of the entries
mod Appending
mod Pieces
mod OneEntry
mod Entries
-- 55 octets an entry are enough
pub mod Room
-- The checks
mod Checks
-- The contract settles everything
pub mod Settled
