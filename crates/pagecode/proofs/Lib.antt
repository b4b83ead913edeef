-- Entries of a table
mod Everywhere
-- The field
mod Linear
mod Laws
mod Tables
mod Power
-- The code
mod Polynomials
mod Distance
mod Roots
mod Generator
mod Linearity
-- A column has one solution
mod Listed
mod LegalNumbers
mod Unique
mod Kernel
mod Entries
mod Exists
-- Loops
mod Fill
mod Multiples
mod Pieces
mod Stored
mod Partial
mod Walk
mod Noughts
mod LaidPages
-- The functions
mod Division
mod Formula
mod Rows
mod Content
mod Cells
mod Lines
mod Steps
mod Reduced
mod Reducing
mod Solution
mod SolvedPages
mod Sought
-- What others may use
pub mod Settled
pub mod Promises
pub mod Worked
