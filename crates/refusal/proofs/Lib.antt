pub mod OneCase
pub mod Numbers
