pub mod Drive
pub mod Steps
