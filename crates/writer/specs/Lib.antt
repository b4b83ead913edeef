pub mod Writer
pub mod Rendering
pub mod WayBack
