pub mod Held
pub mod Sides
