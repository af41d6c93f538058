pub mod Ahead
pub mod Held
pub mod Marks
pub mod Steps
