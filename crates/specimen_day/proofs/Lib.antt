pub mod Stars
