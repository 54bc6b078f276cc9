pub mod Circles
pub mod Progress
pub mod Orderly
