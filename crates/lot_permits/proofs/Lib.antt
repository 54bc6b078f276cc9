pub mod Adding
pub mod Seeking
pub mod Slept
pub mod Rest
