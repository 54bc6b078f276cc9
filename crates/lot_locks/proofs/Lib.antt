pub mod Adding
pub mod Freed
pub mod Letters
pub mod Seeking
pub mod Waking
