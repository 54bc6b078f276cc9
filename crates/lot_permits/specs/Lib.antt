pub mod Permits
pub mod Seeking
pub mod Tries
pub mod Freed
