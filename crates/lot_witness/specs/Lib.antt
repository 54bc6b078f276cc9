pub mod Spelling
pub mod Judging
