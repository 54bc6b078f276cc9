pub mod Clean
pub mod Lines
pub mod Texts
pub mod Runs
