pub mod Queue
pub mod Waiting
pub mod Links
pub mod Counted
pub mod Places
