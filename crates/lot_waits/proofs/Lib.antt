pub mod Counts
pub mod Notified
pub mod Roots
pub mod Sums
pub mod Taken
pub mod Told
pub mod Waited
