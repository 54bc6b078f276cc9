pub mod Counts
pub mod Ledger
pub mod Notifying
pub mod Waiting
