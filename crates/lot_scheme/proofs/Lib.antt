pub mod CondNotes
pub mod Counts
pub mod Ends
pub mod LockNotes
pub mod Noted
pub mod Owed
pub mod SemNotes
