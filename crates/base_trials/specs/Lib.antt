pub mod Accesses
pub mod Calm
pub mod CondSchedules
pub mod LockSchedules
pub mod Opened
pub mod SemSchedules
pub mod Waits
