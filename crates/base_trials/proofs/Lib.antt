pub mod Accesses
pub mod Calm
pub mod CondSchedules
pub mod Dealt
pub mod LockSchedules
pub mod Opened
pub mod Owners
pub mod SemSchedules
pub mod Sound
pub mod Waiters
mod Lending
