pub mod CondCalls
pub mod Counts
pub mod LockCalls
pub mod Roots
pub mod SemCalls
pub mod Standing
pub mod Traces
