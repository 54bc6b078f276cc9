pub mod Traces
pub mod Visits
pub mod Waits
pub mod Finished
pub mod Workers
