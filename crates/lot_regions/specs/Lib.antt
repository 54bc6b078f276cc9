pub mod Watch
pub mod Traces
pub mod Regions
pub mod Conds
