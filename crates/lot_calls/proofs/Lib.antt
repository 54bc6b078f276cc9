pub mod Visiting
pub mod Waiting
pub mod Nesting
pub mod Sums
pub mod Working
mod Taking
