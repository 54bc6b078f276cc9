pub mod Settling
pub mod Eating
pub mod Leasing
pub mod Counting
pub mod Trying
pub mod Numbers
pub mod Doing
