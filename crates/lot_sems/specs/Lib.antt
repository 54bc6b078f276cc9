-- semaphore words, in the order in which one reads
pub mod World
pub mod Opening
pub mod Rule
pub mod Calls
pub mod Headline
pub mod Closing
-- a part of these
pub mod Shown
