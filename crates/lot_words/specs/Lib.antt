-- lock words, in the order in which one reads
pub mod Rested
pub mod CallersRule
pub mod World
pub mod Values
pub mod Rule
pub mod Calls
pub mod Headline
pub mod Closing
-- the parts that these are made of
pub mod Shown
