-- a table of rights, in the order in which one reads: where a right may be, what was done with it, the rule, and what a
-- step, a move of a value, an opening and a closing are
pub mod Seating
pub mod History
pub mod Rule
pub mod Settled
pub mod Steps
pub mod Slots
pub mod Opening
pub mod Start
pub mod Closing
-- the parts that these are made of
pub mod Shown
pub mod Single
pub mod World
pub mod Lines
pub mod Layout
