-- a whole lot, in the order in which one reads: the kinds, the state of the whole, the rule, what a kind's step is to
-- the lot, and the calls
pub mod Family
pub mod Whole
pub mod Lot
pub mod Rule
pub mod Lifts
pub mod Standing
pub mod Calls
pub mod Headline
pub mod Both
pub mod Order
pub mod Closing
-- a part of these
pub mod Shown
