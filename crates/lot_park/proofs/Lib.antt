mod All
mod Under
pub mod Debts
pub mod Looks
