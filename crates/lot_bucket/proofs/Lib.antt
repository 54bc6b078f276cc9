pub mod Laws
mod Settling
pub mod Slots
