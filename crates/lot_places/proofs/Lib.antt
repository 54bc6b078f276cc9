pub mod Laws
mod Ways
mod Rows
mod Steps
mod Openings
mod Lying
mod Counted
mod Lines
pub mod Spacing
pub mod Slots
