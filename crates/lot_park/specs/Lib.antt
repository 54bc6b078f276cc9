pub mod Parking
pub mod Lots
