pub mod Cases
pub mod Words
pub mod Figures
pub mod Spelled
