pub mod Cauchy
pub mod Classes
pub mod Rounds
