pub mod Released
pub mod Standing
