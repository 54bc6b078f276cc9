pub mod Legal
pub mod Journal
