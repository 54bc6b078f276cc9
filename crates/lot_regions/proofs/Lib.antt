mod Watching
mod Leaving
pub mod Conds
