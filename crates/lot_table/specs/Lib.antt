pub mod Sizes
pub mod Roots
pub mod Buckets
pub mod Tables
pub mod Cells
