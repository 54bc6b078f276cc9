mod Guarding
mod Making
mod Moving
mod Roots
mod Spending
