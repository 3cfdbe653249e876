pub mod Ways
mod Rows
pub mod Sets
mod Progress
pub mod Kept
