pub mod Ways
pub mod Faults
pub mod Sources
pub mod Tables
pub mod Laws
