pub mod Network
pub mod Kinds
pub mod Index
pub mod Racks
pub mod Faults
