pub mod Format
pub mod Rules
pub mod Faults
