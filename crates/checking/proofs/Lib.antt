mod Scans
mod Bits
mod Adding
mod Marking
mod Pairing
mod Exactness
mod Rising
pub mod Final
