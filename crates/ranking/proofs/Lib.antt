pub mod Counts
pub mod Pigeons
pub mod Chains
pub mod RingFree
mod Tables
mod Turning
mod Settling
mod Seeking
mod Walking
mod Answering
