pub mod Queues
pub mod Law
