pub mod Written
pub mod Files
pub mod Racks
