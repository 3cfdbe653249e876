pub mod Padded
pub mod Packets
pub mod Faults
pub mod Calls
pub mod Courses
pub mod Laws
