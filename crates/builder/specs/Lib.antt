pub mod Method
pub mod Outcomes
pub mod Faults
pub mod Laws
