pub mod Text
pub mod Refusals
pub mod Lines
pub mod Reports
pub mod Laws
