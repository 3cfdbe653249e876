pub mod Rows
pub mod Fitting
pub mod Pathed
pub mod Taking
pub mod Rising
pub mod Stopping
pub mod Single
pub mod Ends
