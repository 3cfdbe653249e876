mod FinePairs
mod Printing
pub mod Outcomes
mod SameRacks
mod SameRoutes
mod OneText
