pub mod ShownTables
pub mod Channels
pub mod Facts
pub mod Same
pub mod Lists
pub mod Searches
pub mod Ports
mod Chains
