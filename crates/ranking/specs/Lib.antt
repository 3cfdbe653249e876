pub mod Graphs
pub mod Workings
