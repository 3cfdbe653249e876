pub mod Tests
pub mod Sourced
pub mod Lanes
pub mod Hops
pub mod Walking
mod Missing
pub mod Columns
pub mod PairOrder
mod Reaching
mod Nearness
mod Filled
pub mod Repeats
pub mod Rounds
pub mod Determined
