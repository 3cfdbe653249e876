mod Climbing
mod Reaching
mod Delivering
mod Ordering
pub mod Accepting
mod Beginnings
mod Choosing
mod Filling
mod Plain
mod Tiering
mod Naming
mod Passing
