mod Same
mod Calls
mod Hops
mod Roads
mod Standing
mod Steps
mod Questions
pub mod Determined
mod Lawful
mod Courses
mod Listed
