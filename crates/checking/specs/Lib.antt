pub mod Words
pub mod Searches
pub mod Starts
pub mod Plans
pub mod Marks
pub mod Answers
pub mod Faults
