pub mod ForwardingPlaces
pub mod OneMore
pub mod Records
pub mod KeptRules
