pub mod OneAnswer
pub mod OneValue
pub mod HostCables
pub mod WrittenFile
