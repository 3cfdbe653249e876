pub mod Racks
pub mod Plans
pub mod Builds
pub mod Triangles
pub mod Lines
pub mod Passages
pub mod Worked
