pub mod Task
pub mod Faults
pub mod List
pub mod Set
pub mod Standing
