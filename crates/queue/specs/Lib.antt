pub mod Faults
pub mod Sequences
pub mod Queues
pub mod Entries
