pub mod Premised
