pub mod SetLaws
pub mod SetSizes
pub mod Reading
