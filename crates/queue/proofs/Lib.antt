pub mod Searching
pub mod Laying
pub mod Ordering
