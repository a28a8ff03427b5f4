pub mod Judging
pub mod Examples
pub mod Reading
pub mod One
