pub mod Judged
pub mod One
