pub mod Digits
pub mod Lines
pub mod Text
pub mod Examples
