pub mod Digits
pub mod Lines
pub mod Text
pub mod Refused
pub mod Answers
pub mod Back
