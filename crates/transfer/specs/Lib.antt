pub mod Stage
pub mod Entry
pub mod Due
pub mod Judgement
pub mod Coe
pub mod Life
pub mod Refusals
pub mod Examples
