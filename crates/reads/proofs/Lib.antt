pub mod Signed
pub mod Width
pub mod AnyWidth
pub mod WholeList
pub mod Yielded
pub mod Counts
pub mod Coming
pub mod Taking
