pub mod Arguments
pub mod Input
pub mod Parts
pub mod Program
pub mod Rows
pub mod Run
