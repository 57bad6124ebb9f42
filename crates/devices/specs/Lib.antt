pub mod Device
pub mod DeviceLaws
pub mod Outcome
pub mod Run
pub mod Stream
pub mod Transfer
