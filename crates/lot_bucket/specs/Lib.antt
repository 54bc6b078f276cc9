pub mod Queue
pub mod Places
pub mod Contents
pub mod Taking
pub mod KeyLine
pub mod Agrees
pub mod Settled
