pub mod Writable
pub mod Bodies
pub mod Packages
pub mod Measured
pub mod Appended
