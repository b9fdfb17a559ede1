pub mod MachineBack
pub mod Failing
pub mod Answers
