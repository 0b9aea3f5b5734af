pub mod Refusal
pub mod Printed
