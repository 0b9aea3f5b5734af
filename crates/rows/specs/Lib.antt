-- Read in this order: how rounds keep tables; first known times.
pub mod Rows
pub mod Known
