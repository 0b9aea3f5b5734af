-- Read in this order: the verdict by its searches, and what it means that a breach is the first. Then what the
-- contracts of the code's own parts cite, and a verdict as it is printed.
pub mod Verdict
pub mod First
pub mod Plain
pub mod Printed
