-- What the sheet of a call that is handed a table, or lent one, tells; what the calls that write leave in lent memory;
-- and what each call's answer means.
pub mod Prologue
pub mod Leaves
pub mod SolverLeaves
pub mod WithinLeaves
pub mod ReaderLeaves
pub mod Playing
pub mod Means
