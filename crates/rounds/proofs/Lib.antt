-- In reading order: what the hyperarcs ask agrees with point 3; what the constraints ask agrees with point 2; no
-- difference grows by what is asked, and the round is a rising step. Then the laws that the code's proofs cite:
-- scenarios that differ; constraints and waits as lists of bounds, which are between events; a row raised is the
-- definition's; how a round goes on, what it has made in the end, and what its effect says of a run.
pub mod Hyperarcs
pub mod Bounds
pub mod Near
pub mod ByCell
pub mod Rising
pub mod Cap
pub mod Differ
pub mod Maxima
pub mod Asking
pub mod WaitsAsk
pub mod Waits
pub mod Among
pub mod Raise
pub mod Raised
pub mod Rounding
pub mod Rounded
pub mod Effects
