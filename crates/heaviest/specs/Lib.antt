-- The heaviest sheet. Read in this order: what a line asks for; the sheet that is written for it; what makes that the
-- heaviest; what reading a line answers, and why it is refused.
pub mod Asks
pub mod RingText
pub mod Most
pub mod Heaviest
pub mod Reading
pub mod Fault
