-- What the calls' own parts answer: the refusal before a call's work.
pub mod Prologue
