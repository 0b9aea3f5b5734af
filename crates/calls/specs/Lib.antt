-- The values of an answer; what a call is; how tables are handed in and memory is lent; what the public calls answer,
-- the solver's count of rounds and what it answers within so many, the player's, that of reading a listing back and
-- those of the bench; what the programs print. Then what these answers mean: what each call can answer, by its number
-- and line; what its answer says where it does not refuse; what a label means; the demands; and what holds of the house
-- form, of converting, of the heaviest sheets, of reactions and of what is printed; and the trial sheets.
pub mod Values
pub mod Call
pub mod Lent
pub mod Calls
pub mod Counting
pub mod Within
pub mod Play
pub mod Recover
pub mod Bench
pub mod Header
pub mod Table
pub mod Answers
pub mod Numbers
pub mod Reader
pub mod Judges
pub mod Solves
pub mod StopsEarly
pub mod Lists
pub mod ReadingBack
pub mod Playing
pub mod Benched
pub mod Labels
pub mod Demands
pub mod Housing
pub mod Converting
pub mod Ringing
pub mod Former
pub mod Reacting
pub mod Printing
pub mod Trials
