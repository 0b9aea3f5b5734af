-- How a call ends; what settles an answer, and how a call's tests do; tables that are handed in; the edge of 17; the
-- reader, the judge, the solver, the writers, the reader of listings and the player in the refusals' numbers; what
-- holds of reading a listing back; the count of rounds, and solving within so many; which numbers and lines each call
-- answers; what holds of the heaviest sheets; what the header's functions give back; what holds of playing, of the
-- house form, of networks that say the same and of reactions, and of what is printed, word by word, and of what
-- programs read; what labels mean; the demands, and what they say of an answer; and the trial sheets.
pub mod Call
pub mod Settled
pub mod Answers
pub mod Matched
pub mod Handed
pub mod Fit
pub mod Reader
pub mod Judging
pub mod Solving
pub mod Writing
pub mod Recovering
pub mod Recovered
pub mod ReadingBack
pub mod Alike
pub mod Play
pub mod Player
pub mod Small
pub mod Counting
pub mod Within
pub mod StopsEarly
pub mod Numbers
pub mod Ringing
pub mod Header
pub mod ReachFits
pub mod Playing
pub mod Housing
pub mod Converting
pub mod Likewise
pub mod LikeVerdicts
pub mod LikePlays
pub mod Former
pub mod SameAnswers
pub mod Reacting
pub mod Words
pub mod OnPages
pub mod PrintedVerdict
pub mod Printing
pub mod FirstBytes
pub mod Benched
pub mod Labels
pub mod Demands
pub mod Clauses
pub mod Trials
