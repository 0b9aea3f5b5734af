-- Laws, and what 18 and 19 mean. Answers that may be none; a part of a list; the header; the text of a minute; fields
-- one by one; the passes over the form and over the minutes, and what is answered; rows as they are written and as they
-- are read; 18 and its line (`misfit_iff`); 19 and its line (`unread_iff`), or none (`minutes_iff`); both round trips
-- (`recovers`, `prints_back`); examples.
pub mod Optional
pub mod Part
pub mod Head
pub mod Minutes
pub mod Fielding
pub mod Passes
pub mod Tables
pub mod Answered
pub mod Standing
pub mod Begun
pub mod Formed
pub mod Misfits
pub mod Unreads
pub mod RoundTrip
pub mod Examples
