-- How the words are written that the code tells apart: the horizon's, and that of each section, on a sheet of any
-- number of events.
use Prim.Native.String.{String}
use Rattle.line.specs.Sections.{heading_of_lem, horizon_heading}
use Rattle.line.specs.declared.heading.Word.{Word}
use Rattle.line.specs.declared.heading.Word.TheVariants.{Horizon, Section}

abbrev pub spelled : Word → String
spelled Horizon = horizon_heading.word
spelled (Section s) = (heading_of_lem 0 s).word
