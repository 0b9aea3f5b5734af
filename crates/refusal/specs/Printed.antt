-- A refusal as the programs print it: "refused N line L".
use Rattle.std.specs.Prelude.{List, ◌++◌, ℕ, codes}
use Rattle.std.specs.Fmt.{decimal}
use Rattle.refusal.specs.Refusal.{number_of}
use Rattle.refusal.specs.declared.Refusal.{Refusal}

abbrev pub refused_text : Refusal → List ℕ
refused_text r = codes "refused " ++ decimal (number_of r.cause) ++ codes " line " ++ decimal r.line
