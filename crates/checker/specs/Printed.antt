-- A verdict as the programs print it: `pass`, `late C E`, `rule C R` or `unheard S R E`.
use Rattle.std.specs.Prelude.{List, ◌++◌, ℕ, codes}
use Rattle.std.specs.Fmt.{decimal}
use Rattle.checker.specs.declared.Breach.{Breach}
use Rattle.checker.specs.declared.Breach.TheVariants.{Late, Rule, Unheard}
use Rattle.checker.specs.declared.Verdict.{Verdict}
use Rattle.checker.specs.declared.Verdict.TheVariants.{Pass, Breach as Breached}

-- a number behind a space
abbrev spaced : ℕ → List ℕ
spaced n = codes " " ++ decimal n

abbrev pub breach_text : Breach → List ℕ
breach_text (Late s u) = codes "late" ++ spaced s ++ spaced u
breach_text (Rule s c) = codes "rule" ++ spaced s ++ spaced c
breach_text (Unheard s r u) = codes "unheard" ++ spaced s ++ spaced r ++ spaced u

abbrev pub verdict_text : Verdict → List ℕ
verdict_text Pass = codes "pass"
verdict_text (Breached b) = breach_text b
