-- What a sheet contains (01, The sheet; 02, points 3 and 6), and nothing of how it is written or read. It is told once
-- for whatever kinds K of rules there are, and then for today's.
use Rattle.std.specs.Prelude.{false, List, [], map, ℕ, ℤ, pos}
use Rattle.std.proofs.Math.Option.{Option, get_or}
use Rattle.network.specs.declared.Kind.{Kind}
use Rattle.network.specs.declared.Kind.TheVariants.{Max}
use Rattle.names.specs.Names.{Literal}

-- events are told by their names, signals by their letters
pub record Signal : Type 0 where
  pub letter : ℕ
  pub event : List ℕ

pub record RuleOf (K : Type 0) : Type 0 where
  pub kind : K
  pub from : List ℕ
  pub to : List ℕ
  pub limit : ℤ
  pub label : List Literal

pub record Reaction : Type 0 where
  pub letter : ℕ
  pub minutes : ℕ

-- an event that happens where its label holds
pub record Case : Type 0 where
  pub event : List ℕ
  pub label : List Literal

-- the section of reactions "may follow the rules", and that of cases "may follow `reactions`"
pub record ContentsOf (K : Type 0) : Type 0 where
  pub horizon : ℕ
  pub names : List (List ℕ)
  pub signals : List Signal
  pub rules : List (RuleOf K)
  pub reactions : Option (List Reaction)
  pub cases : Option (List Case)

abbrev pub Rule : Type 0
Rule = RuleOf Kind

abbrev pub Contents : Type 0
Contents = ContentsOf Kind

-- the reactions and the cases that are listed: none where the section is absent
abbrev pub listed_reactions : {K : Type 0} → ContentsOf K → List Reaction
listed_reactions c = get_or c.reactions []

abbrev pub listed_cases : {K : Type 0} → ContentsOf K → List Case
listed_cases c = get_or c.cases []

-- the letters and the events of signals, the letters of reactions, the events of cases
abbrev pub signal_letters : List Signal → List ℕ
signal_letters xs = map (λ x. x.letter) xs

abbrev pub signal_events : List Signal → List (List ℕ)
signal_events xs = map (λ x. x.event) xs

abbrev pub reaction_letters : List Reaction → List ℕ
reaction_letters ys = map (λ y. y.letter) ys

abbrev pub case_events : List Case → List (List ℕ)
case_events ks = map (λ k. k.event) ks

-- what stands behind the end of each list
abbrev pub no_signal : Signal
no_signal = record { letter = 0; event = [] }

abbrev pub no_rule_of : {K : Type 0} → K → RuleOf K
no_rule_of k = record { kind = k; from = []; to = []; limit = pos 0; label = [] }

abbrev pub no_rule : Rule
no_rule = no_rule_of Max

abbrev pub no_reaction : Reaction
no_reaction = record { letter = 0; minutes = 0 }

abbrev pub no_case : Case
no_case = record { event = []; label = [] }

abbrev pub no_literal : Literal
no_literal = record { letter = 0; value = false }
