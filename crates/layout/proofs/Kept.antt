-- Names, signals, rules, reactions and cases that keep the layout's rules, so far as the lines behind them rely on it,
-- and what may follow them: none keep them, and with one that may follow they still do. Assumes nothing.
use mathlib.Core.Path.{◌≡◌, sym, ◌∙◌, ap}
use mathlib.Core.Bool.{true}
use mathlib.Core.List.{List, [], ◌∷◌, ◌++◌, map-append}
use Prim.Native.Nat.{ℕ, ◌<◌}
use native.Mathlib.Omega.{arith}
use lib.ListN.{length, length-map, get_or-map}
use Rattle.prelude.specs.Bytes.{every}
use Rattle.prelude.specs.Lists.{In, Distinct, Each}
use Rattle.prelude.proofs.Lists.{each_at, each_snoc, each_mono, every_of_each, distinct_new, distinct_snoc}
use Rattle.prelude.proofs.Parts.{each_none}
use Rattle.names.specs.Names.{is_letter_lem, is_name_lem}
use Rattle.layout.specs.Contents.{Signal, Rule, Reaction, Case, no_signal, no_rule, no_reaction, no_case}
use Rattle.layout.specs.Contents.{signal_letters, signal_events, reaction_letters, case_events}
use Rattle.layout.specs.Keeps.{KeepsSignal, KeepsRule, KeepsReaction, KeepsCase}

pub record KeptNames (ns : List (List ℕ)) : Type 0 where
  pub each : Each (λ n. is_name_lem n ≡ true) ns []
  pub once : Distinct ns []

pub record NewName (ns : List (List ℕ)) (n : List ℕ) : Type 0 where
  pub is : is_name_lem n ≡ true
  pub new : In n ns [] → ⊥

pub record KeptSignals (names : List (List ℕ)) (xs : List Signal) : Type 0 where
  pub each : Each (KeepsSignal names) xs no_signal
  pub letters_once : Distinct (signal_letters xs) 0
  pub events_once : Distinct (signal_events xs) []

pub record NewSignal (names : List (List ℕ)) (xs : List Signal) (x : Signal) : Type 0 where
  pub keeps : KeepsSignal names x
  pub new_letter : In x.letter (signal_letters xs) 0 → ⊥
  pub new_event : In x.event (signal_events xs) [] → ⊥

abbrev pub KeptRules : List (List ℕ) → List Signal → List Rule → Type 0
KeptRules names xs rs = Each (KeepsRule names (signal_letters xs)) rs no_rule

pub record KeptReactions (xs : List Signal) (ys : List Reaction) : Type 0 where
  pub each : Each (KeepsReaction (signal_letters xs)) ys no_reaction
  pub once : Distinct (reaction_letters ys) 0

pub record NewReaction (xs : List Signal) (ys : List Reaction) (y : Reaction) : Type 0 where
  pub keeps : KeepsReaction (signal_letters xs) y
  pub new : In y.letter (reaction_letters ys) 0 → ⊥

pub record KeptCases (names : List (List ℕ)) (xs : List Signal) (ks : List Case) : Type 0 where
  pub each : Each (KeepsCase names (signal_letters xs)) ks no_case
  pub once : Distinct (case_events ks) []

pub record NewCase (names : List (List ℕ)) (xs : List Signal) (ks : List Case) (k : Case) : Type 0 where
  pub keeps : KeepsCase names (signal_letters xs) k
  pub new : In k.event (case_events ks) [] → ⊥

-- none
no_twice : {A : Type 0} (d : A) → Distinct [] d
no_twice d = record { once = λ i j h k e. absurd (omega arith) }

pub no_names : KeptNames []
no_names = record { each = each_none (λ n. is_name_lem n ≡ true) []; once = no_twice [] }

pub no_signals : (names : List (List ℕ)) → KeptSignals names []
no_signals names = record {
  each = each_none (KeepsSignal names) no_signal;
  letters_once = no_twice 0;
  events_once = no_twice [];
}

pub no_rules : (names : List (List ℕ)) (xs : List Signal) → KeptRules names xs []
no_rules names xs = each_none (KeepsRule names (signal_letters xs)) no_rule

pub no_reactions : (xs : List Signal) → KeptReactions xs []
no_reactions xs = record { each = each_none (KeepsReaction (signal_letters xs)) no_reaction; once = no_twice 0 }

pub no_cases : (names : List (List ℕ)) (xs : List Signal) → KeptCases names xs []
no_cases names xs = record { each = each_none (KeepsCase names (signal_letters xs)) no_case; once = no_twice [] }

-- one more
pub name-kept : (ns : List (List ℕ)) (n : List ℕ) → KeptNames ns → NewName ns n → KeptNames (ns ++ n ∷ [])
name-kept ns n k m = record {
  each = each_snoc [] ns n (λ m. is_name_lem m ≡ true) k.each m.is;
  once = distinct_snoc [] ns n k.once m.new;
}

pub signal-kept : (names : List (List ℕ)) (xs : List Signal) (x : Signal) → KeptSignals names xs → NewSignal names xs x
    → KeptSignals names (xs ++ x ∷ [])
signal-kept names xs x k m = record {
  each = each_snoc no_signal xs x (KeepsSignal names) k.each m.keeps;
  letters_once = rw map-append (distinct_snoc 0 (signal_letters xs) x.letter k.letters_once m.new_letter);
  events_once = rw map-append (distinct_snoc [] (signal_events xs) x.event k.events_once m.new_event);
}

pub rule-kept : (names : List (List ℕ)) (xs : List Signal) (rs : List Rule) (x : Rule) → KeptRules names xs rs
    → KeepsRule names (signal_letters xs) x → KeptRules names xs (rs ++ x ∷ [])
rule-kept names xs rs x k m = each_snoc no_rule rs x (KeepsRule names (signal_letters xs)) k m

pub reaction-kept : (xs : List Signal) (ys : List Reaction) (y : Reaction) → KeptReactions xs ys → NewReaction xs ys y
    → KeptReactions xs (ys ++ y ∷ [])
reaction-kept xs ys y k m = record {
  each = each_snoc no_reaction ys y (KeepsReaction (signal_letters xs)) k.each m.keeps;
  once = rw map-append (distinct_snoc 0 (reaction_letters ys) y.letter k.once m.new);
}

pub case_kept : (names : List (List ℕ)) (xs : List Signal) (ks : List Case) (k : Case) → KeptCases names xs ks
    → NewCase names xs ks k → KeptCases names xs (ks ++ k ∷ [])
case_kept names xs ks k c m = record {
  each = each_snoc no_case ks k (KeepsCase names (signal_letters xs)) c.each m.keeps;
  once = rw map-append (distinct_snoc [] (case_events ks) k.event c.once m.new);
}

-- each may follow those before it
pub may_name : (ns ms : List (List ℕ)) (n : List ℕ) → KeptNames (ns ++ n ∷ ms) → NewName ns n
may_name ns ms n k = record {
  is = each_at [] ns n (λ m. is_name_lem m ≡ true) ms k.each;
  new = distinct_new [] ns n ms k.once;
}

pub may_signal : (names : List (List ℕ)) (xs ys : List Signal) (x : Signal) → KeptSignals names (xs ++ x ∷ ys)
    → NewSignal names xs x
may_signal names xs ys x k = record {
  keeps = each_at no_signal xs x (KeepsSignal names) ys k.each;
  new_letter = distinct_new 0 (signal_letters xs) x.letter (signal_letters ys) (rw map-append at k.letters_once);
  new_event = distinct_new [] (signal_events xs) x.event (signal_events ys) (rw map-append at k.events_once);
}

pub may_reaction : (xs : List Signal) (ys zs : List Reaction) (y : Reaction) → KeptReactions xs (ys ++ y ∷ zs)
    → NewReaction xs ys y
may_reaction xs ys zs y k = record {
  keeps = each_at no_reaction ys y (KeepsReaction (signal_letters xs)) zs k.each;
  new = distinct_new 0 (reaction_letters ys) y.letter (reaction_letters zs) (rw map-append at k.once);
}

pub may_case : (names : List (List ℕ)) (xs : List Signal) (ks js : List Case) (k : Case)
    → KeptCases names xs (ks ++ k ∷ js) → NewCase names xs ks k
may_case names xs ks js k c = record {
  keeps = each_at no_case ks k (KeepsCase names (signal_letters xs)) js c.each;
  new = distinct_new [] (case_events ks) k.event (case_events js) (rw map-append at c.once);
}

-- signals' letters are letters
pub letter_is : {names : List (List ℕ)} {xs : List Signal} → KeptSignals names xs → (b : ℕ)
    → In b (signal_letters xs) 0 → is_letter_lem b ≡ true
letter_is {xs = xs} k b w =
    let h : w.place < length xs = omega (arith, w.place_lt, length-map xs (λ x. x.letter)) in
    let at_place = sym w.is ∙ get_or-map (λ x. x.letter) xs w.place no_signal in
    ap is_letter_lem at_place ∙ (k.each.each w.place h).letter

pub letters-are : {names : List (List ℕ)} {xs : List Signal} → KeptSignals names xs → (bs : List ℕ)
    → Each (λ b. In b (signal_letters xs) 0) bs 0 → every is_letter_lem bs ≡ true
letters-are k bs e = every_of_each is_letter_lem bs (each_mono (letter_is k) e)
