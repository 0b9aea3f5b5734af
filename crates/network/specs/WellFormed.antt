-- What every network keeps that a sheet was read into, so that later code need not ask again; and what it keeps while
-- lines of the sheet are still to come.
use Rattle.std.specs.Prelude.{◌≡◌, List, ℕ, zero, suc, ◌+◌, ◌≤◌, ◌<◌, ℤ, pos, negsuc, length, get_or}
use Rattle.network.specs.Limits as L
use Rattle.network.specs.Build.{no_label, observation, event_label, constraint, scenarios}
use Rattle.network.specs.Strategy.{reaction}
use Rattle.network.specs.Complete.{WellLabelled}
use Rattle.network.specs.declared.Label.{Label}
use Rattle.network.specs.declared.Constraint.{Constraint}
use Rattle.network.specs.declared.Network.{Network}

-- a limit is "from -10,080 to 10,080"
abbrev pub InLimits : ℤ → Type 0
InLimits (pos w) = w ≤ L.horizon
InLimits (negsuc w) = suc w ≤ L.horizon

-- the label's letters are among four
pub record FewLetters (ℓ : Label) : Type 0 where
  pub positive : ℓ.positive < L.cases
  pub negative : ℓ.negative < L.cases

-- the label's letters are signals
pub record Lettered (Γ : Network) (ℓ : Label) : Type 0 where
  pub positive : ℓ.positive < scenarios Γ
  pub negative : ℓ.negative < scenarios Γ

-- of a rule: the ends are events, the limit is in range, and the label's letters are signals
pub record Proper (Γ : Network) (c : Constraint) : Type 0 where
  pub from : c.from < Γ.events
  pub to : c.to < Γ.events
  pub bound : InLimits c.bound
  pub label : Lettered Γ c.label

-- the arrays are as long as the limits say
pub record Arrays (Γ : Network) : Type 0 where
  pub starts : length Γ.starts ≡ L.events
  pub lengths : length Γ.lengths ≡ L.events
  pub letters : length Γ.letters ≡ L.signals
  pub observations : length Γ.observations ≡ L.signals
  pub reactions : length Γ.reactions ≡ L.signals
  pub constraints : length Γ.constraints ≡ L.rules
  pub labels : length Γ.labels ≡ L.events
  pub labelled : length Γ.labelled ≡ L.events

-- how far the labels of events are read: no line of theirs has been; some have, and more are to come; all have
pub data Labelling : Type 0 where
  Before : Labelling
  Within : Labelling
  Behind : Labelling

-- what the labels keep so far: each is `-`; nothing, since what 20 and 21 ask is asked when all are read; that
abbrev pub Labels : Labelling → Network → Type 0
Labels Before Γ = (u : ℕ) → event_label Γ u ≡ no_label
Labels Within Γ = Unit {0}
Labels Behind Γ = WellLabelled Γ

-- how many of each are still to come, at most
pub record ToCome : Type 0 where
  pub events : ℕ
  pub signals : ℕ
  pub rules : ℕ
  pub labels : Labelling

-- n and m more; by cases, since n + 0 does not compute to n
abbrev pub and_more : ℕ → ℕ → ℕ
and_more n zero = n
and_more n (suc m) = n + suc m

-- what a network keeps that has room for these
pub record Forming (t : ToCome) (Γ : Network) : Type 0 where
  pub horizon : Γ.horizon ≤ L.horizon
  pub some_event : 1 ≤ and_more Γ.events t.events
  pub events : and_more Γ.events t.events ≤ L.events
  pub signals : and_more Γ.signals t.signals ≤ L.signals
  pub rules : and_more Γ.rules t.rules ≤ L.rules
  pub arrays : Arrays Γ
  pub observed : (p : ℕ) → p < Γ.signals → observation Γ p < Γ.events
  -- "An event gives at most one signal"
  pub one_signal : (p q : ℕ) → p < Γ.signals → q < Γ.signals → observation Γ p ≡ observation Γ q → p ≡ q
  pub proper : (c : ℕ) → c < Γ.rules → Proper Γ (constraint Γ c)
  -- "minutes from 1 to 60"; at least 1 it is by its definition
  pub in_range_lem : (p : ℕ) → reaction Γ p ≤ L.slowest
  pub lettered : (u : ℕ) → Lettered Γ (event_label Γ u)
  pub labels : Labels t.labels Γ

-- nothing is still to come
abbrev pub WellFormed : Network → Type 0
WellFormed Γ = Forming (record { events = 0; signals = 0; rules = 0; labels = Behind }) Γ

-- each event's name is a part of the sheet, of at most 8 bytes
pub record Named (sheet : List ℕ) (Γ : Network) : Type 0 where
  pub inside : (u : ℕ) → u < Γ.events → get_or Γ.starts u 0 + get_or Γ.lengths u 0 ≤ length sheet
  pub short : (u : ℕ) → u < Γ.events → get_or Γ.lengths u 0 ≤ 8
