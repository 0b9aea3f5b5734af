-- What holds of reactions (02, point 3), besides what the demands say of every network: "An accepted sheet without the
-- section is answered as before, and lines that give 1 change no table, verdict or event due".
use Rattle.std.specs.Prelude.{◌≡◌, ◌↔◌, true, List, ℕ, ◌+◌, ◌≤◌, ◌<◌}
use Rattle.prelude.specs.Lists.{In, Each}
use Rattle.network.specs.Limits as L
use Rattle.network.specs.Build.{observation}
use Rattle.network.specs.Happens.{given}
use Rattle.network.specs.Strategy.{time, reaction, known}
use Rattle.network.specs.declared.Network.{Network}
use Rattle.layout.specs.Contents.{Contents, no_reaction, listed_reactions, listed_cases}
use Rattle.layout.specs.Layout.{Layout}
use Rattle.dispatch.specs.declared.Heard.{Heard}
use Rattle.calls.specs.Answers.{Reads}
use Rattle.calls.specs.Lent.{Handed, Lent}
use Rattle.calls.specs.Calls.{summary, judging, solving_into, listing_of, housed}
use Rattle.calls.specs.Play.{events_due_lem, events_due_on_lem}
use Rattle.calls.specs.Recover.{recovering_into}
use Rattle.calls.specs.Bench.{bench_due}
use Rattle.calls.specs.Former.{Prompt}

-- each line of the section gives 1; so it is where the section is absent
abbrev pub AllOne : Contents → Type 0
AllOne c = Each (λ y. y.minutes ≡ L.fastest) (listed_reactions c) no_reaction

-- each line of c that gives other than 1 stands among d's too
abbrev pub SlowAmong : Contents → Contents → Type 0
SlowAmong c d =
    Each (λ y. (y.minutes ≡ L.fastest → ⊥) → In y (listed_reactions d) no_reaction) (listed_reactions c) no_reaction

-- two sheets have the same contents besides their reactions, and besides whether a section without lines is there
pub record Besides (c d : Contents) : Type 0 where
  pub horizon : c.horizon ≡ d.horizon
  pub names : c.names ≡ d.names
  pub signals : c.signals ≡ d.signals
  pub rules : c.rules ≡ d.rules
  pub cases : listed_cases c ≡ listed_cases d

-- they are answered the same, with tables of minutes and of bytes: the counts, the verdict, the table, what is due, the
-- listing, the table of a listing and the house form, and what is left in lent memory. (The converter hands the lines
-- of a sheet back as they are.)
pub record SameAnswers (sheet other : List ℕ) : Type 0 where
  pub summaries : summary sheet ≡ summary other
  pub verdicts : (t : Handed) → judging sheet t ≡ judging other t
  pub tables : (m : Lent) → solving_into sheet m ≡ solving_into other m
  pub due : (t : List ℕ) (m : ℕ) (hs : List Heard) → events_due_lem sheet t m hs ≡ events_due_lem other t m hs
  pub due_by_mask : (t : List ℕ) (m x : ℕ) → events_due_on_lem sheet t m x ≡ events_due_on_lem other t m x
  pub due_by_text : (b : List ℕ) (m : ℕ) (text : List ℕ) → bench_due sheet b m text ≡ bench_due other b m text
  pub listings : (t : Handed) (m : List ℕ) → listing_of sheet t m ≡ listing_of other t m
  pub recoveries : (printed : List ℕ) (m : Lent) → recovering_into sheet printed m ≡ recovering_into other printed m
  pub forms : (m : List ℕ) → housed sheet m ≡ housed other m

pub record Reacting : Type 0 where
  -- a signal that is given in a case counts there from its minute plus its reaction on, which is from 1 to 60
  pub counts : (Γ : Network) (σ : List ℕ) (s p m : ℕ)
      → (known Γ σ s p m ≡ true)
      ↔ ((given Γ s p ≡ true) × (time Γ.events σ s (observation Γ p) + reaction Γ p ≤ m))
  pub range : (sheet : List ℕ) (Γ : Network) (p : ℕ) → Reads sheet Γ
      → (L.fastest ≤ reaction Γ p) × (reaction Γ p ≤ L.slowest)
  -- without the section, and with lines that all give 1, each signal has the reaction 1
  pub prompt : (sheet : List ℕ) (Γ : Network) → Reads sheet Γ → (l : Layout sheet) → AllOne l.contents → Prompt Γ
  -- then a signal counts at a minute exactly where it was given before it, as document 01 has it for the judge, the
  -- hyperarcs and the player
  pub before : (Γ : Network) → Prompt Γ → (σ : List ℕ) (s p m : ℕ) → p < Γ.signals → given Γ s p ≡ true
      → (known Γ σ s p m ≡ true) ↔ (time Γ.events σ s (observation Γ p) < m)
  -- sheets with the same contents besides reactions, and with the same lines that give other than 1, in any order, are
  -- answered the same: a line that gives 1 changes nothing, whatever the others give
  pub alike : (sheet other : List ℕ) (l : Layout sheet) (k : Layout other) → Besides l.contents k.contents
      → SlowAmong l.contents k.contents → SlowAmong k.contents l.contents → SameAnswers sheet other
  -- so are a sheet with lines that all give 1 and one without the section
  pub unchanged : (sheet other : List ℕ) (l : Layout sheet) (k : Layout other) → Besides l.contents k.contents
      → AllOne l.contents → AllOne k.contents → SameAnswers sheet other
