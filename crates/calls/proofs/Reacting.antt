-- What holds of reactions: lines that give 1 say what no line says, so sheets that differ in these alone have the same
-- reactions, and are answered the same. Assumes nothing.
use mathlib.Core.Path.{◌≡◌, refl, sym, ◌∙◌, ap}
use mathlib.Core.Logic.{inl, inr}
use mathlib.Core.List.{List}
use Prim.Native.Nat.{ℕ, ◌<◌}
use native.Mathlib.Omega.{arith}
use borrow.Author.Tests.{eqb-true, eq-eqb}
use lib.Dec.{eqb}
use lib.ListN.{length, get_or}
use Rattle.prelude.specs.Lists.{In}
use Rattle.prelude.proofs.Tests.{eq_or_ne}
use Rattle.network.specs.Limits as L
use Rattle.network.specs.Build.{letter, reaction_stated}
use Rattle.network.specs.Strategy.{reaction_of_lem, reaction}
use Rattle.network.specs.declared.Network.{Network}
use Rattle.network.proofs.Strategy.{reaction_of_stated, reaction_of-least, reaction-some, given-known, from-known}
use Rattle.network.proofs.Strategy.{is_known}
use Rattle.sheet.specs.Reading.{network_of}
use Rattle.layout.specs.Contents.{Reaction, Contents, no_reaction, listed_reactions}
use Rattle.layout.specs.Keeps.{Keeps}
use Rattle.layout.specs.Contains.{Contains}
use Rattle.layout.specs.Layout.{Layout}
use Rattle.layout.proofs.Accepted.{accepted_iff, network-contains}
use Rattle.layout.proofs.Framed.{letters-same}
use Rattle.layout.proofs.Keyed.{keyed_or_not}
use Rattle.calls.specs.Reacting.{AllOne, SlowAmong, Besides, SameAnswers, Reacting}
use Rattle.calls.proofs.Call.{reads_well_formed}
use Rattle.calls.proofs.Likewise.{likewise, same as same-forms}
use Rattle.calls.proofs.Former.{prompt-by_ones, heard-before}
use Rattle.calls.proofs.SameAnswers.{same-answers}

-- what a sheet's lines say of the reactions of its network
module _ {sheet : List ℕ} {Γ : Network} {c : Contents} (h : Contains sheet Γ c) (k : Keeps c) (p : ℕ)
    (l : p < length c.signals) where
  -- the signal with a line's letter reacts as the line says
  reacts-by : (y : Reaction) → In y (listed_reactions c) no_reaction → letter Γ p ≡ y.letter → reaction Γ p ≡ y.minutes
  reacts-by y i e =
      let listed = k.reactions.each i.place i.place_lt in
      let stated = h.reacts p i.place l i.place_lt (rw i.is e) in
      ap reaction_of_lem (stated ∙ ap (λ (z : Reaction). z.minutes) i.is)
      ∙ reaction_of_stated y.minutes (rw i.is at listed.least)

  -- and one whose reaction is not 1 has a line
  slow-listed : (reaction Γ p ≡ L.fastest → ⊥)
      → (y : Reaction) × In y (listed_reactions c) no_reaction × (letter Γ p ≡ y.letter)
  slow-listed n =
      let ys = listed_reactions c in
      elim (keyed_or_not eqb eqb-true eq-eqb (λ y. y.letter) no_reaction 0 (letter Γ p) ys) [
        | inl w ↦ (
          get_or ys w.place no_reaction,
          record { place = w.place; place_lt = w.place_lt; is = refl },
          w.is,
        )
        | inr none ↦ absurd (n (reaction_of-least (reaction_stated Γ p) (omega (arith, h.unsaid p l none))))
      ]

-- a reaction other than 1 is the same in a sheet that has the lines of this one that give other than 1
slow-same : {sheet other : List ℕ} {Γ Δ : Network} {c d : Contents} → Contains sheet Γ c → Contains other Δ d → Keeps c
    → Keeps d → SlowAmong c d → (p : ℕ) → p < length c.signals → p < length d.signals → letter Γ p ≡ letter Δ p
    → (reaction Γ p ≡ L.fastest → ⊥) → reaction Γ p ≡ reaction Δ p
slow-same h g k m among p l r same n =
    let s = slow-listed h k p l n in
    let y = s.0 in
    let i = s.1 in
    let mine = reacts-by h k p l y i s.2 in
    let theirs = (rw i.is at (among.each i.place i.place_lt)) (λ e. n (mine ∙ e)) in
    mine ∙ sym (reacts-by g m p r y theirs (sym same ∙ s.2))

module _ (sheet other : List ℕ) (l : Layout sheet) (k : Layout other) (b : Besides l.contents k.contents) where
  abbrev Γ : Network
  Γ = network_of sheet

  abbrev Δ : Network
  Δ = network_of other

  h : Contains sheet Γ l.contents
  h = network-contains sheet l

  g : Contains other Δ k.contents
  g = network-contains other k

  reactions-same : SlowAmong l.contents k.contents → SlowAmong k.contents l.contents → (p : ℕ) → p < Γ.signals
      → reaction Γ p ≡ reaction Δ p
  reactions-same mine theirs p m =
      let here : p < length l.contents.signals = omega (arith, h.signals) in
      let there : p < length k.contents.signals = omega (arith, ap length b.signals) in
      let letters = letters-same h g (record { names = b.names; signals = b.signals; cases = b.cases }) p m in
      elim (eq_or_ne (reaction Γ p) L.fastest) [
        | inl e ↦
            elim (eq_or_ne (reaction Δ p) L.fastest) [
              | inl f ↦ e ∙ sym f
              | inr n ↦ sym (slow-same g h k.keeps l.keeps theirs p there here (sym letters) n)
            ]
        | inr n ↦ slow-same h g l.keeps k.keeps mine p here there letters n
      ]

  alike : SlowAmong l.contents k.contents → SlowAmong k.contents l.contents → SameAnswers sheet other
  alike mine theirs =
      let same = reactions-same mine theirs in
      same-answers sheet other ((accepted_iff sheet).1 l) ((accepted_iff other).1 k)
      (likewise h g b l.keeps.names_once same) (same-forms h g b l.keeps.names_once same)

  unchanged : AllOne l.contents → AllOne k.contents → SameAnswers sheet other
  unchanged ones also =
      alike (record { each = λ i m n. absurd (n (ones.each i m)) })
      (record { each = λ i m n. absurd (n (also.each i m)) })

pub reacting : Reacting
reacting = record {
  counts = λ Γ σ s p m. (
    λ e. (given-known Γ σ s p m e, from-known Γ σ s p m e),
    λ h. is_known Γ σ s p m h.0 h.1,
  );
  range = λ sheet Γ p reads. (reaction-some Γ p, (reads_well_formed reads).in_range_lem p);
  prompt = λ sheet Γ reads l ones. prompt-by_ones (rw reads.network at (network-contains sheet l)) ones;
  before = λ Γ prompt σ. heard-before Γ σ prompt;
  alike = alike;
  unchanged = unchanged;
}
