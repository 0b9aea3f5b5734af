-- What a round makes of a cell is what the definition asks of the strategy that the table holds. Assumes nothing.
use mathlib.Core.Path.{◌≡◌, refl, sym, ◌∙◌, ap}
use mathlib.Core.Logic.{inl, inr}
use mathlib.Core.Bool.{Bool, true, false, not, cond}
use mathlib.Core.List.{List}
use Prim.Native.Nat.{ℕ, ◌+◌, ◌-◌, ◌*◌, ◌≤◌, ◌<◌, max, min}
use native.Mathlib.Omega.{arith}
use lib.Bits.{bit_xor, xor_lt}
use lib.ListN.{get_or, drop, length-drop}
use lib.Seq.{length-take-le}
use Rattle.prelude.specs.Bounded.{max_below}
use Rattle.prelude.proofs.Tests.{either}
use Rattle.prelude.proofs.Minima.{min_where-lesser, min_where_ext, min_where_guarded}
use Rattle.network.specs.Build.{scenarios}
use Rattle.network.specs.Scenario.{truth, agree}
use Rattle.network.specs.Happens.{happens, given, tells}
use Rattle.network.specs.Strategy.{time, known_from, least_known_lem}
use Rattle.network.specs.WellFormed.{WellFormed}
use Rattle.network.specs.declared.Network.{Network}
use Rattle.rows.specs.Rows.{Sixteen, RowIn, row_of, Times}
use Rattle.rows.specs.Known.{known_in, first_of}
use Rattle.rows.proofs.Gapless.{sixteen, gapless-at, row_at}
use Rattle.bounds.specs.declared.list.BoundList.{BoundList}
use Rattle.bounds.specs.Listed.{asks, in_case}
use Rattle.rounds.specs.Propagate.{raised, constraints_bound, waits_bound, hyperarc, hyperarcs_bound}
use Rattle.rounds.specs.Compiled.{Compiles}
use Rattle.rounds.specs.Rounds.{held, raised_at}
use Rattle.rounds.proofs.Maxima.{max_below_ext, max_below-zero}
use Rattle.rounds.proofs.Differ.{xor_back, max_below_xor, truth_xor}

-- a hyperarc by the set of propositions on which its scenarios differ: one that is not given has no known time
least_known-first : (Γ : Network) (σ : List ℕ) (s r m k : ℕ) → m ≤ 32767
    → least_known_lem Γ σ s r m k ≡ min m (first_of k (known_in Γ σ s) (bit_xor s r))
least_known-first Γ σ s r m k l =
    min_where-lesser (tells Γ s r) (known_from Γ σ s) m 32767 k l
    ∙ ap (min m) (min_where_guarded (given Γ s) (λ p. not (agree s r p)) (known_from Γ σ s) 32767 k
    ∙ min_where_ext (λ p. not (agree s r p)) (truth (bit_xor s r)) (known_in Γ σ s) (known_in Γ σ s) 32767 k
    (λ p _. sym (truth_xor s r p)) (λ p _. refl))

-- a row of the table has the times of its scenario in the strategy that the table holds
pub row_in : {Γ : Network} {row : List ℕ} → WellFormed Γ → (t : List ℕ) (s : ℕ) → s < scenarios Γ
    → Sixteen row (λ u. get_or t (s * 16 + u) 0) → RowIn Γ (held Γ t) s row
row_in {Γ} W t s l R = record {
  at = λ u m. R.is u (omega (arith, W.events)) ∙ sym (gapless-at Γ.events (scenarios Γ) t s u l m);
}

module _ (Γ : Network) (lists : List BoundList) (t : List ℕ) (W : WellFormed Γ) (C : Compiles Γ lists) (T : Times Γ t)
    (s : ℕ) (in-s : s < scenarios Γ) where
  abbrev σ : List ℕ
  σ = held Γ t

  few : scenarios Γ ≤ 16
  few = sixteen Γ.signals W.signals

  own_row : Sixteen (row_of t s) (λ u. get_or t (s * 16 + u) 0)
  own_row = record {
    sized = length-take-le 16 (drop (s * 16) t) (simp length-drop (omega (arith, T.sized, few)));
    is = λ u l. row_at t s u l;
  }

  time-is : (r u : ℕ) → r < scenarios Γ → u < Γ.events → time Γ.events σ r u ≡ get_or t (r * 16 + u) 0
  time-is r u l m = gapless-at Γ.events (scenarios Γ) t r u l m

  module _ (u : ℕ) where
    across_is : u < Γ.events
        → max_below (scenarios Γ)
        (λ d. min (get_or t (bit_xor s d * 16 + u) 0) (first_of Γ.signals (known_in Γ σ s) d))
        ≡ hyperarcs_bound Γ σ s u
    across_is m =
        let arcs : (d : ℕ) → d < scenarios Γ
        → min (get_or t (bit_xor s d * 16 + u) 0) (first_of Γ.signals (known_in Γ σ s) d)
        ≡ cond (happens Γ (bit_xor s d) u) (hyperarc Γ σ s (bit_xor s d) u) 0 =
        λ d l.
        let r = bit_xor s d in
        let hr : bit_xor s d < scenarios Γ = xor_lt Γ.signals s d in-s l in
        let low = T.few (bit_xor s d) u hr (omega (arith, W.events)) in
        let e = time-is (bit_xor s d) u hr m in
        elim (either (happens Γ r u)) [
          | inl h ↦
              rw h
              (sym (least_known-first Γ σ s (bit_xor s d) (time Γ.events σ (bit_xor s d) u) Γ.signals
              (omega (arith, e, low))
              ∙ rw (e, xor_back s d (omega (arith, few)) (omega (arith, few)))))
          | inr h ↦ rw h (omega (arith, T.absent (bit_xor s d) u hr (omega (arith, W.events)) h))
        ]
        in
        max_below_ext _ _ (scenarios Γ) arcs
        ∙ sym (max_below_xor Γ.signals s (λ r. cond (happens Γ r u) (hyperarc Γ σ s r u) 0) few in-s)

    pub raised_is : u < Γ.events → raised_at Γ lists t s u ≡ raised Γ σ s u
    unfolding raised_at
    raised_is m =
        let own = time-is s u in-s m in
        elim (either (happens Γ s u)) [
          | inr e ↦ rw e (sym (own ∙ T.absent s u in-s (omega (arith, W.events)) e))
          | inl e ↦
              let asked : asks (in_case lists s) (row_of t s) u - 10080
              ≡ max (constraints_bound Γ σ s u) (waits_bound Γ σ s u) =
              C.asks_of σ (row_of t s) s u in-s m e (row_in W t s in-s own_row)
              in
              rw (e, asked, across_is m, ← own)
              (joined (time Γ.events σ s u) (constraints_bound Γ σ s u) (waits_bound Γ σ s u)
              (hyperarcs_bound Γ σ s u))
        ]
      where
        joined : (a b c d : ℕ) → max (max a (max b c)) d ≡ max a (max b (max c d))
        joined a b c d = omega arith

    -- behind the events all stays zero, and where an event does not happen
    pub raised-beyond : Γ.events ≤ u → u < 16 → raised_at Γ lists t s u ≡ 0
    unfolding raised_at
    raised-beyond m l =
        let asked = C.beyond σ (row_of t s) s u in-s m (row_in W t s in-s own_row) in
        let arcs = max_below-zero (scenarios Γ)
        (λ d. min (get_or t (bit_xor s d * 16 + u) 0) (first_of Γ.signals (known_in Γ σ s) d))
        (λ d h. omega (arith, T.beyond (bit_xor s d) u (xor_lt Γ.signals s d in-s h) m l))
        in
        let zero : max (max (get_or t (s * 16 + u) 0) (asks (in_case lists s) (row_of t s) u - 10080))
        (max_below (scenarios Γ)
        (λ d. min (get_or t (bit_xor s d * 16 + u) 0) (first_of Γ.signals (known_in Γ σ s) d))) ≡ 0 =
        omega (arith, T.beyond s u in-s m l, asked, arcs) in
        rw zero (same (happens Γ s u)) where
          same : (b : Bool) → ◌≡◌ {A = ℕ} (cond b 0 0) 0
          same true = refl
          same false = refl

    pub raised_away : happens Γ s u ≡ false → raised_at Γ lists t s u ≡ 0
    unfolding raised_at
    raised_away e = rw e
