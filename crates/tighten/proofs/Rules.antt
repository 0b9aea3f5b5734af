-- The upper bounds of a network's rules: there are as many as rules; what holds of each rule's holds of each, and the
-- other way round; equal rules have equal ones; and a rule that is an upper bound is its own. Assumes nothing.
use mathlib.Core.Path.{◌≡◌, sym, ◌∙◌, ap}
use Prim.Native.Nat.{ℕ, ◌<◌}
use native.Mathlib.Omega.{arith}
use lib.ListN.{length, get_or}
use Rattle.prelude.specs.Lists.{Each}
use Rattle.prelude.proofs.Bounded.{length-tabulate, get_d_tabulate}
use Rattle.prelude.proofs.Lists.{tabulate-is}
use Rattle.network.specs.Build.{no_constraint, constraint}
use Rattle.network.specs.declared.Kind.{Kind}
use Rattle.network.specs.declared.Kind.TheVariants.{Max, Min}
use Rattle.network.specs.declared.Constraint.{Constraint}
use Rattle.network.specs.declared.Network.{Network}
use Rattle.tighten.specs.Upper.{forward, backward, by_kind, upper_of, uppers_of}

-- what holds of an upper bound in either direction holds of a rule's
pub upper_of_either : (P : Constraint → Type 0) (c : Constraint) → P (forward c) → P (backward c) → P (upper_of c)
upper_of_either P c f b = of c.kind
  where
    of : (k : Kind) → P (by_kind k c)
    of Max = f
    of Min = b

pub upper_of-max : (c : Constraint) → c.kind ≡ Max → upper_of c ≡ c
upper_of-max c e =
    let own : forward c ≡ c =
    λ i. record { kind = sym e i; from = c.from; to = c.to; bound = c.bound; label = c.label } in
    ap (λ (k : Kind). by_kind k c) e ∙ own

module _ (Γ : Network) where
  abbrev at : ℕ → Constraint
  at i = upper_of (constraint Γ i)

  pub length-uppers_of : length (uppers_of Γ) ≡ Γ.rules
  length-uppers_of = length-tabulate at Γ.rules

  get_d_uppers_of : (i : ℕ) → i < Γ.rules → get_or (uppers_of Γ) i no_constraint ≡ upper_of (constraint Γ i)
  get_d_uppers_of i h = get_d_tabulate at Γ.rules i no_constraint h

  module _ (P : Constraint → Type 0) where
    pub uppers_of-each : ((i : ℕ) → i < Γ.rules → P (upper_of (constraint Γ i))) → Each P (uppers_of Γ) no_constraint
    uppers_of-each f = record {
      each = λ i h. let l : i < Γ.rules = omega (arith, length-uppers_of) in rw (get_d_uppers_of i l) (f i l);
    }

    pub each-uppers_of : Each P (uppers_of Γ) no_constraint → (i : ℕ) → i < Γ.rules → P (upper_of (constraint Γ i))
    each-uppers_of e i h = rw (get_d_uppers_of i h) at (e.each i (omega (arith, length-uppers_of)))

pub uppers_of-same : (Γ Δ : Network) → Γ.rules ≡ Δ.rules
    → ((i : ℕ) → i < Δ.rules → constraint Γ i ≡ constraint Δ i) → uppers_of Γ ≡ uppers_of Δ
uppers_of-same Γ Δ e f =
    tabulate-is (at Γ) no_constraint Γ.rules (uppers_of Δ) (e ∙ sym (length-uppers_of Δ)) (λ i h.
    let l : i < Δ.rules = omega (arith, length-uppers_of Δ) in
    ap upper_of (f i l) ∙ sym (get_d_uppers_of Δ i l))
