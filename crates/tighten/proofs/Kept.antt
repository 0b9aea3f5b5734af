-- The rules hold in a table exactly where their upper bounds do: a rule admits two times exactly when its upper bound
-- does, and covers the scenarios that this covers, which has its label and its events, in either order. Assumes
-- nothing.
use mathlib.Core.Path.{◌≡◌, refl, sym, ◌∙◌, ap}
use mathlib.Core.Bool.{Bool, true, ◌&&◌, and_comm}
use mathlib.Core.List.{List}
use Prim.Native.Nat.{ℕ, ◌<◌}
use Rattle.prelude.specs.Lists.{Each}
use Rattle.network.specs.Build.{no_constraint, constraint}
use Rattle.network.specs.Scenario.{satisfies}
use Rattle.network.specs.Happens.{happens}
use Rattle.network.specs.Constraint.{covers, at_most, admits}
use Rattle.network.specs.Strategy.{time}
use Rattle.network.specs.Solution.{Holds}
use Rattle.network.proofs.Bounds.{at_most_neg}
use Rattle.network.specs.declared.Kind.{Kind}
use Rattle.network.specs.declared.Kind.TheVariants.{Max, Min}
use Rattle.network.specs.declared.Constraint.{Constraint}
use Rattle.network.specs.declared.Network.{Network}
use Rattle.tighten.specs.Upper.{by_kind, upper_of, uppers_of}
use Rattle.tighten.proofs.Rules.{upper_of_either, uppers_of-each, each-uppers_of}

-- whether the times t of events keep an upper bound
abbrev pub keeps : (ℕ → ℕ) → Constraint → Bool
keeps t r = at_most (t r.from) (t r.to) r.bound

keeps-upper : (t : ℕ → ℕ) (k : Kind) (c : Constraint)
    → keeps t (by_kind k c) ≡ admits k (t c.from) (t c.to) c.bound
keeps-upper t Max c = refl
keeps-upper t Min c = at_most_neg (t c.from) (t c.to) c.bound

module _ (Γ : Network) (σ : List ℕ) (s : ℕ) where
  -- it holds in s
  pub record Kept (r : Constraint) : Type 0 where
    pub kept : covers Γ r s ≡ true → keeps (time Γ.events σ s) r ≡ true

  covers-upper : (c : Constraint) → covers Γ (upper_of c) s ≡ covers Γ c s
  unfolding covers
  covers-upper c =
      upper_of_either (λ r. covers Γ r s ≡ covers Γ c s) c refl
      (ap (λ (b : Bool). satisfies s c.label && b) (and_comm (happens Γ s c.to) (happens Γ s c.from)))

  kept_of_holds : (c : Constraint) → Holds Γ σ s c → Kept (upper_of c)
  kept_of_holds c h = record {
    kept = λ e. keeps-upper (time Γ.events σ s) c.kind c ∙ h.holds (sym (covers-upper c) ∙ e);
  }

  holds_of_kept : (c : Constraint) → Kept (upper_of c) → Holds Γ σ s c
  holds_of_kept c k = record {
    holds = λ e. sym (keeps-upper (time Γ.events σ s) c.kind c) ∙ k.kept (covers-upper c ∙ e);
  }

  pub uppers-kept : ((c : ℕ) → c < Γ.rules → Holds Γ σ s (constraint Γ c)) → Each Kept (uppers_of Γ) no_constraint
  uppers-kept h = uppers_of-each Γ Kept (λ c l. kept_of_holds (constraint Γ c) (h c l))

  pub rules_hold : Each Kept (uppers_of Γ) no_constraint → (c : ℕ) → c < Γ.rules → Holds Γ σ s (constraint Γ c)
  rules_hold k c l = holds_of_kept (constraint Γ c) (each-uppers_of Γ Kept k c l)
