-- A rule of a former sheet, by its kind: in a case it holds exactly where the rule that stands for it does and, where
-- it is a `fix`, its difference equals its limit (`as_held`, `by_held`); and so exactly where the rules that result of
-- it hold (`both`, `limits_of`). Assumes nothing.
use mathlib.Core.Path.{◌≡◌, refl, sym, ◌∙◌, ap, subst}
use mathlib.Core.Logic.{◌↔◌}
use mathlib.Core.Bool.{true}
use mathlib.Core.List.{List, []}
use Prim.Native.Nat.{ℕ, ◌<◌}
use native.Mathlib.Omega.{arith}
use lib.ListN.{length, get_or, length-map}
use Rattle.prelude.proofs.Mapped.{get_d_map}
use Rattle.network.specs.Build.{constraint}
use Rattle.network.specs.Constraint.{admits, covers}
use Rattle.network.specs.Strategy.{time}
use Rattle.network.specs.Solution.{Holds}
use Rattle.network.specs.declared.Kind.{Kind}
use Rattle.network.specs.declared.Kind.TheVariants.{Max, Min}
use Rattle.network.specs.declared.Constraint.{Constraint}
use Rattle.network.specs.declared.Network.{Network}
use Rattle.layout.specs.Contents.{Rule, Contents, no_rule, no_rule_of}
use Rattle.layout.specs.Contains.{Means}
use Rattle.layout.proofs.Framed.{means_one}
use Rattle.conversion.specs.FormerSheet.{Fix, kind_at, held_kind, held_rule}
use Rattle.conversion.specs.FormerTables.{Equals, FormerHolds}
use Rattle.conversion.specs.Rows.{is_fix_lem}
use Rattle.conversion.proofs.FormerKinds.{Balanced, equals_iff, kind-held, kind_of_held}
use Rattle.conversion.proofs.Given.{Given, now, kept, rows, row-read, row-kind}
use Rattle.conversion.proofs.Results.{Both}
use Rattle.conversion.proofs.Written.{as_min, fix_max}

-- a constraint with the kind `min`, which covers the same cases
abbrev least : Constraint → Constraint
least x = record x { kind = Min }

covers-least : (Γ : Network) (x : Constraint) (s : ℕ) → covers Γ (least x) s ≡ covers Γ x s
unfolding covers
covers-least Γ x s = refl

module _ {sheet : List ℕ} {Γ : Network} (g : Given sheet Γ) where
  abbrev c : Contents
  c = now g

  abbrev pub rule : ℕ → Rule
  rule i = get_or c.rules i no_rule

  abbrev pub row : ℕ → List ℕ
  row i = get_or (rows g) i []

  pub inside : (i : ℕ) → i < Γ.rules → i < length c.rules
  inside i l = omega (arith, g.holds.rules)

  read-max : (i : ℕ) → i < Γ.rules → is_fix_lem (row i) ≡ true → (rule i).kind ≡ Max
  read-max i l = fix_max (row i) (rule i) (row-read g i (inside i l))

  pub means : (i : ℕ) (l : i < Γ.rules) → Means c.names c.signals (constraint Γ i) (rule i)
  means i l = g.holds.means i (inside i l)

  means-least : (i : ℕ) → i < Γ.rules → Means c.names c.signals (least (constraint Γ i)) (as_min (rule i))
  means-least i l =
      let m = means i l in
      record { kind = refl; from = m.from; to = m.to; bound = m.bound; label = m.label }

  module _ (σ : List ℕ) (s : ℕ) where
    -- a rule holds in s, by whatever constraint means it
    abbrev pub Hold : Rule → Type 0
    Hold x = (e : Constraint) → Means c.names c.signals e x → Holds Γ σ s e

    pub hold : (e : Constraint) (x : Rule) → Means c.names c.signals e x → Holds Γ σ s e → Hold x
    hold e x m w f n = subst (Holds Γ σ s) (means_one (kept g).names_once m n) w

    -- the times of the ends of constraint i
    abbrev from : ℕ → ℕ
    from i = time Γ.events σ s (constraint Γ i).from

    abbrev to : ℕ → ℕ
    to i = time Γ.events σ s (constraint Γ i).to

    equals : (i : ℕ) → Equals (from i) (to i) (constraint Γ i).bound ↔ Balanced (from i) (to i) (constraint Γ i).bound
    equals i = equals_iff (from i) (to i) (constraint Γ i).bound

    -- its difference equals its limit, where it covers s
    abbrev limits : ℕ → Type 0
    limits i = covers Γ (constraint Γ i) s ≡ true → Equals (from i) (to i) (constraint Γ i).bound

    -- the kind of the constraint that holds rule i
    constraint-kind : (i : ℕ) → i < Γ.rules → (constraint Γ i).kind ≡ held_kind (kind_at g.contents i)
    constraint-kind i l =
        let xs = g.contents.rules in
        (means i l).kind
        ∙ ap (λ (x : Rule). x.kind) (get_d_map held_rule (no_rule_of Fix) no_rule xs i
        (omega (arith, inside i l, length-map xs held_rule)))

    pub as_held : (i : ℕ) → i < Γ.rules → FormerHolds g.contents Γ σ s i
        → Holds Γ σ s (constraint Γ i) × (is_fix_lem (row i) ≡ true → limits i)
    as_held i l h =
        let k = kind_at g.contents i in
        let w = (constraint Γ i).bound in (
          record {
            holds = λ v. rw (constraint-kind i l) (kind-held k (from i) (to i) w (h v)).0;
          },
          λ q v. (kind-held k (from i) (to i) w (h v)).1 (sym (row-kind g i (inside i l)) ∙ q),
        )

    pub by_held : (i : ℕ) → i < Γ.rules → Holds Γ σ s (constraint Γ i) → (is_fix_lem (row i) ≡ true → limits i)
        → FormerHolds g.contents Γ σ s i
    by_held i l h e v =
        let w = (constraint Γ i).bound in
        kind_of_held (kind_at g.contents i) (from i) (to i) w (rw (constraint-kind i l) at (h.holds v))
        (λ q. e (row-kind g i (inside i l) ∙ q) v)

    pub both : (i : ℕ) → i < Γ.rules → Holds Γ σ s (constraint Γ i) → (is_fix_lem (row i) ≡ true → limits i)
        → Both Hold (row i) (rule i)
    both i l w f =
        let e = constraint Γ i in
        record {
          one = hold e (rule i) (means i l) w;
          other = λ q.
              hold (least e) (as_min (rule i)) (means-least i l) (record {
                holds = λ v. ((equals i).0 (f q (sym (covers-least Γ e s) ∙ v))).1;
              });
        }

    pub limits_of : (i : ℕ) → i < Γ.rules → Both Hold (row i) (rule i) → is_fix_lem (row i) ≡ true → limits i
    limits_of i l w q v =
        let e = constraint Γ i in
        let most =
        subst (λ (k : Kind). admits k (from i) (to i) e.bound ≡ true) ((means i l).kind ∙ read-max i l q)
        ((w.one e (means i l)).holds v) in
        let least-holds = (w.other q (least e) (means-least i l)).holds (covers-least Γ e s ∙ v) in
        (equals i).1 (most, least-holds)
