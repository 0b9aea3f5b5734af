-- The contents of a ring keep the rules of the layout, so that its text is that of an accepted sheet, and of no more
-- bytes than the writer has room for. Assumes nothing.
use mathlib.Core.Path.{◌≡◌, refl, sym, ◌∙◌, ap}
use mathlib.Core.Logic.{inl, inr}
use mathlib.Core.Bool.{true, false}
use mathlib.Core.List.{List, []}
use Prim.Native.Nat.{ℕ, suc, ◌-◌, ◌≤◌, ◌<◌}
use native.Mathlib.Omega.{arith}
use borrow.Author.Tests.{eq-eqb}
use lib.Dec.{eqb}
use lib.ListN.{length, get_or}
use Rattle.prelude.specs.Lists.{In, Distinct, Each}
use Rattle.prelude.proofs.Tests.{eq_or_ne, by_cond, clash}
use Rattle.prelude.proofs.Bounded.{length-tabulate, get_d_tabulate, true_of_all_below}
use Rattle.network.specs.Limits as L
use Rattle.names.specs.Names.{is_name_lem}
use Rattle.layout.specs.Contents.{Rule, Contents, no_rule}
use Rattle.layout.specs.Labelled.{Complete}
use Rattle.layout.specs.Keeps.{KeepsRule, Keeps}
use Rattle.heaviest.specs.RingText.{letter_name, no_sooner_row, ring_row, ring_contents}

-- the sixteen names are names
named : (u : ℕ) → u < L.events → is_name_lem (letter_name u) ≡ true
named u h = true_of_all_below (λ u. is_name_lem (letter_name u)) L.events refl u h

-- a name tells its event
letter_name-once : (u v : ℕ) → letter_name u ≡ letter_name v → u ≡ v
letter_name-once u v e = let z = ap (λ (l : List ℕ). get_or l 0 0) e in omega arith

module _ (n h : ℕ) where
  abbrev c : Contents
  c = ring_contents n h

  pub name_at : (u : ℕ) → u < n → get_or c.names u [] ≡ letter_name u
  name_at u l = get_d_tabulate letter_name n u [] l

  pub rule_at : (i : ℕ) → i < n - 1 → get_or c.rules i no_rule ≡ ring_row (n - 1) i
  rule_at i l = get_d_tabulate (ring_row (n - 1)) (n - 1) i no_rule l

  pub names_count : length c.names ≡ n
  names_count = length-tabulate letter_name n

  pub rules_count : length c.rules ≡ n - 1
  rules_count = length-tabulate (ring_row (n - 1)) (n - 1)

  -- what holds of each letter holds of the names
  pub each_name : (P : List ℕ → Type 0) → ((u : ℕ) → u < n → P (letter_name u)) → Each P c.names []
  each_name P f = record {
    each = λ u l. let k : u < n = omega (arith, names_count) in rw (name_at u k) (f u k);
  }

  name_in : (u : ℕ) → u < n → In (letter_name u) c.names []
  name_in u l = record { place = u; place_lt = omega (arith, names_count); is = name_at u l }

  pub names_once : Distinct c.names []
  names_once = record {
    once = λ i j a b e.
        let k : i < n = omega (arith, names_count) in
        let l : j < n = omega (arith, names_count) in
        letter_name-once i j (sym (name_at i k) ∙ e ∙ name_at j l);
  }

  keeps_row : (u v w : ℕ) → u < n → v < n → w ≤ 1 → KeepsRule c.names [] (no_sooner_row u v w)
  keeps_row u v w a b l = record {
    from = name_in u a;
    to = name_in v b;
    limit = omega arith;
    label = record {
      known = record { each = λ i k. absurd (omega arith) };
      once = record { once = λ i j k. absurd (omega arith) };
    };
  }

  -- a row that does not close the ring leads to a next event
  next : (i : ℕ) → i < n - 1 → eqb (suc i) (n - 1) ≡ false → suc (suc i) < n
  next i k e =
      elim (eq_or_ne (suc i) (n - 1)) [
        | inl q ↦ clash (eqb (suc i) (n - 1)) (eq-eqb (suc i) (n - 1) q) e
        | inr q ↦ omega arith
      ]

  module _ (some : 2 ≤ n) where
    -- what holds of each row between two of the events holds of the rows
    pub each_row : (P : Rule → Type 0) → ((u v w : ℕ) → u < n → v < n → w ≤ 1 → P (no_sooner_row u v w))
        → Each P c.rules no_rule
    each_row P f = record {
      each = λ i l.
          let k : i < n - 1 = omega (arith, rules_count) in
          rw (rule_at i k)
          (by_cond P (eqb (suc i) (n - 1)) (no_sooner_row (n - 1) 1 1) (no_sooner_row (suc i) (suc (suc i)) 0)
          (λ _. f (n - 1) 1 1 (omega arith) (omega arith) (omega arith))
          (λ e. f (suc i) (suc (suc i)) 0 (omega arith) (next i k e) (omega arith)));
    }

    pub ring_keeps : n ≤ L.events → h ≤ L.horizon → Keeps c
    ring_keeps few low = record {
      horizon = low;
      some_event = omega (arith, names_count);
      events = omega (arith, names_count);
      names = each_name (λ b. is_name_lem b ≡ true) (λ u l. named u (omega arith));
      names_once = names_once;
      few_signals = omega arith;
      signals = record { each = λ i k. absurd (omega arith) };
      letters_once = record { once = λ i j k. absurd (omega arith) };
      events_once = record { once = λ i j k. absurd (omega arith) };
      few_rules = omega (arith, rules_count);
      rules = each_row (KeepsRule c.names []) keeps_row;
      few_reactions = omega arith;
      reactions = record { each = λ i k. absurd (omega arith) };
      reactions_once = record { once = λ i j k. absurd (omega arith) };
      cases_follow = λ e. refl;
      few_cases = omega arith;
      cases = record { each = λ i k. absurd (omega arith) };
      cases_once = record { once = λ i j k. absurd (omega arith) };
      labelled = record {
        start = record { each = λ i k. absurd (omega arith) };
        events = record { each = λ i k. absurd (omega arith) };
        rules = each_row (λ x. Complete c x.label) (λ u v w _ _ _. record {
          has = λ l x k i. absurd (omega (arith, i.place_lt));
        });
      };
    }
