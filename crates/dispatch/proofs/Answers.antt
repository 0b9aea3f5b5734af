-- What is due, for each list. It is misnamed, or no case has heard it, or it is the history of some case, and the
-- answer is what is due there (`due-answer`): the search compares the list with each case as `History` does. Every
-- case that has heard the list has the same due, by Alike.antt, so the answer is what is due in any of them. Assumes
-- nothing.
use mathlib.Core.Path.{◌≡◌, refl, ap}
use mathlib.Core.Logic.{◌↔◌}
use mathlib.Core.Bool.{Bool, true, false, ◌&&◌, beq}
use mathlib.Core.Option.{Option, none, some}
use mathlib.Core.List.{List}
use Prim.Native.Nat.{ℕ, ◌<◌}
use native.Mathlib.Omega.{arith}
use Rattle.prelude.specs.Search.{when}
use Rattle.prelude.proofs.Tests.{clash, and-true, and_both, beq-refl, beq-true, by_cond}
use Rattle.prelude.proofs.Search.{none_of_first_below, some_of_first_below, first_below-same, when-some, when-none}
use Rattle.prelude.proofs.Bounded.{true_of_all_below, all_below_true, all_below_same}
use Rattle.network.specs.Build.{letter, scenarios}
use Rattle.network.specs.Solution.{Solution}
use Rattle.network.specs.WellFormed.{WellFormed}
use Rattle.network.specs.declared.Network.{Network}
use Rattle.names.specs.Names.{is_letter_lem}
use Rattle.dispatch.specs.Heard.{WellNamed, is_well_named, Lettered, says}
use Rattle.dispatch.specs.History.{History}
use Rattle.dispatch.specs.Due.{hears, due_in_lem, as_heard, has_heard_lem, hearer, due_for, due}
use Rattle.dispatch.specs.declared.Heard.{Heard}
use Rattle.std.proofs.Common.{Result, Ok, Err}
use Rattle.dispatch.specs.declared.Unanswered.{Unanswered}
use Rattle.dispatch.specs.declared.Unanswered.TheVariants.{Misnamed, NeverHeard}
use Rattle.dispatch.proofs.History.{well_named, named_of_history, told_of_history, history_of_told}
use Rattle.dispatch.proofs.Alike.{heard-due}

-- searches by what is said alike of each letter
pub hearer-same : (Γ : Network) → Lettered Γ → (σ : List ℕ) (m : ℕ) (f g : ℕ → Bool → Bool)
    → ((l : ℕ) (v : Bool) → is_letter_lem l ≡ true → f l v ≡ g l v) → hearer Γ σ m f ≡ hearer Γ σ m g
hearer-same Γ lettered σ m f g h =
    first_below-same (λ s. when (has_heard_lem Γ σ m f s) s) (λ s. when (has_heard_lem Γ σ m g s) s)
    (scenarios Γ) λ s k.
    ap (λ (t : Bool). when t s) (all_below_same (as_heard Γ σ m f s) (as_heard Γ σ m g s) Γ.signals λ p l.
    let e = lettered.lower p l in rw (h (letter Γ p) true e, h (letter Γ p) false e))

module _ (Γ : Network) (σ : List ℕ) (m : ℕ) (lettered : Lettered Γ) (hs : List Heard) where
  -- whether s has heard what the list says
  abbrev heard_in : ℕ → Bool
  heard_in s = has_heard_lem Γ σ m (says hs) s

  -- whether what the list says of p with the truth v is what s has heard
  abbrev heard_of : ℕ → ℕ → Bool → Bool
  heard_of s p v = beq (says hs (letter Γ p) v) (hears Γ σ m s p v)

  heard_of_history : {s : ℕ} → History Γ σ m hs s → heard_in s ≡ true
  heard_of_history {s} h =
      all_below_true (as_heard Γ σ m (says hs) s) Γ.signals
      (λ p l. and_both (heard_of s p true) (heard_of s p false) (same p true l) (same p false l))
    where
      same : (p : ℕ) (v : Bool) → p < Γ.signals → heard_of s p v ≡ true
      same p v l = rw (told_of_history Γ σ m lettered h p v l) (beq-refl (hears Γ σ m s p v))

  history_of_heard : {s : ℕ} → WellNamed Γ hs → heard_in s ≡ true → History Γ σ m hs s
  history_of_heard {s} n e =
      history_of_told Γ σ m n (λ p v l.
      beq-true (says hs (letter Γ p) v) (hears Γ σ m s p v)
      (same p v (true_of_all_below (as_heard Γ σ m (says hs) s) Γ.signals e p l)))
    where
      same : (p : ℕ) (v : Bool) → heard_of s p true && heard_of s p false ≡ true → heard_of s p v ≡ true
      same p true a = (and-true (heard_of s p true) (heard_of s p false) a).0
      same p false a = (and-true (heard_of s p true) (heard_of s p false) a).1

  abbrev Never : Type 0
  Never = WellNamed Γ hs × ((s : ℕ) → s < scenarios Γ → History Γ σ m hs s → ⊥)

  -- what each answer says of the list
  data Answer : Result ℕ Unanswered → Type 0 where
    misnamed : (WellNamed Γ hs → ⊥) → Answer (Err Misnamed)
    never : Never → Answer (Err NeverHeard)
    events : (s : ℕ) → s < scenarios Γ → History Γ σ m hs s → Answer (Ok (due_in_lem Γ σ m s))

  answer_for : (o : Option ℕ) → hearer Γ σ m (says hs) ≡ o → WellNamed Γ hs → Answer (due_for Γ σ m o)
  answer_for none e n =
      never (
        n,
        λ s l h.
            let miss = none_of_first_below (λ s. when (heard_in s) s) (scenarios Γ) e s l in
            clash (heard_in s) (heard_of_history h) (when-none (heard_in s) s miss),
      )
  answer_for (some s) e n =
      let w = some_of_first_below (λ s. when (heard_in s) s) (scenarios Γ) s e in
      let hit = when-some (heard_in w.index) w.index s w.answer in
      let there = hit.1 in
      events s (omega (arith, w.index_lt)) (history_of_heard n (rw there at hit.0))

  due-answer : Answer (due Γ σ m hs)
  unfolding due
  due-answer =
      by_cond Answer (is_well_named Γ hs) (due_for Γ σ m (hearer Γ σ m (says hs))) (Err Misnamed)
      (λ e. answer_for (hearer Γ σ m (says hs)) refl ((well_named Γ hs).0 e))
      (λ e. misnamed (λ w. clash (is_well_named Γ hs) ((well_named Γ hs).1 w) e))

  -- a letter is undefined or stands twice
  pub due-misnamed : (due Γ σ m hs ≡ Err Misnamed) ↔ (WellNamed Γ hs → ⊥)
  due-misnamed = (λ e. only (rw e at due-answer), λ e. so e due-answer)
    where
      only : Answer (Err Misnamed) → WellNamed Γ hs → ⊥
      only (misnamed e) = e

      so : {d : Result ℕ Unanswered} → (WellNamed Γ hs → ⊥) → Answer d → d ≡ Err Misnamed
      so e (misnamed n) = refl
      so e (never w) = absurd (e w.0)
      so e (events s l h) = absurd (e (named_of_history Γ σ m h))

  -- no case has heard it
  pub due-never : (due Γ σ m hs ≡ Err NeverHeard)
      ↔ (WellNamed Γ hs × ((s : ℕ) → s < scenarios Γ → History Γ σ m hs s → ⊥))
  due-never = (λ e. only (rw e at due-answer), λ w. so w due-answer)
    where
      only : Answer (Err NeverHeard) → Never
      only (never w) = w

      so : {d : Result ℕ Unanswered} → Never → Answer d → d ≡ Err NeverHeard
      so w (misnamed n) = absurd (n w.0)
      so w (never x) = refl
      so w (events s l h) = absurd (w.1 s l h)

  -- what is due in any case that has heard it
  pub due_history : Solution Γ σ → WellFormed Γ → (s : ℕ) → s < scenarios Γ → History Γ σ m hs s
      → due Γ σ m hs ≡ Ok (due_in_lem Γ σ m s)
  due_history good wf s l h = so due-answer
    where
      so : {d : Result ℕ Unanswered} → Answer d → d ≡ Ok (due_in_lem Γ σ m s)
      so (misnamed n) = absurd (n (named_of_history Γ σ m h))
      so (never w) = absurd (w.1 s l h)
      so (events r k g) = ap Ok (heard-due Γ σ m good wf lettered k l hs g h)
