-- Lists, one bound longer in each scenario in which a label holds. Assumes nothing.
use mathlib.Core.Path.{◌≡◌, ◌∙◌}
use mathlib.Core.Logic.{inl, inr}
use mathlib.Core.Bool.{Bool, true, false, cond}
use mathlib.Core.List.{List, [], ◌∷◌, ◌++◌}
use Prim.Native.Nat.{ℕ, ◌+◌, ◌-◌, ◌≤◌, ◌<◌}
use native.Mathlib.Omega.{arith}
use lib.ListN.{length, take, drop, replicate, length-append, length-drop, get_or-append, get_or-replicate}
use lib.ListN.{get_or-eq_default}
use lib.Seq.{get_or-take, get_or-drop, length-take-le}
use Rattle.std.specs.List.{All}
use Rattle.std.proofs.lemmas.List.{get_or-append_right}
use Rattle.std.proofs.lemmas.List.Elements.{All-push}
use Rattle.prelude.proofs.Tests.{lt_or_ge}
use Rattle.network.specs.Scenario.{satisfies}
use Rattle.network.specs.declared.Label.{Label}
use Rattle.bounds.specs.declared.bound.Bound.{Bound}
use Rattle.bounds.specs.declared.list.BoundList.{BoundList}
use Rattle.bounds.specs.Listed.{none, case, in_case, EndsAmong, AllEndsAmong, Added}

-- lists that hold nothing yet
pub empty_lists : (l : BoundList) → l.count ≡ 0 → (s : ℕ) → (case (replicate 16 l) s).count ≡ 0
empty_lists l e s =
    elim (lt_or_ge s 16) [
      | inl h ↦ rw (get_or-replicate 16 s l none h) e
      | inr h ↦ rw (get_or-eq_default (replicate 16 l) none {n = s} h)
    ]

-- lists whose first k were lent as a part, which is put back
pub added_part : {ℓ : Label} {b : Bound} {lists part : List BoundList} {k s : ℕ} → Added ℓ b (take k lists) part s
    → k ≤ length lists → k ≤ s → Added ℓ b lists (part ++ drop k lists) k
added_part {ℓ} {b} {lists} {part} {k} {s} A h l =
    let size : length part ≡ k = A.sized ∙ length-take-le k lists h in
    let before : (r : ℕ) → r < k → case (take k lists) r ≡ case lists r = λ r m. get_or-take k lists r none m in
    let front : (r : ℕ) → r < k → case (part ++ drop k lists) r ≡ case part r =
    λ r m. get_or-append part (drop k lists) none r (omega arith) in
    let behind : (r : ℕ) → k ≤ r → case (part ++ drop k lists) r ≡ case lists r = λ r m.
    let place : k + (r - k) ≡ r = omega arith in
    get_or-append_right part (drop k lists) k r none size m ∙ get_or-drop k lists (r - k) none ∙ rw place in
    record {
      sized = length-append part (drop k lists) ∙ omega (arith, size, length-drop k lists);
      adds = λ r m. rw (front r m) (rw (before r m) at (A.adds r (omega arith)));
      later = behind;
      grows =
          λ r.
          elim (lt_or_ge r k) [
            | inl m ↦ rw (front r m) (rw (before r m) at (A.grows r))
            | inr m ↦ rw (behind r m) (omega arith)
          ];
    }

-- one bound more, whose ends are among the same events as all others'
pub added-ends : {n : ℕ} {ℓ : Label} {b : Bound} {lists lists' : List BoundList} {k : ℕ} → Added ℓ b lists lists' k
    → EndsAmong n b → AllEndsAmong n lists → AllEndsAmong n lists'
added-ends {n} {ℓ} {b} {lists} A new all s =
    elim (lt_or_ge s _) [
      | inl m ↦ rw (A.adds s m) (either_way (satisfies s ℓ))
      | inr m ↦ rw (A.later s m) (all s)
    ]
  where
    either_way : (t : Bool) → All (EndsAmong n) (cond t (in_case lists s ++ b ∷ []) (in_case lists s))
    either_way true = All-push (EndsAmong n) (in_case lists s) b (all s) new
    either_way false = all s
