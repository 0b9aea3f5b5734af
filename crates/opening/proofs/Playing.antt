-- From what the checker and the player answer to what the call that plays a table does. Assumes nothing.
use mathlib.Core.Path.{◌≡◌, refl, sym, ◌∙◌, ap}
use mathlib.Core.Logic.{inl, inr}
use mathlib.Core.Bool.{true, false}
use mathlib.Core.List.{List, [], ◌∷◌}
use Prim.Native.Nat.{ℕ}
use lib.ListN.{length}
use Rattle.std.specs.Prelude.{Result, Ok, Err}
use Rattle.refusal.specs.declared.Cause.TheVariants as C
use Rattle.refusal.specs.declared.Refusal.{Refusal}
use Rattle.network.specs.declared.Network.{Network}
use Rattle.checker.specs.Verdict.{verdict}
use Rattle.checker.specs.declared.Verdict.TheVariants.{Pass}
use Rattle.dispatch.specs.Said.{due_on}
use Rattle.dispatch.specs.declared.Unanswered.{Unanswered}
use Rattle.dispatch.specs.declared.Unanswered.TheVariants as P
use Rattle.calls.specs.Values.{OrRefusal}
use Rattle.calls.specs.Call.{without_line_lem, Tests}
use Rattle.calls.specs.Play.{named, ever_heard, events_of, is_pass, events_due_on_lem}
use Rattle.opening.specs.Prologue.{handed_in_lem, of_unanswered}
use Rattle.opening.proofs.Prologue.{length_test, opened-refused, opened_fails, opened_works}
use Rattle.opening.proofs.Leaves.{refused_by}

module _ (sheet t : List ℕ) (m x : ℕ) where
  abbrev rest : Network → Tests
  rest Γ =
      (is_pass (verdict Γ t), without_line_lem C.TableFails)
      ∷ (named (due_on Γ t m x), without_line_lem C.MisnamedSignal)
      ∷ (ever_heard (due_on Γ t m x), without_line_lem C.NeverHeard)
      ∷ []

  abbrev work : Network → OrRefusal ℕ
  work Γ = Ok (events_of (due_on Γ t m x))

  pub due-refused : (r : Refusal) → handed_in_lem sheet (length t) ≡ Err r → Err r ≡ events_due_on_lem sheet t m x
  unfolding events_due_on_lem
  due-refused r p = opened-refused sheet (length_test t) Err rest work r p

  module _ (Γ : Network) (q : handed_in_lem sheet (length t) ≡ Ok Γ) where
    pub due_fails : is_pass (verdict Γ t) ≡ false → Err (without_line_lem C.TableFails) ≡ events_due_on_lem sheet t m x
    unfolding events_due_on_lem
    due_fails v = opened_fails sheet (length_test t) Err rest work Γ q _ (inl (v, refl))

    pub due-answers : verdict Γ t ≡ Pass → refused_by of_unanswered (due_on Γ t m x) ≡ events_due_on_lem sheet t m x
    unfolding events_due_on_lem
    due-answers v = by_said (due_on Γ t m x) refl
      where
        pass : is_pass (verdict Γ t) ≡ true
        pass = ap is_pass v

        by_said : (d : Result ℕ Unanswered) → due_on Γ t m x ≡ d
            → refused_by of_unanswered d ≡ events_due_on_lem sheet t m x
        by_said (Ok y) s =
            ap (λ (z : Result ℕ Unanswered). Ok (events_of z)) (sym s)
            ∙ opened_works sheet (length_test t) Err rest work Γ q (pass, (ap named s, (ap ever_heard s, tt)))
        by_said (Err P.Misnamed) s =
            opened_fails sheet (length_test t) Err rest work Γ q _ (inr (pass, inl (ap named s, refl)))
        by_said (Err P.NeverHeard) s =
            opened_fails sheet (length_test t) Err rest work Γ q _
            (inr (pass, inr (ap named s, inl (ap ever_heard s, refl))))
