-- The judge's answers in the papers' numbers: values tell the verdict, so a pass is a good table and a breach the
-- first. One argument for tables of minutes and of bytes. Assumes nothing.
use mathlib.Core.Path.{◌≡◌, refl, sym, ◌∙◌, ap}
use mathlib.Core.Logic.{◌↔◌}
use mathlib.Core.Bool.{cond}
use mathlib.Core.List.{List}
use Prim.Native.Nat.{ℕ}
use lib.Dec.{eqb}
use Rattle.std.specs.Prelude.{Ok, Err}
use Rattle.refusal.specs.declared.Refusal.{Refusal}
use Rattle.refusal.proofs.Numbered.{numbered}
use Rattle.network.specs.Solution.{Solution}
use Rattle.network.specs.declared.Network.{Network}
use Rattle.sheet.specs.Reading.{network_of, Accepts}
use Rattle.checker.specs.Verdict.{verdict}
use Rattle.checker.specs.First.{First}
use Rattle.checker.specs.declared.Breach.{Breach}
use Rattle.checker.specs.declared.Breach.TheVariants.{Late, Rule, Unheard}
use Rattle.checker.specs.declared.Verdict.{Verdict}
use Rattle.checker.specs.declared.Verdict.TheVariants.{Pass, Breach as Breached}
use Rattle.checker.proofs.Judged.{judged}
use Rattle.checker.proofs.First.{breach_iff}
use Rattle.calls.specs.Values.{OrRefusal, Values}
use Rattle.calls.specs.Lent.{Handed}
use Rattle.calls.specs.Calls.{judging_tests, judging}
use Rattle.calls.specs.Bench.{Finding, no_finding, passed, breach_values, verdict_values, judgement_values}
use Rattle.calls.specs.Answers.{Answers}
use Rattle.calls.specs.Numbers.{judges}
use Rattle.calls.proofs.Call.{Ends, faulty, failed, worked, ends, call_works}
use Rattle.calls.proofs.Settled.{number_of}
use Rattle.calls.proofs.Matched.{unlined, answers-call}
use Rattle.calls.proofs.Handed.{Rightly}

-- the verdict of which these are the values
abbrev verdict_of : Finding → Verdict
verdict_of x =
    cond (eqb x.word 0) Pass
    (cond (eqb x.word 1) (Breached (Late x.first x.second))
    (cond (eqb x.word 2) (Breached (Rule x.first x.second))
    (Breached (Unheard x.first x.second x.third))))

told_back : (v : Verdict) → verdict_of (verdict_values v).value ≡ v
told_back Pass = refl
told_back (Breached (Late s u)) = refl
told_back (Breached (Rule s c)) = refl
told_back (Breached (Unheard s r u)) = refl

told-apart : (v w : Verdict) → verdict_values v ≡ verdict_values w → v ≡ w
told-apart v w e = sym (told_back v) ∙ ap (λ (x : Values Finding). verdict_of x.value) e ∙ told_back w

-- a verdict is no refusal
no_refusal : (v : Verdict) → ((verdict_values v).number ≡ 0) × ((verdict_values v).line ≡ 0)
no_refusal Pass = (refl, refl)
no_refusal (Breached (Late s u)) = (refl, refl)
no_refusal (Breached (Rule s c)) = (refl, refl)
no_refusal (Breached (Unheard s r u)) = (refl, refl)

unlike : (r : Refusal) (v : Verdict) → judgement_values (Err r) ≡ verdict_values v → ⊥
unlike r v e = numbered r.cause (ap number_of e ∙ (no_refusal v).0)

module _ (sheet : List ℕ) (t : Handed) (right : Network → Type 0) where
  abbrev net : Network
  net = network_of sheet

  abbrev answer : OrRefusal Verdict
  answer = judging sheet t

  pub judge-answers : (Accepts sheet → Rightly t right net)
      → Answers sheet (judges right) no_finding (judgement_values answer)
  judge-answers rightly =
      answers-call judgement_values no_finding Err (λ r. refl) sheet (judging_tests t)
      (λ Γ. Ok (verdict Γ t.minutes)) (judges right) refl
      (λ a. (λ _. unlined refl refl, (rightly a).no, λ _. tt))
      (λ Γ. no_refusal (verdict Γ t.minutes))

  module _ (a : Accepts sheet) (rightly : Rightly t right net) where
    judged_so : right net → Ok (verdict net t.minutes) ≡ answer
    judged_so h =
        call_works Err sheet (judging_tests t) (λ Γ. Ok (verdict Γ t.minutes)) (network_of sheet) a
        (rightly.yes.1 h, tt)

    judged-by : (v : Verdict) → judgement_values answer ≡ verdict_values v → right net × (verdict net t.minutes ≡ v)
    judged-by v e =
        by_end (ends Err sheet (judging_tests t) (λ Γ. Ok (verdict Γ t.minutes)))
      where
        by_end : Ends Err sheet (judging_tests t) (λ Γ. Ok (verdict Γ t.minutes))
            → right net × (verdict net t.minutes ≡ v)
        by_end (faulty r p q) = absurd (unlike r v (ap judgement_values q ∙ e))
        by_end (failed p r f q) = absurd (unlike r v (ap judgement_values q ∙ e))
        by_end (worked p h q) =
            (rightly.yes.0 h.0, told-apart (verdict net t.minutes) v (ap judgement_values q ∙ e))

    told : right net → (v : Verdict) → verdict net t.minutes ≡ v → judgement_values answer ≡ verdict_values v
    told h v e = sym (ap judgement_values (judged_so h)) ∙ ap verdict_values e

    pub judge_passes : (judgement_values answer ≡ passed) ↔ (right net × Solution net t.minutes)
    judge_passes = (
      λ e. let g = judged-by Pass e in (g.0, (judged net t.minutes (rightly.sized g.0)).0 g.1),
      λ s. told s.0 Pass ((judged net t.minutes (rightly.sized s.0)).1 s.1),
    )

    pub judge-breaches : right net → (b : Breach)
        → (judgement_values answer ≡ breach_values b) ↔ First net t.minutes b
    judge-breaches h b = (
      λ e. (breach_iff net t.minutes b).0 (judged-by (Breached b) e).1,
      λ f. told h (Breached b) ((breach_iff net t.minutes b).1 f),
    )
