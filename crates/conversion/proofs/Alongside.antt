-- A former sheet and the sheet that is read, line by line: while the lines above pass, the same is expected and defined
-- in both at the same place (`along`). So a former sheet has by its own tests the fault that the sheet which is read
-- has by today's (`former_fault_iff`). Assumes nothing.
use mathlib.Core.Path.{◌≡◌, refl, sym, ◌∙◌, ap, ap₂, subst}
use mathlib.Core.Logic.{◌⊎◌, inl, inr, ◌↔◌}
use mathlib.Core.Bool.{Bool}
use mathlib.Core.List.{List}
use Prim.Native.Nat.{ℕ, zero, suc, ◌+◌, ◌<◌}
use native.Mathlib.Omega.{arith}
use lib.Dec.{ltb}
use lib.ListN.{length, drop}
use Rattle.prelude.specs.Checks.{Hold, first_failing_lem}
use Rattle.prelude.proofs.Checks.{hold, none_fails, first_fails, some_fails}
use Rattle.text.specs.Lines.{fields, line_at, after_line}
use Rattle.refusal.specs.declared.Refusal.{Refusal}
use Rattle.sheet.specs.Reading.{follows}
use Rattle.sheet.specs.Place.{expected_after, Place, tests_at, defined_after, next, place, tests}
use Rattle.sheet.specs.Fault.{FirstFaultBy, FirstFault, Fault}
use Rattle.conversion.specs.FormerRules.{read_as_max_lem}
use Rattle.conversion.specs.FormerFault.{former_tests, FormerFault}
use Rattle.conversion.proofs.Length.{length-read_as_max}
use Rattle.conversion.proofs.Lines.{behind}
use Rattle.conversion.proofs.LineOn.{expected-same, defined-same, named-same}
use Rattle.conversion.proofs.LineRead.{after-behind, LineRead, line_read}
use Rattle.conversion.proofs.LinesAlike.{line_alike}
use Rattle.conversion.proofs.NamesSame.{NamesSame}

module _ (sheet : List ℕ) where
  abbrev other : List ℕ
  other = read_as_max_lem sheet

  long : length other ≡ length sheet
  long = length-read_as_max sheet

  -- at line k both sheets have come as far
  pub record Along (k : ℕ) : Type 0 where
    pub same : place other k ≡ place sheet k
    pub cut : drop (place sheet k).at other ≡ read_as_max_lem (drop (place sheet k).at sheet)
    pub names : NamesSame sheet other (place sheet k).network

  module _ (k : ℕ) (a : Along k) where
    abbrev p : Place
    p = place sheet k

    abbrev r : List ℕ
    r = read_as_max_lem (behind (drop p.at sheet))

    -- the line there, as it is read
    its : LineRead (drop p.at sheet) (drop p.at other) r
    its = subst (λ (t : List ℕ). LineRead (drop p.at sheet) t r) (sym a.cut) (line_read (drop p.at sheet))

    pub first_same : first_failing_lem (former_tests sheet k) ≡ first_failing_lem (tests other k)
    first_same =
        line_alike sheet other r p.network p.at a.names its long p.expected
        ∙ ap (λ (q : Place). first_failing_lem (tests_at other q.expected q.network q.at)) (sym a.same)

    pub holds_read : Hold (former_tests sheet k) → Hold (tests other k)
    holds_read h = hold (tests other k) (sym first_same ∙ none_fails (former_tests sheet k) h)

    pub holds_former : Hold (tests other k) → Hold (former_tests sheet k)
    holds_former h = hold (former_tests sheet k) (first_same ∙ none_fails (tests other k) h)

    module _ (h : Hold (former_tests sheet k)) where
      ends_same : after_line other p.at ≡ after_line sheet p.at
      ends_same = ap (λ (n : ℕ). p.at + (n + 1)) its.long

      next_same : next other p ≡ next sheet p
      next_same =
          let d = p.expected in
          let fs = fields (line_at sheet p.at) in
          let more : follows other (after_line other p.at) ≡ follows sheet (after_line sheet p.at) =
          ap₂ ltb ends_same long in
          let e : expected_after d (follows other (after_line other p.at)) (fields (line_at other p.at))
          ≡ expected_after d (follows sheet (after_line sheet p.at)) fs =
          ap₂ (λ (b : Bool) (xs : List (List ℕ)). expected_after d b xs) more its.cut
          ∙ expected-same d (follows sheet (after_line sheet p.at)) fs in
          let g : defined_after other d p.network p.at (fields (line_at other p.at))
          ≡ defined_after sheet d p.network p.at fs =
          ap (defined_after other d p.network p.at) its.cut
          ∙ defined-same sheet other r p.network p.at a.names its d h in
          λ i. record { expected = e i; network = g i; at = ends_same i }

      on : Along (suc k)
      on = record {
        same = ap (next other) a.same ∙ next_same;
        cut =
            sym (ap (λ (n : ℕ). drop n other) ends_same) ∙ after-behind other p.at ∙ its.rest
            ∙ ap read_as_max_lem (sym (after-behind sheet p.at));
        names = named-same sheet other r p.network p.at a.names its p.expected h;
      }

  -- where the lines above pass, by either tests
  pub along : (k : ℕ) → ((j : ℕ) → j < k → Hold (former_tests sheet j) ⊎ Hold (tests other j)) → Along k
  along zero pass =
      record { same = refl; cut = refl; names = record { sized = refl; name = λ u l. absurd (omega arith) } }
  along (suc k) pass =
      let a = along k (λ j l. pass j (omega arith)) in
      elim (pass k (omega arith)) [
        | inl h ↦ on k a h
        | inr h ↦ on k a (holds_former k a h)
      ]

  module _ (r : Refusal) where
    to_read : FirstFaultBy (former_tests sheet) r → FirstFault other r
    to_read f =
        let k = f.above in
        let far : (j : ℕ) → j < suc k → Along j = λ j l. along j (λ i m. inl (f.pass i (omega arith))) in
        record {
          above = k;
          line = f.line;
          pass = λ j l. holds_read j (far j (omega arith)) (f.pass j l);
          fault =
              first_fails (tests other k) r.cause
              (sym (first_same k (far k (omega arith))) ∙ some_fails (former_tests sheet k) r.cause f.fault);
        }

    to_former : FirstFault other r → FirstFaultBy (former_tests sheet) r
    to_former f =
        let k = f.above in
        let far : (j : ℕ) → j < suc k → Along j = λ j l. along j (λ i m. inr (f.pass i (omega arith))) in
        record {
          above = k;
          line = f.line;
          pass = λ j l. holds_former j (far j (omega arith)) (f.pass j l);
          fault =
              first_fails (former_tests sheet k) r.cause
              (first_same k (far k (omega arith)) ∙ some_fails (tests other k) r.cause f.fault);
        }

    pub former_fault_iff : FormerFault sheet r ↔ Fault other r
    former_fault_iff = (to, from)
      where
        to : FormerFault sheet r → Fault other r
        to (inl f) = inl (omega (arith, f.0, long), f.1)
        to (inr f) = inr (omega (arith, f.0, long), to_read f.1)

        from : Fault other r → FormerFault sheet r
        from (inl f) = inl (omega (arith, f.0, long), f.1)
        from (inr f) = inr (omega (arith, f.0, long), to_former f.1)
