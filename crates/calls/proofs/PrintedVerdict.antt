-- What `judge` prints: the first line at fault, or the verdict on the table of the listing; and that it prints `pass`
-- exactly for the listings of good tables. Assumes nothing.
use mathlib.Core.Path.{◌≡◌, sym, ◌∙◌, ap}
use mathlib.Core.Logic.{inl, inr, ◌↔◌}
use mathlib.Core.List.{List}
use Prim.Native.Nat.{ℕ, ◌≤◌}
use native.Mathlib.Omega.{arith}
use lib.ListN.{length, get_or, get_or-eq_default}
use Rattle.prelude.proofs.Tests.{lt_or_ge}
use Rattle.prelude.proofs.Search.{some_or_none}
use Rattle.prelude.proofs.Cells.{by-cell}
use Rattle.pairs.specs.Pairs.{Short}
use Rattle.refusal.specs.Refusal.{refusal}
use Rattle.refusal.specs.declared.Cause.TheVariants.{OtherForm, NoMinute}
use Rattle.network.specs.Limits as L
use Rattle.network.specs.Build.{scenarios, cells}
use Rattle.network.specs.Solution.{Solution}
use Rattle.network.specs.WellFormed.{WellFormed}
use Rattle.network.specs.declared.Network.{Network}
use Rattle.sheet.specs.Reading.{network_of, Accepts}
use Rattle.sheet.proofs.WellFormed.{accepted_well_formed}
use Rattle.listing.specs.Listing.{header, listing}
use Rattle.listing.proofs.Short.{good-times}
use Rattle.readback.specs.Form.{Misfit, Unread}
use Rattle.readback.proofs.Misfits.{misfit_iff}
use Rattle.readback.proofs.Unreads.{unread_iff}
use Rattle.calls.specs.Values.{OrRefusal, turned_away}
use Rattle.calls.specs.Call.{Left}
use Rattle.calls.specs.Lent.{as_minutes, in_place_lem}
use Rattle.calls.specs.Calls.{judgement}
use Rattle.calls.specs.Bench.{judgement_values}
use Rattle.calls.specs.Recover.{misfit_in, unread_in, recovered_in, recovering}
use Rattle.calls.specs.ReadingBack.{Printable}
use Rattle.calls.specs.Table.{refused_text, verdict_text, judge_on}
use Rattle.calls.specs.Numbers.{minutes}
use Rattle.calls.proofs.Handed.{cells-few, minutes_rightly}
use Rattle.calls.proofs.Judging.{judge_passes}
use Rattle.calls.proofs.Words.{pass_text, refused-not-pass, pass_values}
use Rattle.calls.proofs.Writing.{wrote}
use Rattle.calls.proofs.Recovering.{refuses_misfit, refuses_unread}
use Rattle.calls.proofs.Recovered.{recovers_into, found-table, printed_back}
use Rattle.calls.proofs.OnPages.{wrote_on, refused-on}

-- the verdict on a table
abbrev pub judged : List ℕ → List ℕ → List ℕ
judged sheet t = verdict_text (judgement_values (judgement sheet t))

module _ (sheet : List ℕ) (a : Accepts sheet) where
  abbrev net : Network
  net = network_of sheet

  -- what `judge` prints: the first line at fault, or the verdict on the table of the listing
  pub misfit-on : (m bytes : List ℕ) (l : ℕ) → Misfit (header sheet net) net.signals net.events bytes l
      → judge_on m sheet bytes ≡ refused_text (turned_away 0 (refusal OtherForm l))
  misfit-on m bytes l x =
      refused-on (recovering sheet bytes m) (refusal OtherForm l) (judged sheet)
      (ap (λ (k : Left (OrRefusal ℕ)). k.answer) (refuses_misfit sheet bytes (in_place_lem m) a l
      ((misfit_iff (header sheet net) net.signals net.events bytes l).1 x)))

  pub unread-on : (m bytes : List ℕ) (l : ℕ) → Unread (header sheet net) net.signals net.events bytes l
      → judge_on m sheet bytes ≡ refused_text (turned_away 0 (refusal NoMinute l))
  unread-on m bytes l y =
      let p = (unread_iff (header sheet net) net.signals net.events bytes l).1 y in
      refused-on (recovering sheet bytes m) (refusal NoMinute l) (judged sheet)
      (ap (λ (k : Left (OrRefusal ℕ)). k.answer) (refuses_unread sheet bytes (in_place_lem m) a p.0 l p.1))

  wf : WellFormed net
  wf = (accepted_well_formed sheet a).0

  pub judge-on : (m σ : List ℕ) → Printable net σ → L.cells ≤ length m
      → judge_on m sheet (listing sheet net σ) ≡ judged sheet σ
  judge-on m σ t h =
      wrote_on (recovering sheet (listing sheet net σ) m) σ m (judged sheet)
      (wrote σ m (sym (recovers_into sheet a σ t (in_place_lem m) (omega (arith, cells-few wf)))))

  -- a good table can be printed
  good-printable : (σ : List ℕ) → Solution net σ → Printable net σ
  good-printable σ good = record { sized = good.sized; short = short }
    where
      short : Short σ
      short i =
          elim (lt_or_ge i (cells net)) [
            | inl h ↦
                by-cell net.events (scenarios net) (λ j. get_or σ j 0 ≤ L.blank) (good-times net σ wf good) i h
            | inr h ↦ omega (arith, get_or-eq_default σ 0 {n = i} (omega (arith, good.sized)))
          ]

  -- the verdict is a pass exactly where the table is good
  pass_on : (σ : List ℕ) → (judged sheet σ ≡ pass_text) ↔ Solution net σ
  pass_on σ =
      let passes = judge_passes sheet (as_minutes σ) (minutes σ) a (minutes_rightly σ net) in (
        λ e. (passes.0 (pass_values (judgement sheet σ) e)).1,
        λ good. ap verdict_text (passes.1 (good.sized, good)),
      )

  pub passes_on : (m bytes : List ℕ) → L.cells ≤ length m
      → (judge_on m sheet bytes ≡ pass_text) ↔ ((σ : List ℕ) × Solution net σ × (bytes ≡ listing sheet net σ))
  passes_on m bytes h = (
    λ e.
        elim (some_or_none (misfit_in sheet bytes net)) [
          | inl w ↦
              absurd (refused-not-pass (turned_away 0 (refusal OtherForm w.0))
              (sym (misfit-on m bytes w.0
              ((misfit_iff (header sheet net) net.signals net.events bytes w.0).0 w.1)) ∙ e))
          | inr f ↦ elim (some_or_none (unread_in sheet bytes net)) [
            | inl w ↦
                absurd (refused-not-pass (turned_away 0 (refusal NoMinute w.0))
                (sym (unread-on m bytes w.0
                ((unread_iff (header sheet net) net.signals net.events bytes w.0).0 (f, w.1))) ∙ e))
            | inr q ↦
                let σ = recovered_in sheet bytes net in
                let is = printed_back sheet a bytes f q in
                let said = judge-on m σ (found-table sheet a bytes f q) h in
                let verdict = sym said ∙ ap (λ (x : List ℕ). judge_on m sheet x) is ∙ e in
                (σ, (pass_on σ).0 verdict, sym is)
          ]
        ],
    λ p.
        ap (λ (x : List ℕ). judge_on m sheet x) p.2 ∙ judge-on m p.0 (good-printable p.0 p.1) h
        ∙ (pass_on p.0).1 p.1,
  )
