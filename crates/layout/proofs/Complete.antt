-- A label lacks no part of the label of an event whose signal it uses, told of the network by sums of weights, exactly
-- where it lacks none told of the contents by letters. Assumes nothing.
use mathlib.Core.Path.{◌≡◌, sym, ◌∙◌, ap}
use mathlib.Core.Logic.{◌⊎◌, inl, inr}
use mathlib.Core.Bool as B
use mathlib.Core.Bool.{Bool, true, false}
use mathlib.Core.List.{List, []}
use Prim.Native.Nat.{ℕ, ◌≤◌, ◌<◌}
use native.Mathlib.Omega.{arith}
use lib.ListN.{length, get_or, length-map, get_or-map}
use Rattle.prelude.specs.Lists.{In, Each}
use Rattle.prelude.proofs.Lists.{in_place}
use Rattle.prelude.proofs.Tests.{either, clash, or-true}
use Rattle.network.specs.Limits as L
use Rattle.network.specs.Build.{no_label, letter, observation, event_label, is_labelled}
use Rattle.network.specs.Scenario.{truth}
use Rattle.network.specs.Happens.{mentions}
use Rattle.network.specs.Complete as N
use Rattle.network.specs.declared.Network.{Network}
use Rattle.network.proofs.Labels.{truth-none}
use Rattle.names.specs.Names.{Literal}
use Rattle.names.specs.Defined.{place_of}
use Rattle.layout.specs.Contents.{Signal, Case, Contents, no_signal, no_case, no_literal}
use Rattle.layout.specs.Contents.{listed_cases}
use Rattle.layout.specs.Labelled.{Complete}
use Rattle.layout.proofs.Finds.{mask_is}
use Rattle.layout.proofs.Stands.{Stands}
use Rattle.layout.proofs.Asked.{truth_in, in_truth}
use Rattle.layout.proofs.Includes.{mask, sum, Keeping, place_of_lem, includes_of, of_includes}

module _ {sheet : List ℕ} {Γ : Network} {c : Contents} (s : Stands sheet Γ c)
    (few : length c.signals ≤ L.signals) where
  -- an event's label is that of its line, or none
  pub record HasLine (u : ℕ) (k : Case) : Type 0 where
    pub stands : In k (listed_cases c) no_case
    pub its : get_or c.names u [] ≡ k.event
    pub is : event_label Γ u ≡ mask s few k.label
    pub keeps : Keeping s few k.label

  pub at-line : (u i : ℕ) → i < length (listed_cases c)
      → get_or c.names u [] ≡ (get_or (listed_cases c) i no_case).event
      → HasLine u (get_or (listed_cases c) i no_case)
  at-line u i l e =
      let k = get_or (listed_cases c) i no_case in
      record {
        stands = in_place (listed_cases c) i l;
        its = e;
        is = s.holds.labelled u i l e ∙ sym (mask_is s.holds k.label);
        keeps = (s.cases.each.each i l).label;
      }

  pub by-line : (u : ℕ) → ((k : Case) × HasLine u k) ⊎ (event_label Γ u ≡ no_label)
  by-line u =
      elim (either (is_labelled Γ u)) [
        | inl e ↦
            let w = s.listed u e in
            let h : w.place < length (listed_cases c) =
            omega (arith, w.place_lt, length-map (listed_cases c) (λ k. k.event)) in
            let named = sym w.is ∙ get_or-map (λ k. k.event) (listed_cases c) w.place no_case in
            inl (get_or (listed_cases c) w.place no_case, at-line u w.place h named)
        | inr e ↦ inr (s.holds.unlabelled u (λ w. clash (is_labelled Γ u) (s.marks u w) e))
      ]

  -- a label lacks nothing
  pub complete_of : (ls : List Literal) → Keeping s few ls → Complete c ls → N.Complete Γ (mask s few ls)
  complete_of ls a w = record {
    includes = λ p l e.
        elim (or-true (truth (sum s few true ls) p) (truth (sum s few false ls) p) e) [
          | inl t ↦ used true p t
          | inr t ↦ used false p t
        ];
  }
    where
      used : (v : Bool) (p : ℕ) → truth (sum s few v ls) p ≡ true
          → N.Includes (mask s few ls) (event_label Γ (observation Γ p))
      used v p t =
          let l = truth_in s few ls a v p t in
          let x = get_or c.signals p no_signal in
          elim (by-line (observation Γ p)) [
            | inl k ↦
                let y = k.1 in
                rw y.is
                (includes_of s few ls k.0.label a y.keeps
                (w.has (record { letter = letter Γ p; value = v }) x k.0 l.1 (in_place c.signals p l.0)
                y.stands (s.holds.lettered p l.0) (sym (s.holds.observed p l.0).name ∙ y.its)))
            | inr e ↦
                rw e (record { positive = λ q z. absurd (truth-none q z); negative = λ q z. absurd (truth-none q z) })
          ]

  pub of_complete : (ls : List Literal) → Keeping s few ls → N.Complete Γ (mask s few ls) → Complete c ls
  of_complete ls a w = record { has = has }
    where
      mentioned : (v : Bool) (p : ℕ) → truth (sum s few v ls) p ≡ true → mentions (mask s few ls) p ≡ true
      mentioned true p t = rw t
      mentioned false p t = rw t (B.or-true (truth (sum s few true ls) p))

      has : (l : Literal) (x : Signal) (k : Case) → In l ls no_literal → In x c.signals no_signal
          → In k (listed_cases c) no_case → l.letter ≡ x.letter → x.event ≡ k.event
          → Each (λ m. In m ls no_literal) k.label no_literal
      has l x k i j o d e =
          let p = j.place in
          let h = j.place_lt in
          let its : letter Γ p ≡ l.letter =
          s.holds.lettered p h ∙ ap (λ (y : Signal). y.letter) j.is ∙ sym d in
          let t = in_truth s few ls a l p i (ap (place_of Γ.signals Γ.letters) (sym its) ∙ place_of_lem s few p h) in
          let u = observation Γ p in
          let named : get_or c.names u [] ≡ (get_or (listed_cases c) o.place no_case).event =
          (s.holds.observed p h).name
          ∙ ap (λ (y : Signal). y.event) j.is
          ∙ e
          ∙ ap (λ (z : Case). z.event) (sym o.is) in
          let y = at-line u o.place o.place_lt named in
          let z = get_or (listed_cases c) o.place no_case in
          let inc : N.Includes (mask s few ls) (mask s few z.label) =
          rw y.is at (w.includes p (omega (arith, s.holds.signals)) (mentioned l.value p t)) in
          rw o.is at (of_includes s few ls z.label a y.keeps inc)
