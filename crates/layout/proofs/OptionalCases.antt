-- The section of cases, which may be absent, and is where that of reactions is: what was read is the section, or
-- nothing; and where the section stands it is read, and where nothing stands it is not. Assumes nothing.
use mathlib.Core.Path.{◌≡◌, refl, ◌∙◌, ap}
use mathlib.Core.Bool.{Bool, true, false, cond}
use mathlib.Core.Option.{Option, none, some, get_or}
use mathlib.Core.List.{List, [], ◌++◌}
use Prim.Native.Nat.{ℕ, zero, suc, ◌≤◌, zero-le}
use native.Mathlib.Omega.{arith}
use lib.ListN.{length, drop}
use Rattle.prelude.proofs.Tests.{clash}
use Rattle.network.specs.Limits as L
use Rattle.network.specs.declared.Network.{Network}
use Rattle.line.specs.declared.Section.TheVariants.{Cases}
use Rattle.sheet.proofs.ReadLine.{go-same}
use Rattle.sheet.specs.Reading.{Go, read_section_lem, follows, read_optional_lem}
use Rattle.layout.specs.Contents.{Signal, Rule, Reaction, Case, Contents, listed_cases}
use Rattle.layout.specs.Labelled.{Labelled}
use Rattle.layout.specs.Layout.{cases_text}
use Rattle.layout.proofs.Kept.{KeptCases}
use Rattle.layout.proofs.Extends.{contents_with, contents_of}
use Rattle.layout.proofs.Stands.{Stands}
use Rattle.layout.proofs.Behind.{cases_begin}
use Rattle.layout.proofs.Entries.{Reads}
use Rattle.layout.proofs.Cases.{Due, HeldCases, cases_understood}
use Rattle.layout.proofs.Section.{section-read, section-reads}
use Rattle.layout.proofs.Optional.{optional_absent, optional_stands}

-- without lines no label lacks anything
unlabelled : (c : Contents) → length (listed_cases c) ≡ 0 → Labelled c
unlabelled c e = record {
  start = record { each = λ i l. absurd (omega arith) };
  events = record { each = λ i l. absurd (omega arith) };
  rules = record { each = λ i l. record { has = λ l x k i j w. absurd (omega (arith, e, w.place_lt)) } };
}

module _ (sheet : List ℕ) {h : ℕ} {ns : List (List ℕ)} {xs : List Signal} {rs : List Rule}
    {o : Option (List Reaction)} (few-events : length ns ≤ L.events) (few : length xs ≤ L.signals) (Γ : Network)
    (at k : ℕ) (held : Stands sheet Γ (contents_with h ns xs rs o)) where
  start : (m : ℕ) → HeldCases sheet h ns xs rs o few-events few m Γ []
  start m = record { stands = cases_begin held; due = due m }
    where
      due : (m : ℕ) → Due m (contents_of h ns xs rs o (some []))
      due zero = unlabelled (contents_of h ns xs rs o (some [])) refl
      due (suc m) = tt

  -- the cases that were read: their section, or nothing
  pub record CasesRead (Δ : Network) (end : ℕ) : Type 0 where
    pub items : Option (List Case)
    pub follow : o ≡ none → items ≡ none
    pub few_cases : length (get_or items []) ≤ length ns
    pub written : drop at sheet ≡ cases_text items ++ drop end sheet
    pub held_cases : Stands sheet Δ (contents_of h ns xs rs o items)
    pub labelled : Labelled (contents_of h ns xs rs o items)

  pub cases-read : (o ≡ none → follows sheet at ≡ false) → (Δ : Network) (end m : ℕ)
      → read_optional_lem sheet Cases Γ at k ≡ Go Δ end m → CasesRead Δ end
  cases-read ended Δ end m e = by_bytes (follows sheet at) refl e
    where
      by_bytes : (more : Bool) → follows sheet at ≡ more
          → cond more (read_section_lem sheet Cases Γ at k) (Go Γ at k) ≡ Go Δ end m → CasesRead Δ end
      by_bytes true f e =
          let r = section-read (cases_understood sheet h ns xs rs o few-events few) Γ at k start Δ end m e in
          record {
            items = some r.items;
            follow = λ n. clash (follows sheet at) f (ended n);
            few_cases = omega (arith, r.high, held.holds.events);
            written = r.written;
            held_cases = r.held.stands;
            labelled = r.held.due;
          }
      by_bytes false f e =
          let same = go-same Γ Δ at end k m e in
          record {
            items = none;
            follow = λ n. refl;
            few_cases = omega arith;
            written = ap (λ (i : ℕ). drop i sheet) same.1;
            held_cases = rw same.0 at held;
            labelled = unlabelled (contents_with h ns xs rs o) refl;
          }

  -- where the section of q stands, or nothing, the reading holds it
  pub cases-reads : (q : Option (List Case)) → KeptCases ns xs (get_or q [])
      → Labelled (contents_of h ns xs rs o q) → length (get_or q []) ≤ length ns
      → drop at sheet ≡ cases_text q ++ []
      → Reads sheet (λ Γ q. Stands sheet Γ (contents_of h ns xs rs o q)) (read_optional_lem sheet Cases Γ at k) q []
  cases-reads none kept labelled fits t = record {
    network = Γ;
    at = at;
    number = k;
    goes = optional_absent sheet Cases Γ at k t;
    held = held;
    behind = t;
  }
  cases-reads (some ks) kept labelled fits t =
      let r = section-reads (cases_understood sheet h ns xs rs o few-events few) Γ at k start refl ks []
      (record { kept = kept; labelled = labelled }) zero-le (omega (arith, fits, held.holds.events)) t in
      record {
        network = r.network;
        at = r.at;
        number = r.number;
        goes = optional_stands sheet Cases Γ at k t ∙ r.goes;
        held = r.held.stands;
        behind = r.behind;
      }
