-- What holds of the converter, cited from where it is proved. Assumes nothing.
use mathlib.Core.Path.{◌≡◌, refl, sym, ◌∙◌, ap}
use mathlib.Core.Logic.{◌↔◌, inl, inr}
use mathlib.Core.List.{List}
use Prim.Native.Nat.{ℕ, ◌≤◌, ◌<◌}
use native.Mathlib.Omega.{arith}
use lib.ListN.{length}
use Rattle.refusal.specs.Refusal.{number_of}
use Rattle.refusal.specs.declared.Refusal.{Refusal}
use Rattle.network.specs.Limits as L
use Rattle.network.specs.Solution.{Solution}
use Rattle.network.specs.Least.{Least, Inconsistent}
use Rattle.network.specs.declared.Network.{Network}
use Rattle.network.proofs.Least.{SameEvents, same-events-back, no_later_of_same}
use Rattle.sheet.specs.Reading.{network_of}
use Rattle.sheet.proofs.Fault.{refused_iff}
use Rattle.tighten.proofs.Agree.{same-events}
use Rattle.layout.specs.Layout.{text_of}
use Rattle.conversion.specs.FormerSheet.{FormerContents, FormerContains}
use Rattle.conversion.specs.FormerTables.{FormerSolution, FormerLeast, FormerNone}
use Rattle.conversion.specs.FormerRules.{read_as_max_lem}
use Rattle.conversion.specs.FormerFault.{FormerFault}
use Rattle.conversion.specs.Converted.{resulting, converted, SameBytes}
use Rattle.conversion.proofs.FormerLayout.{former_iff}
use Rattle.conversion.proofs.Alongside.{former_fault_iff}
use Rattle.conversion.proofs.ReadInto.{read_into}
use Rattle.conversion.proofs.Given.{Given}
use Rattle.conversion.proofs.Assembled.{converted-same}
use Rattle.conversion.proofs.Bytes.{same_bytes}
use Rattle.conversion.proofs.Text.{converted-text, becomes-is}
use Rattle.conversion.proofs.Never.{never-retired, former-never-retired}
use Rattle.conversion.proofs.Refused.{first-fix-refused}
use Rattle.conversion.proofs.Unchanged.{read_as_max-without}
use Rattle.conversion.proofs.Accepted.{accepted-plain, accepted-unchanged, given_of, converted-accepted}
use Rattle.conversion.proofs.Accepted.{converted_agrees, converted-tables}
use Rattle.calls.specs.Call.{Left}
use Rattle.calls.specs.Lent.{in_place_lem}
use Rattle.calls.specs.Values.{OrRefusal, turned_away, number_values}
use Rattle.calls.specs.Calls.{writing, refusing, convert_tests, converting}
use Rattle.calls.specs.Answers.{Reads, WroteText}
use Rattle.calls.specs.Converting.{FormerReads, Conversion, ConvertedTo, AnswersFormer, WritesConverted, Converting}
use Rattle.calls.proofs.Call.{Ends, faulty, failed, worked, ends, call-refused, reads_well_formed}
use Rattle.calls.proofs.Writing.{converter-wrote, converter_writes}

-- the network that today's reader makes of the former sheet
abbrev former : List ℕ → Network
former sheet = network_of (read_as_max_lem sheet)

-- what is known of a former sheet
abbrev known : {sheet : List ℕ} {Γ : Network} → FormerReads sheet Γ → Given sheet Γ
known {sheet = sheet} r = record {
  contents = r.layout.contents;
  keeps = r.layout.keeps;
  written = r.layout.written;
  holds = r.holds;
}

-- whichever network holds its contents, it has as many events, signals and rules
pub counts_former : {sheet : List ℕ} {Γ : Network} (r : FormerReads sheet Γ)
    → (resulting sheet (former sheet) ≡ resulting sheet Γ) × (converted sheet (former sheet) ≡ converted sheet Γ)
counts_former {sheet} {Γ} r =
    let g = r.holds in
    let h = (given_of sheet r.layout).holds in (
      omega (arith, g.rules, h.rules),
      converted-same sheet (former sheet) Γ (h.events ∙ sym g.events) (h.signals ∙ sym g.signals)
          (h.rules ∙ sym g.rules),
    )

written : (sheet m t : List ℕ) (Γ : Network) → Conversion sheet Γ t → length t ≤ length m
    → WroteText t m (converting sheet m)
written sheet m t Γ c room =
    let same = counts_former c.reads in
    let is : t ≡ converted sheet (former sheet) = c.text ∙ sym same.1 in
    let few : resulting sheet (former sheet) ≤ L.rules = omega (arith, c.few, same.0) in
    rw is (converter-wrote sheet m ((former_iff sheet).1 c.reads.layout) few (omega (arith, room, ap length is)))

accepted : (sheet t : List ℕ) (Γ : Network) → Conversion sheet Γ t → (Δ : Network) × Reads t Δ
accepted sheet t Γ c =
    (network_of t, record { accepted = rw c.text (converted-accepted (known c.reads) c.few); network = refl })

-- the same good tables, of networks in which the same events happen
record Alike (c : FormerContents) (Γ Δ : Network) : Type 0 where
  good : (σ : List ℕ) → FormerSolution c Γ σ ↔ Solution Δ σ
  events : SameEvents Γ Δ

alike : (sheet t : List ℕ) (Γ Δ : Network) (c : Conversion sheet Γ t) → Reads t Δ
    → Alike c.reads.layout.contents Γ Δ
alike sheet t Γ Δ c reads =
    let g = known c.reads in
    let is : network_of (converted sheet Γ) ≡ Δ = sym (ap network_of c.text) ∙ reads.network in
    rw (← is)
    (record {
      good = converted-tables g c.few;
      events = same-events (converted_agrees g c.few);
    })

least : (c : FormerContents) (Γ Δ : Network) → Alike c Γ Δ → (σ : List ℕ) → FormerLeast c Γ σ ↔ Least Δ σ
least c Γ Δ w σ = (
  λ l. record {
    solves = (w.good σ).0 l.solves;
    no_later = λ τ g. no_later_of_same w.events σ τ (l.no_later τ ((w.good τ).1 g));
  },
  λ l. record {
    solves = (w.good σ).1 l.solves;
    no_later = λ τ g. no_later_of_same (same-events-back w.events) σ τ (l.no_later τ ((w.good τ).0 g));
  },
)

none : (c : FormerContents) (Γ Δ : Network) → Alike c Γ Δ → FormerNone c Γ ↔ Inconsistent Δ
none c Γ Δ w = (
  λ n. record { none = λ τ g. n.none τ ((w.good τ).1 g) },
  λ n. record { none = λ τ g. n.none τ ((w.good τ).0 g) },
)

-- a sheet that today's reader accepts is read as it stands, and is its own conversion
itself : (sheet : List ℕ) (Γ : Network) → Reads sheet Γ → Conversion sheet Γ sheet
itself sheet Γ reads =
    let plain = accepted-plain sheet reads.accepted in
    let same = read_as_max-without sheet plain in
    let l = (former_iff sheet).0 (rw same reads.accepted) in
    let holds : FormerContains sheet (network_of sheet) l.contents = rw same at (given_of sheet l).holds in
    record {
      reads = record { layout = l; holds = rw (← reads.network) holds };
      few = omega (arith, (reads_well_formed reads).rules, plain);
      text = sym (accepted-unchanged sheet reads.accepted) ∙ ap (converted sheet) reads.network;
    }

-- no sheet that is read so is refused with 22, and the call's own are 17 and 12
never : (sheet m : List ℕ) → (number_values (converting sheet m).answer).number ≡ 22 → ⊥
never sheet m e =
    by_end (ends (refusing (in_place_lem m)) (read_as_max_lem sheet) (convert_tests sheet (in_place_lem m))
    (λ Γ. writing (in_place_lem m) (converted sheet Γ)))
  where
    answered : Left (OrRefusal ℕ) → ℕ
    answered l = (number_values l.answer).number

    cause-number : Refusal → ℕ
    cause-number r = number_of r.cause

    by_end : Ends (refusing (in_place_lem m)) (read_as_max_lem sheet) (convert_tests sheet (in_place_lem m))
        (λ Γ. writing (in_place_lem m) (converted sheet Γ)) → ⊥
    by_end (faulty r p q) =
        former-never-retired sheet r ((refused_iff (read_as_max_lem sheet) r).0 p)
        (ap answered q ∙ e)
    by_end (failed a r (inl f) q) =
        let z : ◌≡◌ {A = ℕ} 17 22 = ap cause-number f.1 ∙ ap answered q ∙ e in omega arith
    by_end (failed a r (inr (g, inl f)) q) =
        let z : ◌≡◌ {A = ℕ} 12 22 = ap cause-number f.1 ∙ ap answered q ∙ e in omega arith
    by_end (failed a r (inr (g, inr f)) q) = f.1
    by_end (worked a h q) = let z : ◌≡◌ {A = ℕ} 0 22 = ap answered q ∙ e in omega arith

-- the fault by the former rules is that of the sheet which is read
refused : (sheet m : List ℕ) (r : Refusal) → FormerFault sheet r
    → (number_values (converting sheet m).answer ≡ turned_away 0 r) × ((converting sheet m).memory ≡ m)
refused sheet m r f =
    let e = (refused_iff (read_as_max_lem sheet) r).1 ((former_fault_iff sheet r).0 f) in
    let is = call-refused (refusing (in_place_lem m)) (read_as_max_lem sheet) (convert_tests sheet (in_place_lem m))
    (λ Γ. writing (in_place_lem m) (converted sheet Γ)) r e in (
      sym (ap (λ (l : Left (OrRefusal ℕ)). number_values l.answer) is),
      sym (ap (λ (l : Left (OrRefusal ℕ)). l.memory) is),
    )

-- 17 and 12 for as many rules, and a text of the same bytes
abbrev Seventeen : List ℕ → ℕ → ℕ → List ℕ → Type 0
Seventeen m n rules text =
    ((n ≡ 17) ↔ (L.rules < rules))
    × ((L.rules < rules → ⊥) → ((n ≡ 12) ↔ (length m < length text)) × ((length m < length text → ⊥) → n ≡ 0))

exactly-as : (m : List ℕ) (n a b : ℕ) (s t : List ℕ) → a ≡ b → s ≡ t → Seventeen m n a s → Seventeen m n b t
exactly-as m n a b s t p q h = rw (← p, ← q) h

-- what the sheet becomes, with all that is said of it
becomes : (sheet t : List ℕ) (Γ : Network) (c : Conversion sheet Γ t) → SameBytes sheet Γ t
    → ConvertedTo sheet Γ c.reads t
becomes sheet t Γ c same =
    let own = accepted sheet t Γ c in
    let w = alike sheet t Γ own.0 c own.1 in
    record {
      bytes = same;
      network = own.0;
      accepted = own.1;
      good = w.good;
      least = least c.reads.layout.contents Γ own.0 w;
      none = none c.reads.layout.contents Γ own.0 w;
    }

pub converted_to : (sheet : List ℕ) (Γ : Network) (reads : FormerReads sheet Γ) → resulting sheet Γ ≤ L.rules
    → ConvertedTo sheet Γ reads (converted sheet Γ)
converted_to sheet Γ reads few =
    becomes sheet (converted sheet Γ) Γ (record { reads = reads; few = few; text = refl }) (same_bytes (known reads))

writes : (sheet m : List ℕ)
    → let l = converting sheet m in WritesConverted sheet (in_place_lem m) (number_values l.answer) l.memory
writes sheet m Γ reads few = (
  converted sheet Γ,
  converted_to sheet Γ reads few,
  written sheet m (converted sheet Γ) Γ (record { reads = reads; few = few; text = refl }),
)

-- the refusals by the former rules are those of the sheet which is read
pub answers-former : (sheet m : List ℕ)
    → let l = converting sheet m in AnswersFormer sheet m (number_values l.answer) l.memory
answers-former sheet m =
    let all = converter_writes sheet m in
    let by_read = all.answers in
    record {
      answers = record {
        numbers = by_read.numbers;
        lines = by_read.lines;
        near = by_read.near;
        at_fault = λ r f. by_read.at_fault r ((former_fault_iff sheet r).0 f);
        exactly = λ Γ r.
            let same = counts_former r in
            exactly-as m _ _ _ _ _ same.0 same.1
            (by_read.exactly (former sheet) (record { accepted = (former_iff sheet).1 r.layout; network = refl }));
        refusal_empty = by_read.refusal_empty;
      };
      keeps = all.keeps;
    }

pub conversions : Converting
conversions = record {
  answers = answers-former;
  writes = writes;
  reads_former = former_iff;
  read_into = read_into;
  refuses_former = λ sheet r. ((former_fault_iff sheet r).1, (former_fault_iff sheet r).0);
  refused = refused;
  read_by = λ sheet Γ r. accepted-plain sheet r.accepted;
  turned_away = λ sheet Γ r some. first-fix-refused (known r) some r.layout.short;
  for_fix = λ sheet r f e none. never-retired sheet none r f e;
  never = never;
  written = written;
  contents = λ sheet t Γ c.
      let g = known c.reads in
      c.text ∙ converted-text g ∙ ap text_of (becomes-is g);
  accepted = accepted;
  good = λ sheet t Γ Δ c r. (alike sheet t Γ Δ c r).good;
  least = λ sheet t Γ Δ c r. least c.reads.layout.contents Γ Δ (alike sheet t Γ Δ c r);
  none = λ sheet t Γ Δ c r. none c.reads.layout.contents Γ Δ (alike sheet t Γ Δ c r);
  bytes = λ sheet Γ r. same_bytes (known r);
  as_it_stands = read_as_max-without;
  unchanged = λ sheet m Γ r. written sheet m sheet Γ (itself sheet Γ r);
  second_pass = λ sheet t m Γ c.
      let r = accepted sheet t Γ c in
      written t m t r.0 (itself t r.0 r.1);
}
