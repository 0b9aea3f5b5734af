-- What the programs print, from what holds of the calls: the lent memory is long enough for every sheet. Assumes
-- nothing.
use mathlib.Core.Path.{◌≡◌, sym, ◌∙◌, ap, subst}
use mathlib.Core.List.{List}
use Prim.Native.Nat.{ℕ, ◌≤◌, ◌<◌}
use native.Mathlib.Omega.{arith}
use lib.ListN.{length, replicate, length-replicate}
use Rattle.std.specs.Prelude.{Err}
use Rattle.refusal.specs.declared.Refusal.{Refusal}
use Rattle.network.specs.Limits as L
use Rattle.network.specs.Build.{cells}
use Rattle.network.specs.Least.{Least, Inconsistent}
use Rattle.network.specs.WellFormed.{WellFormed, Named}
use Rattle.network.specs.declared.Network.{Network}
use Rattle.network.proofs.Least.{least_unique}
use Rattle.sheet.specs.Reading.{longest, read, network_of, Accepts}
use Rattle.sheet.specs.Fault.{Fault}
use Rattle.sheet.proofs.Fault.{refused_iff}
use Rattle.sheet.proofs.WellFormed.{accepted_well_formed}
use Rattle.checker.specs.First.{First}
use Rattle.checker.specs.declared.Breach.{Breach}
use Rattle.listing.specs.Listing.{listing}
use Rattle.listing.specs.Most.{most_listing}
use Rattle.listing.proofs.Short.{listing-short, good-times}
use Rattle.canonical.specs.House.{house_text}
use Rattle.conversion.specs.FormerRules.{read_as_max_lem}
use Rattle.conversion.specs.Converted.{resulting, converted}
use Rattle.conversion.proofs.Alongside.{former_fault_iff}
use Rattle.conversion.proofs.FormerLayout.{former_iff}
use Rattle.conversion.proofs.Accepted.{converted-short}
use Rattle.canonical.proofs.Again.{form-short}
use Rattle.heaviest.specs.RingText.{ring_text}
use Rattle.heaviest.specs.Heaviest.{Heaviest}
use Rattle.heaviest.proofs.Heaviest.{ring_heaviest}
use Rattle.heaviest.proofs.Length.{length-ring}
use Rattle.heaviest.proofs.Exactly.{refused_iff as line_refused_iff}
use Rattle.calls.specs.Values.{OrRefusal, turned_away, refused_as}
use Rattle.calls.specs.Call.{Left}
use Rattle.calls.specs.Lent.{as_minutes, in_place_lem}
use Rattle.calls.specs.Calls.{solving, listed, housed, converting, ringing}
use Rattle.calls.specs.Recover.{recovering}
use Rattle.calls.specs.Bench.{breach_values}
use Rattle.calls.specs.Table.{refused_text, verdict_text, listing_on, table_on_lem, form_on, converted_on}
use Rattle.calls.specs.Table.{table_text, form_text, converted_text, judge_text}
use Rattle.calls.specs.Answers.{Reads}
use Rattle.calls.specs.Numbers.{minutes}
use Rattle.calls.specs.ReadingBack.{Printable}
use Rattle.calls.specs.Housing.{HouseForm}
use Rattle.calls.specs.Converting.{FormerReads, ConvertedTo}
use Rattle.calls.specs.Printing.{Printing}
use Rattle.calls.proofs.Housing.{house_form}
use Rattle.calls.proofs.Converting.{counts_former, converted_to}
use Rattle.calls.proofs.Ringing.{ring-refused, ring-text-wrote}
use Rattle.calls.proofs.Judging.{judge-breaches}
use Rattle.calls.proofs.Handed.{cells-few, minutes_rightly}
use Rattle.calls.proofs.Writing.{wrote, listing-wrote, house-wrote, converter-wrote, converter-many}
use Rattle.calls.proofs.Solving.{solves-least, refuses_none}
use Rattle.calls.proofs.OnPages.{wrote_on, refused-on}
use Rattle.calls.proofs.PrintedVerdict.{judged, misfit-on, unread-on, judge-on, passes_on}

module _ (sheet : List ℕ) (a : Accepts sheet) where
  abbrev net : Network
  net = network_of sheet

  formed : WellFormed net × Named sheet net
  formed = accepted_well_formed sheet a

  listed-on : (σ page : List ℕ) → Least net σ → most_listing ≤ length page
      → listing_on page sheet σ ≡ listing sheet net σ
  listed-on σ page least h =
      let good = least.solves in
      let short = listing-short sheet net σ formed.0 formed.1 (good-times net σ formed.0 good) in
      wrote_on (listed sheet σ page) (listing sheet net σ) page (λ t. t)
      (listing-wrote sheet (as_minutes σ) (minutes σ) page a (minutes_rightly σ net) good.sized
      (omega (arith, short)))

  table_on : (σ m page : List ℕ) → Least net σ → L.cells ≤ length m → most_listing ≤ length page
      → table_on_lem m page sheet ≡ listing sheet net σ
  table_on σ m page least h k =
      let room : cells net ≤ length m = omega (arith, cells-few formed.0) in
      let s = solves-least sheet (in_place_lem m) a room (λ i. i.none σ least.solves) in
      let same : s.0 ≡ σ = least_unique s.1 least in
      wrote_on (solving sheet m) s.0 m (listing_on page sheet) (wrote s.0 m (sym s.2))
      ∙ ap (listing_on page sheet) same
      ∙ listed-on σ page least k

  none-on : (m page : List ℕ) → Inconsistent net → L.cells ≤ length m
      → table_on_lem m page sheet ≡ refused_text (refused_as 13)
  none-on m page i h =
      refused-on (solving sheet m) _ (listing_on page sheet)
      (ap (λ (l : Left (OrRefusal ℕ)). l.answer)
      (refuses_none sheet (in_place_lem m) a (omega (arith, cells-few formed.0))
      i))

  form-on : (page : List ℕ) → longest ≤ length page → form_on page sheet ≡ house_text sheet net
  form-on page h =
      wrote_on (housed sheet page) (house_text sheet net) page (λ t. t)
      (house-wrote sheet page a (omega (arith, form-short sheet a)))

-- of the converter, which reads by the former rules
module _ (sheet : List ℕ) (a : Accepts (read_as_max_lem sheet)) where
  abbrev former : Network
  former = network_of (read_as_max_lem sheet)

  many-on : (page : List ℕ) → L.rules < resulting sheet former → converted_on page sheet ≡ refused_text (refused_as 17)
  many-on page h =
      refused-on (converting sheet page) _ (λ t. t)
      (ap (λ (l : Left (OrRefusal ℕ)). l.answer) (converter-many sheet page a h))

  converted-on : (page : List ℕ) → resulting sheet former ≤ L.rules → longest ≤ length page
      → converted_on page sheet ≡ converted sheet former
  converted-on page few h =
      wrote_on (converting sheet page) (converted sheet former) page (λ t. t)
      (converter-wrote sheet page a few (omega (arith, converted-short sheet former a few)))

abbrev table : List ℕ
table = replicate L.cells 0

abbrev page : ℕ → List ℕ
page n = replicate n 0

-- the memory that is lent has room
cells-lent : L.cells ≤ length table
cells-lent = omega (arith, length-replicate {A = ℕ} L.cells 0)

bytes-lent : (n : ℕ) → n ≤ length (page n)
bytes-lent n = omega (arith, length-replicate {A = ℕ} n 0)

-- the sheet is refused
module _ (sheet : List ℕ) (r : Refusal) (f : Fault sheet r) where
  abbrev unread : read sheet ≡ Err r
  unread = (refused_iff sheet r).1 f

  table-refused : table_text sheet ≡ refused_text (turned_away 0 r)
  table-refused = refused-on (solving sheet table) r (listing_on (page most_listing) sheet) (rw unread)

  house-refused : form_text sheet ≡ refused_text (turned_away 0 r)
  house-refused = refused-on (housed sheet (page longest)) r (λ t. t) (rw unread)

  judge-refused : (printed : List ℕ) → judge_text sheet printed ≡ refused_text (turned_away 0 r)
  judge-refused printed = refused-on (recovering sheet printed table) r (judged sheet) (rw unread)

printed-form : (sheet : List ℕ) (Γ : Network) → Reads sheet Γ → HouseForm sheet Γ (form_text sheet)
printed-form sheet Γ r =
    let same : house_text sheet Γ ≡ form_text sheet =
    sym (form-on sheet r.accepted (page longest) (bytes-lent longest) ∙ ap (house_text sheet) r.network) in
    subst (HouseForm sheet Γ) same (house_form sheet Γ r)

printed-converted : (sheet : List ℕ) (Γ : Network) (reads : FormerReads sheet Γ) → resulting sheet Γ ≤ L.rules
    → ConvertedTo sheet Γ reads (converted_text sheet)
printed-converted sheet Γ reads few =
    let same = counts_former reads in
    let text : converted sheet Γ ≡ converted_text sheet =
    sym (converted-on sheet ((former_iff sheet).1 reads.layout) (page longest) (omega (arith, few, same.0))
    (bytes-lent longest) ∙ same.1) in
    subst (ConvertedTo sheet Γ reads) text (converted_to sheet Γ reads few)

printed-breach : (sheet printed σ : List ℕ) (Γ : Network) (b : Breach) → Reads sheet Γ → Printable Γ σ
    → printed ≡ listing sheet Γ σ → First Γ σ b → judge_text sheet printed ≡ verdict_text (breach_values b)
printed-breach sheet printed σ Γ b r = rw (← r.network)
    (λ t e f.
    let net = network_of sheet in
    ap (judge_text sheet) e
    ∙ judge-on sheet r.accepted table σ t cells-lent
    ∙ ap verdict_text
    ((judge-breaches sheet (as_minutes σ) (minutes σ) r.accepted (minutes_rightly σ net) t.sized b).1 f))

pub printing : Printing
printing = record {
  table = λ sheet. record {
    refused = table-refused sheet;
    none = λ Γ r. rw (← r.network) (λ i. none-on sheet r.accepted table (page most_listing) i cells-lent);
    table = λ σ Γ r. rw (← r.network)
        (λ least.
        table_on sheet r.accepted σ table (page most_listing) least cells-lent (bytes-lent most_listing));
  };
  house = λ sheet. record { refused = house-refused sheet; form = printed-form sheet };
  convert = λ sheet. record {
    refused = λ r f.
        let e = (refused_iff (read_as_max_lem sheet) r).1 ((former_fault_iff sheet r).0 f) in
        refused-on (converting sheet (page longest)) r (λ t. t) (rw e);
    many = λ Γ r m.
        many-on sheet ((former_iff sheet).1 r.layout) (page longest) (omega (arith, m, (counts_former r).0));
    converted = printed-converted sheet;
  };
  ring = λ line. record {
    refused = λ r f.
        refused-on (ringing line (page longest)) r (λ t. t)
        (ap (λ (l : Left (OrRefusal ℕ)). l.answer)
        (sym (ring-refused line (page longest) r ((line_refused_iff line r).1 f))));
    ring = λ n h a.
        subst (Heaviest n h)
        (sym (wrote_on (ringing line (page longest)) (ring_text n h) (page longest) (λ t. t)
        (ring-text-wrote line (page longest) n h a
        (omega (arith, length-ring n h a.some a.few a.horizon, bytes-lent longest)))))
        (ring_heaviest n h a.some a.few a.horizon);
  };
  judge = λ sheet printed. record {
    refused = λ r f. judge-refused sheet r f printed;
    misfit = λ Γ l r. rw (← r.network) (misfit-on sheet r.accepted table printed l);
    unread = λ Γ l r. rw (← r.network) (unread-on sheet r.accepted table printed l);
    passes = λ Γ r. rw (← r.network) (passes_on sheet r.accepted table printed cells-lent);
    breach = printed-breach sheet printed;
  };
}
