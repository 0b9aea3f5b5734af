-- Laws of the fields of a line one by one: a field is what stands from its start up to the next comma, and the next
-- begins behind that. The pass over the texts of a row goes so (`Row_reading`). Assumes nothing.
use mathlib.Core.Path.{◌≡◌, refl, sym, ◌∙◌, ap}
use mathlib.Core.Logic.{inl, inr}
use mathlib.Core.Bool.{Bool, cond}
use mathlib.Core.List.{List, ◌∷◌}
use Prim.Native.Nat.{ℕ, suc, ◌+◌, ◌-◌, ◌≤◌, ◌<◌}
use native.Mathlib.Numerals.{add-one}
use native.Mathlib.Omega.{arith}
use borrow.Author.Tests.{eq-eqb, ne_eqb}
use Rattle.std.specs.Prelude.{Some, None, count_by, ◌==◌}
use Rattle.std.proofs.lemmas.List.Recursion.{is_count_by}
use lib.ListN.{length, get_or, take, drop, set, length-set}
use lib.Seq.{get_or-set_same, get_or-set_other}
use Rattle.prelude.proofs.Tests.{zero-is-one, eq_or_ne}
use Rattle.prelude.proofs.Bounded.{Passing, passing_start, passing_on, failed_at, passed-all}
use Rattle.text.specs.Lines.{comma, up_to, fields, field}
use Rattle.text.specs.Cuts.{end_of}
use Rattle.text.proofs.Lines.{take-drop, take_up_to}
use Rattle.text.proofs.Fields.{fields-comma, fields_byte, length-into_first, 1-le-fields, end_of_is, end_of_le}
use Rattle.text.proofs.Fields.{up_to_field}
use Rattle.readback.specs.Minute.{is_minute, minute_of}
use Rattle.readback.specs.Rows.{text_in, are_minutes}
use Rattle.readback.specs.Answers.{minute_in_lem, RowRead}
use Rattle.readback.proofs.Minutes.{not_a_minute, a_minute}

-- a line has one field more than commas
counted : (b : ℕ) (s : List ℕ)
    → length (fields (b ∷ s)) - 1 ≡ cond (b == comma) (1 + (length (fields s) - 1)) (length (fields s) - 1)
counted b s =
    elim (eq_or_ne b comma) [
      | inl e ↦ rw (fields-comma b s e, eq-eqb b comma e) (omega (arith, 1-le-fields s))
      | inr n ↦ rw (fields_byte b s n, length-into_first, ne_eqb b comma n)
    ]

pub fields_counted : (l : List ℕ) → length (fields l) ≡ count_by (λ b. b == comma) l + 1
fields_counted l =
    let commas = is_count_by (λ s. length (fields s) - 1) (λ b. b == comma) refl counted l in
    omega (arith, commas, 1-le-fields l)

-- and the first of them is what stands before the first comma
pub first_field : (l : List ℕ) (e : ℕ) → e ≡ length (up_to comma l) → take e l ≡ field 0 (fields l)
first_field l e q = rw q (take_up_to comma l ∙ up_to_field 0 l (1-le-fields l))

-- field u of l ends here
pub record Reached (l : List ℕ) (u at : ℕ) : Type 0 where
  pub ends : at ≡ end_of u (fields l)

pub reached-first : (l : List ℕ) (at : ℕ) → at ≡ length (up_to comma l) → Reached l 0 at
reached-first l at e =
    let some = 1-le-fields l in
    record { ends = omega (arith, ap length (up_to_field 0 l some), end_of_is 0 (fields l) some) }

-- the text of event u is the part that begins behind the comma here, and whose end a scan has found e bytes further on
pub record TextAt (l : List ℕ) (u at e : ℕ) : Type 0 where
  pub text : take (at + 1 + e - (at + 1)) (drop (at + 1) l) ≡ text_in l u
  pub next : Reached l (u + 1) (at + 1 + e)
  pub inside : at + 1 + e ≤ length l

-- where a field ends here, and one is left behind it
module _ {l : List ℕ} {u at : ℕ} (here : Reached l u at) (more : suc u < length (fields l)) where
  pub comma_lt : at < length l
  comma_lt = omega (arith, here.ends, end_of_is (suc u) (fields l) more, end_of_le (suc u) l more)

  text-here : up_to comma (drop (at + 1) l) ≡ text_in l u
  text-here = rw here.ends (up_to_field (suc u) l more)

  pub text_at : (e : ℕ) → e ≡ length (up_to comma (take (length l - (at + 1)) (drop (at + 1) l))) → TextAt l u at e
  text_at e q =
      let h : e ≡ length (up_to comma (drop (at + 1) l)) = rw (take-drop l (at + 1)) at q in
      let size : at + 1 + e - (at + 1) ≡ e = omega arith in
      let end : at + 1 + e ≡ end_of (suc u) (fields l) =
      omega (arith, here.ends, ap length text-here, end_of_is (suc u) (fields l) more) in
      record {
        text = rw (size, h) (take_up_to comma (drop (at + 1) l)) ∙ text-here;
        next = record { ends = rw (add-one u) end };
        inside = omega (arith, end, end_of_le (suc u) l more);
      }

module _ (l row₀ : List ℕ) where
  abbrev test : ℕ → Bool
  test u = is_minute (text_in l u)

  -- the pass over a line's texts has come to event u: the texts below u are minutes, and stand in their cells
  pub record Row_reading (row : List ℕ) (at u : ℕ) : Type 0 where
    pub passing : Passing test (length row₀) u
    pub reached : Reached l u at
    pub sized : length row ≡ length row₀
    pub done : (i : ℕ) → i < u → get_or row i 0 ≡ minute_of (text_in l i)

  pub row-start : (at : ℕ) → Reached l 0 at → Row_reading row₀ at 0
  row-start at r = record {
    passing = passing_start test (length row₀);
    reached = r;
    sized = refl;
    done = λ i h. absurd (omega arith);
  }

module _ {l row₀ row : List ℕ} {at u : ℕ} (here : Row_reading l row₀ row at u) where
  module _ (h : u < length row₀) where
    pub row_next : (m : ℕ) → minute_in_lem (text_in l u) ≡ Some m → (end : ℕ) → Reached l (u + 1) end
        → Row_reading l row₀ (set row u m) end (u + 1)
    row_next m e end r =
        let p = a_minute (text_in l u) m e in
        let place : u < length row = omega (arith, here.sized) in
        record {
          passing = passing_on here.passing h p.0;
          reached = r;
          sized = length-set row u m ∙ here.sized;
          done = λ i b.
              elim (eq_or_ne i u) [
                | inl q ↦ rw q (get_or-set_same row u m 0 place ∙ sym p.1)
                | inr q ↦ get_or-set_other row u i m 0 q ∙ here.done i (omega arith)
              ];
        }

    pub row-fault : {after : List ℕ} → minute_in_lem (text_in l u) ≡ None → length after ≡ length row
        → RowRead l row₀ after None
    unfolding are_minutes
    row-fault e q = record {
      answer = sym (rw (failed_at here.passing h (not_a_minute (text_in l u) e)));
      sized = q ∙ here.sized;
      times = λ z. zero-is-one cc;
    }

  pub row-all : length row₀ ≤ u → RowRead l row₀ row (Some tt)
  unfolding are_minutes
  row-all h = record {
    answer = sym (rw (passed-all here.passing h));
    sized = here.sized;
    times = λ z i l. here.done i (omega arith);
  }
