-- The first line of bytes, and of the same bytes with `fix` read as `max` (`line_read`): both have a line feed or
-- none, are as long, and have the same fields but for the first of a `fix` row; and what stands behind the one is read
-- as what stands behind the other. Assumes nothing.
use mathlib.Core.Path.{◌≡◌, refl, sym, ◌∙◌, ap, ap₂, subst}
use mathlib.Core.Logic.{inl, inr}
use mathlib.Core.Bool.{true, false}
use mathlib.Core.List.{List, [], ◌∷◌, ◌++◌}
use Prim.Native.Nat.{ℕ, suc, ◌≤◌}
use native.Mathlib.Numerals.{add-one}
use native.Mathlib.Omega.{arith}
use borrow.Author.Tests.{eqb-true}
use lib.Dec.{eqb}
use lib.ListN.{length, drop, take-append-drop}
use lib.Seq.{drop-drop}
use Rattle.prelude.specs.Bytes.{ascii, is_in}
use Rattle.prelude.proofs.Tests.{either, clash, and-true, zero-is-one}
use Rattle.text.specs.Lines.{line_feed, up_to, fields, field, into_first, after_line}
use Rattle.network.specs.declared.Kind.TheVariants.{Max}
use Rattle.line.specs.Tests.{is_retired}
use Rattle.conversion.specs.Rows.{first_line, are_fix, is_fix_lem, with_kind}
use Rattle.conversion.specs.FormerRules.{read_as_max_lem}
use Rattle.conversion.proofs.AsMax.{fix_front, as_max_fix, as_max-other, read_as_max-none, read_as_max-first}
use Rattle.conversion.proofs.Lines.{up_to_byte, is_in_byte, up_to_first, cut_at, behind, behind-none}

-- the next line begins behind the first
pub after-behind : (s : List ℕ) (at : ℕ) → drop (after_line s at) s ≡ behind (drop at s)
after-behind s at =
    sym (drop-drop _ at s) ∙ ap (λ (n : ℕ). drop n (drop at s)) (add-one (length (up_to line_feed (drop at s))))

-- before other bytes the first line stays
record Again (s t : List ℕ) : Type 0 where
  line : up_to line_feed (first_line s ++ t) ≡ up_to line_feed s
  ends : is_in line_feed (first_line s ++ t) ≡ is_in line_feed s
  after : drop (cut_at s) (first_line s ++ t) ≡ t

line-again : (s t : List ℕ) → (is_in line_feed s ≡ false → t ≡ []) → Again s t
line-again [] t n = rw (n refl) (record { line = refl; ends = refl; after = refl })
line-again (b ∷ s) t n =
    elim (either (eqb b line_feed)) [
      | inl e ↦ rw (eqb-true b line_feed e) (record { line = refl; ends = refl; after = refl })
      | inr e ↦
          let w = line-again s t (λ q. n (is_in_byte b s e ∙ q)) in
          record {
            line =
                rw (up_to_byte b s e)
                (up_to_byte b (first_line s ++ t) e ∙ ap (λ (x : List ℕ). b ∷ x) w.line);
            ends = rw (up_to_byte b s e) (is_in_byte b (first_line s ++ t) e ∙ w.ends ∙ sym (is_in_byte b s e));
            after = rw (up_to_byte b s e) w.after;
          }
    ]

-- the fields of a line with the kind of a `fix` row read as `max`
abbrev pub max_fields : List (List ℕ) → List (List ℕ)
max_fields fs = elim (are_fix fs) [ true ↦ ascii "max" ∷ drop 1 fs | false ↦ fs ]

pub max_fields-fix : (fs : List (List ℕ)) → are_fix fs ≡ true → max_fields fs ≡ ascii "max" ∷ drop 1 fs
max_fields-fix fs e = rw (e, max_fields) refl

pub max_fields-other : (fs : List (List ℕ)) → are_fix fs ≡ false → max_fields fs ≡ fs
max_fields-other fs e = rw (e, max_fields) refl

-- the first line of t is read from that of s, and the bytes r stand behind it
pub record LineRead (s t r : List ℕ) : Type 0 where
  pub ends : is_in line_feed t ≡ is_in line_feed s
  pub long : length (up_to line_feed t) ≡ length (up_to line_feed s)
  pub cut : fields (up_to line_feed t) ≡ max_fields (fields (up_to line_feed s))
  pub same : are_fix (fields (up_to line_feed s)) ≡ false → up_to line_feed t ≡ up_to line_feed s
  pub rest : behind t ≡ r

-- three letters put before fields
abbrev fix_before : List (List ℕ) → List (List ℕ)
fix_before fs = into_first 102 (into_first 105 (into_first 120 fs))

abbrev max_before : List (List ℕ) → List (List ℕ)
max_before fs = into_first 109 (into_first 97 (into_first 120 fs))

other-word : (fs : List (List ℕ)) → is_retired (field 0 (fix_before fs)) ≡ true
    → max_before fs ≡ ascii "max" ∷ drop 1 (fix_before fs)
other-word [] e = zero-is-one cc
other-word ([] ∷ fs) e = refl
other-word ((b ∷ f) ∷ fs) e = zero-is-one cc

module _ (u r : List ℕ) (end : is_in line_feed u ≡ false → r ≡ []) where
  fix-line : are_fix (fields (up_to line_feed (ascii "fix" ++ u))) ≡ true
      → LineRead (ascii "fix" ++ u) (first_line (ascii "max" ++ u) ++ r) r
  fix-line e =
      let m = ascii "max" ++ u in
      let w = line-again m r end in
      let fs = fields (up_to line_feed u) in
      let word = (and-true (eqb (length (fix_before fs)) 5) (is_retired (field 0 (fix_before fs))) e).1 in
      record {
        ends = w.ends;
        long = ap length w.line;
        cut = ap fields w.line ∙ other-word fs word ∙ sym (max_fields-fix (fix_before fs) e);
        same = λ q. clash (are_fix (fix_before fs)) e q;
        rest = ap (λ (x : List ℕ). drop (suc (length x)) (first_line m ++ r)) w.line ∙ w.after;
      }

is-fix : (s : List ℕ) → is_fix_lem (first_line s) ≡ are_fix (fields (up_to line_feed s))
unfolding is_fix_lem
is-fix s = ap (λ (x : List ℕ). are_fix (fields x)) (up_to_first s)

pub line_read : (s : List ℕ) → LineRead s (read_as_max_lem s) (read_as_max_lem (behind s))
line_read [] = rw read_as_max-none (record { ends = refl; long = refl; cut = refl; same = λ q. refl; rest = refl })
line_read (b ∷ s) = some (b ∷ s) (omega arith)
  where
    some : (s : List ℕ) → 1 ≤ length s → LineRead s (read_as_max_lem s) (read_as_max_lem (behind s))
    some s h =
        let l = first_line s in
        let r = read_as_max_lem (behind s) in
        let end : is_in line_feed s ≡ false → r ≡ [] = λ q. ap read_as_max_lem (behind-none s q) ∙ read_as_max-none in
        elim (either (is_fix_lem l)) [
          | inl e ↦
              let u = drop 3 l ++ behind s in
              let is : ascii "fix" ++ u ≡ s =
              sym (ap (λ (x : List ℕ). x ++ behind s) (fix_front l e)) ∙ take-append-drop (cut_at s) s in
              let row : with_kind Max l ≡ first_line (ascii "max" ++ u) =
              ap (λ (x : List ℕ). with_kind Max (first_line x)) (sym is) in
              let t : first_line (ascii "max" ++ u) ++ r ≡ read_as_max_lem s =
              sym (read_as_max-first s h ∙ ap (λ (x : List ℕ). x ++ r) (as_max_fix l e ∙ row)) in
              let fix = ap (λ (x : List ℕ). are_fix (fields (up_to line_feed x))) is ∙ sym (is-fix s) ∙ e in
              let w = fix-line u r (λ q. end (ap (is_in line_feed) (sym is) ∙ q)) fix in
              subst (λ (x : List ℕ). LineRead x (read_as_max_lem s) r) is
              (subst (λ (y : List ℕ). LineRead (ascii "fix" ++ u) y r) t w)
          | inr e ↦
              let w = line-again s r end in
              let t : read_as_max_lem s ≡ l ++ r =
              read_as_max-first s h ∙ ap (λ (x : List ℕ). x ++ r) (as_max-other l e) in
              let x = ap (up_to line_feed) t ∙ w.line in
              record {
                ends = ap (is_in line_feed) t ∙ w.ends;
                long = ap length x;
                cut = ap fields x ∙ sym (max_fields-other (fields (up_to line_feed s)) (sym (is-fix s) ∙ e));
                same = λ q. x;
                rest = ap₂ (λ (x y : List ℕ). drop (suc (length x)) y) x t ∙ w.after;
              }
        ]
