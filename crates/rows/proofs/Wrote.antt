-- Laws of loops that write a run of numbers, one by one or row by row. Assumes nothing.
use mathlib.Core.Path.{◌≡◌, refl, sym, ◌∙◌, ap}
use mathlib.Core.Logic.{◌⊎◌, inl, inr}
use mathlib.Core.List.{List, ◌++◌}
use Prim.Native.Nat.{ℕ, ◌+◌, ◌-◌, ◌≤◌, ◌<◌}
use native.Mathlib.Nat.{zero-add}
use native.Mathlib.Omega.{arith}
use borrow.Rule.Slice.PartMut.{put_mid}
use lib.ListN.{length, get_or, set, take, drop, length-set, length-append, length-drop, get_or-append}
use lib.Seq.{ext_get_or, get_or-set_same, get_or-set_other, get_or-take, get_or-drop, get_or-append-add, length-take-le}
use Rattle.std.proofs.lemmas.List.{get_or-append_right}
use Rattle.prelude.specs.Bounded.{tabulate}
use Rattle.prelude.proofs.Tests.{eq_or_ne, lt_or_ge}
use Rattle.prelude.proofs.Bounded.{length-tabulate, get_d_tabulate}
use Rattle.rows.specs.Rows.{Sixteen, Wrote}

-- a place outside of a run is outside of each shorter run, and is not its last place
apart : (a u i : ℕ) → i < a ⊎ a + (u + 1) ≤ i → i ≡ a + u → ⊥
apart a u i (inl h) e = omega arith
apart a u i (inr h) e = omega arith

shorter : (a u n i : ℕ) → u ≤ n → i < a ⊎ a + n ≤ i → i < a ⊎ a + u ≤ i
shorter a u n i l (inl h) = inl h
shorter a u n i l (inr h) = inr (omega arith)

later : (a m n i : ℕ) → i < a ⊎ a + (m + n) ≤ i → i < a + m ⊎ a + m + n ≤ i
later a m n i (inl h) = inl (omega arith)
later a m n i (inr h) = inr (omega arith)

module _ (f : ℕ → ℕ) where
  pub wrote_none : (o : List ℕ) (a : ℕ) → Wrote o o a 0 f
  wrote_none o a = record { sized = refl; here = λ u l. absurd (omega arith); other = λ i l. refl }

  -- one number more, at the next place e
  pub wrote-next : {o₀ o : List ℕ} {a u : ℕ} (e v : ℕ) → Wrote o₀ o a u f → e ≡ a + u → e < length o₀ → v ≡ f u
      → Wrote o₀ (set o e v) a (u + 1) f
  wrote-next {o₀} {o} {a} {u} e v h p l q = record {
    sized = length-set o e v ∙ h.sized;
    here =
        λ k c.
        elim (eq_or_ne k u) [
          | inl z ↦ let place : a + k ≡ e = omega arith in rw (place, z)
              (get_or-set_same o e v 0 (omega (arith, h.sized)) ∙ q)
          | inr z ↦ get_or-set_other o e (a + k) v 0 (λ y. z (omega arith)) ∙ h.here k (omega arith)
        ];
    other =
        λ i c.
        get_or-set_other o e i v 0 (λ y. apart a u i c (omega arith))
        ∙ h.other i (shorter a u (u + 1) i (omega arith) c);
  }

  -- what is not written yet is as it was
  pub unwritten : {o₀ o : List ℕ} {u : ℕ} → Wrote o₀ o 0 u f → get_or o u 0 ≡ get_or o₀ u 0
  unwritten {o₀} {o} {u} h = h.other u (inr (omega arith))

  -- a whole row
  pub row_of_wrote : {o₀ o : List ℕ} {u : ℕ} → Wrote o₀ o 0 u f → 16 ≤ u → length o₀ ≡ 16 → Sixteen o f
  row_of_wrote h l n = record { sized = h.sized ∙ n; is = λ k b. rw zero-add at (h.here k (omega arith)) }

  -- a run that follows on another
  pub wrote-join : {o₀ o₁ o₂ : List ℕ} {a m n b : ℕ} {g : ℕ → ℕ} → Wrote o₀ o₁ a m f → Wrote o₁ o₂ b n g → b ≡ a + m
      → ((u : ℕ) → u < n → g u ≡ f (m + u)) → Wrote o₀ o₂ a (m + n) f
  wrote-join {o₀} {o₁} {o₂} {a} {m} {n} {b} {g} h i e s =
      let j : Wrote o₁ o₂ (a + m) n g = rw e at i in
      record {
        sized = j.sized ∙ h.sized;
        here =
            λ u l.
            elim (lt_or_ge u m) [
              | inl p ↦ j.other (a + u) (inl (omega arith)) ∙ h.here u p
              | inr p ↦
                  let place : a + u ≡ a + m + (u - m) = omega arith in
                  let index : m + (u - m) ≡ u = omega arith in
                  rw (place, j.here (u - m) (omega arith), s (u - m) (omega arith), index)
            ];
        other =
            λ k l. j.other k (later a m n k l) ∙ h.other k (shorter a m (m + n) k (omega arith) l);
      }

  -- k numbers from place a on are written as a list of their own, which is put back
  pub wrote_part : {o xs : List ℕ} (a k n : ℕ) → k ≡ n → a + n ≤ length o
      → Wrote (take k (drop a o)) xs 0 (length (take k (drop a o))) f → Wrote o (put_mid a k o xs) a n f
  wrote_part {o} {xs} a k n e l h =
      let front : length (take a o) ≡ a = length-take-le a o (omega arith) in
      let size : length xs ≡ k =
      h.sized ∙ length-take-le k (drop a o) (omega (arith, length-drop a o)) in
      let behind = drop k (drop a o) in
      record {
        sized = omega (
          arith,
          length-append (take a o) (xs ++ behind),
          length-append xs behind,
          length-drop k (drop a o),
          length-drop a o,
        );
        here = λ u m.
            let index : a + u - a ≡ u = omega arith in
            let within : u < length (take k (drop a o)) = omega (arith, h.sized) in
            get_or-append_right (take a o) (xs ++ behind) a (a + u) 0 front (omega arith)
            ∙ rw index (get_or-append xs behind 0 u (omega arith) ∙ (rw zero-add at (h.here u within)));
        other = λ i c. elim c [
          | inl m ↦ get_or-append (take a o) (xs ++ behind) 0 i (omega arith) ∙ get_or-take a o i 0 m
          | inr m ↦
              let place : a + (k + (i - a - k)) ≡ i = omega arith in
              get_or-append_right (take a o) (xs ++ behind) a i 0 front (omega arith)
              ∙ get_or-append_right xs behind k (i - a) 0 size (omega arith)
              ∙ get_or-drop k (drop a o) (i - a - k) 0
              ∙ get_or-drop a o (k + (i - a - k)) 0
              ∙ rw place
        ];
      }

  -- all of it, from the start on
  pub wrote-all : {o o' : List ℕ} {m : ℕ} → Wrote o o' 0 m f → m ≤ length o → o' ≡ tabulate m f ++ drop m o
  wrote-all {o} {o'} {m} h l =
      let n : length (tabulate m f) ≡ m = length-tabulate f m in
      let size : length (tabulate m f ++ drop m o) ≡ length o =
      length-append (tabulate m f) (drop m o) ∙ omega (arith, n, length-drop m o)
      in
      ext_get_or 0 o' (tabulate m f ++ drop m o) (h.sized ∙ sym size) (λ i b.
      elim (lt_or_ge i m) [
        | inl p ↦
            (rw zero-add at (h.here i p))
            ∙ sym (get_or-append (tabulate m f) (drop m o) 0 i (rw n p) ∙ get_d_tabulate f m i 0 p)
        | inr p ↦
            let place : i ≡ length (tabulate m f) + (i - m) = omega arith in
            let index : m + (i - m) ≡ i = omega arith in
            let right : get_or (tabulate m f ++ drop m o) (length (tabulate m f) + (i - m)) 0 ≡ get_or o i 0 =
            get_or-append-add (tabulate m f) (drop m o) (i - m) 0
            ∙ (get_or-drop m o (i - m) 0 ∙ ap (λ (k : ℕ). get_or o k 0) index)
            in
            h.other i (inr (omega arith)) ∙ sym (ap (λ (k : ℕ). get_or (tabulate m f ++ drop m o) k 0) place ∙ right)
      ])
