-- 19 comes exactly where the bytes are a listing of this sheet and a text is no minute, with the first line that has
-- one: `unread_iff`, and `minutes_iff` where there is none. Assumes nothing.
use mathlib.Core.Path.{◌≡◌, ap}
use mathlib.Core.Logic.{◌↔◌}
use mathlib.Core.Bool.{Bool, true}
use mathlib.Core.Option.{Option, none, some}
use mathlib.Core.List.{List}
use Prim.Native.Nat.{ℕ, ◌^◌, ◌<◌}
use native.Mathlib.Omega.{arith}
use lib.ListN.{length}
use Rattle.prelude.proofs.Tests.{clash, false_of_not-true}
use Rattle.prelude.proofs.Bounded.{true_of_all_below, all_below_true}
use Rattle.prelude.proofs.Search.{first_below-some, some_of_first_below}
use Rattle.prelude.proofs.Search.{true_of_unless, unless-true, unless-some, all_pass, none_of_all-pass}
use Rattle.readback.specs.Minute.{is_minute}
use Rattle.readback.specs.Form.{Formed, Minutes, Unread}
use Rattle.readback.specs.Rows.{are_minutes, line_number_lem, row_of, row_unread, rows_unread, text_of, misfit, unread}
use Rattle.readback.proofs.Formed.{formed_iff, texts-read}

module _ (head : List ℕ) (k n : ℕ) (bytes : List ℕ) where
  abbrev good : ℕ → Bool
  good s = are_minutes n (row_of bytes (length head) s)

  abbrev faults : ℕ → Option ℕ
  faults = row_unread bytes (length head) k n

  good_iff : (s : ℕ) → (good s ≡ true) ↔ Minutes n (text_of head bytes) s
  unfolding are_minutes
  good_iff s = (
    λ e. true_of_all_below (λ u. is_minute (text_of head bytes s u)) n e,
    all_below_true (λ u. is_minute (text_of head bytes s u)) n,
  )

  -- by the texts that are read
  pub minutes-read : unread head k n bytes ≡ none → (s : ℕ) → s < 2 ^ k → Minutes n (text_of head bytes) s
  unfolding rows_unread
  minutes-read e s h = (good_iff s).0 (all_pass good line_number_lem (2 ^ k) e s h)

  -- by any texts over which the bytes are a listing
  module _ (x : Formed head k n bytes) where
    abbrev texts : ℕ → ℕ → List ℕ
    texts = x.fitting.texts

    texts_iff : (s : ℕ) → s < 2 ^ k → (good s ≡ true) ↔ Minutes n texts s
    texts_iff s h = (
      λ e u g. rw (← texts-read head k n bytes x s u h g) ((good_iff s).0 e u g),
      λ m. (good_iff s).1 (λ u g. rw (texts-read head k n bytes x s u h g) (m u g)),
    )

    pub minutes_iff : (unread head k n bytes ≡ none) ↔ ((s : ℕ) → s < 2 ^ k → Minutes n texts s)
    unfolding rows_unread
    minutes_iff = (
      λ e s h. (texts_iff s h).0 (all_pass good line_number_lem (2 ^ k) e s h),
      λ m. none_of_all-pass good line_number_lem (2 ^ k) (λ s h. (texts_iff s h).1 (m s h)),
    )

  first-unread : (l : ℕ) → misfit head k n bytes ≡ none → unread head k n bytes ≡ some l → Unread head k n bytes l
  unfolding rows_unread
  first-unread l e q =
      let w = some_of_first_below faults (2 ^ k) l q in
      let s = w.index in
      let p = unless-some (good s) (line_number_lem s) l w.answer in
      let x = (formed_iff head k n bytes).0 e in
      record {
        formed = x;
        scenario = s;
        is_line = omega (arith, p.1);
        within = w.index_lt;
        pass = λ j h.
            (texts_iff x j (omega (arith, w.index_lt))).0 (true_of_unless (good j) (line_number_lem j) (w.first j h));
        fault = λ m. clash (good s) ((texts_iff x s w.index_lt).1 m) p.0;
      }

  unread-first : (l : ℕ) → Unread head k n bytes l → unread head k n bytes ≡ some l
  unfolding rows_unread
  unread-first l y =
      let x = y.formed in
      let s = y.scenario in
      let bad = false_of_not-true (good s) (λ e. y.fault ((texts_iff x s y.within).0 e)) in
      first_below-some faults (2 ^ k) l (record {
        index = s;
        index_lt = y.within;
        answer = rw bad (ap some (let z : line_number_lem s ≡ l = omega (arith, y.is_line) in z));
        first = λ j h.
            unless-true (good j) (line_number_lem j) ((texts_iff x j (omega (arith, y.within))).1 (y.pass j h));
      })

  pub unread_iff : (l : ℕ)
      → ((misfit head k n bytes ≡ none) × (unread head k n bytes ≡ some l)) ↔ Unread head k n bytes l
  unread_iff l = (
    λ p. first-unread l p.0 p.1,
    λ y. ((formed_iff head k n bytes).1 y.formed, unread-first l y),
  )
