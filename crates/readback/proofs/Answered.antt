-- What is answered: by the pass over the minutes (`times-..`), and by the tests of the form before it (`read-..`).
-- Assumes nothing.
use mathlib.Core.Path.{◌≡◌, sym, ◌∙◌}
use mathlib.Core.Bool.{true, false}
use mathlib.Core.Option.{none}
use mathlib.Core.List.{List, ◌++◌}
use Prim.Native.Nat.{ℕ, ◌*◌, ◌^◌, ◌≤◌, ◌<◌}
use Rattle.std.specs.Prelude.{Result, Ok, Err, ⊤}
use native.Mathlib.Omega.{arith}
use lib.ListN.{length, take, drop}
use lib.Seq.{length-take-le, get_or-take}
use Rattle.prelude.proofs.Lists.{tabulate-is}
use Rattle.network.specs.Limits as L
use Rattle.readback.specs.Form.{longest_read}
use Rattle.readback.specs.Rows.{cell_of, rows_misfit, rows_unread, rows_table, header_fits}
use Rattle.readback.specs.Answers.{form_answer, RowsRead, TimesRead, no_minute, short, full, ReadIs, other-form}
use Rattle.readback.specs.Answers.{formed}
use Rattle.readback.specs.declared.Unread.{Unread}
use Rattle.readback.specs.declared.Unread.TheVariants as U
use Rattle.readback.proofs.Passes.{length_decides, header_decides, rows_decide, form-fault, form-none}
use Rattle.readback.proofs.Passes.{minutes-fault, minutes-none}

-- what the answer of the pass says of the table that is lent: it is left as it is, or has the cells at its front
module _ {bytes : List ℕ} {first k n : ℕ} {cells : List ℕ} {r : Result ⊤ Unread}
    (read : RowsRead bytes first k n cells r) (before : List ℕ) where
  pub times-fault : (e : Unread) → r ≡ Err e → TimesRead bytes first k n before before (Err e)
  times-fault e q =
      let p = minutes-fault (rows_unread bytes first k n) e (sym read.answer ∙ q) in
      rw p.2 (no_minute p.0 p.1)

  module _ (e : r ≡ Ok tt) where
    faultless : rows_unread bytes first k n ≡ none
    faultless = minutes-none (rows_unread bytes first k n) (sym read.answer ∙ e)

    pub times-short : length before < n * 2 ^ k → TimesRead bytes first k n before before (Err U.TooShort)
    times-short h = short faultless h

    abbrev front : List ℕ
    front = take (n * 2 ^ k) cells

    pub times-all : n * 2 ^ k ≤ L.cells → n * 2 ^ k ≤ length before
        → TimesRead bytes first k n before (front ++ drop (n * 2 ^ k) before) (Ok (n * 2 ^ k))
    unfolding rows_table
    times-all g h =
        let size : length front ≡ n * 2 ^ k = length-take-le (n * 2 ^ k) cells (omega (arith, read.sized)) in
        let table : rows_table bytes first k n ≡ front =
        tabulate-is (cell_of bytes first n) 0 (n * 2 ^ k) front (sym size)
        (λ i l. sym (get_or-take (n * 2 ^ k) cells i 0 (omega arith) ∙ read.times e i (omega arith))) in
        rw (← table) (full faultless h)

-- what the tests of the form say of the whole, in their order
module _ (head : List ℕ) (k n : ℕ) (bytes before : List ℕ) where
  pub read_long : longest_read < length bytes → ReadIs head k n bytes before before (Err (U.OtherForm 1))
  read_long h = other-form 1 (length_decides head k n bytes h)

  module _ (h : length bytes ≤ longest_read) where
    pub read-other : header_fits head bytes ≡ false → ReadIs head k n bytes before before (Err (U.OtherForm 1))
    read-other e = other-form 1 (header_decides head k n bytes h e)

    module _ (e : header_fits head bytes ≡ true) where
      pub read-misfit : (r : Unread) → form_answer (rows_misfit bytes (length head) k n) ≡ Err r
          → ReadIs head k n bytes before before (Err r)
      read-misfit r q =
          let p = form-fault (rows_misfit bytes (length head) k n) r q in
          rw p.2 (other-form p.0 (rows_decide head k n bytes h e ∙ p.1))

      pub read-times : form_answer (rows_misfit bytes (length head) k n) ≡ Ok tt → (after : List ℕ)
          → (r : Result ℕ Unread) → TimesRead bytes (length head) k n before after r
          → ReadIs head k n bytes before after r
      read-times q after r t =
          formed after r (rows_decide head k n bytes h e ∙ form-none (rows_misfit bytes (length head) k n) q) t
