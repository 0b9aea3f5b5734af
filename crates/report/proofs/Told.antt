-- What is printed of the bytes that were read is what is to be printed of all that the reader had: a longer text is
-- told by its first bytes. And what is printed of a call's answer is what is to be printed of the call. Assumes
-- nothing.
use Rattle.std.proofs.Common.{◌≡◌, refl, sym, ◌∙◌, ap, subst, inl, inr, false, ℕ, suc, List, take, le_refl}
use Rattle.std.proofs.Common.{Option, None, Some, IfSome, Result, Ok, Err, IsErr}
use Rattle.std.proofs.KnownBytes.{Appends-nil}
use lib.Seq.{take-take}
use Rattle.prelude.proofs.Tests.{clash}
use Rattle.sheet.specs.Reading.{longest}
use Rattle.files.specs.Whole.{Fills, Prints}
use Rattle.refusal.specs.declared.Refusal.{Refusal}
use Rattle.calls.specs.Values.{OrRefusal, turned_away}
use Rattle.calls.specs.Call.{Left, Leaves}
use Rattle.calls.specs.Lent.{in_place_lem}
use Rattle.calls.specs.Calls.{solving}
use Rattle.calls.specs.Counting.{OrUnsolved, answer_of, counting}
use Rattle.calls.specs.Table.{refused_text, or_refused, judge_text}
use Rattle.calls.proofs.Counting.{uncounted}
use Rattle.calls.proofs.OnPages.{refused-on}
use Rattle.calls.proofs.FirstBytes.{first, judge_first}
use Rattle.report.specs.Run.{left, BeginAlike, ReadsFirst, PrintsWhat}

as_left : {l : Left (OrRefusal ℕ)} {w : OrRefusal ℕ} {m : List ℕ} → Leaves l w m → left w m ≡ l
as_left leaves = rw (leaves.answer, leaves.memory)

-- a call that has written goes on with that
pub goes_on : {l : Left (OrRefusal ℕ)} {w : OrRefusal ℕ} {m : List ℕ} (n : ℕ) (next : List ℕ → List ℕ) → Leaves l w m
    → w ≡ Ok n → or_refused l next ≡ next (take n m)
goes_on {l} {w} {m} n next leaves is =
    ap (λ k. or_refused k next) (sym (as_left leaves)) ∙ ap (λ v. or_refused (left v m) next) is

-- so does the solver's call, with its count beside what it answers; and what it refuses is printed
module _ (sheet m : List ℕ) {s : OrUnsolved} {x : List ℕ} (leaves : Leaves (counting sheet m) s x)
    (next : List ℕ → List ℕ) where
  pub solved_goes_on : (n : ℕ) → answer_of s ≡ Ok n → or_refused (solving sheet m) next ≡ next (take n x)
  solved_goes_on n is = goes_on n next (uncounted sheet (in_place_lem m) leaves) is

  pub unsolved_refused : (r : Refusal) → answer_of s ≡ Err r
      → or_refused (solving sheet m) next ≡ refused_text (turned_away 0 r)
  unsolved_refused r is =
      refused-on (solving sheet m) r next (sym (uncounted sheet (in_place_lem m) leaves).answer ∙ is)

-- where reading failed, nothing is printed, whatever the reader had
pub nothing_printed : {E : Type 0} (before : Option (List ℕ)) (r : Result (Unit {0}) E) → IsErr r → (text : List ℕ)
    → Prints before before r text
nothing_printed before (Ok x) failed text = clash false failed refl
nothing_printed before (Err e) failed text = (0, Appends-nil before)

-- what was read before is read in any case
pub read_before : {E A : Type 0} (B : Type 0) (before after : Option (List ℕ)) (r : Result (Unit {0}) E) → A
    → ReadsFirst before after r B → ReadsFirst before after r (A × B)
read_before B before after (Ok x) had order = order
read_before B before after (Err e) had (inl keeps) = inl keeps
read_before B before after (Err e) had (inr read) = inr (had, read)

pub whatever : {P : List ℕ → Type 0} (had : Option (List ℕ)) → ((s : List ℕ) → P s) → IfSome had P
whatever None holds = tt
whatever (Some s) holds = holds s

-- what is read of a text is read of what was read
first_again : (s : List ℕ) → first (first s) ≡ first s
first_again s = take-take (suc longest) (suc longest) s (le_refl _)

-- what holds for each text that begins as the bytes that were read holds for all that the reader had
pub of_whole : {P : List ℕ → Type 0} (had : Option (List ℕ)) (n : ℕ) (memory : List ℕ)
    → Fills (suc longest) had n memory → ((s : List ℕ) → BeginAlike (take n memory) s → P s) → IfSome had P
of_whole None n memory fills holds = tt
of_whole (Some s) n memory fills holds = holds s (ap first fills ∙ first_again s)

module _ {E : Type 0} (before after : Option (List ℕ)) (r : Result (Unit {0}) E) where
  pub told : (text : List ℕ → List ℕ) → ((s : List ℕ) → text (first s) ≡ text s)
      → (had : Option (List ℕ)) (n : ℕ) (memory : List ℕ) → Fills (suc longest) had n memory
      → Prints before after r (text (take n memory)) → IfSome had (λ s. Prints before after r (text s))
  told text by_first None n memory fills prints = tt
  told text by_first (Some s) n memory fills prints =
      subst (Prints before after r) (ap text fills ∙ by_first s) prints

  -- of a listing too, for each sheet that begins alike
  pub listing_told : (sheet whole : List ℕ) → BeginAlike sheet whole → (had : Option (List ℕ)) (n : ℕ)
      (memory : List ℕ) → Fills (suc longest) had n memory → Prints before after r (judge_text sheet (take n memory))
      → IfSome had (λ p. Prints before after r (judge_text whole p))
  listing_told sheet whole alike None n memory fills prints = tt
  listing_told sheet whole alike (Some p) n memory fills prints =
      subst (Prints before after r)
      (ap (judge_text sheet) fills
      ∙ sym (judge_first sheet (first p))
      ∙ ap (judge_text (first sheet)) (first_again p)
      ∙ ap (λ x. judge_text x (first p)) alike
      ∙ judge_first whole p)
      prints

  -- so, of a sheet and a listing, both read
  pub both_told : (had had' : Option (List ℕ)) (n n' : ℕ) (memory memory' : List ℕ)
      → Fills (suc longest) had n memory → Fills (suc longest) had' n' memory'
      → Prints before after r (judge_text (take n memory) (take n' memory'))
      → IfSome had (λ s. IfSome had' (λ p. Prints before after r (judge_text s p)))
  both_told had had' n n' memory memory' fills fills' prints =
      of_whole had n memory fills
      (λ s alike. listing_told (take n memory) s alike had' n' memory' fills' prints)

  -- and what is to be printed has its meaning
  pub meant : (text : List ℕ → List ℕ) (Means : List ℕ → List ℕ → Type 0) → ((s : List ℕ) → Means s (text s))
      → (had : Option (List ℕ)) → IfSome had (λ s. Prints before after r (text s))
      → IfSome had (λ s. PrintsWhat (Means s) before after r)
  meant text Means is None prints = tt
  meant text Means is (Some s) prints = (text s, is s, prints)

  pub both_meant : (text : List ℕ → List ℕ → List ℕ) (Means : List ℕ → List ℕ → List ℕ → Type 0)
      → ((s p : List ℕ) → Means s p (text s p)) → (had had' : Option (List ℕ))
      → IfSome had (λ s. IfSome had' (λ p. Prints before after r (text s p)))
      → IfSome had (λ s. IfSome had' (λ p. PrintsWhat (Means s p) before after r))
  both_meant text Means is None had' prints = tt
  both_meant text Means is (Some s) None prints = tt
  both_meant text Means is (Some s) (Some p) prints = (text s p, is s p, prints)
