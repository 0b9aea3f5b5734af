-- What the definitions say at the edges, in tables that one theorem covers by computation: the events and the minutes
-- of document 01's sheet, with a second signal; the same with a door that only some cases have; and sixteen events
-- without a signal. Assumes nothing.
use mathlib.Core.Path.{◌≡◌, refl}
use mathlib.Core.Bool.{Bool, true, false, ◌&&◌}
use mathlib.Core.List.{List, [], ◌∷◌}
use Prim.Native.Nat.{ℕ, zero, suc, ◌+◌, ◌^◌}
use Prim.Native.Char.{code}
use lib.Dec.{eqb}
use Rattle.std.proofs.Common.{Result, Ok, Err}
use Rattle.prelude.specs.Bounded.{tabulate}
use Rattle.prelude.specs.Bytes.{every}
use Rattle.network.specs.Build.{empty, with_event, with_signal, with_label}
use Rattle.network.specs.Scenario.{satisfies}
use Rattle.network.specs.Happens.{happens}
use Rattle.network.specs.Strategy.{reaction_of_lem}
use Rattle.network.specs.declared.Network.{Network}
use Rattle.dispatch.specs.Due.{due}
use Rattle.dispatch.specs.Said.{with_heard, said_from, due_on}
use Rattle.dispatch.specs.declared.Heard.{Heard}
use Rattle.dispatch.specs.declared.Unanswered.{Unanswered}
use Rattle.dispatch.specs.declared.Unanswered.TheVariants.{Misnamed, NeverHeard}

-- start, call and door; p is given at the call, and q at the door
abbrev net : Network
net = with_signal (with_signal (with_event (with_event (with_event (empty 60) 0 5) 6 4) 11 4) (code "p") 1) (code "q") 2

-- the call at 5; the door at 6 where p is false, and at 20 where it is true
abbrev table : List ℕ
table = 0 ∷ 5 ∷ 6 ∷ 0 ∷ 5 ∷ 20 ∷ 0 ∷ 5 ∷ 6 ∷ 0 ∷ 5 ∷ 20 ∷ []

abbrev is : ℕ → Bool → Heard
is l v = record { letter = l; truth = v }

abbrev pub p : Bool → Heard
p v = is (code "p") v

abbrev pub q : Bool → Heard
q v = is (code "q") v

-- a minute, a list, and what is due
pub record Question : Type 0 where
  pub minute : ℕ
  pub list : List Heard
  pub answer : Result ℕ Unanswered

abbrev asked : ℕ → List Heard → Result ℕ Unanswered → Question
asked m hs a = record { minute = m; list = hs; answer = a }

abbrev questions : List Question
questions =
    asked 0 [] (Ok 1)
    ∷ asked 4 [] (Ok 0)
    ∷ asked 5 [] (Ok 2)
    -- in its own minute a signal is not yet heard, and in the next it is
    ∷ asked 5 (p true ∷ []) (Err NeverHeard)
    ∷ asked 6 [] (Err NeverHeard)
    ∷ asked 6 (p false ∷ []) (Ok 4)
    ∷ asked 6 (p true ∷ []) (Ok 0)
    -- a part of what was heard is not what was heard; nor is more than that
    ∷ asked 7 (p false ∷ []) (Err NeverHeard)
    ∷ asked 7 (q true ∷ []) (Err NeverHeard)
    ∷ asked 7 (p true ∷ q true ∷ []) (Err NeverHeard)
    ∷ asked 20 (p true ∷ []) (Ok 4)
    -- any order, any minute
    ∷ asked 21 (q false ∷ p true ∷ []) (Ok 0)
    ∷ asked 21 (p true ∷ q false ∷ []) (Ok 0)
    ∷ asked 65535 (q false ∷ p true ∷ []) (Ok 0)
    -- letters that are undefined or stand twice, with either truth; before it is asked who has heard the list
    ∷ asked 0 (p true ∷ p true ∷ []) (Err Misnamed)
    ∷ asked 0 (p true ∷ p false ∷ []) (Err Misnamed)
    ∷ asked 6 (p true ∷ q true ∷ p true ∷ []) (Err Misnamed)
    ∷ asked 6 (is (code "r") true ∷ p true ∷ []) (Err Misnamed)
    ∷ asked 6 (is (code "P") true ∷ []) (Err Misnamed)
    ∷ asked 6 (is 0 false ∷ []) (Err Misnamed)
    ∷ asked 6 (is 255 true ∷ []) (Err Misnamed)
    ∷ []

-- the door, where p is true alone: elsewhere its cell is blank
abbrev some-cases : Network
some-cases = with_label net 2 (record { positive = 1; negative = 0 })

abbrev blanks : List ℕ
blanks = 0 ∷ 5 ∷ 65535 ∷ 0 ∷ 5 ∷ 20 ∷ 0 ∷ 5 ∷ 65535 ∷ 0 ∷ 5 ∷ 20 ∷ []

abbrev questions_of_some : List Question
questions_of_some =
    asked 20 (p true ∷ []) (Ok 4)
    ∷ asked 21 (p true ∷ q false ∷ []) (Ok 0)
    -- a blank is not due at the minute that it holds
    ∷ asked 65535 (p false ∷ []) (Ok 0)
    -- nor is its signal heard after it
    ∷ asked 65536 (p false ∷ []) (Ok 0)
    ∷ asked 65536 (p false ∷ q false ∷ []) (Err NeverHeard)
    ∷ asked 65536 (p false ∷ q true ∷ []) (Err NeverHeard)
    ∷ []

-- and in the table above, where the door has a minute in cases that do not have it, neither is it due nor q heard
abbrev questions_of_filled : List Question
questions_of_filled =
    asked 6 (p false ∷ []) (Ok 0)
    ∷ asked 7 (p false ∷ []) (Ok 0)
    ∷ asked 7 (p false ∷ q true ∷ []) (Err NeverHeard)
    ∷ []

-- answers as numbers, to compare them
abbrev number : Result ℕ Unanswered → ℕ
number (Ok e) = e
number (Err Misnamed) = 65536
number (Err NeverHeard) = 65537

-- by the list, and by its mask
abbrev holds : Network → List ℕ → Question → Bool
holds Γ σ x =
    eqb (number (due Γ σ x.minute x.list)) (number x.answer)
    && eqb (number (due_on Γ σ x.minute (said_from 0 x.list))) (number x.answer)

-- as many events as there may be, no signal, and event u at minute u
abbrev sixteen : ℕ → Network
sixteen zero = empty 60
sixteen (suc n) = with_event (sixteen n) 0 1

abbrev row : List ℕ
row = tabulate 16 (λ u. u)

abbrev all : Network → List ℕ → List Question → Bool
all Γ σ [] = true
all Γ σ (x ∷ xs) = holds Γ σ x && all Γ σ xs

-- the last bit, none behind it, and a letter where none is defined
abbrev ends : Bool
ends =
    eqb (number (due (sixteen 16) row 15 [])) 32768
    && (eqb (number (due (sixteen 16) row 16 [])) 0
    && eqb (number (due (sixteen 16) row 0 (p true ∷ []))) (number (Err Misnamed)))

-- at 6, the mask of p true, and of p false; and masks that no list has, p true with one bit more: p false, r, those of
-- no letter, and one past the 64
abbrev masks : Bool
masks =
    eqb (number (due_on net table 6 (2 ^ 15))) 0
    && (eqb (number (due_on net table 6 (2 ^ 47))) 4
    && every (λ k. eqb (number (due_on net table 6 (2 ^ 15 + 2 ^ k))) (number (Err Misnamed)))
    (47 ∷ 17 ∷ 26 ∷ 31 ∷ 58 ∷ 62 ∷ 63 ∷ 64 ∷ []))

pub played : all net table questions && (ends && masks) ≡ true
unfolding satisfies happens reaction_of_lem due with_heard due_on
played = refl

pub played_some : all some-cases blanks questions_of_some && all some-cases table questions_of_filled ≡ true
unfolding satisfies happens reaction_of_lem due with_heard due_on
played_some = refl
