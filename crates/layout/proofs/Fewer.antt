-- Numbers of which none stands twice are no more than those among which all of them stand. Assumes nothing.
use mathlib.Core.Path.{◌≡◌, sym, ◌∙◌}
use mathlib.Core.Bool.{true, false}
use mathlib.Core.List.{List}
use Prim.Native.Nat.{ℕ, ◌≤◌, ◌<◌}
use native.Mathlib.Omega.{arith}
use borrow.Author.Tests.{eq-eqb, eqb-true, ne_eqb}
use lib.Dec.{eqb}
use lib.ListN.{length, get_or}
use Rattle.std.proofs.lemmas.Cmp.{nat_eq_equiv}
use Rattle.std.proofs.lemmas.Grind.{get_or_default_zero}
use Rattle.std.proofs.lemmas.List.Folds.{Any-from_list_any, list_any_at}
use Rattle.std.proofs.lemmas.Map.Keys.{IsDistinct-from_apart}
use Rattle.std.proofs.lemmas.Map.Made.{length-le_from_is_member}
use Rattle.std.specs.List.{list_any}
use Rattle.prelude.specs.Lists.{In, Distinct, Each}

pub distinct-few : (xs ys : List ℕ) → Distinct xs 0 → Each (λ x. In x ys 0) xs 0 → length xs ≤ length ys
distinct-few xs ys once among =
    length-le_from_is_member nat_eq_equiv xs ys (IsDistinct-from_apart eqb xs apart) member
  where
    at : (i d : ℕ) → i < length xs → get_or xs i d ≡ get_or xs i 0
    at i d h = get_or_default_zero xs i d h

    apart : (i j d : ℕ) → i < j → j < length xs → eqb (get_or xs i d) (get_or xs j d) ≡ false
    apart i j d h l =
        let inside : i < length xs = omega arith in
        ne_eqb (get_or xs i d) (get_or xs j d) (λ e.
        omega (arith, once.once i j inside l (sym (at i d inside) ∙ e ∙ at j d l)))

    member : (q : ℕ) → list_any (eqb q) xs ≡ true → list_any (eqb q) ys ≡ true
    member q m =
        let a = Any-from_list_any (eqb q) xs m in
        let same = eqb-true q a.1 a.4 in
        let i = among.each a.0 a.2 in
        list_any_at (eqb q) ys i.place 0 i.place_lt
        (eq-eqb q (get_or ys i.place 0) (same ∙ sym a.3 ∙ at a.0 a.1 a.2 ∙ sym i.is))
