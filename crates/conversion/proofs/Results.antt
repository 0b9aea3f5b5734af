-- The rules that result: what holds of each of them holds of the rules of the sheet as it is read, and of the `min` of
-- each `fix` row (`each-result`); so the contents with these rules keep the layout's rules (`results_keep`). Assumes
-- nothing.
use mathlib.Core.Path.{◌≡◌, refl}
use mathlib.Core.Bool.{Bool, true, false}
use mathlib.Core.List.{List, [], ◌∷◌}
use Prim.Native.Nat.{ℕ, zero, suc, ◌≤◌, ◌<◌}
use native.Mathlib.Omega.{arith}
use lib.ListN.{length, get_or}
use Rattle.prelude.specs.Lists.{Each}
use Rattle.prelude.proofs.Parts.{each_none, each_cons, each_one, each_append, each_first, each-second}
use Rattle.prelude.proofs.Tests.{clash}
use Rattle.network.specs.Limits as L
use Rattle.network.specs.declared.Kind.TheVariants.{Max}
use Rattle.network.specs.declared.Network.{Network}
use Rattle.layout.specs.Contents.{Rule, Contents, no_rule, signal_letters}
use Rattle.layout.specs.Labelled.{Complete}
use Rattle.layout.specs.Keeps.{KeepsRule, Keeps}
use Rattle.conversion.specs.Rows.{is_fix_lem}
use Rattle.conversion.proofs.Written.{as_min, rows_of}
use Rattle.conversion.proofs.Expanded.{expanded}
use Rattle.conversion.proofs.Held.{with_rules-keep}
use Rattle.conversion.proofs.Given.{Given, now, kept, rows}
use Rattle.conversion.proofs.Text.{results, becomes}

module _ (P : Rule → Type 0) where
  -- of a rule, and of its `min` where its row is a `fix`
  pub record Both (l : List ℕ) (x : Rule) : Type 0 where
    pub one : P x
    pub other : is_fix_lem l ≡ true → P (as_min x)

  rows_both : (b : Bool) (l : List ℕ) (x : Rule) → is_fix_lem l ≡ b → Both l x → Each P (rows_of b x) no_rule
  rows_both true l x e w =
      each_cons P no_rule x (as_min x ∷ []) w.one (each_one P no_rule (as_min x) (w.other e))
  rows_both false l x e w = each_one P no_rule x w.one

  both_rows : (b : Bool) (l : List ℕ) (x : Rule) → is_fix_lem l ≡ b → Each P (rows_of b x) no_rule → Both l x
  both_rows true l x e w = record { one = w.each 0 (omega arith); other = λ _. w.each 1 (omega arith) }
  both_rows false l x e w = record { one = w.each 0 (omega arith); other = λ q. clash (is_fix_lem l) q e }

  pub to_results : (ls : List (List ℕ)) (xs : List Rule)
      → ((i : ℕ) → i < length xs → Both (get_or ls i []) (get_or xs i no_rule)) → Each P (expanded ls xs) no_rule
  to_results [] xs f = each_none P no_rule
  to_results (l ∷ ls) [] f = each_none P no_rule
  to_results (l ∷ ls) (x ∷ xs) f =
      each_append P no_rule (rows_of (is_fix_lem l) x) (expanded ls xs)
      (rows_both (is_fix_lem l) l x refl (f 0 (omega arith)))
      (to_results ls xs (λ i h. f (suc i) (omega arith)))

  pub of_results : (ls : List (List ℕ)) (xs : List Rule) → length ls ≡ length xs → Each P (expanded ls xs) no_rule
      → (i : ℕ) → i < length xs → Both (get_or ls i []) (get_or xs i no_rule)
  of_results [] [] n e i h = absurd (omega arith)
  of_results [] (x ∷ xs) n e i h = absurd (omega arith)
  of_results (l ∷ ls) [] n e i h = absurd (omega arith)
  of_results (l ∷ ls) (x ∷ xs) n e zero h =
      both_rows (is_fix_lem l) l x refl (each_first P no_rule (rows_of (is_fix_lem l) x) (expanded ls xs) e)
  of_results (l ∷ ls) (x ∷ xs) n e (suc i) h =
      let behind = each-second P no_rule (rows_of (is_fix_lem l) x) (expanded ls xs) e in
      of_results ls xs (omega arith) behind i (omega arith)

-- the `min` of a rule has its ends, limit and label
module _ {sheet : List ℕ} {Γ : Network} (g : Given sheet Γ) where
  abbrev c : Contents
  c = now g

  abbrev k : Keeps c
  k = kept g

  results_kept : Each (KeepsRule c.names (signal_letters c.signals)) (results g) no_rule
  results_kept =
      to_results (KeepsRule c.names (signal_letters c.signals)) (rows g) c.rules (λ i h.
      let w = k.rules.each i h in
      record {
        one = w;
        other = λ _. record { from = w.from; to = w.to; limit = w.limit; label = w.label };
      })

  results_complete : Each (λ r. Complete c r.label) (results g) no_rule
  results_complete =
      to_results (λ r. Complete c r.label) (rows g) c.rules (λ i h.
      let w = k.labelled.rules.each i h in
      record { one = w; other = λ _. w })

  pub results_keep : length (results g) ≤ L.rules → Keeps (becomes g)
  results_keep few = with_rules-keep Max c (results g) k few results_kept results_complete
