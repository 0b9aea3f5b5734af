-- The section of reactions, which may be absent: what was read is the section, or nothing; and where the section stands
-- it is read, and where nothing stands it is not. Assumes nothing.
use mathlib.Core.Path.{◌≡◌, refl, ◌∙◌, ap}
use mathlib.Core.Bool.{Bool, true, false, cond}
use mathlib.Core.Option.{Option, none, some, get_or}
use mathlib.Core.List.{List, [], ◌∷◌, ◌++◌}
use Prim.Native.Nat.{ℕ, ◌≤◌, ◌<◌, zero-le}
use native.Mathlib.Omega.{arith}
use borrow.Author.Tests.{lt-ltb, le-ltb}
use lib.ListN.{length, drop, length-drop}
use Rattle.prelude.proofs.Search.{some-not-none}
use Rattle.network.specs.Limits as L
use Rattle.network.specs.declared.Network.{Network}
use Rattle.line.specs.declared.Section.{Section}
use Rattle.line.specs.declared.Section.TheVariants.{Reactions}
use Rattle.sheet.proofs.ReadLine.{go-same}
use Rattle.sheet.specs.Reading.{Go, read_section_lem, follows, read_optional_lem}
use Rattle.layout.specs.Contents.{Signal, Rule, Reaction}
use Rattle.layout.specs.Layout.{reactions_text}
use Rattle.layout.proofs.Kept.{KeptReactions}
use Rattle.layout.proofs.Extends.{contents, contents_with}
use Rattle.layout.proofs.Stands.{Stands}
use Rattle.layout.proofs.Behind.{reactions_begin}
use Rattle.layout.proofs.Entries.{Reads}
use Rattle.layout.proofs.Reactions.{reactions-understood}
use Rattle.layout.proofs.Section.{section-read, section-reads}

-- the reactions that were read: their section, or nothing
pub record ReactionsRead (sheet : List ℕ) (h : ℕ) (ns : List (List ℕ)) (xs : List Signal) (rs : List Rule) (at : ℕ)
    (Γ : Network) (end : ℕ) : Type 0 where
  pub items : Option (List Reaction)
  pub few : length (get_or items []) ≤ L.signals
  pub written : drop at sheet ≡ reactions_text items ++ drop end sheet
  pub held : Stands sheet Γ (contents_with h ns xs rs items)
  -- where the section is absent, nothing stands behind it
  pub ended : items ≡ none → follows sheet end ≡ false

pub reactions-read : (sheet : List ℕ) {h : ℕ} {ns : List (List ℕ)} {xs : List Signal} {rs : List Rule} (Γ : Network)
    (at k : ℕ) → length xs ≤ L.signals → Stands sheet Γ (contents h ns xs rs)
    → (Δ : Network) (end m : ℕ) → read_optional_lem sheet Reactions Γ at k ≡ Go Δ end m
    → ReactionsRead sheet h ns xs rs at Δ end
reactions-read sheet {h} {ns} {xs} {rs} Γ at k few held Δ end m e = by_bytes (follows sheet at) refl e
  where
    by_bytes : (more : Bool) → follows sheet at ≡ more
        → cond more (read_section_lem sheet Reactions Γ at k) (Go Γ at k) ≡ Go Δ end m
        → ReactionsRead sheet h ns xs rs at Δ end
    by_bytes true f e =
        let r = section-read (reactions-understood sheet h ns xs rs few) Γ at k (λ _. reactions_begin held) Δ end m e in
        record {
          items = some r.items;
          few = r.high;
          written = r.written;
          held = r.held;
          ended = λ n. some-not-none r.items n;
        }
    by_bytes false f e =
        let same = go-same Γ Δ at end k m e in
        record {
          items = none;
          few = omega arith;
          written = ap (λ (i : ℕ). drop i sheet) same.1;
          held = rw same.0 at held;
          ended = λ n. rw same.1 at f;
        }

-- a section that may be absent is, where nothing is left, and where something stands it is read
module _ (sheet : List ℕ) (s : Section) (Γ : Network) (at k : ℕ) where
  pub optional_absent : drop at sheet ≡ [] → read_optional_lem sheet s Γ at k ≡ Go Γ at k
  optional_absent e =
      let h : length sheet ≤ at = omega (arith, ap length e, length-drop at sheet) in
      rw (le-ltb at (length sheet) h)

  pub optional_stands : {b : ℕ} {rest : List ℕ} → drop at sheet ≡ b ∷ rest
      → read_optional_lem sheet s Γ at k ≡ read_section_lem sheet s Γ at k
  optional_stands e =
      let h : at < length sheet = omega (arith, ap length e, length-drop at sheet) in
      rw (lt-ltb at (length sheet) h)

-- where the section of o stands, or nothing at all, the reading holds it
pub reactions-reads : (sheet : List ℕ) {h : ℕ} {ns : List (List ℕ)} {xs : List Signal} {rs : List Rule} (Γ : Network)
    (at k : ℕ) → length xs ≤ L.signals → Stands sheet Γ (contents h ns xs rs)
    → (o : Option (List Reaction)) → KeptReactions xs (get_or o []) → length (get_or o []) ≤ L.signals
    → (rest : List ℕ) → (o ≡ none → rest ≡ []) → drop at sheet ≡ reactions_text o ++ rest
    → Reads sheet (λ Γ o. Stands sheet Γ (contents_with h ns xs rs o)) (read_optional_lem sheet Reactions Γ at k) o rest
reactions-reads sheet Γ at k signals held none kept few rest ends t = record {
  network = Γ;
  at = at;
  number = k;
  goes = optional_absent sheet Reactions Γ at k (t ∙ ends refl);
  held = held;
  behind = t;
}
reactions-reads sheet {h} {ns} {xs} {rs} Γ at k signals held (some ys) kept few rest ends t =
    let r = section-reads (reactions-understood sheet h ns xs rs signals) Γ at k (λ _. reactions_begin held) refl ys
    rest kept zero-le few t in
    record {
      network = r.network;
      at = r.at;
      number = r.number;
      goes = optional_stands sheet Reactions Γ at k t ∙ r.goes;
      held = r.held;
      behind = r.behind;
    }
