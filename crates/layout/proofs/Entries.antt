-- The lines of a section, whatever they hold: where a line of one thing is understood, so many lines are. Assumes
-- nothing.
use mathlib.Core.Path.{◌≡◌, refl, sym, ◌∙◌, ap}
use mathlib.Core.Option.{none}
use mathlib.Core.List.{List, [], ◌∷◌, ◌++◌, append-nil, append_assoc, map}
use Prim.Native.Nat.{ℕ, zero, suc, ◌+◌, ◌≤◌, ◌<◌}
use native.Mathlib.Omega.{arith}
use lib.ListN.{length, drop, length-append}
use lib.Seq.{append_snoc}
use Rattle.prelude.specs.Checks.{first_failing_lem}
use Rattle.text.specs.Lines.{line_at, after_line, fields, line}
use Rattle.text.proofs.Written.{Plain, IsRead, is_read, line_read}
use Rattle.network.specs.declared.Network.{Network}
use Rattle.line.specs.Tests.{Tests}
use Rattle.line.specs.Sections.{heading_of_lem, tests_of, with_line}
use Rattle.line.specs.declared.Section.{Section}
use Rattle.sheet.specs.Reading.{Progress, Go, read_line, read_entries_lem}
use Rattle.sheet.proofs.ReadLine.{go-same, read_line-on, went}
use Rattle.layout.specs.Layout.{lines}

-- a line of this kind, with so many more of the section behind it, is that of an x: the network holds the xs that have
-- been read, where so many are to come, and x may follow them
pub record Understood (sheet : List ℕ) (s : Section) {X : Type 0} (first : X → List ℕ) (others : X → List (List ℕ))
    (Held : ℕ → Network → List X → Type 0) (Kept : List X → Type 0) (May : ℕ → List X → X → Type 0) : Type 0 where
  pub may : (xs ys : List X) (x : X) → Kept (xs ++ x ∷ ys) → May (length ys) xs x
  pub reads : (m : ℕ) {Γ : Network} {xs : List X} → Held (suc m) Γ xs → (fs : List (List ℕ))
      → first_failing_lem (tests_of sheet s m Γ fs) ≡ none
      → (x : X) × (fs ≡ first x ∷ others x) × May m xs x
  pub passes : (m : ℕ) {Γ : Network} {xs : List X} → Held (suc m) Γ xs → (x : X) → May m xs x
      → first_failing_lem (tests_of sheet s m Γ (first x ∷ others x)) ≡ none
  pub plain : {m : ℕ} {Γ : Network} {xs : List X} → Held (suc m) Γ xs → (x : X) → May m xs x
      → Plain (first x ∷ others x)
  pub adds : (n m : ℕ) {Γ : Network} {xs : List X} → Held (suc m) Γ xs → (x : X) → May m xs x
      → length xs < (heading_of_lem n s).most → (at : ℕ) (rest : List ℕ)
      → drop at sheet ≡ line (first x) (others x) ++ rest
      → Held m (with_line sheet s Γ at (first x ∷ others x)) (xs ++ x ∷ [])

pub read_line-passes : (sheet : List ℕ) (at k : ℕ) (ts : List (List ℕ) → Tests) (next : List (List ℕ) → Progress)
    (fs : List (List ℕ)) (rest : List ℕ) (p : Progress) → IsRead sheet at fs rest → first_failing_lem (ts fs) ≡ none
    → next fs ≡ p
    → read_line sheet at k ts next ≡ p
read_line-passes sheet at k ts next fs rest p e r n =
    let passes : first_failing_lem (ts (fields (line_at sheet at))) ≡ none = rw e.fields_are r in
    read_line-on sheet at k ts next (rw e.ends passes) ∙ ap next e.fields_are ∙ n

-- texts in a row
pub joins : (s a r t u : List ℕ) → s ≡ a ++ r → r ≡ t ++ u → s ≡ (a ++ t) ++ u
joins s a r t u e h = e ∙ ap (λ (x : List ℕ). a ++ x) h ∙ sym (append_assoc a t u)

pub parts : (s a t u : List ℕ) → s ≡ (a ++ t) ++ u → s ≡ a ++ (t ++ u)
parts s a t u e = e ∙ append_assoc a t u

-- the text of so many lines
abbrev pub texts : {X : Type 0} → (X → List ℕ) → List X → List ℕ
texts text ys = lines (map text ys)

module _ (sheet : List ℕ) {X : Type 0} (Held : Network → List X → Type 0) where
  -- the lines that were read, behind those of xs, are those of some items, and the network holds them
  pub record Read (text : X → List ℕ) (xs : List X) (m at : ℕ) (Γ : Network) (end : ℕ) : Type 0 where
    pub items : List X
    pub count : length items ≡ m
    pub written : drop at sheet ≡ texts text items ++ drop end sheet
    pub held : Held Γ (xs ++ items)

-- the reading comes to a network that holds x, and to a place where the rest stands
pub record Reads (sheet : List ℕ) {X : Type 0} (Held : Network → X → Type 0) (p : Progress) (x : X) (rest : List ℕ)
    : Type 0 where
  pub network : Network
  pub at : ℕ
  pub number : ℕ
  pub goes : p ≡ Go network at number
  pub held : Held network x
  pub behind : drop at sheet ≡ rest

module _ {sheet : List ℕ} {s : Section} {X : Type 0} {first : X → List ℕ} {others : X → List (List ℕ)}
    {Held : ℕ → Network → List X → Type 0} {Kept : List X → Type 0} {May : ℕ → List X → X → Type 0}
    (w : Understood sheet s first others Held Kept May) (n : ℕ) where
  abbrev text : X → List ℕ
  text x = line (first x) (others x)

  -- what follows a line
  abbrev next : ℕ → Network → ℕ → ℕ → List (List ℕ) → Progress
  next m Γ at k fs = read_entries_lem sheet s m (with_line sheet s Γ at fs) (after_line sheet at) (suc k)

  -- so many lines that were read are those of some items
  pub entries-read : (m : ℕ) (Γ : Network) (xs : List X) (at k : ℕ) → Held m Γ xs
      → length xs + m ≤ (heading_of_lem n s).most
      → (Δ : Network) (end number : ℕ) → read_entries_lem sheet s m Γ at k ≡ Go Δ end number
      → Read sheet (Held 0) text xs m at Δ end
  entries-read zero Γ xs at k h few Δ end number g =
      let same = go-same Γ Δ at end k number g in
      record {
        items = [];
        count = refl;
        written = ap (λ (i : ℕ). drop i sheet) same.1;
        held = rw (append-nil xs, ← same.0) h;
      }
  entries-read (suc m) Γ xs at k h few Δ end number g =
      let p = went sheet at k (tests_of sheet s m Γ) (next m Γ at k) Δ end number g in
      let r = w.reads m h (fields (line_at sheet at)) p.passed.accepted in
      let x = r.0 in
      let behind = drop (after_line sheet at) sheet in
      let t : drop at sheet ≡ text x ++ behind = rw r.1 at (line_read sheet at p.passed.ends) in
      let held = w.adds n m h x r.2 (omega arith) at behind t in
      let few-left : length (xs ++ x ∷ []) + m ≤ (heading_of_lem n s).most = omega (arith, length-append xs (x ∷ [])) in
      let on =
      entries-read m (with_line sheet s Γ at (first x ∷ others x)) (xs ++ x ∷ []) (after_line sheet at) (suc k) held
      few-left Δ end number
      (rw r.1 at p.then) in
      record {
        items = x ∷ on.items;
        count = omega (arith, on.count);
        written = joins (drop at sheet) (text x) behind (texts text on.items) (drop end sheet) t on.written;
        held = rw append_snoc at on.held;
      }

  -- where the lines of ys stand, they are read
  pub entries-reads : (ys : List X) (Γ : Network) (xs : List X) (at k : ℕ) (rest : List ℕ) → Held (length ys) Γ xs
      → Kept (xs ++ ys) → length xs + length ys ≤ (heading_of_lem n s).most → drop at sheet ≡ texts text ys ++ rest
      → Reads sheet (Held 0) (read_entries_lem sheet s (length ys) Γ at k) (xs ++ ys) rest
  entries-reads [] Γ xs at k rest h kept few t =
      record { network = Γ; at = at; number = k; goes = refl; held = rw append-nil h; behind = t }
  entries-reads (x ∷ ys) Γ xs at k rest h kept few t =
      let m = w.may xs ys x kept in
      let behind = texts text ys ++ rest in
      let l = parts (drop at sheet) (text x) (texts text ys) rest t in
      let r = is_read sheet at (first x) (others x) behind (w.plain h x m) l in
      let held = w.adds n (length ys) h x m (omega arith) at behind l in
      let few-left : length (xs ++ x ∷ []) + length ys ≤ (heading_of_lem n s).most =
      omega (arith, length-append xs (x ∷ [])) in
      let on =
      entries-reads ys (with_line sheet s Γ at (first x ∷ others x)) (xs ++ x ∷ []) (after_line sheet at)
      (suc k) rest held
      (rw append_snoc kept) few-left r.behind in
      record {
        network = on.network;
        at = on.at;
        number = on.number;
        goes =
            read_line-passes sheet at k (tests_of sheet s (length ys) Γ) (next (length ys) Γ at k) (first x ∷ others x)
            behind (Go on.network on.at on.number) r (w.passes (length ys) h x m) on.goes;
        held = rw append_snoc at on.held;
        behind = on.behind;
      }
