-- A line as it is written and as it is read: where a line of fields without commas and line feeds stands, these
-- fields are read (`is_read`); and where a line is read that ends, it is the line of its fields (`line_read`), which
-- have no comma and no line feed (`plain-fields`). Assumes nothing.
use mathlib.Core.Path.{◌≡◌, refl, sym, ◌∙◌, ap}
use mathlib.Core.Logic.{inl, inr}
use mathlib.Core.Bool.{true, false, not}
use mathlib.Core.List.{List, [], ◌∷◌, ◌++◌, append-nil, append_assoc}
use Prim.Native.Nat.{ℕ, ◌+◌, ◌≤◌}
use native.Mathlib.Numerals.{add-one}
use native.Mathlib.Omega.{arith}
use borrow.Author.Tests.{eqb-true, ne_eqb, not-true}
use lib.Dec.{eqb}
use lib.ListN.{length, drop}
use lib.Seq.{drop-drop, drop-append-add}
use Rattle.prelude.specs.Bytes.{every}
use Rattle.prelude.proofs.Tests.{either, and-true, and_both, eq_or_ne}
use Rattle.text.specs.Lines.{comma, line_feed, plain, line, up_to, into_first, fields, line_at, ends_at, after_line}
use Rattle.text.proofs.Lines.{up_to_split, is_in-behind}
use Rattle.text.proofs.Fields.{fields-comma, fields_byte, 1-le-fields}

abbrev pub Plain : List (List ℕ) → Type 0
Plain [] = Unit {0}
Plain (f ∷ fs) = (every plain f ≡ true) × Plain fs

-- the line of these fields; there is always one
abbrev pub line_of : List (List ℕ) → List ℕ
line_of [] = line_feed ∷ []
line_of (f ∷ fs) = line f fs

-- as far as its line feed
abbrev joined : List ℕ → List (List ℕ) → List ℕ
joined f [] = f
joined f (g ∷ gs) = f ++ comma ∷ joined g gs

line-joined : (f : List ℕ) (gs : List (List ℕ)) (rest : List ℕ) → line f gs ++ rest ≡ joined f gs ++ line_feed ∷ rest
line-joined f [] rest = append_assoc f (line_feed ∷ []) rest
line-joined f (g ∷ gs) rest = rw (append_assoc, append_assoc, line-joined g gs rest)

plain_parts : (b : ℕ) (s : List ℕ) → every plain (b ∷ s) ≡ true
    → (eqb b comma ≡ false) × (eqb b line_feed ≡ false) × (every plain s ≡ true)
plain_parts b s e =
    let p = and-true (plain b) (every plain s) e in
    let q = and-true (not (eqb b comma)) (not (eqb b line_feed)) p.0 in
    (not-true (eqb b comma) q.0, not-true (eqb b line_feed) q.1, p.1)

-- the fields of a joined line
fields-before : (f rest : List ℕ) → every plain f ≡ true → fields (f ++ comma ∷ rest) ≡ f ∷ fields rest
fields-before [] rest e = refl
fields-before (b ∷ f) rest e =
    let p = plain_parts b f e in
    rw (p.0, fields, fields-before f rest p.2)

fields-last : (f : List ℕ) → every plain f ≡ true → fields f ≡ f ∷ []
fields-last [] e = refl
fields-last (b ∷ f) e =
    let p = plain_parts b f e in
    rw (p.0, fields, fields-last f p.2)

fields-joined : (f : List ℕ) (gs : List (List ℕ)) → Plain (f ∷ gs) → fields (joined f gs) ≡ f ∷ gs
fields-joined f [] p = fields-last f p.0
fields-joined f (g ∷ gs) p = fields-before f (joined g gs) p.0
    ∙ ap (λ (fs : List (List ℕ)). f ∷ fs) (fields-joined g gs p.1)

-- what stands before a line feed
up_to_before : (f s : List ℕ) → every plain f ≡ true → up_to line_feed (f ++ s) ≡ f ++ up_to line_feed s
up_to_before [] s e = refl
up_to_before (b ∷ f) s e =
    let p = plain_parts b f e in
    rw (p.1, up_to, up_to_before f s p.2)

up_to_joined : (f : List ℕ) (gs : List (List ℕ)) (rest : List ℕ) → Plain (f ∷ gs)
    → up_to line_feed (joined f gs ++ line_feed ∷ rest) ≡ joined f gs
up_to_joined f [] rest p = up_to_before f (line_feed ∷ rest) p.0 ∙ append-nil f
up_to_joined f (g ∷ gs) rest p =
    rw (append_assoc, up_to_before f (comma ∷ joined g gs ++ line_feed ∷ rest) p.0, up_to_joined g gs rest p.1)

-- a line that stands in the sheet is read
pub record IsRead (sheet : List ℕ) (at : ℕ) (fs : List (List ℕ)) (rest : List ℕ) : Type 0 where
  pub ends : ends_at sheet at ≡ true
  pub fields_are : fields (line_at sheet at) ≡ fs
  pub behind : drop (after_line sheet at) sheet ≡ rest

pub is_read : (sheet : List ℕ) (at : ℕ) (f : List ℕ) (gs : List (List ℕ)) (rest : List ℕ) → Plain (f ∷ gs)
    → drop at sheet ≡ line_of (f ∷ gs) ++ rest → IsRead sheet at (f ∷ gs) rest
is_read sheet at f gs rest p e =
    let h : drop at sheet ≡ joined f gs ++ line_feed ∷ rest = e ∙ line-joined f gs rest in
    let l : line_at sheet at ≡ joined f gs = ap (up_to line_feed) h ∙ up_to_joined f gs rest p in
    record {
      ends = rw h (is_in-behind line_feed (joined f gs) rest);
      fields_are = ap fields l ∙ fields-joined f gs p;
      behind = sym (drop-drop (length (line_at sheet at) + 1) at sheet) ∙ rw (l, h, drop-append-add);
    }

-- joining the fields of a line gives the line back
line_first : (b : ℕ) (fs : List (List ℕ)) → 1 ≤ length fs → line_of (into_first b fs) ≡ b ∷ line_of fs
line_first b [] h = absurd (omega arith)
line_first b (f ∷ []) h = refl
line_first b (f ∷ (g ∷ gs)) h = refl

line-empty : (fs : List (List ℕ)) → 1 ≤ length fs → line [] fs ≡ comma ∷ line_of fs
line-empty [] h = absurd (omega arith)
line-empty (g ∷ gs) h = refl

line-fields : (s : List ℕ) → line_of (fields s) ≡ s ++ line_feed ∷ []
line-fields [] = refl
line-fields (b ∷ s) =
    elim (either (eqb b comma)) [
      | inl e ↦ rw (e, fields, line-empty (fields s) (1-le-fields s), line-fields s, ← eqb-true b comma e)
      | inr e ↦ rw (e, fields, line_first b (fields s) (1-le-fields s), line-fields s)
    ]

-- a line that ends stands in the sheet as the line of its fields
pub line_read : (sheet : List ℕ) (at : ℕ) → ends_at sheet at ≡ true
    → drop at sheet ≡ line_of (fields (line_at sheet at)) ++ drop (after_line sheet at) sheet
line_read sheet at e =
    up_to_split line_feed (drop at sheet) e
    ∙ rw (
      ← add-one (length (line_at sheet at)),
      drop-drop (length (line_at sheet at) + 1) at sheet,
      line-fields (line_at sheet at),
    )

-- what is read is plain: the fields of a line have no comma in them, and the line no line feed
plain_into : (b : ℕ) (fs : List (List ℕ)) → plain b ≡ true → Plain fs → Plain (into_first b fs)
plain_into b [] e p = tt
plain_into b (f ∷ fs) e p = (and_both (plain b) (every plain f) e p.0, p.1)

pub plain-fields : (s : List ℕ) → Plain (fields (up_to line_feed s))
plain-fields [] = (refl, tt)
plain-fields (b ∷ s) =
    let l = up_to line_feed s in
    elim (either (eqb b line_feed)) [
      | inl e ↦ rw (e, up_to) (refl, tt)
      | inr e ↦ rw (e, up_to) (elim (eq_or_ne b comma) [
        | inl p ↦ rw (fields-comma b l p) (refl, plain-fields s)
        | inr n ↦ rw (fields_byte b l n) (plain_into b (fields l) (rw (ne_eqb b comma n, e)) (plain-fields s))
      ])
    ]
