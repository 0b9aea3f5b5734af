-- Of the lines of contents that keep the layout's rules only those of rules have five fields (`front-other`,
-- `heading_other`, `rear_other`); and each is a line of plain fields. Assumes nothing.
use mathlib.Core.Path.{◌≡◌, refl}
use mathlib.Core.Bool.{true}
use mathlib.Core.Option.{Option, none, some, get_or}
use mathlib.Core.List.{List, [], ◌∷◌, ◌++◌, map}
use Prim.Native.Nat.{ℕ, suc}
use Prim.Native.String.{String}
use native.Mathlib.Omega.{arith}
use lib.ListN.{length}
use Rattle.prelude.specs.Bytes.{ascii, every}
use Rattle.prelude.specs.Lists.{In, Each}
use Rattle.prelude.proofs.Checks.{◌&◌}
use Rattle.prelude.proofs.Tests.{and_both}
use Rattle.prelude.proofs.Lists.{each_in, each_mono}
use Rattle.prelude.proofs.Mapped.{each_map}
use Rattle.prelude.proofs.Parts.{each_none, each_cons, each_one, each_append}
use Rattle.text.specs.Decimal.{decimal}
use Rattle.text.specs.Lines.{plain, line}
use Rattle.text.proofs.Numbers.{plain-decimal}
use Rattle.text.proofs.Written.{Plain}
use Rattle.names.specs.Names.{is_name_lem, Literal}
use Rattle.layout.specs.Contents.{Reaction, Case, ContentsOf, no_signal, no_rule_of, no_reaction, no_case}
use Rattle.layout.specs.Contents.{signal_letters}
use Rattle.layout.specs.Keeps.{KeepsLabel, KeepsReaction, KeepsCase, KeepsOf}
use Rattle.layout.specs.Layout.{label_text, signal_line, rule_fields, rule_line_by, reaction_line, case_line}
use Rattle.layout.proofs.Plain.{plain-letter, plain-name}
use Rattle.layout.proofs.Numbers.{plain-signed_text}
use Rattle.layout.proofs.Labels.{plain-label_text}
use Rattle.layout.proofs.Kept.{KeptSignals, letter_is, letters-are}
use Rattle.conversion.specs.Converted.{heading}
use Rattle.conversion.proofs.Lines.{IsLine}
use Rattle.conversion.proofs.Sections.{headed, reaction_lines, case_lines, front, rear}

-- the line of plain fields, of which there are not five
pub record IsOther (l : List ℕ) : Type 0 where
  pub written : IsLine l
  pub count : suc (length written.others) ≡ 5 → ⊥

-- a line of one field, and of two
alone : (f : List ℕ) → every plain f ≡ true → IsOther (line f [])
alone f p = record {
  written = record { one = f; others = []; plain_bytes = (p, tt); is = refl };
  count = λ e. omega arith;
}

pair : (f g : List ℕ) → every plain f ≡ true → every plain g ≡ true → IsOther (line f (g ∷ []))
pair f g p q = record {
  written = record { one = f; others = g ∷ []; plain_bytes = (p, (q, tt)); is = refl };
  count = λ e. omega arith;
}

-- a section behind its heading
section-other : (word : String) → every plain (ascii word) ≡ true → (ls : List (List ℕ)) → Each IsOther ls []
    → Each IsOther (headed word ls) []
section-other word p ls e =
    each_cons IsOther [] (line (ascii word) (decimal (length ls) ∷ [])) ls
    (pair (ascii word) (decimal (length ls)) p (plain-decimal (length ls))) e

pub heading_other : (n : ℕ) → IsOther (heading n)
heading_other n = pair (ascii "rules") (decimal n) refl (plain-decimal n)

pub heading-one : (n : ℕ) → Each IsOther (heading n ∷ []) []
heading-one n = each_one IsOther [] (heading n) (heading_other n)

module _ {K : Type 0} {d : K} (c : ContentsOf K) (k : KeepsOf d c) where
  signals-kept : KeptSignals c.names c.signals
  signals-kept = record { each = k.signals; letters_once = k.letters_once; events_once = k.events_once }

  name_in : (f : List ℕ) → In f c.names [] → every plain f ≡ true
  name_in f i = plain-name f (each_in (λ n. is_name_lem n ≡ true) k.names i)

  label_in : (ls : List Literal) → KeepsLabel (signal_letters c.signals) ls → every plain (label_text ls) ≡ true
  label_in ls w = plain-label_text ls (letters-are signals-kept _ w.known)

  letter_in : (b : ℕ) → plain b ≡ true → every plain (b ∷ []) ≡ true
  letter_in b p = and_both (plain b) true p refl

  names-other : Each IsOther (map (λ n. line n []) c.names) []
  names-other =
      each_map (λ n. line n []) IsOther [] [] c.names (each_mono (λ n p. alone n (plain-name n p)) k.names)

  signals-other : Each IsOther (map signal_line c.signals) []
  signals-other =
      each_map signal_line IsOther no_signal [] c.signals
      (each_mono (λ x p. pair (x.letter ∷ []) x.event (letter_in x.letter (plain-letter x.letter p.letter))
      (name_in x.event p.event)) k.signals)

  pub front-other : Each IsOther (front c) []
  front-other =
      let es = headed "events" (map (λ n. line n []) c.names) in
      let ss = headed "signals" (map signal_line c.signals) in
      each_cons IsOther [] (line (ascii "horizon") (decimal c.horizon ∷ [])) (es ++ ss)
      (pair (ascii "horizon") (decimal c.horizon) refl (plain-decimal c.horizon))
      (each_append IsOther [] es ss (section-other "events" refl _ names-other)
      (section-other "signals" refl _ signals-other))

  reactions-other : (o : Option (List Reaction))
      → Each (KeepsReaction (signal_letters c.signals)) (get_or o []) no_reaction
      → Each IsOther (reaction_lines o) []
  reactions-other none e = each_none IsOther []
  reactions-other (some ys) e =
      section-other "reactions" refl (map reaction_line ys)
      (each_map reaction_line IsOther no_reaction [] ys
      (each_mono (λ y w. pair (y.letter ∷ []) (decimal y.minutes)
      (letter_in y.letter (plain-letter y.letter (letter_is signals-kept y.letter w.signal)))
      (plain-decimal y.minutes)) e))

  cases_other : (o : Option (List Case))
      → Each (KeepsCase c.names (signal_letters c.signals)) (get_or o []) no_case
      → Each IsOther (case_lines o) []
  cases_other none e = each_none IsOther []
  cases_other (some ks) e =
      section-other "cases" refl (map case_line ks)
      (each_map case_line IsOther no_case [] ks
      (each_mono (λ y w. pair y.event (label_text y.label) (name_in y.event w.event)
      (label_in y.label w.label)) e))

  pub rear_other : Each IsOther (rear c) []
  rear_other =
      each_append IsOther [] (reaction_lines c.reactions) (case_lines c.cases)
      (reactions-other c.reactions k.reactions) (cases_other c.cases k.cases)

  -- the lines of the rules, whose kinds have these words
  module _ (word : K → List ℕ) (p : (x : K) → every plain (word x) ≡ true) where
    pub rule-plain : Each (λ x. Plain (word x.kind ∷ rule_fields x)) c.rules (no_rule_of d)
    rule-plain =
        each_mono (λ x w.
        p x.kind & name_in x.from w.from & name_in x.to w.to & plain-signed_text x.limit & label_in x.label w.label
        & tt) k.rules

    pub rules-written : Each IsLine (map (rule_line_by word) c.rules) []
    rules-written =
        each_map (rule_line_by word) IsLine (no_rule_of d) [] c.rules
        (each_mono (λ x p. record { one = word x.kind; others = rule_fields x; plain_bytes = p; is = refl }) rule-plain)
