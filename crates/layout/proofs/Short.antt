-- How long the text of contents that keep the rules is at most: part by part what `specs/Most.antt` says, which is less
-- than a sheet may have. A label has no more letters than there are signals, since none stands in it twice (`Fewer`).
-- Assumes nothing.
use mathlib.Core.Path.{◌≡◌}
use mathlib.Core.Bool.{true}
use mathlib.Core.Option.{Option, none, some, get_or}
use mathlib.Core.List.{List, [], ◌∷◌, ◌++◌, map}
use Prim.Native.Nat.{ℕ, ◌≤◌}
use native.Mathlib.Omega.{arith}
use lib.ListN.{length, length-append, length-map}
use Rattle.prelude.specs.Bytes.{ascii}
use Rattle.prelude.specs.Lists.{In, Each}
use Rattle.prelude.proofs.Lists.{each_mono, each_in}
use Rattle.text.specs.Decimal.{decimal}
use Rattle.text.specs.Lines.{line}
use Rattle.text.proofs.Decimal.{length-decimal_16}
use Rattle.network.specs.Limits as L
use Rattle.names.specs.Names.{is_name_lem, Literal, letters_of}
use Rattle.names.proofs.Tokens.{name-short}
use Rattle.layout.specs.Contents.{Signal, Rule, Reaction, Case, Contents, no_signal, no_rule, no_reaction, no_case}
use Rattle.layout.specs.Contents.{signal_letters}
use Rattle.layout.specs.Keeps.{KeepsSignal, KeepsLabel, KeepsRule, KeepsReaction, KeepsCase, Keeps}
use Rattle.layout.specs.Layout.{signed_text, label_text, kind_text, section, signal_line, rule_line, reaction_line}
use Rattle.layout.specs.Layout.{reactions_text, case_line, cases_text, text_of}
use Rattle.layout.specs.Most.{most_count, most_events, most_signals, most_label, most_rule, most_rules}
use Rattle.layout.specs.Most.{most_reaction, most_reactions, most_case, most_cases, most_form}
use Rattle.layout.proofs.Fewer.{distinct-few}
use Rattle.layout.proofs.Lengths.{length_signed, length_label, length-kind, length-line, length-field}
use Rattle.layout.proofs.Lengths.{length-count, length-section}

-- six parts one behind the other
length_parts : (h e s r y l : List ℕ) → length h ≤ most_count 7 → length e ≤ most_events → length s ≤ most_signals
    → length r ≤ most_rules → length y ≤ most_reactions → length l ≤ most_cases
    → length (h ++ e ++ s ++ r ++ y ++ l) ≤ most_form
length_parts h e s r y l a b c d i j =
    omega (
      arith,
      length-append (h ++ e ++ s ++ r ++ y) l,
      length-append (h ++ e ++ s ++ r) y,
      length-append (h ++ e ++ s) r,
      length-append (h ++ e) s,
      length-append h e,
    )

module _ (c : Contents) (k : Keeps c) where
  abbrev letters : List ℕ
  letters = signal_letters c.signals

  name-few : (n : List ℕ) → In n c.names [] → length n ≤ 8
  name-few n i = name-short n (each_in (λ n. is_name_lem n ≡ true) k.names i)

  label-few : (ls : List Literal) → KeepsLabel letters ls → length (label_text ls) ≤ most_label
  label-few ls e =
      length_label ls
      (omega (
        arith,
        distinct-few (letters_of ls) letters e.once e.known,
        length-map ls (λ l. l.letter),
        length-map c.signals (λ x. x.letter),
        k.few_signals,
      ))

  length-signal : (x : Signal) → KeepsSignal c.names x → length (signal_line x) ≤ 11
  length-signal x e = omega (arith, length-line x.event, name-few x.event e.event)

  length-rule : (x : Rule) → KeepsRule c.names letters x → length (rule_line x) ≤ most_rule
  length-rule x e =
      let limit = signed_text x.limit in
      let label = label_text x.label in
      omega (
        arith,
        length-field (kind_text x.kind) x.from (x.to ∷ limit ∷ label ∷ []),
        length-kind x.kind,
        length-field x.from x.to (limit ∷ label ∷ []),
        name-few x.from e.from,
        length-field x.to limit (label ∷ []),
        name-few x.to e.to,
        length-field limit label [],
        length_signed x.limit e.limit,
        length-line label,
        label-few x.label e.label,
      )

  length-reaction : (y : Reaction) → KeepsReaction letters y → length (reaction_line y) ≤ most_reaction
  length-reaction y e =
      omega (arith, length-line (decimal y.minutes), length-decimal_16 y.minutes (omega (arith, e.most)))

  length-reactions : (o : Option (List Reaction)) → length (get_or o []) ≤ L.signals
      → Each (KeepsReaction letters) (get_or o []) no_reaction → length (reactions_text o) ≤ most_reactions
  length-reactions none few e = omega arith
  length-reactions (some ys) few e =
      length-section "reactions" most_reaction L.signals reaction_line no_reaction ys few (omega arith)
      (each_mono length-reaction e)

  length_case : (x : Case) → KeepsCase c.names letters x → length (case_line x) ≤ most_case
  length_case x e =
      let label = label_text x.label in
      omega (
        arith,
        length-field x.event label [],
        name-few x.event e.event,
        length-line label,
        label-few x.label e.label,
      )

  length-cases : (o : Option (List Case)) → length (get_or o []) ≤ L.events
      → Each (KeepsCase c.names letters) (get_or o []) no_case → length (cases_text o) ≤ most_cases
  length-cases none few e = omega arith
  length-cases (some ks) few e =
      length-section "cases" most_case L.events case_line no_case ks few (omega arith) (each_mono length_case e)

  -- so no sheet is refused for its length that is laid out as one
  pub length-text : length (text_of c) ≤ most_form
  length-text =
      length_parts (line (ascii "horizon") (decimal c.horizon ∷ []))
      (section "events" (map (λ n. line n []) c.names))
      (section "signals" (map signal_line c.signals))
      (section "rules" (map rule_line c.rules))
      (reactions_text c.reactions)
      (cases_text c.cases)
      (length-count (ascii "horizon") c.horizon (omega (arith, k.horizon)))
      (length-section "events" 9 L.events (λ n. line n []) [] c.names k.events (omega arith)
      (each_mono (λ n e. omega (arith, length-line n, name-short n e)) k.names))
      (length-section "signals" 11 L.signals signal_line no_signal c.signals k.few_signals (omega arith)
      (each_mono length-signal k.signals))
      (length-section "rules" most_rule L.rules rule_line no_rule c.rules k.few_rules (omega arith)
      (each_mono length-rule k.rules))
      (length-reactions c.reactions k.few_reactions k.reactions)
      (length-cases c.cases (omega (arith, k.few_cases, k.events)) k.cases)
