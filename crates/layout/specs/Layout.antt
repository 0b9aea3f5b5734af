-- The layout of a sheet: how its contents are written, and that a sheet is that text and nothing else. Nothing here
-- reads (01, The sheet; 02, points 3 and 6). The words of the kinds are a parameter, which is then today's.
use Rattle.std.specs.Prelude.{◌≡◌, Bool, true, false, List, [], ◌∷◌, ◌++◌, map, ℕ, suc, ◌≤◌, ℤ, pos, negsuc, length}
use Rattle.std.proofs.Math.Option.{Option, none, some}
use Prim.Native.Char.{code}
use Prim.Native.String.{String}
use Rattle.prelude.specs.Bytes.{ascii}
use Rattle.text.specs.Lines.{line}
use Rattle.text.specs.Decimal.{decimal}
use Rattle.network.specs.declared.Kind.{Kind}
use Rattle.network.specs.declared.Kind.TheVariants.{Max, Min}
use Rattle.names.specs.Names.{Literal}
use Rattle.sheet.specs.Reading.{longest}
use Rattle.layout.specs.Contents.{Signal, RuleOf, Rule, Reaction, Case, ContentsOf, Contents}
use Rattle.layout.specs.Keeps.{KeepsOf}

-- numbers, labels and kinds
abbrev pub signed_text : ℤ → List ℕ
signed_text (pos n) = decimal n
signed_text (negsuc n) = code "-" ∷ decimal (suc n)

abbrev pub sign_text : Bool → List ℕ
sign_text true = []
sign_text false = ascii "!"

abbrev pub literals_text : List Literal → List ℕ
literals_text [] = []
literals_text (l ∷ ls) = sign_text l.value ++ l.letter ∷ literals_text ls

abbrev pub label_text : List Literal → List ℕ
label_text [] = ascii "-"
label_text (l ∷ ls) = literals_text (l ∷ ls)

abbrev pub kind_text : Kind → List ℕ
kind_text Max = ascii "max"
kind_text Min = ascii "min"

-- lines one behind the other
abbrev pub lines : List (List ℕ) → List ℕ
lines [] = []
lines (l ∷ ls) = l ++ lines ls

-- a section: its word with the count, and then its lines
abbrev pub section : String → List (List ℕ) → List ℕ
section word ls = line (ascii word) (decimal (length ls) ∷ []) ++ lines ls

-- the lines of a signal and of a rule
abbrev pub signal_line : Signal → List ℕ
signal_line x = line (x.letter ∷ []) (x.event ∷ [])

-- what stands behind the kind
abbrev pub rule_fields : {K : Type 0} → RuleOf K → List (List ℕ)
rule_fields x = x.from ∷ x.to ∷ signed_text x.limit ∷ label_text x.label ∷ []

abbrev pub rule_line_by : {K : Type 0} → (K → List ℕ) → RuleOf K → List ℕ
rule_line_by word x = line (word x.kind) (rule_fields x)

abbrev pub rule_line : Rule → List ℕ
rule_line x = rule_line_by kind_text x

abbrev pub reaction_line : Reaction → List ℕ
reaction_line y = line (y.letter ∷ []) (decimal y.minutes ∷ [])

-- the section of reactions, or nothing where it is absent
abbrev pub reactions_text : Option (List Reaction) → List ℕ
reactions_text none = []
reactions_text (some ys) = section "reactions" (map reaction_line ys)

abbrev pub case_line : Case → List ℕ
case_line k = line k.event (label_text k.label ∷ [])

-- the section of cases, or nothing where it is absent
abbrev pub cases_text : Option (List Case) → List ℕ
cases_text none = []
cases_text (some ks) = section "cases" (map case_line ks)

abbrev pub text_by : {K : Type 0} → (K → List ℕ) → ContentsOf K → List ℕ
text_by word c =
    line (ascii "horizon") (decimal c.horizon ∷ [])
    ++ section "events" (map (λ n. line n []) c.names)
    ++ section "signals" (map signal_line c.signals)
    ++ section "rules" (map (rule_line_by word) c.rules)
    ++ reactions_text c.reactions
    ++ cases_text c.cases

abbrev pub text_of : Contents → List ℕ
text_of c = text_by kind_text c

-- the sheet is the text of contents that keep the rules, and nothing else; of kinds like k with these words
pub record LayoutOf {K : Type 0} (word : K → List ℕ) (k : K) (sheet : List ℕ) : Type 0 where
  pub contents : ContentsOf K
  pub keeps : KeepsOf k contents
  pub written : sheet ≡ text_by word contents
  pub short : length sheet ≤ longest

abbrev pub Layout : List ℕ → Type 0
Layout sheet = LayoutOf kind_text Max sheet
