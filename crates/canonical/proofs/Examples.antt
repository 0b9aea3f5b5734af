-- Upper bounds, reactions and labels of events as a form writes them: one table each, which one theorem each covers by
-- computation. Assumes nothing.
use mathlib.Core.Path.{◌≡◌, refl}
use mathlib.Core.Bool.{Bool, true, ◌&&◌}
use mathlib.Core.List.{List, [], ◌∷◌, ◌++◌, map}
use Prim.Native.Nat.{ℕ}
use Prim.Native.Char.{code}
use Prim.Native.String.{String}
use lib.IntN.{ℤ, pos, negsuc}
use lib.ListN.{length}
use Rattle.prelude.specs.Bytes.{ascii, same}
use Rattle.text.specs.Lines.{line_feed}
use Rattle.network.specs.Build.{empty, with_event, with_signal, with_reaction, with_label}
use Rattle.network.specs.Strategy.{reaction_of_lem}
use Rattle.network.specs.declared.Label.{Label}
use Rattle.network.specs.declared.Network.{Network}
use Rattle.names.specs.Names.{label_of}
use Rattle.names.specs.Defined.{mask_of}
use Rattle.layout.specs.Layout.{rule_line, reactions_text, cases_text}
use Rattle.tighten.specs.Upper.{upper}
use Rattle.canonical.specs.Listed.{slow_of, labelled_of, section_of, before_labels}
use Rattle.canonical.specs.House.{as_rule, as_case}

-- two events, named by the first bytes of a sheet, and the signals q, p and r in this order
abbrev sheet : List ℕ
sheet = ascii "startdoor"

abbrev network : Network
network =
    with_signal (with_signal (with_signal (with_event (with_event (empty 60) 0 5) 5 4) (code "q") 1) (code "p") 0)
    (code "r") 1

-- a limit and a label as they are typed; the rule from the start to the door
record Example : Type 0 where
  limit : ℤ
  typed : String
  prints : String

abbrev example : ℤ → String → String → Example
example w t l = record { limit = w; typed = t; prints = l }

abbrev examples : List Example
examples =
    -- no label; 0 has no sign
    example (pos 0) "-" "max,start,door,0,-"
    -- the letters in signal order, each with its own sign
    ∷ (example (pos 7) "!rpq" "max,start,door,7,qp!r"
    ∷ (example (negsuc 0) "p!q" "max,start,door,-1,!qp"
    ∷ (example (pos 10080) "!p" "max,start,door,10080,!p"
    ∷ (example (negsuc 10079) "r!p!q" "max,start,door,-10080,!q!pr" ∷ []))))

-- the label that is typed
abbrev mask_typed : String → Label
mask_typed t = mask_of network.signals network.letters (label_of (ascii t))

abbrev agrees : Example → Bool
agrees e =
    same (rule_line (as_rule sheet network (upper 0 1 e.limit (mask_typed e.typed))))
    (ascii e.prints ++ line_feed ∷ [])

abbrev all_agree : List Example → Bool
all_agree [] = true
all_agree (e ∷ es) = agrees e && all_agree es

pub examples_agree : all_agree examples ≡ true
examples_agree = refl

-- lines of text, each with its line feed
abbrev lines : List String → List ℕ
lines [] = []
lines (l ∷ ls) = ascii l ++ line_feed ∷ lines ls

-- what a form of this network has behind its rules
abbrev behind_rules : Network → List ℕ
behind_rules Γ =
    reactions_text (before_labels (length (labelled_of Γ)) (slow_of Γ))
    ++ cases_text (section_of (map (as_case sheet Γ) (labelled_of Γ)))

-- whether of the reactions of q, p and r, 0 where there is no line, these lines are written
abbrev reacting : ℕ → ℕ → ℕ → Network
reacting q p r = with_reaction (with_reaction (with_reaction network 0 q) 1 p) 2 r

abbrev written : ℕ → ℕ → ℕ → List String → Bool
written q p r ls = same (behind_rules (reacting q p r)) (lines ls)

-- those other than 1, in signal order, and no section if there are none
pub reactions-agree :
    written 2 1 3 ("reactions,2" ∷ "q,2" ∷ "r,3" ∷ [])
    && (written 60 0 0 ("reactions,1" ∷ "q,60" ∷ [])
    && (written 4 5 6 ("reactions,3" ∷ "q,4" ∷ "p,5" ∷ "r,6" ∷ []) && (written 1 0 1 [] && written 0 0 0 []))) ≡ true
unfolding reaction_of_lem
reactions-agree = refl

-- whether of the reaction of q and the labels of the two events, as they are typed, these lines are written
abbrev listed : ℕ → String → String → List String → Bool
listed q start door ls =
    let Γ = reacting q 0 0 in
    same (behind_rules (with_label (with_label Γ 0 (mask_typed start)) 1 (mask_typed door))) (lines ls)

-- those other than `-`, in event order, behind `reactions,0` if there are no reactions, and no section if there are
-- none
pub labels-agree :
    listed 0 "-" "!rp" ("reactions,0" ∷ "cases,1" ∷ "door,p!r" ∷ [])
    && (listed 5 "-" "q" ("reactions,1" ∷ "q,5" ∷ "cases,1" ∷ "door,q" ∷ [])
    && (listed 1 "p" "!q" ("reactions,0" ∷ "cases,2" ∷ "start,p" ∷ "door,!q" ∷ [])
    && (listed 5 "-" "-" ("reactions,1" ∷ "q,5" ∷ []) && listed 0 "-" "-" []))) ≡ true
unfolding reaction_of_lem
labels-agree = refl
