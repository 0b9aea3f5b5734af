-- What refusals 20 and 21 ask of the labels of a sheet's events and rules, told of what the sheet contains, without a
-- network or a reader (02, point 6; 004, Definition 2: well-definedness, WD1 to WD3).
use Rattle.std.specs.Prelude.{◌≡◌, List, [], get_or}
use Rattle.prelude.specs.Lists.{In, Each}
use Rattle.network.specs.declared.Kind.TheVariants.{Max}
use Rattle.names.specs.Names.{Literal}
use Rattle.layout.specs.Contents.{Signal, Case, ContentsOf, Contents, no_signal, no_rule_of, no_case, no_literal}
use Rattle.layout.specs.Contents.{listed_cases}

-- the label lacks no "part of the label of an event whose signal it uses": where a letter of it is that of the signal
-- x, and the line k is that of the event which gives x, each letter of k's label stands in it, with the same sign
pub record Complete {K : Type 0} (c : ContentsOf K) (ls : List Literal) : Type 0 where
  pub has : (l : Literal) (x : Signal) (k : Case) → In l ls no_literal → In x c.signals no_signal
      → In k (listed_cases c) no_case → l.letter ≡ x.letter → x.event ≡ k.event
      → Each (λ m. In m ls no_literal) k.label no_literal

-- of contents with kinds like k
pub record LabelledOf {K : Type 0} (k : K) (c : ContentsOf K) : Type 0 where
  -- no 20, "the start is given a label other than `-`"; the start is the first event
  pub start : Each (λ k. k.event ≡ get_or c.names 0 [] → k.label ≡ []) (listed_cases c) no_case
  -- no 21, "an event's or rule's label lacks part of the label of an event whose signal it uses"
  pub events : Each (λ k. Complete c k.label) (listed_cases c) no_case
  pub rules : Each (λ r. Complete c r.label) c.rules (no_rule_of k)

abbrev pub Labelled : Contents → Type 0
Labelled = LabelledOf Max
