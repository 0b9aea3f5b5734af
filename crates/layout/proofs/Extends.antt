-- The network with nothing in it holds no contents, and one event, signal or rule more holds one name, signal or rule
-- more, since its arrays have room. Assumes nothing.
use mathlib.Core.Path.{◌≡◌, refl}
use mathlib.Core.Logic.{◌≢◌}
use mathlib.Core.Option.{Option, none}
use mathlib.Core.List.{List, [], ◌∷◌, ◌++◌}
use Prim.Native.Nat.{ℕ, ◌<◌}
use native.Mathlib.Omega.{arith}
use lib.ListN.{length, get_or, take, drop, set, length-append}
use lib.Seq.{get_or-set_same, get_or-set_other}
use Rattle.prelude.proofs.Lists.{by_place}
use Rattle.network.specs.Limits as L
use Rattle.network.specs.Build.{empty, with_event, with_signal, with_rule, reaction_stated, no_constraint}
use Rattle.network.specs.WellFormed.{Arrays}
use Rattle.network.specs.declared.Network.{Network}
use Rattle.network.specs.declared.Constraint.{Constraint}
use Rattle.sheet.proofs.LabelStage.{label-empty}
use Rattle.layout.specs.Contents.{Signal, Rule, Reaction, Case, Contents, no_signal, no_rule}
use Rattle.layout.specs.Contains.{Bears, Means, Contains}

-- contents by their parts; without cases, and without reactions
abbrev pub contents_of : ℕ → List (List ℕ) → List Signal → List Rule → Option (List Reaction) → Option (List Case)
    → Contents
contents_of h ns xs rs o q = record { horizon = h; names = ns; signals = xs; rules = rs; reactions = o; cases = q }

abbrev pub contents_with : ℕ → List (List ℕ) → List Signal → List Rule → Option (List Reaction) → Contents
contents_with h ns xs rs o = contents_of h ns xs rs o none

abbrev pub contents : ℕ → List (List ℕ) → List Signal → List Rule → Contents
contents h ns xs rs = contents_with h ns xs rs none

-- nothing was said of reactions
abbrev pub Quiet : Network → Type 0
Quiet Γ = (p : ℕ) → reaction_stated Γ p ≡ 0

-- what holds of the first n entries of an array, and of one entry more
filled : {A B : Type 0} (Q : A → B → Type 0) (l : List A) (d a : A) (xs : List B) (x e : B) (n : ℕ) → n ≡ length xs
    → n < length l → Q a x → ((p : ℕ) → p < length xs → Q (get_or l p d) (get_or xs p e))
    → (p : ℕ) → p < length (xs ++ x ∷ []) → Q (get_or (set l n a) p d) (get_or (xs ++ x ∷ []) p e)
filled Q l d a xs x e n c h q before =
    by_place e xs x (λ p y. Q (get_or (set l n a) p d) y)
    (λ p k. rw (get_or-set_other l n p a d (omega arith)) (before p k))
    (rw (← c, get_or-set_same l n a d h) q)

pub empty-contains : (sheet : List ℕ) (h : ℕ) → Contains sheet (empty h) (contents h [] [] [])
empty-contains sheet h = record {
  horizon = refl;
  events = refl;
  named = λ u l. absurd (omega arith);
  signals = refl;
  lettered = λ p l. absurd (omega arith);
  observed = λ p l. absurd (omega arith);
  rules = refl;
  means = λ i l. absurd (omega arith);
  reacts = λ p i l. absurd (omega arith);
  unsaid = λ p l. absurd (omega arith);
  labelled = λ u i l. absurd (omega arith);
  unlabelled = λ u n. label-empty h u;
}

module _ {sheet : List ℕ} {Γ : Network} {h : ℕ} {ns : List (List ℕ)} (a : Arrays Γ) where
  -- one event more
  pub event-contains : Contains sheet Γ (contents h ns [] []) → (n : List ℕ) (at : ℕ) → length ns < L.events
      → take (length n) (drop at sheet) ≡ n
      → Contains sheet (with_event Γ at (length n)) (contents h (ns ++ n ∷ []) [] [])
  event-contains c n at few part =
      let u = Γ.events in
      let starts = Γ.starts in
      let lengths = Γ.lengths in
      let room : u < length starts = omega (arith, c.events, a.starts) in
      let room-too : u < length lengths = omega (arith, c.events, a.lengths) in
      record {
        horizon = c.horizon;
        events = omega (arith, c.events, length-append ns (n ∷ []));
        named =
            by_place [] ns n
            (λ v m. take (get_or (set lengths u (length n)) v 0) (drop (get_or (set starts u at) v 0) sheet) ≡ m)
            (λ v l.
            let other : v ≢ u = omega (arith, c.events) in
            rw (get_or-set_other lengths u v (length n) 0 other, get_or-set_other starts u v at 0 other) (c.named v l))
            (rw (← c.events, get_or-set_same lengths u (length n) 0 room-too, get_or-set_same starts u at 0 room) part);
        signals = c.signals;
        lettered = λ p l. absurd (omega arith);
        observed = λ p l. absurd (omega arith);
        rules = c.rules;
        means = λ i l. absurd (omega arith);
        reacts = λ p i l. absurd (omega arith);
        unsaid = λ p l. absurd (omega arith);
        labelled = λ v i l. absurd (omega arith);
        unlabelled = λ v n. c.unlabelled v (λ w. absurd (omega (arith, w.place_lt)));
      }

  -- one signal more, where nothing was said of reactions
  pub signal-contains : {xs : List Signal} → Contains sheet Γ (contents h ns xs []) → (x : Signal) (u : ℕ)
      → length xs < L.signals → Bears ns u x.event → Quiet Γ
      → Contains sheet (with_signal Γ x.letter u) (contents h ns (xs ++ x ∷ []) [])
  signal-contains {xs} c x u few bears quiet =
      let k = Γ.signals in
      record {
        horizon = c.horizon;
        events = c.events;
        named = c.named;
        signals = omega (arith, c.signals, length-append xs (x ∷ []));
        lettered =
            filled (λ b y. b ≡ y.letter) Γ.letters 0 x.letter xs x no_signal k c.signals
            (omega (arith, c.signals, a.letters)) refl c.lettered;
        observed =
            filled (λ v y. Bears ns v y.event) Γ.observations 0 u xs x no_signal k c.signals
            (omega (arith, c.signals, a.observations)) bears c.observed;
        rules = c.rules;
        means = λ i l. absurd (omega arith);
        reacts = λ p i l m. absurd (omega arith);
        unsaid = λ p l n. quiet p;
        labelled = λ v i l. absurd (omega arith);
        unlabelled = c.unlabelled;
      }

  -- one rule more
  pub rule-contains : {xs : List Signal} {rs : List Rule} → Contains sheet Γ (contents h ns xs rs)
      → (x : Rule) (k : Constraint) → length rs < L.rules → Means ns xs k x
      → Contains sheet (with_rule Γ k) (contents h ns xs (rs ++ x ∷ []))
  rule-contains {xs} {rs} c x k few means = record {
    horizon = c.horizon;
    events = c.events;
    named = c.named;
    signals = c.signals;
    lettered = c.lettered;
    observed = c.observed;
    rules = omega (arith, c.rules, length-append rs (x ∷ []));
    means =
        filled (Means ns xs) Γ.constraints no_constraint k rs x no_rule Γ.rules c.rules
        (omega (arith, c.rules, a.constraints)) means c.means;
    reacts = λ p i l m. absurd (omega arith);
    unsaid = c.unsaid;
    labelled = λ v i l. absurd (omega arith);
    unlabelled = c.unlabelled;
  }
