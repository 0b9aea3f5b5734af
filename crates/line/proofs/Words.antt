-- Laws of the words of the sections. Assumes nothing.
use mathlib.Core.Path.{◌≡◌, refl, sym, ◌∙◌}
use mathlib.Core.Logic.{◌≢◌}
use mathlib.Core.List.{List}
use Prim.Native.Nat.{ℕ}
use Rattle.prelude.specs.Bytes.{ascii, same}
use Rattle.std.specs.Prelude.{Option, Some, None, MatchOption}
use Rattle.std.specs.Option.{option_eq}
use Rattle.prelude.proofs.Bytes.{same_true}
use Rattle.prelude.proofs.Tests.{false_of_not-true}
use Rattle.line.specs.Words.{spelled}
use Rattle.line.specs.contracts.heading.WordPartialEq.TheImpl.{eq-value}
use Rattle.line.specs.declared.Section.TheVariants.{Events, Signals, Rules, Reactions, Cases}
use Rattle.line.specs.declared.heading.Word.{Word}
use Rattle.line.specs.declared.heading.Word.TheVariants.{Horizon, Section}

-- a field that is none of the six
pub no_word : (f : List ℕ) → f ≢ ascii "horizon" → f ≢ ascii "events" → f ≢ ascii "signals" → f ≢ ascii "rules"
    → f ≢ ascii "reactions" → f ≢ ascii "cases" → (w : Word) → f ≢ ascii (spelled w)
no_word f h e s r c k Horizon = h
no_word f h e s r c k (Section Events) = e
no_word f h e s r c k (Section Signals) = s
no_word f h e s r c k (Section Rules) = r
no_word f h e s r c k (Section Reactions) = c
no_word f h e s r c k (Section Cases) = k

-- two words are the same just where they are written the same
equal-word : (v w : Word) → eq-value.it v w ≡ same (ascii (spelled v)) (ascii (spelled w))
equal-word Horizon Horizon = refl
equal-word Horizon (Section Events) = refl
equal-word (Section Events) (Section Events) = refl
equal-word (Section Signals) (Section Signals) = refl
equal-word (Section Rules) (Section Rules) = refl
equal-word (Section Reactions) (Section Reactions) = refl
equal-word (Section Cases) (Section Cases) = refl
equal-word _ _ = refl

-- so that, of a field that was looked up among the words, it is known whether it is a given one
pub is-word : (f : List ℕ) (r : Option Word)
    → MatchOption r ((w : Word) → f ≢ ascii (spelled w)) (λ w. f ≡ ascii (spelled w)) → (w : Word)
    → option_eq eq-value.it r (Some w) ≡ same f (ascii (spelled w))
is-word f None n w = sym (false_of_not-true (same f (ascii (spelled w))) (λ e. n w (same_true f (ascii (spelled w)) e)))
is-word f (Some v) e w = equal-word v w ∙ rw e
