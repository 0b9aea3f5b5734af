-- The player's refusals: the table's length, then the judge, then what is heard. One argument for lists, masks and
-- texts, and for tables of minutes and of bytes. Assumes nothing.
use mathlib.Core.Path.{◌≡◌, refl, sym, ◌∙◌, ap}
use mathlib.Core.Logic.{◌↔◌}
use mathlib.Core.Bool.{true, false}
use mathlib.Core.List.{List}
use Prim.Native.Nat.{ℕ}
use Rattle.std.specs.Prelude.{Ok, Err, Result}
use Rattle.prelude.proofs.Tests.{zero-is-one}
use Rattle.network.specs.Build.{cells}
use Rattle.network.specs.Solution.{Solution}
use Rattle.network.specs.declared.Network.{Network}
use Rattle.sheet.specs.Reading.{network_of, Accepts}
use Rattle.checker.specs.Verdict.{verdict}
use Rattle.checker.specs.declared.Verdict.{Verdict}
use Rattle.checker.specs.declared.Verdict.TheVariants.{Pass, Breach as Breached}
use Rattle.checker.proofs.Judged.{judged}
use Rattle.dispatch.specs.Heard.{Lettered}
use Rattle.dispatch.specs.Due.{due}
use Rattle.dispatch.specs.Said.{said_from, due_on}
use Rattle.dispatch.specs.HeardText.{heard_in, due_text}
use Rattle.dispatch.specs.declared.Heard.{Heard}
use Rattle.dispatch.specs.declared.Unanswered.{Unanswered}
use Rattle.dispatch.specs.declared.Unanswered.TheVariants as P
use Rattle.dispatch.proofs.Answers.{due-misnamed, due-never}
use Rattle.dispatch.proofs.Mask.{due-said, due-on-misnamed}
use Rattle.dispatch.proofs.HeardText.{text-misnamed, text-never}
use Rattle.calls.specs.Values.{number_values}
use Rattle.calls.specs.Lent.{Handed}
use Rattle.calls.specs.Play.{named, ever_heard, events_of, is_pass, playing_tests, playing}
use Rattle.calls.specs.Answers.{Answers}
use Rattle.calls.specs.Numbers.{plays, misnamed_by, unheard_by, misnamed_on, unheard_on, misnamed_in}
use Rattle.calls.proofs.Matched.{unlined, answers-call}
use Rattle.calls.proofs.Handed.{Rightly}

-- a pass, and no pass
pub pass-true : (v : Verdict) → (is_pass v ≡ true) ↔ (v ≡ Pass)
pass-true Pass = (λ e. refl, λ e. refl)
pass-true (Breached b) = (λ e. zero-is-one cc, λ e. zero-is-one cc)

pass-false : (v : Verdict) → (is_pass v ≡ false) ↔ (v ≡ Pass → ⊥)
pass-false Pass = (λ e. zero-is-one cc, λ n. absurd (n refl))
pass-false (Breached b) = (λ e q. zero-is-one cc, λ n. refl)

-- what the player says
named-false : (d : Result ℕ Unanswered) → (named d ≡ false) ↔ (d ≡ Err P.Misnamed)
named-false (Ok x) = (λ e. zero-is-one cc, λ e. zero-is-one cc)
named-false (Err P.Misnamed) = (λ e. refl, λ e. refl)
named-false (Err P.NeverHeard) = (λ e. zero-is-one cc, λ e. zero-is-one cc)

heard-false : (d : Result ℕ Unanswered) → (ever_heard d ≡ false) ↔ (d ≡ Err P.NeverHeard)
heard-false (Ok x) = (λ e. zero-is-one cc, λ e. zero-is-one cc)
heard-false (Err P.Misnamed) = (λ e. zero-is-one cc, λ e. zero-is-one cc)
heard-false (Err P.NeverHeard) = (λ e. refl, λ e. refl)

-- misnamed and unheard are the causes of 15 and 16
pub record Says (d : Result ℕ Unanswered) (misnamed unheard : Type 0) : Type 0 where
  pub fifteen : (d ≡ Err P.Misnamed) ↔ misnamed
  pub sixteen : (d ≡ Err P.Misnamed → ⊥) → (d ≡ Err P.NeverHeard) ↔ unheard

module _ (sheet : List ℕ) (t : Handed) (right : Network → Type 0) (said : Network → Result ℕ Unanswered)
    (misnamed unheard : Network → Type 0) where
  abbrev net : Network
  net = network_of sheet

  failing : Rightly t right net → t.has (cells net) ≡ true
      → (is_pass (verdict net t.minutes) ≡ false) ↔ (Solution net t.minutes → ⊥)
  failing rightly h =
      let sound = judged net t.minutes (rightly.sized (rightly.yes.0 h)) in
      let passes = pass-false (verdict net t.minutes) in
      (λ e s. passes.0 e (sound.1 s), λ n. passes.1 (λ e. n (sound.0 e)))

  unheard_iff : Says (said net) (misnamed net) (unheard net) → named (said net) ≡ true
      → (ever_heard (said net) ≡ false) ↔ unheard net
  unheard_iff s n =
      let unnamed : said net ≡ Err P.Misnamed → ⊥ =
      λ e. let z : named (said net) ≡ false = (named-false (said net)).1 e in zero-is-one cc in
      let k = s.sixteen unnamed in
      (λ e. k.0 ((heard-false (said net)).0 e), λ u. (heard-false (said net)).1 (k.1 u))

  pub player-answers : (Accepts sheet → Rightly t right net)
      → (Accepts sheet → Says (said net) (misnamed net) (unheard net))
      → Answers sheet (plays right t.minutes misnamed unheard) 0 (number_values (playing sheet t said))
  player-answers rightly says =
      answers-call number_values 0 Err (λ r. refl) sheet (playing_tests t said) (λ Γ. Ok (events_of (said Γ)))
      (plays right t.minutes misnamed unheard) refl
      (λ a. (
        λ _. unlined refl refl,
        (rightly a).no,
        λ h. (
          λ _. unlined refl refl,
          failing (rightly a) h,
          λ _. (
            λ _. unlined refl refl,
            (
              λ e. (says a).fifteen.0 ((named-false (said net)).0 e),
              λ m. (named-false (said net)).1 ((says a).fifteen.1 m),
            ),
            λ n. (λ _. unlined refl refl, unheard_iff (says a) n, λ _. tt),
          ),
        ),
      ))
      (λ Γ. (refl, refl))

-- what is neither misnamed nor anything but unheard is unheard
unheard_left : (d : Result ℕ Unanswered) → (d ≡ Err P.Misnamed → ⊥)
    → ((d ≡ Err P.NeverHeard → ⊥) → d ≡ Err P.Misnamed) → d ≡ Err P.NeverHeard
unheard_left (Ok x) n k = absurd (n (k (λ q. zero-is-one cc)))
unheard_left (Err P.Misnamed) n k = absurd (n refl)
unheard_left (Err P.NeverHeard) n k = refl

module _ (Γ : Network) (letters : Lettered Γ) (t : List ℕ) (m : ℕ) where
  pub list-says : (hs : List Heard) → Says (due Γ t m hs) (misnamed_by hs Γ) (unheard_by t m hs Γ)
  list-says hs =
      let fifteen = due-misnamed Γ t m letters hs in
      let sixteen = due-never Γ t m letters hs in
      record {
        fifteen = fifteen;
        sixteen = λ n. (
          λ e. (sixteen.0 e).1,
          λ u. unheard_left (due Γ t m hs) n (λ no. fifteen.1 (λ w. no (sixteen.1 (w, u)))),
        );
      }

  -- a mask that is well named is that of a list with good names
  pub mask-says : (x : ℕ) → Says (due_on Γ t m x) (misnamed_on x Γ) (unheard_on t m x Γ)
  mask-says x =
      let fifteen = due-on-misnamed Γ t m x letters in
      let by-list : (hs : List Heard) → said_from 0 hs ≡ x → due Γ t m hs ≡ due_on Γ t m x =
      λ hs e. sym (due-said Γ t m hs letters) ∙ ap (due_on Γ t m) e in
      record {
        fifteen = fifteen;
        sixteen = λ n. (
          λ e hs q. ((due-never Γ t m letters hs).0 (by-list hs q ∙ e)).1,
          λ u. unheard_left (due_on Γ t m x) n
              (λ no. fifteen.1 (λ hs q w. no (sym (by-list hs q) ∙ (due-never Γ t m letters hs).1 (w, u hs q)))),
        );
      }

  pub text_says : (text : List ℕ)
      → Says (due_text Γ t m text) (misnamed_in text Γ) (unheard_by t m (heard_in text) Γ)
  text_says text =
      let fifteen = text-misnamed Γ t m letters text in
      let sixteen = text-never Γ t m letters text in
      record {
        fifteen = fifteen;
        sixteen = λ n. (
          λ e. (sixteen.0 e).1,
          λ u. unheard_left (due_text Γ t m text) n (λ no. fifteen.1 (λ w. no (sixteen.1 (w, u)))),
        );
      }
