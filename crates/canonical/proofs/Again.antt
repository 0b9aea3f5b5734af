-- The form of an accepted sheet (02, point 2): it is accepted, and its network has the horizon, the events and their
-- labels, the signals and their reactions, and for rules the upper bounds that remain. So "the form reads back to the
-- same good tables, and a second pass changes no byte". Assumes nothing.
use mathlib.Core.Path.{◌≡◌, refl, sym, ◌∙◌, ap}
use mathlib.Core.Logic.{◌↔◌}
use mathlib.Core.List.{List}
use Prim.Native.Nat.{ℕ, ◌≤◌}
use native.Mathlib.Omega.{arith}
use lib.ListN.{length}
use Rattle.network.specs.Solution.{Solution}
use Rattle.network.specs.declared.Network.{Network}
use Rattle.sheet.specs.Reading.{Accepts, network_of}
use Rattle.layout.specs.Layout.{Layout, text_of}
use Rattle.layout.specs.Contains.{Contains}
use Rattle.layout.specs.Most.{most_form}
use Rattle.layout.proofs.Accepted.{accepted_iff, network-contains}
use Rattle.layout.proofs.Short.{length-text}
use Rattle.tighten.specs.Upper.{uppers_of}
use Rattle.tighten.specs.Tightest.{remaining, remaining_of}
use Rattle.tighten.proofs.Regular.{uppers_regular}
use Rattle.tighten.proofs.Remains.{remaining-again}
use Rattle.tighten.proofs.Agree.{Agree}
use Rattle.tighten.proofs.Tables.{solutions_by-remaining}
use Rattle.canonical.specs.House.{house_of, house_text}
use Rattle.canonical.specs.Same.{Same}
use Rattle.canonical.proofs.Faithful.{faithful, names-held, signals-held}
use Rattle.canonical.proofs.Keeping.{house-keeps}
use Rattle.canonical.proofs.Back.{uppers-back, agrees_back}
use Rattle.canonical.proofs.Likeness.{text_same}

-- the form is the text of what it contains
text-is : (sheet : List ℕ) (Γ : Network) → house_text sheet Γ ≡ text_of (house_of sheet Γ)
unfolding house_text
text-is sheet Γ = refl

module _ (sheet : List ℕ) (a : Accepts sheet) where
  abbrev Γ : Network
  Γ = network_of sheet

  abbrev form : List ℕ
  form = house_text sheet Γ

  abbrev Δ : Network
  Δ = network_of form

  -- at most 3,021 bytes
  pub form-short : length form ≤ most_form
  form-short = rw (text-is sheet Γ) (length-text (house_of sheet Γ) (house-keeps (faithful sheet a)))

  abbrev form_layout : Layout form
  form_layout = record {
    contents = house_of sheet Γ;
    keeps = house-keeps (faithful sheet a);
    written = text-is sheet Γ;
    short = omega (arith, form-short);
  }

  pub form-accepted : Accepts form
  form-accepted = (accepted_iff form).1 form_layout

  form-contains : Contains form Δ (house_of sheet Γ)
  form-contains = network-contains form form_layout

  pub form_agrees : Agree Γ Δ
  form_agrees = agrees_back (faithful sheet a) form-contains

  pub form-uppers : uppers_of Δ ≡ remaining_of Γ
  form-uppers = uppers-back (faithful sheet a) form-contains

  -- what remains of them is they themselves
  pub form-remaining : remaining_of Δ ≡ remaining_of Γ
  form-remaining = ap remaining form-uppers ∙ remaining-again (uppers_regular Γ (faithful sheet a).formed)

  pub form-same : Same form Δ sheet Γ
  form-same = record {
    horizons = form-contains.horizon;
    events = names-held form-contains;
    signals = signals-held form-contains;
    remaining = form-remaining;
    reactions = λ p l. sym (form_agrees.reactions p (omega (arith, form_agrees.signals)));
    labels = λ u l. sym (form_agrees.labels u);
  }

  pub form-again : house_text form Δ ≡ form
  form-again = text_same form-same (faithful form form-accepted)

  pub form-tables : (σ : List ℕ) → Solution Γ σ ↔ Solution Δ σ
  form-tables =
      solutions_by-remaining (faithful sheet a).formed (faithful form form-accepted).formed form_agrees
      (sym form-remaining)
