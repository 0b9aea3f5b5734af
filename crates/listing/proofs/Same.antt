-- The listing says of a network its event names, and how many events and signals there are; so networks that have these
-- alike print every table alike. Assumes nothing.
use mathlib.Core.Path.{◌≡◌, refl, sym, ◌∙◌, ap, ap₂}
use mathlib.Core.List.{List, ◌++◌, ◌∷◌, []}
use Prim.Native.Nat.{ℕ, zero, suc, ◌+◌, ◌^◌, ◌<◌}
use native.Mathlib.Omega.{arith}
use Rattle.prelude.specs.Bounded.{tabulate}
use Rattle.prelude.specs.Bytes.{ascii}
use Rattle.text.specs.Lines.{comma, line_feed, line}
use Rattle.page.specs.Joined.{join_from}
use Rattle.network.specs.Build.{name_of_lem}
use Rattle.network.specs.declared.Network.{Network}
use Rattle.listing.specs.Listing.{scenario_text, header, line_over, listing_over, time_texts, listing}
use Rattle.listing.proofs.Fields.{line-tabulate}

join-same : (f g : ℕ → List ℕ) (i n : ℕ) → ((k : ℕ) → k < i + n → f k ≡ g k) → join_from i n f ≡ join_from i n g
join-same f g i zero e = refl
join-same f g i (suc n) e =
    ap₂ (λ (x y : List ℕ). x ++ y) (e i (omega arith)) (join-same f g (suc i) n (λ k l. e k (omega arith)))

-- a line, and the whole, over texts that are the same
line_same : (f : List ℕ) (n : ℕ) (g h : ℕ → List ℕ) → ((u : ℕ) → u < n → g u ≡ h u)
    → line f (tabulate n g) ≡ line f (tabulate n h)
line_same f n g h e =
    sym (line-tabulate f n g)
    ∙ ap (λ (t : List ℕ). f ++ (t ++ line_feed ∷ []))
    (join-same (λ u. comma ∷ g u) (λ u. comma ∷ h u) 0 n (λ u l. ap (λ (t : List ℕ). comma ∷ t) (e u (omega arith))))
    ∙ line-tabulate f n h

pub texts-same : (k n : ℕ) (f g : ℕ → ℕ → List ℕ) (head : List ℕ)
    → ((s u : ℕ) → s < 2 ^ k → u < n → f s u ≡ g s u) → listing_over k n f head ≡ listing_over k n g head
texts-same k n f g head e =
    ap (λ (t : List ℕ). head ++ t)
    (join-same (line_over k n f) (line_over k n g) 0 (2 ^ k)
    (λ s l. line_same (scenario_text k s) n (f s) (g s) (λ u h. e s u (omega arith) h)))

module _ (sheet : List ℕ) (Γ : Network) (other : List ℕ) (Δ : Network) (events : Γ.events ≡ Δ.events)
    (signals : Γ.signals ≡ Δ.signals) (names : (u : ℕ) → u < Γ.events → name_of_lem Γ sheet u ≡ name_of_lem Δ other u)
  where
    pub header-same : header sheet Γ ≡ header other Δ
    header-same =
        line_same (ascii "case") Γ.events (name_of_lem Γ sheet) (name_of_lem Δ other) names
        ∙ ap (λ (n : ℕ). line (ascii "case") (tabulate n (name_of_lem Δ other))) events

    pub listing-same : (σ : List ℕ) → listing sheet Γ σ ≡ listing other Δ σ
    unfolding listing
    listing-same σ =
        ap (listing_over Γ.signals Γ.events (time_texts Γ.events σ)) header-same
        ∙ ap₂ (λ (n k : ℕ). listing_over k n (time_texts n σ) (header other Δ)) events signals
