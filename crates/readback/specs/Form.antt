-- Which bytes are a listing of a sheet, for any texts in the places of its minutes, and which line is the first at
-- fault (02, point 4, refusals 18 and 19). Nothing here reads.
use Rattle.std.specs.Prelude.{◌≡◌, ◌⊎◌, true, List, ◌++◌, ℕ, zero, suc, ◌^◌, ◌≤◌, ◌<◌, length}
use Rattle.prelude.specs.Bytes.{every}
use Rattle.text.specs.Lines.{plain}
use Rattle.listing.specs.Listing.{lines_over, listing_over}
use Rattle.readback.specs.Minute.{is_minute}

-- "longer than 4,096 bytes"
abbrev pub longest_read : ℕ
longest_read = 4096

-- texts for n events in each of the first m scenarios; none has a comma or a line feed in it
pub record Texts (n m : ℕ) (texts : ℕ → ℕ → List ℕ) : Type 0 where
  pub each : (s u : ℕ) → s < m → u < n → every plain (texts s u) ≡ true

-- the texts of scenario s are minutes
abbrev pub Minutes : ℕ → (ℕ → ℕ → List ℕ) → ℕ → Type 0
Minutes n texts s = (u : ℕ) → u < n → is_minute (texts s u) ≡ true

-- the sheet's header, its k signals and n events, and the bytes
module _ (head : List ℕ) (k n : ℕ) (bytes : List ℕ) where
  -- the header and the lines of the first m scenarios stand in front, over some texts
  pub record Begins (m : ℕ) : Type 0 where
    pub texts : ℕ → ℕ → List ℕ
    pub are_texts : Texts n m texts
    pub rest : List ℕ
    pub is : bytes ≡ lines_over k n texts head m ++ rest

  -- the bytes are the listing over some texts, and nothing else
  pub record Fitting : Type 0 where
    pub texts : ℕ → ℕ → List ℕ
    pub are_texts : Texts n (2 ^ k) texts
    pub is : bytes ≡ listing_over k n texts head

  -- the first so many lines are this sheet's; the header is one of them
  abbrev pub Stand : ℕ → Type 0
  Stand zero = Unit {0}
  Stand (suc m) = Begins m

  -- and so is what is due behind them: the next line or, behind the last, the end
  abbrev pub Next : ℕ → Type 0
  Next j = ((j ≤ 2 ^ k) × Stand (suc j)) ⊎ ((j ≡ suc (2 ^ k)) × Fitting)

  -- the lines above are this sheet's, and this one is not, "a line missing or left over included"; none is further on
  -- than one behind the last
  pub record FirstMisfit (line : ℕ) : Type 0 where
    pub above : ℕ
    pub is_line : line ≡ suc above
    pub within : above ≤ suc (2 ^ k)
    pub pass : Stand above
    pub fault : Next above → ⊥

  -- 18: "the listing is longer than 4,096 bytes (line 1)"; or the first line at fault
  abbrev pub Misfit : ℕ → Type 0
  Misfit line = ((longest_read < length bytes) × (line ≡ 1)) ⊎ ((length bytes ≤ longest_read) × FirstMisfit line)

  -- no 18
  pub record Formed : Type 0 where
    pub short : length bytes ≤ longest_read
    pub fitting : Fitting

  -- 19: the bytes are a listing, the lines above have minutes only, and that of this scenario has a text that is none;
  -- the header stands above it too
  pub record Unread (line : ℕ) : Type 0 where
    pub formed : Formed
    pub scenario : ℕ
    pub is_line : line ≡ suc (suc scenario)
    pub within : scenario < 2 ^ k
    pub pass : (s : ℕ) → s < scenario → Minutes n formed.fitting.texts s
    pub fault : Minutes n formed.fitting.texts scenario → ⊥
