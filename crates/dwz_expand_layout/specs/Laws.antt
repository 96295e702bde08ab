-- What the layout of new units and their bytes are, where these show units of a document.
use Rattle.std.specs.Prelude.{◌≡◌, ℕ, ◌<◌, Bool, List, length, map, slice_index}
use Rattle.dwz_def_reading.specs.Documents.{DwUnit}
use Rattle.dwz_def_reading.specs.Lists.{Each}
use Rattle.dwz_def_tops.specs.Lists.{NoneTwice}
use Rattle.dwz_def_tops.specs.Shown.{units_keys}
use Rattle.dwz_def_encoding.specs.Placing.{sections}
use Rattle.dwz_def_encoding.specs.Writing.{Numbering, joined}
use Rattle.dwz_def_cross.specs.Tops.{WithCommon}
use Rattle.dwz_def_expand.specs.Chosen.{Choice}
use Rattle.dwz_def_expand.specs.ExpandLaws.{IsTest}
use Rattle.dwz_def_expand.specs.Source.{Copy}
use Rattle.dwz_def_expand.specs.Written.{expanded_places, written}
use Rattle.dwz_expand_layout.specs.Entries.{UnitLines, line_count}
use Rattle.dwz_expand_layout.specs.Laid.{laid}
use Rattle.dwz_expand_layout.specs.Shown.{ShowUnits, UnitRefers}
use Rattle.dwz_expand_layout.specs.Written.{written as bytes_by}

-- New units show those of a document, of which no key stands twice; and what they name is there.
pub record AreUnits {K : Type 0} (key : ℕ → K) (order : List UnitLines) (units : List (DwUnit K)) : Type 0 where
  pub shows : ShowUnits key 0 order units
  pub apart : NoneTwice (units_keys units)
  pub refer : Each (UnitRefers (line_count order)) order

-- What is laid, and what is written by it, are the sections of the units; and each unit and each copy stands where its key does.
pub record AreLaid {K : Type 0} (n : Numbering K) (key : ℕ → K) (order : List UnitLines) (units : List (DwUnit K)) : Type 0 where
  pub info : bytes_by (laid order) order ≡ (sections n units).info
  pub abbrevs : joined (laid order).tables ≡ (sections n units).abbrevs
  pub end : (laid order).end ≡ length (sections n units).info
  pub starts : map (λ o. o.at) (laid order).units ≡ map (λ u. n.place u.at) units
  pub count : length (laid order).places ≡ line_count order
  pub places : (i : ℕ) → i < line_count order → slice_index (laid order).places i ≡ n.place (key i)

-- of a file that is written without its partial units, whichever forms are chosen
abbrev pub LayoutLaw : Type 0 → Type 0
LayoutLaw P =
    (same : P → P → Bool) (c : Choice P) (w : WithCommon P) (key : ℕ → Copy P) (order : List UnitLines) → IsTest same
    → AreUnits key order (written same c w)
    → AreLaid (expanded_places same c w) key order (written same c w)
