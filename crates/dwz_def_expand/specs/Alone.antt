-- Inner: what is written reads as a file by itself.
use Rattle.std.specs.Prelude.{◌≡◌, ◌≢◌, Bool, true, false, List}
use Rattle.dwz_def_reading.specs.Entries.{Mode, own_forms}
use Rattle.dwz_def_reading.specs.Lists.{Each}
use Rattle.dwz_def_reading.specs.Documents.{Attr, DwUnit}
use Rattle.dwz_def_tops.specs.Seen.{IsPartial}
use Rattle.dwz_def_encoding.specs.Fitting.{AreWritable, EachAttr, UnitFits}
use Rattle.dwz_def_encoding.specs.Meant.{Spells}
use Rattle.dwz_def_encoding.specs.Placing.{sections}
use Rattle.dwz_def_encoding.specs.Writing.{Numbering}
use Rattle.dwz_def_cross.specs.Tops.{WithCommon}
use Rattle.dwz_def_expand.specs.Chosen.{Choice}
use Rattle.dwz_def_expand.specs.Written.{written}

-- no form leads to a supplementary file
abbrev pub LeadsNowhere : {K : Type 0} → Attr K → Type 0
LeadsNowhere a = (a.form ≢ 0x1c) × (a.form ≢ 0x1d)

-- a unit of a file by itself
abbrev pub IsByItself : {K : Type 0} → DwUnit K → Type 0
IsByItself u = ¬ IsPartial u.kind × Each LeadsNowhere u.root.attrs × EachAttr LeadsNowhere u.below

-- What is written reads as a file by itself, but for limits: no unit is partial, and no form leads to a supplementary file.
pub record ReadsAlone {K : Type 0} (n : Numbering K) (units : List (DwUnit K)) : Type 0 where
  pub mode : Mode
  pub whole : mode.whole ≡ true
  pub partial : mode.partial ≡ false
  pub forms : mode.forms ≡ own_forms
  pub spells : Spells n (sections n units) mode units

abbrev pub AloneLaw : Type 0 → Type 0
AloneLaw K =
    (n : Numbering K) (common : List K) (units : List (DwUnit K)) → AreWritable n common units → Each (UnitFits n) units
    → Each IsByItself units → ReadsAlone n units

-- the units that are written are such
abbrev pub ChosenLaw : Type 0 → Type 0
ChosenLaw P = (same : P → P → Bool) (c : Choice P) (w : WithCommon P) → Each IsByItself (written same c w)
