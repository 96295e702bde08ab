-- What is the same along images means the same.
use Rattle.std.specs.Prelude.{◌≡◌}
use Rattle.dwz_def_reading.specs.Documents.{DwUnit}
use Rattle.dwz_def_reading.specs.Lists.{In}
use Rattle.dwz_def_tops.specs.Lists.{NoneTwice}
use Rattle.dwz_def_tops.specs.Seen.{Closed, EntriesSame, IsPartial, Seen, TypesSame, UnitSame, all_seen}
use Rattle.dwz_def_tops.specs.Shown.{HaveMains, units_keys}
use Rattle.dwz_def_cross.specs.Tops.{CrossTop, WithCommon, units_with_common, whole_units}
use Rattle.dwz_def_cross.specs.CrossLook.{CrossAlike, CrossEqual}
use Rattle.dwz_def_cross.specs.CrossSame.{CrossSame, EachTwo}

-- A file without partial units, each of whose references names an entry of it, so that it names no root of a supplementary file; and a file
-- that is the same along a function of places, unit for unit, with the supplementary file that it refers to. No place is that of two
-- entries.
pub record IsPairing {P Q : Type 0} (f : P → Q) (v : WithCommon P) (w : WithCommon Q) : Type 0 where
  pub apart_from : (u : DwUnit P) (d : Seen P) → In u v.common → In d (all_seen v.own) → d.at ≡ u.root.at → ⊥
  pub kinds : (u : DwUnit P) → In u v.own → IsPartial u.kind → ⊥
  pub closed : Closed v.own
  pub mains : HaveMains v.own
  pub entries : EntriesSame f v.own (units_with_common w)
  pub types : TypesSame f v.own (units_with_common w)
  pub units : EachTwo (UnitSame f (units_with_common w)) v.own (whole_units w.own)
  pub apart : NoneTwice (units_keys (units_with_common w))

-- so an image is a pairing as is asked
abbrev pub CrossLaw : Type 0 → Type 0 → Type 0
CrossLaw P Q = (f : P → Q) (v : WithCommon P) (w : WithCommon Q) → IsPairing f v w → CrossSame v w

-- ---- any relation of tops

-- tops that R relates are equal along R
abbrev pub IsKept : {P Q : Type 0} → (CrossTop P → CrossTop Q → Type 0) → WithCommon P → WithCommon Q → Type 0
IsKept {P} {Q} R v w = (a : CrossTop P) (b : CrossTop Q) → R a b → CrossEqual R v w a b

-- then looks of every depth find them equal: it serves where an image is one of several copies
abbrev pub KeptLaw : Type 0 → Type 0 → Type 1
KeptLaw P Q = (R : CrossTop P → CrossTop Q → Type 0) (v : WithCommon P) (w : WithCommon Q) → IsKept R v w
    → (a : CrossTop P) (b : CrossTop Q) → R a b → CrossAlike v w a b
