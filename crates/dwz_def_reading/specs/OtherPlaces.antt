-- The same units where other things stand for their places: what is asked of what surrounds them.
use Rattle.std.specs.Prelude.{◌≡◌, ℕ, ◌+◌, ◌-◌, ◌<◌, ◌∷◌, Option, Some, None, nat_lt, if◌then◌else◌}
use Rattle.dwz_model.specs.Lists.{In}
use Rattle.dwz_def_reading.specs.Meanings.{Around, Common, places_of}
use Rattle.dwz_def_reading.specs.Units.{RawUnit}

-- supplementary files (DWARF 5, 7.3.6) with the same entries and texts, where f leads from what stands for an entry to what does there
pub record IsCommonMapped {P Q : Type 0} (f : P → Q) (c : Common P) (d : Common Q) : Type 0 where
  pub entries : d.entries ≡ c.entries
  pub place : (n : ℕ) → In n c.entries → d.place n ≡ f (c.place n)
  pub strs : d.strs ≡ c.strs

-- two such files, or none
abbrev pub AreCommonMapped : {P Q : Type 0} → (P → Q) → Option (Common P) → Option (Common Q) → Type 0
AreCommonMapped f None None = Unit {0}
AreCommonMapped f (Some c) (Some d) = IsCommonMapped f c d
AreCommonMapped f _ _ = ⊥

-- the same sections and entries, all below a bound, where f leads from what stands for a place below it to what does there; and the
-- same of the supplementary file
pub record AreMapped {P Q : Type 0} (f : P → Q) (bound : ℕ) (a : Around P) (b : Around Q) : Type 0 where
  pub sources : b.sources ≡ a.sources
  pub all : b.all ≡ a.all
  pub below : (n : ℕ) → In n a.all → n < bound
  pub place : (n : ℕ) → n < bound → b.place n ≡ f (a.place n)
  pub common : AreCommonMapped f a.common b.common

-- the places of a unit and of its entries are below a bound
abbrev pub LiesBelow : ℕ → RawUnit → Type 0
LiesBelow bound u = (n : ℕ) → In n (u.at ∷ places_of u) → n < bound

-- ---- one number for each place of a file and of its supplementary file

-- the same entries of a supplementary file, by numbers from a bound on
abbrev pub numbered_common : {P : Type 0} → ℕ → Option (Common P) → Option (Common ℕ)
numbered_common bound None = None
numbered_common bound (Some c) = Some (record { entries = c.entries; place = λ n. bound + n; strs = c.strs })

-- each place stands for itself, and one of the supplementary file for a number from the bound on
abbrev pub numbered : {P : Type 0} → ℕ → Around P → Around ℕ
numbered bound a = record { sources = a.sources; all = a.all; place = λ n. n; common = numbered_common bound a.common }

abbrev pub place_in : {P : Type 0} → (ℕ → P) → Option (Common P) → ℕ → P
place_in place None = place
place_in place (Some c) = c.place

-- what stands for the place that has a number
abbrev pub place_numbered : {P : Type 0} → ℕ → Around P → ℕ → P
place_numbered bound a n = if nat_lt n bound then a.place n else place_in a.place a.common (n - bound)
