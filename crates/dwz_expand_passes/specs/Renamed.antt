-- A file and its common file with other things for places, and what is written of it.
use Rattle.std.specs.Prelude.{◌≡◌, ℕ, Bool, List, map}
use Rattle.dwz_def_cross.specs.Tops.{WithCommon}
use Rattle.dwz_def_expand.specs.Chosen.{Choice}
use Rattle.dwz_def_expand.specs.Source.{Copy, copy, source_places}
use Rattle.dwz_def_expand.specs.Written.{expanded_places, expanded_sections, written}
use Rattle.dwz_def_reading.specs.Documents.{unit_map}

abbrev pub renamed : {P Q : Type 0} → (P → Q) → WithCommon P → WithCommon Q
renamed f w = record { own = map (unit_map f) w.own; common = map (unit_map f) w.common }

abbrev pub copy_map : {P Q : Type 0} → (P → Q) → Copy P → Copy Q
copy_map f k = copy k.unit (f k.source)

-- forms are chosen by the same
pub record SameChoice {P Q : Type 0} (f : P → Q) (c : Choice P) (d : Choice Q) : Type 0 where
  pub role : (p : P) → d.role (f p) ≡ c.role p
  pub slots : (p : P) → d.slots (f p) ≡ c.slots p
  pub offsets : d.offsets ≡ c.offsets
  pub paths : (n : ℕ) → d.paths n ≡ c.paths n

-- The same is written, but for what stands for places: the same units, sections, and places of copies.
pub record SameWritten {P Q : Type 0} (f : P → Q) (same : P → P → Bool) (other : Q → Q → Bool) (c : Choice P) (d : Choice Q)
    (w : WithCommon P) : Type 0 where
  pub sources : source_places other (renamed f w) ≡ map (λ (places : List P). map f places) (source_places same w)
  pub units : written other d (renamed f w) ≡ map (unit_map (copy_map f)) (written same c w)
  pub sections : expanded_sections other d (renamed f w) ≡ expanded_sections same c w
  pub places : (k : Copy P) → (expanded_places other d (renamed f w)).place (copy_map f k) ≡ (expanded_places same c w).place k

abbrev pub RenamedLaw : Type 0 → Type 0 → Type 0
RenamedLaw P Q =
    (f : P → Q) (same : P → P → Bool) (other : Q → Q → Bool) (c : Choice P) (d : Choice Q) (w : WithCommon P)
    → ((p q : P) → other (f p) (f q) ≡ same p q) → SameChoice f c d
    → SameWritten f same other c d w
