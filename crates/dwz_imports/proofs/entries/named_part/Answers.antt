use Rattle.std.proofs.Common.{◌≡◌, ◌↔◌, ◌+◌, ℕ, Some, List, Bor, Option, subst, sym}
use Rattle.std.specs.Option.{option_map}
use Rattle.dwz_def_reading.specs.Spelling.{reach}
use Rattle.dwz_def_reading.specs.Classes.{Class}
use Rattle.dwz_def_reading.specs.Meanings
use Rattle.dwz_def_reading.specs.Units.{RawUnit}
use Rattle.dwz_forms.specs.RawValues.{raw_view}
use Rattle.dwz_unit.specs.Rows.{Source, units_of}
use Rattle.dwz_imports.specs.Said.{raw_beside}
use Rattle.dwz_imports.specs.Stored.{IsPartOf, common_place, own_place}
use Rattle.dwz_imports.proofs.NamedParts.{other_class, own_part}
use Rattle.dwz_imports.proofs.entries.named_part.Goals as goal

abbrev raw_of : Option (Bor Source) → List RawUnit
raw_of o = raw_beside (option_map (λ u. u.now) o)

-- the class of the arm, and the offset that was read
abbrev Is : List RawUnit → List RawUnit → ℕ → Option ℕ → ℕ → Class → ℕ → Type 0
Is own common at r n k offset = (r ≡ Some n) ↔ IsPartOf own common (own_place k at offset) (common_place k offset) n

moved : (own common : List RawUnit) (at : ℕ) (r : Option ℕ) (n : ℕ) (k l : Class) (o p : ℕ) → k ≡ l → o ≡ p → Is own common at r n l o → Is own common at r n k p
moved own common at r n k l o p same offset h = subst (λ (x : Class). Is own common at r n x p) (sym same) (subst (λ (x : ℕ). Is own common at r n l x) offset h)

pub returns-in-UnitEntry : goal.returns-in-UnitEntry
returns-in-UnitEntry c = λ n. moved (units_of c.args.own.now) (raw_of c.args.common) c.args.at c.part_at.result n _ _ _ _ c.in-UnitEntry.is c.offset_of-offset.ensures.value
    (own_part (units_of c.args.own.now) (raw_of c.args.common) (c.args.at + c.offset_of-offset.result) c.part_at.result c.part_at.ensures n)

pub returns-in-InfoEntry : goal.returns-in-InfoEntry
returns-in-InfoEntry c = λ n. moved (units_of c.args.own.now) (raw_of c.args.common) c.args.at c.part_at-in-InfoEntry.result n _ _ _ _ c.in-InfoEntry.is c.offset_of-offset.ensures.value
    (own_part (units_of c.args.own.now) (raw_of c.args.common) c.offset_of-offset.result c.part_at-in-InfoEntry.result c.part_at-in-InfoEntry.ensures n)

pub returns-in-CommonEntry : goal.returns-in-CommonEntry
returns-in-CommonEntry c = λ n. moved (units_of c.args.own.now) (raw_of c.args.common) c.args.at c.common_part.result n _ _ _ _ c.in-CommonEntry.is c.offset_of-offset.ensures.value
    (c.common_part.ensures n)

pub returns-in_default : goal.returns-in_default
returns-in_default c = λ n. other_class c.args.class c.args.at (reach (Meanings.number_of (raw_view c.args.raw.now))) c.in_default.not-UnitEntry c.in_default.not-InfoEntry c.in_default.not-CommonEntry
    (units_of c.args.own.now) (raw_of c.args.common) n
