-- The operands of the expressions of copied entries, entry by entry.
use Rattle.std.specs.Prelude.{◌≡◌, ◌≤◌, ◌↔◌, ℕ, suc, Bool, IsTrue, List, [], ◌∷◌, ◌++◌, map, Option, Some, slice_get}
use Rattle.dwz_def_cross.specs.CrossSame.{EachTwo}
use Rattle.dwz_def_cross.specs.Tops.{WithCommon}
use Rattle.dwz_def_expand.specs.Refusals.{Where}
use Rattle.dwz_def_reading.specs.Units.{entries_in}
use Rattle.dwz_expand_layout.specs.Lines.{Line}
use Rattle.dwz_expand_layout.specs.Shown.{keys_of}
use Rattle.dwz_expand_layout.specs.declared.entries.NewEntry.{NewEntry}
use Rattle.dwz_expand_layout.specs.declared.entries.NewOperand.{NewOperand}
use Rattle.dwz_expand_sources.specs.declared.sources.SourceRange.{SourceRange}
use Rattle.dwz_expand_sources.specs.declared.sources.NewUnit.{NewUnit}
use Rattle.dwz_expand_passes.specs.Files.{SpeaksEntry, raw_in}
use Rattle.dwz_expand_passes.specs.declared.files.SourceFile.{SourceFile}
use Rattle.dwz_expand_sources.specs.Walk.{sources_of}
use Rattle.dwz_expand_passes.specs.Passes.{Says}
use Rattle.dwz_expand_passes.specs.declared.new_file.NewFile.{NewFile}
use Rattle.dwz_expand_passes.specs.Lined.{all_lines}
use Rattle.dwz_expand_passes.specs.Numbered.{key_in}

-- those of the copy of the entry with a number, which may be one of the common file, in the new unit with a number
pub record Noted : Type 0 where
  pub unit : ℕ
  pub source : ℕ
  pub common : Bool
  pub operands : List NewOperand

abbrev pub noted_of : ℕ → ℕ → Bool → NewEntry → Noted
noted_of unit source common e = record { unit = unit; source = source; common = common; operands = e.operands.now }

-- They are so, where that is known of a file and of its common one: the operands of its expressions in order, each with the copy of the entry
-- to which it leads.
pub record IsNoted (Said : WithCommon ℕ → Where ℕ → Type 0) (own : SourceFile) (common : Option SourceFile) (unit source : ℕ) (s : Noted) : Type 0 where
  pub in_unit : s.unit ≡ unit
  pub of_source : s.source ≡ source
  pub of_common : IsTrue s.common ↔ (entries_in (raw_in own) ≤ source)
  pub speaks : (w : WithCommon ℕ) (stands : Where ℕ) (l : Line ℕ) → Said w stands → slice_get (all_lines w) source ≡ Some l
      → SpeaksEntry own common unit w (keys_of (key_in w)) source s.operands

abbrev pub AreNotedOf : (WithCommon ℕ → Where ℕ → Type 0) → SourceFile → Option SourceFile → ℕ → List ℕ → List Noted → Type 0
AreNotedOf Said own common unit sources given = EachTwo (IsNoted Said own common unit) sources given

-- ---- of all new units

-- the numbers of new units, of which the first has that number, each with those of its sources
unfoldable pub plan_sources : List SourceRange → ℕ → List NewUnit → List (ℕ × ℕ)
plan_sources ranges n [] = []
plan_sources ranges n (x ∷ units) = map (λ i. (n, i)) (sources_of ranges x) ++ plan_sources ranges (suc n) units

-- so it is of each source of each new unit, in order
abbrev pub IsNotedAt : NewFile → ℕ × ℕ → Noted → Type 0
IsNotedAt x p s = IsNoted (Says x) x.own x.common p.0 p.1 s

abbrev pub AreNoted : NewFile → List Noted → Type 0
AreNoted x given = EachTwo (IsNotedAt x) (plan_sources x.sources.now.ranges 0 x.sources.now.units) given
