-- What is written of all files, in order.
use Rattle.std.specs.Prelude.{◌≡◌, ℕ, suc, ◌+◌, ◌<◌, ◌≤◌, ◌^◌, ◌==◌, All, List, [], ◌∷◌, ◌++◌, None, Option, length, slice_index_or}
use Rattle.dwz_def_tops.specs.Spots.{tops_of, units_of}
use Rattle.dwz_def_reading.specs.Units.{RawUnit}
use Rattle.dwz_graph.specs.declared.file.File.{File}
use Rattle.dwz_graph.specs.Files.{AreKept, docs_of}
use Rattle.dwz_graph.specs.Index.{Index}
use Rattle.dwz_graph.specs.Indexed.{AreIndexes}
use Rattle.dwz_layout_items.specs.Chains.{IsRising}
use Rattle.dwz_def_reading.specs.Documents.{Doc}
use Rattle.dwz_def_reading.specs.Meanings.{IfSo}
use Rattle.dwz_def_images.specs.Homes.{Rule}
use Rattle.dwz_layout.specs.declared.order.Sort.TheVariants.{Partial as PartialSort}
use Rattle.dwz_layout.specs.declared.order.UnitItems.{UnitItems}
use Rattle.dwz_plan.specs.declared.plan.Partial.{Partial}
use Rattle.dwz_plan.specs.Planned.{Planned}
use Rattle.dwz_plan.specs.Shows.{ShowsPlan}
use Rattle.dwz_unit.specs.Rows.{units_of as raw_units}
use Rattle.dwz_layout_order.specs.declared.outline.Next.{Next}
use Rattle.dwz_layout_order.specs.Kept.{AreKept as AreUnitsKept, From, imports_at}
use Rattle.dwz_layout_order.specs.Marks.{flag_at}
use Rattle.dwz_layout_order.specs.Orders.{First}
use Rattle.dwz_layout_order.specs.Parts.{IsPart}
use Rattle.dwz_layout_order.specs.declared.orders.Settled.{Settled}

-- spaces stand behind those that they stand in, and tops in these; there are few partial units, and few tops in each
pub record AreSpaced (s : Settled) : Type 0 where
  pub rising : IsRising s.rows.now
  pub within : All (λ x. x.inner ≤ length s.rows.now) s.of_tops.now
  pub few : length s.rows.now + 2 < 2 ^ 32
  pub few_parts : length s.plan.now.partials < 2 ^ 32
  pub few_tops : All (λ part. length part.tops < 2 ^ 32) s.plan.now.partials

-- and the partial units of files with numbers below `count` hold some of these tops
pub record AreSettled (count : ℕ) (s : Settled) : Type 0 where
  pub spaced : AreSpaced s
  pub inside : All (λ part. part.file < count → All (λ t. t < length s.of_tops.now) part.tops) s.plan.now.partials

-- the line table of the partial unit with that number
abbrev pub line_given : Settled → ℕ → Option ℕ
line_given s n = slice_index_or s.lines.now n None

-- the partial unit with that number is written so
pub record PartPut (s : Settled) (n : ℕ) (part : Partial) (o : UnitItems) : Type 0 where
  pub items : IsPart s.rows.now s.of_tops.now part.tops o.items
  pub sort : o.sort ≡ PartialSort (line_given s n)

-- of these partial units, the first of which has that number, those of a file are written one behind the other
abbrev pub PartsPut : Settled → (file n : ℕ) → List Partial → List UnitItems → Type 0
PartsPut s file n [] order = order ≡ []
PartsPut s file n (part ∷ parts) order =
    IfSo (part.file == file) (First (PartPut s n part) (PartsPut s file (suc n) parts) order) (PartsPut s file (suc n) parts order)

-- a file with these units is written so: its partial units, and then the units themselves
pub record FilePut (s : Settled) (raw : List RawUnit) (from : From) (next : Next) (order : List UnitItems) : Type 0 where
  pub parts : List UnitItems
  pub olds : List UnitItems
  pub order_is : order ≡ parts ++ olds
  pub parts_put : PartsPut s from.file 0 s.plan.now.partials parts
  pub olds_kept : AreUnitsKept raw s.marks (imports_at s.plan.now) from next raw olds

-- where a file with that number begins among all, whose first entry has the number `start`
abbrev pub from_index : (number start : ℕ) → Index → From
from_index number start x = record { file = number; start = start; unit = x.starts.unit; first = 0 }

abbrev pub next_index : Index → Next
next_index x = record { top = x.starts.top; space = x.starts.space }

-- P holds of what is written of a first file, and Q of that of the others
abbrev pub FirstFile : (List UnitItems → Type 0) → (List (List UnitItems) → Type 0) → List (List UnitItems) → Type 0
FirstFile P Q [] = ⊥
FirstFile P Q (order ∷ orders) = P order × Q orders

-- of these files, the first of which has that number, as has its first entry, those that are written are one behind the other
abbrev pub FilesPut : Settled → (number start : ℕ) → List File → List Index → List (List UnitItems) → Type 0
FilesPut s number start [] [] orders = orders ≡ []
FilesPut s number start (f ∷ files) (x ∷ indexes) orders =
    IfSo (flag_at s.files.now number)
    (FirstFile (FilePut s (raw_units f.units) (from_index number start x) (next_index x))
    (FilesPut s (suc number) (start + length x.steps) files indexes) orders)
    (FilesPut s (suc number) (start + length x.steps) files indexes orders)
FilesPut s number start _ _ orders = ⊥

-- behind what is written of the common file the files are written
pub record AreOrdersBehind (common : List UnitItems) (contents : List (List ℕ)) (indexes : List Index) (s : Settled)
    (orders : List (List UnitItems)) : Type 0 where
  pub files : List File
  pub kept : AreKept contents files
  pub others : List (List UnitItems)
  pub orders_are : orders ≡ common ∷ others
  pub files_put : FilesPut s 0 0 files indexes others

-- nothing is written of a common file that stands
abbrev pub AreOrdersOver : (contents : List (List ℕ)) (indexes : List Index) → Settled → List (List UnitItems) → Type 0
AreOrdersOver contents indexes s orders = AreOrdersBehind [] contents indexes s orders

-- the common file, whose number is that of the files, is written first, and then the others
pub record AreOrders (contents : List (List ℕ)) (indexes : List Index) (s : Settled) (orders : List (List UnitItems)) : Type 0 where
  pub files : List File
  pub kept : AreKept contents files
  pub common : List UnitItems
  pub others : List (List UnitItems)
  pub orders_are : orders ≡ common ∷ others
  pub common_put : PartsPut s (length files) 0 s.plan.now.partials common
  pub files_put : FilesPut s 0 0 files indexes others

-- ---- of a plan

-- the partial units hold tops of these files, and are of one of them or of the common file
pub record PartsFit (docs : List (Doc ℕ)) (parts : List Partial) : Type 0 where
  pub few_tops : All (λ part. length part.tops < 2 ^ 32) parts
  pub inside : All (λ part. All (λ t. t < length (tops_of (units_of docs))) part.tops) parts
  pub files : All (λ part. part.file ≤ length docs) parts

abbrev pub FitLaw : Type 0
FitLaw =
    (contents : List (List ℕ)) (files : List File) (indexes : List Index) (rule : Rule) (plan : Planned) → AreKept contents files
    → AreIndexes (docs_of contents) indexes
    → ShowsPlan rule (units_of (docs_of contents)) (length (docs_of contents)) plan → PartsFit (docs_of contents) plan.partials
