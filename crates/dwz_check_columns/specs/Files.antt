-- Inner: what is put of one file behind what was put of others.
use Rattle.std.specs.Prelude.{◌≡◌, ℕ, ◌+◌, ◌≤◌, ◌^◌, List, [], ◌++◌, length, map, Option}
use Rattle.std.specs.Option.{option_map}
use Rattle.dwz_def_reading.specs.Documents.{DwUnit}
use Rattle.dwz_def_reading.specs.Units.{entries_in}
use Rattle.dwz_def_check.specs.CrossLists.{numbered_units}
use Rattle.dwz_def_check.specs.CrossNames.{cross_tops}
use Rattle.dwz_def_check.specs.CrossNodes.{lone_entries}
use Rattle.dwz_groups.specs.declared.groups.Edge.{Edge}
use Rattle.dwz_graph.specs.declared.file.File.{File}
use Rattle.dwz_check_index.specs.Both.{IsBeside, from_top}
use Rattle.dwz_check_index.specs.Index.{CrossIndex}
use Rattle.dwz_check_sides.specs.declared.side.Side.{Side}
use Rattle.dwz_check_sides.specs.Names.{Keeps}
use Rattle.dwz_check_sides.specs.Says.{IsSide, common_of}
use Rattle.dwz_check_sides.specs.Units.{nodes_of}
use Rattle.dwz_imports.specs.Imports.{AreImportLists}
use Rattle.dwz_imports.specs.Said.{raw_beside}
use Rattle.dwz_imports.specs.Stored.{edges_of}
use Rattle.dwz_check_columns.specs.declared.nodes.NodeDraft.{NodeDraft}
use Rattle.dwz_check_columns.specs.declared.units.UnitDraft.{UnitDraft}
use Rattle.dwz_check_columns.specs.Drawn.{imports_among, plain_tops, top_lists}
use Rattle.dwz_check_columns.specs.Paths.{PutsPaths}
use Rattle.dwz_check_columns.specs.Puts.{PutsLists, PutsLone}
use Rattle.dwz_check_columns.specs.Shows.{CommonSays, beside}

-- ---- one file, with its numbers

-- A file says these units, and the common file beside it those. The first top has that number, and roots and spaces are counted from 0.
pub record IsFileSide (s : Side) (said common : List (DwUnit ℕ)) (top : ℕ) : Type 0 where
  pub side : IsSide s said (from_top top)
  pub beside_it : CommonSays (common_of s) common
  pub few : entries_in (raw_beside (option_map (λ f. f.now.units) s.common)) ≤ 2 ^ 28

abbrev pub IsSomeFile : Side → Type 0
IsSomeFile s = (said : List (DwUnit ℕ)) × (common : List (DwUnit ℕ)) × (top : ℕ) × (top ≤ 2 ^ 30) × IsFileSide s said common top

-- the common file says these units, and the index is theirs; none, where one of both isn't there
abbrev pub IsCommonSide : Option File → Option CrossIndex → List (DwUnit ℕ) → ℕ → Type 0
IsCommonSide file index said top = CommonSays file said × IsBeside top said index

abbrev pub IsSomeCommon : Option File → Option CrossIndex → Type 0
IsSomeCommon file index = (said : List (DwUnit ℕ)) × (top : ℕ) × (top ≤ 2 ^ 30) × IsCommonSide file index said top

-- ---- what is put

-- what units import was put, where the first of them has the number `first` among all, and the first common one the number `from`
abbrev pub PutsImports : (first from : ℕ) → (said common : List (DwUnit ℕ)) → List Edge → List Edge → Type 0
PutsImports first from said common old new =
    (lists : List (List ℕ)) × AreImportLists (beside said common) lists
    × (new ≡ old ++ edges_of first (imports_among (length said) first from lists))

-- The nodes of a file were put, beside the common units.
pub record PutsNodes (said common : List (DwUnit ℕ)) (old new : NodeDraft) : Type 0 where
  pub kept : Keeps old.lists new.lists
  pub tops : PutsLists new.lists (top_lists said) old.tops.items new.tops.items
  pub plain : new.plain.items ≡ old.plain.items ++ plain_tops (beside said common)
  pub lone : PutsLone new.lists said old.lone.items new.lone.items

-- And its units: the first top has the number `top`, so many roots and spaces come before its own, the first unit has the number `first`,
-- and the first common one the number `from`.
pub record PutsUnits (said common : List (DwUnit ℕ)) (top first lone from : ℕ) (old new : UnitDraft) : Type 0 where
  pub units : new.units.items ≡ old.units.items ++ map (nodes_of lone) (numbered_units top 0 said)
  pub paths : PutsPaths first said old.paths.items new.paths.items
  pub imports : PutsImports first from said common old.imports.items new.imports.items

-- What was put of an old file, of a new one and of their common one, one behind the other: tops have the numbers of `old_side` and `new_side`,
-- and so have roots and spaces, which come behind all tops.
pub record PutsThree (a b c : List (DwUnit ℕ)) (nodes : NodeDraft) (units : UnitDraft) : Type 0 where
  pub n0 : NodeDraft
  pub n1 : NodeDraft
  pub n2 : NodeDraft
  pub none_tops : n0.tops.items ≡ []
  pub none_plain : n0.plain.items ≡ []
  pub none_lone : n0.lone.items ≡ []
  pub old_nodes : PutsNodes a c n0 n1
  pub new_nodes : PutsNodes b c n1 n2
  pub common_nodes : PutsNodes c [] n2 nodes
  pub behind : ℕ
  pub behind_is : behind ≡ length a + length b
  pub from : ℕ
  pub from_is : from ≡ length a
  pub old_lone : ℕ
  pub old_lone_is : old_lone ≡ length (cross_tops a) + length (cross_tops b) + length (cross_tops c)
  pub new_lone : ℕ
  pub new_lone_is : new_lone ≡ length (cross_tops a) + length (cross_tops b) + length (cross_tops c) + length (lone_entries a)
  pub u0 : UnitDraft
  pub u1 : UnitDraft
  pub u2 : UnitDraft
  pub none_units : u0.units.items ≡ []
  pub none_paths : u0.paths.items ≡ []
  pub none_imports : u0.imports.items ≡ []
  pub old_units : PutsUnits a c 0 0 old_lone behind u0 u1
  pub new_units : PutsUnits b c (length (cross_tops a)) from new_lone behind u1 u2
  pub common_units : PutsUnits c [] (length (cross_tops a) + length (cross_tops b)) behind 0 behind u2 units
