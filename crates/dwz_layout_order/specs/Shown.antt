-- What has to be known of a file, and of the spaces of all files, so that what is written of units shows the units after.
use Rattle.std.specs.Prelude.{◌≡◌, ◌↔◌, ℕ, ◌+◌, ◌<◌, true, List, [], ◌∷◌, ◌++◌, drop, length, map, slice_get, slice_index, Some}
use Rattle.dwz_def_reading.specs.Lists.{Each, In}
use Rattle.dwz_def_reading.specs.Units.{RawUnit, entries_in}
use Rattle.dwz_graph.specs.declared.index.SpaceEntry.{SpaceEntry}
use Rattle.dwz_graph.specs.declared.index.Starts.{Starts}
use Rattle.dwz_graph.specs.declared.index.TopEntry.{TopEntry}
use Rattle.dwz_graph.specs.Names.{names_from}
use Rattle.dwz_graph.specs.Steps.{all_spaces, all_tops, below_root, is_space}
use Rattle.dwz_layout_items.specs.declared.order.Item.{Item}
use Rattle.dwz_layout_items.specs.declared.partial.SpaceRow.{SpaceRow}
use Rattle.dwz_layout_items.specs.Chains.{NamesPartial, Up, down}
use Rattle.dwz_layout_items.specs.Order.{Names, ShowsUnit}
use Rattle.dwz_def_reading.specs.Documents.{DwUnit, Node, unit_map}
use Rattle.dwz_def_reading.specs.Meanings.{Around, MeanUnits}
use Rattle.dwz_def_tops.specs.Spots.{EntryName, FileUnit, SpaceName, Top, in_file, top_count, tops_from, tops_of}
use Rattle.dwz_def_images.specs.Moves.{Move, image_in}
use Rattle.dwz_def_images.specs.Plan.{PartialUnit, imports, part_row}
use Rattle.dwz_layout.specs.declared.order.UnitItems.{UnitItems}
use Rattle.dwz_plan.specs.Shows.{import_row}
use Rattle.dwz_graph.specs.Resolved.{place_at}
use Rattle.dwz_def_images.specs.Units.{changes, partial_unit}
use Rattle.dwz_def_tops.specs.Seen.{IsPartial}
use Rattle.dwz_layout_order.specs.declared.marks.Marks.{Marks}
use Rattle.dwz_layout_order.specs.declared.outline.Next.{Next}
use Rattle.dwz_layout_order.specs.Kept.{AreKept, From}
use Rattle.dwz_layout_order.specs.Lists.{AreLists, rows_from, spaces_at}
use Rattle.dwz_layout_order.specs.Named.{MarksAll, NamesAll}
use Rattle.dwz_layout_order.specs.Orders.{Entered, IsNamed, KeptShown}
use Rattle.dwz_layout_order.specs.Parts.{IsPart}
use Rattle.dwz_layout_order.specs.Spaces.{Numbered, name_in, said_of, spaces_of}

-- ---- a file among others

-- how many tops units have
unfoldable pub tops_in : List (FileUnit EntryName) → ℕ
tops_in [] = 0
tops_in (f ∷ units) = top_count f.unit.kind f.unit.below + tops_in units

-- the next top and the next space are those behind the units before
pub record IsNext (before : List (FileUnit EntryName)) (next : Next) : Type 0 where
  pub top : next.top ≡ tops_in before
  pub space : next.space ≡ length (spaces_of before)

abbrev pub named_units : (file : ℕ) → (ℕ → EntryName) → List (DwUnit ℕ) → List (FileUnit EntryName)
named_units file name said = map (in_file file) (map (unit_map name) said)

abbrev pub IsWholeUnit : DwUnit ℕ → Type 0
IsWholeUnit v = IsPartial v.kind → ⊥

-- the names of the entries of a file: those of its units from one on are left behind so many entries, and each entry has the name of its
-- place
pub record NamesFile (e : Entered) (file start : ℕ) (name : ℕ → EntryName) (raw : List RawUnit) (first unit top : ℕ)
    (said : List (DwUnit ℕ)) : Type 0 where
  pub begins : e.start file ≡ start
  pub rest : drop first (e.names file) ≡ names_from unit top said
  pub each : (entry : ℕ) → entry < entries_in raw → IsNamed e file entry (name (place_at raw entry))

abbrev pub IsOther : ℕ → FileUnit EntryName → Type 0
IsOther file f = f.file ≡ file → ⊥

-- The file says these units, which are those of it among all, the first with that number; the next top, the next space and the entries of
-- the file have the numbers that come behind those of the files before.
pub record IsFile (e : Entered) (units : List (FileUnit EntryName)) (raw : List RawUnit) (from : From) (next : Next) : Type 0 where
  pub around : Around ℕ
  pub plain : (p : ℕ) → around.place p ≡ p
  pub said : List (DwUnit ℕ)
  pub name : ℕ → EntryName
  pub before : List (FileUnit EntryName)
  pub after : List (FileUnit EntryName)
  pub units_are : units ≡ before ++ (named_units from.file name said ++ after)
  pub others : Each (IsOther from.file) before × Each (IsOther from.file) after
  pub number : from.unit ≡ length before
  pub next_is : IsNext before next
  pub means : MeanUnits around raw said
  pub whole : Each IsWholeUnit said
  pub top : ℕ
  pub names : NamesFile e from.file from.start name raw from.first (length before) top said

-- each unit imports the partial units with these numbers
abbrev pub ShowsImports : Move → List (FileUnit EntryName) → (ℕ → List ℕ) → Type 0
ShowsImports m units parts = (i : ℕ) → i < length units → imports i 0 m.parts ≡ import_row i (parts i)

-- what is written of the old units of a file of which something moves shows these units after
abbrev pub KeptLaw : Type 0
KeptLaw =
    (e : Entered) (m : Move) (units : List (FileUnit EntryName)) (marks : Marks) (parts : ℕ → List ℕ) (raw : List RawUnit) (from : From)
    (next : Next) (order : List UnitItems) → IsFile e units raw from next → MarksAll m units marks
    → changes m units from.file ≡ true → ShowsImports m units parts → AreKept raw marks parts from next raw order
    → KeptShown e m units from.file 0 units order

-- ---- the spaces of all files

abbrev pub Pairs : {X Y : Type 0} → (X → Y → Type 0) → List X → List Y → Type 0
Pairs R [] [] = Unit {0}
Pairs R (x ∷ xs) (y ∷ ys) = R x y × Pairs R xs ys
Pairs R _ _ = ⊥

-- each space has that name
abbrev pub SaidIs : (ℕ → SpaceName) → ℕ → Node EntryName → Type 0
SaidIs said k e = said k ≡ name_in (Some e)

-- what is kept of a top leads out to the spaces that the top stands in
pub record LeadsUp (rows : List SpaceRow) (said : ℕ → SpaceName) (x : TopEntry) (t : Top) : Type 0 where
  pub ups : List ℕ
  pub up : Up rows x.inner ups
  pub spaces : t.spaces ≡ map said (down ups)

-- from that number on the rows are those of these spaces
pub record RowsFrom (rows : List SpaceRow) (k : ℕ) (spaces : List SpaceEntry) : Type 0 where
  pub after : List SpaceRow
  pub rest : drop k rows ≡ rows_from k spaces ++ after

-- so it is of the tops of a file, where the rows have its spaces from its first one on, which have these names
abbrev pub LeadLaw : Type 0
LeadLaw =
    (rows : List SpaceRow) (said : ℕ → SpaceName) (file : ℕ) (name : ℕ → EntryName) (s : Starts) (units : List (DwUnit ℕ))
    → RowsFrom rows s.space (all_spaces is_space s 0 (map below_root units))
    → Numbered (SaidIs said) s.space (spaces_of (named_units file name units))
    → Pairs (LeadsUp rows said) (all_tops is_space s 0 (map below_root units)) (tops_from s.unit s.top (named_units file name units))

-- and each space has its name by its number
abbrev pub SaidLaw : Type 0
SaidLaw = (units : List (FileUnit EntryName)) → Numbered (SaidIs (said_of units)) 0 (spaces_of units)

abbrev pub text_of : SpaceName → List ℕ
text_of s = s.text

-- equal texts alone have one number
pub record NumbersTexts (rows : List SpaceRow) (said : ℕ → SpaceName) (texts : List ℕ) : Type 0 where
  pub same : (j k : ℕ) → j < length rows → k < length rows
      → (slice_index texts j ≡ slice_index texts k) ↔ (text_of (said j) ≡ text_of (said k))

-- each row is of the space with its number
abbrev pub AreOwn : List SpaceRow → Type 0
AreOwn rows = (k : ℕ) (row : SpaceRow) → slice_get rows k ≡ Some row → row.space ≡ k

pub record KnowsSpaces (units : List (FileUnit EntryName)) (rows : List SpaceRow) (texts lists : List ℕ) (tops : List TopEntry) : Type 0
  where
    pub own : AreOwn rows
    pub numbers : NumbersTexts rows (said_of units) texts
    pub are : AreLists rows texts lists
    pub leads : Pairs (LeadsUp rows (said_of units)) tops (tops_of units)

-- what is written of a partial unit shows the unit after
abbrev pub PartLaw : Type 0
PartLaw =
    (units : List (FileUnit EntryName)) (rows : List SpaceRow) (texts lists : List ℕ) (tops : List TopEntry) (m : Move) (k : ℕ)
    (part : PartialUnit) (items : List Item) → KnowsSpaces units rows texts lists tops → m.rows k ≡ part_row k part
    → ((t : Top) → In t part.tops → In t (tops_of units)) → IsPart rows (map (spaces_at lists) tops) (map (λ t. t.number) part.tops) items
    → (n : Names EntryName) → NamesAll (image_in m) units n → NamesPartial m k (said_of units) n
    → ShowsUnit n items (partial_unit m k)
