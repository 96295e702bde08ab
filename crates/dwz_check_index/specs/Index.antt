-- What an index shows of the entries of a file.
use Rattle.std.specs.Prelude.{◌≡◌, ℕ, ◌+◌, ◌<◌, Bool, false, List, [], ◌∷◌, ◌++◌, length, map, nat_lt, reverse, Some, slice_get}
use Rattle.dwz_def_reading.specs.Documents.{DwUnit, Entries, Node}
use Rattle.dwz_def_reading.specs.Lists.{In}
use Rattle.dwz_def_reading.specs.Trees.{End, Entry}
use Rattle.dwz_def_tops.specs.Spaces.{space_text}
use Rattle.dwz_def_cross.specs.Tops.{CrossTop}
use Rattle.dwz_def_check.specs.CrossNames.{AtPath, CrossName, PartRoot, PartSpace, WholeRoot, WholeSpace, cross_names_from, cross_tops, unit_tops}
use Rattle.dwz_def_check.specs.CrossNodes.{lone_entries}
use Rattle.dwz_def_check.specs.CrossLists.{NumberedUnit, numbered_units}
use Rattle.dwz_check_index.specs.declared.index.CrossStarts.{CrossStarts}
use Rattle.dwz_check_index.specs.declared.index.Stands.{Stands}
use Rattle.dwz_check_index.specs.declared.index.Stands.TheVariants.{InTop, PartialRoot, PartialSpace, UnitRoot, UnitSpace}
use Rattle.dwz_check_index.specs.declared.index.Step.{Step}
use Rattle.dwz_check_index.specs.declared.index.TopEntry.{TopEntry}
use Rattle.dwz_check_index.specs.declared.index.UnitStart.{UnitStart}

-- what is kept: of each entry the way up, the tops, the roots and spaces with numbers, where those of each unit begin, and the numbers
-- that the file begins with
pub record CrossIndex : Type 0 where
  pub steps : List Step
  pub tops : List TopEntry
  pub lone : List ℕ
  pub units : List UnitStart
  pub starts : CrossStarts

-- ---- entries by their numbers

-- an entry with what is below it
abbrev pub ListedEntry : Type 0 → Type 0
ListedEntry P = Node P × Entries P

-- in preorder
unfoldable pub listed : {P : Type 0} → Entries P → List (ListedEntry P)
listed End = []
listed (Entry e children next) = (e, children) ∷ listed children ++ listed next

unfoldable pub listed_units : {P : Type 0} → List (DwUnit P) → List (ListedEntry P)
listed_units [] = []
listed_units (u ∷ units) = (u.root, u.below) ∷ listed u.below ++ listed_units units

-- ---- names

-- what an entry with that name stands in, or what it is
abbrev pub stands_of : CrossName → Stands
stands_of (AtPath top path) = InTop top
stands_of (WholeRoot n) = UnitRoot n
stands_of (WholeSpace n names) = UnitSpace n
stands_of PartRoot = PartialRoot
stands_of (PartSpace names) = PartialSpace

-- the child indexes from it up to its top
abbrev pub path_in : CrossName → List ℕ
path_in (AtPath top path) = path
path_in _ = []

-- the names of the spaces down to it, outermost first, where it is a space
abbrev pub names_in : CrossName → List (List ℕ)
names_in (WholeSpace n names) = names
names_in (PartSpace names) = names
names_in _ = []

-- the name of a root, or of a space of it
abbrev pub whole_above : ℕ → List (List ℕ) → CrossName
whole_above n [] = WholeRoot n
whole_above n (text ∷ names) = WholeSpace n (text ∷ names)

abbrev pub part_above : List (List ℕ) → CrossName
part_above [] = PartRoot
part_above (text ∷ names) = PartSpace (text ∷ names)

-- places with names, by the numbers of their entries
abbrev pub Called : Type 0
Called = ℕ × CrossName

-- the way from the entry with a number leads to an earlier one, which has that name
pub record IsBelow (names : List Called) (i : ℕ) (x : Step) (parent : CrossName) : Type 0 where
  pub at : ℕ
  pub name : slice_get names x.up ≡ Some (at, parent)
  pub earlier : x.up < i

-- the entry is a space, which has these names, in a root or a space
pub record IsInner (names : List Called) (i : ℕ) (x : Step) (d : Node ℕ) (above : List (List ℕ) → CrossName) (texts : List (List ℕ)) : Type 0
  where
    pub outer : List (List ℕ)
    pub text : List ℕ
    pub own : space_text d ≡ Some text
    pub texts_are : texts ≡ outer ++ text ∷ []
    pub way : IsBelow names i x (above outer)

-- where the way up leads from the entry with a number, which has that name; a top and a root lead to themselves
abbrev pub Leads : List Called → ℕ → Step → Node ℕ → CrossName → Type 0
Leads names i x d (AtPath top (k ∷ path)) = (x.index ≡ k) × IsBelow names i x (AtPath top path)
Leads names i x d (WholeSpace n texts) = IsInner names i x d (whole_above n) texts
Leads names i x d (PartSpace texts) = IsInner names i x d part_above texts
Leads names i x d _ = x.up ≡ i

-- the entry with a number has that place and that name
pub record IsShown (names : List Called) (entries : List (ListedEntry ℕ)) (i : ℕ) (x : Step) (name : Called) : Type 0 where
  pub entry : ListedEntry ℕ
  pub found : slice_get entries i ≡ Some entry
  pub place : entry.0.at ≡ name.0
  pub stands : x.stands ≡ stands_of name.1
  pub leads : Leads names i x entry.0 name.1

-- the steps show these names, of these entries
pub record ShowNames (names : List Called) (entries : List (ListedEntry ℕ)) (steps : List Step) : Type 0 where
  pub len : length steps ≡ length names
  pub each : (i : ℕ) (x : Step) (name : Called) → slice_get steps i ≡ Some x → slice_get names i ≡ Some name → IsShown names entries i x name

-- ---- tops, roots and spaces

-- the entry with a number has that name
abbrev pub IsCalled : List Called → ℕ → CrossName → Type 0
IsCalled names i name = (at : ℕ) × (slice_get names i ≡ Some (at, name))

-- the entry is the top with that number: of that unit, and in a root or a space whose names the top has
pub record IsTopEntry (said : List (DwUnit ℕ)) (names : List Called) (entries : List (ListedEntry ℕ)) (n : ℕ) (x : TopEntry) (t : CrossTop ℕ) : Type 0
  where
    pub found : slice_get entries x.entry ≡ Some (t.node, t.below)
    pub name : IsCalled names x.entry (AtPath n [])
    pub outer : CrossName
    pub outer_is : IsCalled names x.outer outer
    pub names_are : names_in outer ≡ t.names
    pub unit : DwUnit ℕ
    pub unit_is : slice_get said x.unit ≡ Some unit
    pub of_unit : In t (unit_tops unit.kind unit)

-- the entry is that root or space
abbrev pub IsLoneEntry : List (ListedEntry ℕ) → ℕ → Node ℕ → Type 0
IsLoneEntry entries i d = (below : Entries ℕ) × (slice_get entries i ≡ Some (d, below))

abbrev pub start_of : {P : Type 0} → NumberedUnit P → UnitStart
start_of x = record { top = x.top; lone = x.lone }

-- ---- an index

-- the tops are those of the units, in order
pub record AreTops (starts : CrossStarts) (said : List (DwUnit ℕ)) (names : List Called) (entries : List (ListedEntry ℕ)) (tops : List TopEntry) : Type 0
  where
    pub len : length tops ≡ length (cross_tops said)
    pub each : (k : ℕ) (x : TopEntry) (t : CrossTop ℕ) → slice_get tops k ≡ Some x → slice_get (cross_tops said) k ≡ Some t
        → IsTopEntry said names entries (starts.top + k) x t

-- and so are the roots and spaces with numbers of their own
pub record AreLone (said : List (DwUnit ℕ)) (entries : List (ListedEntry ℕ)) (lone : List ℕ) : Type 0 where
  pub len : length lone ≡ length (lone_entries said)
  pub each : (k i : ℕ) (d : Node ℕ) → slice_get lone k ≡ Some i → slice_get (lone_entries said) k ≡ Some d → IsLoneEntry entries i d

-- the index of these units, whose first top and first root have these numbers
pub record IsCrossIndex (starts : CrossStarts) (said : List (DwUnit ℕ)) (x : CrossIndex) : Type 0 where
  pub starts_are : x.starts ≡ starts
  pub names : ShowNames (cross_names_from 0 starts.top said) (listed_units said) x.steps
  pub tops : AreTops starts said (cross_names_from 0 starts.top said) (listed_units said) x.tops
  pub lone : AreLone said (listed_units said) x.lone
  pub units : x.units ≡ map start_of (numbered_units starts.top starts.lone said)

-- ---- the way up

-- the way from the entry with that number goes on below a top
abbrev pub below_top : Stands → ℕ → ℕ → Bool
below_top (InTop n) up at = nat_lt up at
below_top _ up at = false

abbrev pub is_below_top : Step → ℕ → Bool
is_below_top x at = below_top x.stands x.up at

-- it goes on from a space
abbrev pub in_space : Stands → ℕ → ℕ → Bool
in_space (UnitSpace n) up at = nat_lt up at
in_space PartialSpace up at = nat_lt up at
in_space _ up at = false

abbrev pub is_in_space : Step → ℕ → Bool
is_in_space x at = in_space x.stands x.up at

-- these are the numbers of spaces with these names
abbrev pub AreSpacesOf : List (ListedEntry ℕ) → List ℕ → List (List ℕ) → Type 0
AreSpacesOf entries [] [] = Unit {0}
AreSpacesOf entries (i ∷ is) (text ∷ texts) =
    ((d : ListedEntry ℕ) × (slice_get entries i ≡ Some d) × (space_text d.0 ≡ Some text)) × AreSpacesOf entries is texts
AreSpacesOf entries _ _ = ⊥

-- the numbers of the spaces with these names were put behind others, the innermost first
pub record AddsSpaces (entries : List (ListedEntry ℕ)) (old new : List ℕ) (texts : List (List ℕ)) : Type 0 where
  pub put : List ℕ
  pub new_are : new ≡ old ++ put
  pub are : AreSpacesOf entries put (reverse texts)
