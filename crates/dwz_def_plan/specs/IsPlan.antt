-- Inner: what is asked of users, representatives, homes, partial units and what is kept; the functions of Plan meet it.
use Rattle.std.specs.Prelude.{◌⊎◌, ◌≡◌, ◌≢◌, ◌↔◌, ℕ, suc, ◌<◌, ◌≤◌, Bool, true, false, List, [], ◌∷◌, ◌++◌, map, Some}
use Rattle.dwz_def_reading.specs.Documents.{Entries, Node}
use Rattle.dwz_def_reading.specs.Lists.{Each, In}
use Rattle.dwz_def_reading.specs.Trees.{End, Entry}
use Rattle.dwz_def_tops.specs.Lists.{EachPair, Nth, Rising}
use Rattle.dwz_def_tops.specs.Spaces.{space_text}
use Rattle.dwz_def_tops.specs.Alike.{Alike, InScope, TopScope}
use Rattle.dwz_def_tops.specs.Spots.{ASpace, ATop, EntryName, FileUnit, Nothing, Row, SpaceName, Top, name_list, tops_of}
use Rattle.dwz_def_plan.specs.Homes.{Common, Home, Local, Rule, Stay, candidate, file_of, home, is_home, moves, rep, users}
use Rattle.dwz_def_plan.specs.Plan.{PartialUnit, import_of, space_entry}

-- the numbers of tops
abbrev pub numbers : List Top → List ℕ
numbers tops = map (λ t. t.number) tops

-- ---- users, representative, home

-- a top of the unit is in scope and alike
pub record HasAlike (scope : TopScope) (units : List (FileUnit EntryName)) (t : Top) (unit : ℕ) : Type 0 where
  pub top : Top
  pub there : In top (tops_of units)
  pub unit_is : top.unit ≡ unit
  pub scoped : InScope scope t top
  pub alike : Alike units t.number top.number

-- the units that have one, in order
pub record AreUsers (scope : TopScope) (units : List (FileUnit EntryName)) (t : Top) (us : List ℕ) : Type 0 where
  pub rising : Rising us
  pub are : (unit : ℕ) → In unit us ↔ HasAlike scope units t unit

-- the first top that is in scope and alike
pub record IsRep (scope : TopScope) (units : List (FileUnit EntryName)) (t : Top) (n : ℕ) : Type 0 where
  pub top : Top
  pub there : In top (tops_of units)
  pub number : top.number ≡ n
  pub scoped : InScope scope t top
  pub alike : Alike units t.number n
  pub least : (u : Top) → In u (tops_of units) → InScope scope t u → Alike units t.number u.number → n ≤ u.number

-- The users lie in two files; or they are two or more, and of that one file; or they are one or none.
abbrev pub IsHome : List (FileUnit EntryName) → List ℕ → Home → Type 0
IsHome units us Common = (i : ℕ) × (j : ℕ) × In i us × In j us × (file_of units i ≢ file_of units j)
IsHome units us (Local file) = (i : ℕ) × (j : ℕ) × In i us × In j us × (i ≢ j) × ((k : ℕ) → In k us → file_of units k ≡ file)
IsHome units us Stay = (i j : ℕ) → In i us → In j us → i ≡ j

-- ---- partial units

-- it has the partial unit's home and users, and is the representative
pub record BelongsTo (rule : Rule) (units : List (FileUnit EntryName)) (part : PartialUnit) (t : Top) : Type 0 where
  pub there : In t (tops_of units)
  pub rep : rep rule.alike units t.number ≡ t.number
  pub home : home rule units t.number ≡ part.home
  pub users : users rule.alike units t.number ≡ part.users

-- a partial unit holds just the tops that belong to it, at least one, in order
pub record IsPart (rule : Rule) (units : List (FileUnit EntryName)) (part : PartialUnit) : Type 0 where
  pub moves : is_home part.home ≡ true
  pub tops : (t : Top) → In t part.tops ↔ BelongsTo rule units part t
  pub some : (t : Top) × In t part.tops
  pub rising : Rising (numbers part.tops)

-- a partial unit has the top's home and users and holds the top that stands for it
pub record HasRep (rule : Rule) (units : List (FileUnit EntryName)) (parts : List PartialUnit) (t : Top) : Type 0 where
  pub part : PartialUnit
  pub there : In part parts
  pub home : part.home ≡ home rule units t.number
  pub users : part.users ≡ users rule.alike units t.number
  pub top : Top
  pub holds : In top part.tops
  pub is_rep : top.number ≡ rep rule.alike units t.number

-- the number of the first of them
abbrev pub first_number : List Top → ℕ
first_number [] = 0
first_number (t ∷ tops) = t.number

-- the common file, and then files by their numbers
abbrev pub rank : Home → ℕ
rank Common = 0
rank (Local file) = suc file
rank Stay = 0

-- by their homes, and in one home by their first tops
abbrev pub Precedes : PartialUnit → PartialUnit → Type 0
Precedes p q = (rank p.home < rank q.home) ⊎ ((p.home ≡ q.home) × (first_number p.tops < first_number q.tops))

-- Each top that moves has its representative in a partial unit. No two of one home have the same users, so no two hold one top.
pub record IsPlan (rule : Rule) (units : List (FileUnit EntryName)) (parts : List PartialUnit) : Type 0 where
  pub are : Each (IsPart rule units) parts
  pub all : (t : Top) → In t (tops_of units) → moves rule units t.number ≡ true → HasRep rule units parts t
  pub apart : EachPair (λ p q. p.home ≡ q.home → p.users ≢ q.users) parts
  pub one : (m n : ℕ) (p q : PartialUnit) (t : Top) → Nth 0 parts m p → Nth 0 parts n q → In t p.tops → In t q.tops → m ≡ n
  pub ordered : EachPair Precedes parts

-- ---- what is kept

-- a top of the unit, which doesn't move
abbrev pub Stays : Rule → List (FileUnit EntryName) → ℕ → Top → Type 0
Stays rule units unit t = In t (tops_of units) × (t.unit ≡ unit) × (moves rule units t.number ≡ false)

-- entries without children
abbrev pub row : List (Node EntryName) → Entries EntryName
row [] = End
row (e ∷ nodes) = Entry e End (row nodes)

-- one import for each partial unit that has the unit among its users, in order
pub record AreImports (unit : ℕ) (parts : List PartialUnit) (entries : Entries EntryName) : Type 0 where
  pub parts_imported : List ℕ
  pub rising : Rising parts_imported
  pub are : (n : ℕ) → In n parts_imported ↔ ((part : PartialUnit) × Nth 0 parts n part × In unit part.users)
  pub entries_are : entries ≡ row (map (import_of unit) parts_imported)

-- ---- rows

-- a top or a space that stands in a row
pub data Item : Type 0 where
  OfTop : Top → Item
  OfSpace : Node EntryName → Item

-- it stands in the row in spaces with these names, outermost first
abbrev pub Has : List (List ℕ) → Item → Row → Type 0
Has names x Nothing = ⊥
Has names x (ATop t next) = ((names ≡ []) × (OfTop t ≡ x)) ⊎ Has names x next
Has names x (ASpace e inner next) =
    ((names ≡ []) × (OfSpace e ≡ x))
    ⊎ (((text : List ℕ) × (others : List (List ℕ)) × (space_text e ≡ Some text) × (names ≡ text ∷ others) × Has others x inner)
    ⊎ Has names x next)

-- all spaces remain, and tops that don't move
abbrev pub Remains : (ℕ → Bool) → Item → Type 0
Remains moving (OfTop t) = moving t.number ≡ false
Remains moving (OfSpace e) = Unit {0}

-- the one row holds just what remains of the other
abbrev pub RowStays : (ℕ → Bool) → Row → Row → Type 0
RowStays moving row rest = (names : List (List ℕ)) (x : Item) → Has names x rest ↔ (Has names x row × Remains moving x)

-- a space of the n-th partial unit: it has the name of a space of one of the tops, and stands where that one stands
pub record SpaceOf (n : ℕ) (tops : List Top) (names : List (List ℕ)) (e : Node EntryName) : Type 0 where
  pub top : Top
  pub there : In top tops
  pub name : SpaceName
  pub chain : ℕ
  pub depth : ℕ
  pub is : e ≡ space_entry n chain depth name
  pub from : In name top.spaces
  pub others : List (List ℕ)
  pub names_are : name_list top ≡ names ++ name.text ∷ others

-- the row of the n-th partial unit holds just these tops, each in spaces with its names, and spaces of these
pub record RowHolds (n : ℕ) (tops : List Top) (row : Row) : Type 0 where
  pub tops_are : (names : List (List ℕ)) (t : Top) → Has names (OfTop t) row ↔ (In t tops × (name_list t ≡ names))
  pub spaces_are : (names : List (List ℕ)) (e : Node EntryName) → Has names (OfSpace e) row → SpaceOf n tops names e

-- ---- alike tops

-- they have the same users, one representative, and one home
pub record ShareAll (rule : Rule) (units : List (FileUnit EntryName)) (m n : ℕ) : Type 0 where
  pub users : users rule.alike units m ≡ users rule.alike units n
  pub rep : rep rule.alike units m ≡ rep rule.alike units n
  pub candidate : candidate rule.alike units m ≡ candidate rule.alike units n
  pub home : home rule units m ≡ home rule units n

-- a top that the other refers to moves too, and has each of its users
pub record MovesAlong (rule : Rule) (units : List (FileUnit EntryName)) (t : Top) (target : ℕ) : Type 0 where
  pub moves : moves rule units target ≡ true
  pub users : (unit : ℕ) → In unit (users rule.alike units t.number) → In unit (users rule.alike units target)

-- each unit is of one of these files
abbrev pub AreFilesOf : List (FileUnit EntryName) → List ℕ → Type 0
AreFilesOf units files = (i : ℕ) (u : FileUnit EntryName) → Nth 0 units i u → In u.file files
