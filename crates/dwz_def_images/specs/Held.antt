-- Inner: what is asked of a move, so that what stands after says the same as what stood before.
use Rattle.std.specs.Prelude.{◌≡◌, ℕ, true, List, [], map, Some, None}
use Rattle.dwz_def_reading.specs.Documents.{Node}
use Rattle.dwz_def_reading.specs.Lists.{Each, In}
use Rattle.dwz_def_tops.specs.Lists.{Nth}
use Rattle.dwz_def_tops.specs.Seen.{Named, named_value}
use Rattle.dwz_def_tops.specs.Spaces.{space_text}
use Rattle.dwz_def_tops.specs.Spots.{ASpace, ATop, EntryName, FileUnit, Nothing, PartialRoot, Row, Top, name_list, rows_of_root, tops_of}
use Rattle.dwz_def_plan.specs.IsPlan.{Has, OfSpace, OfTop}
use Rattle.dwz_def_plan.specs.Moves.{Move, image_in, seen_top}
use Rattle.dwz_def_plan.specs.Plan.{PartialUnit}

-- tops of the row are no spaces, and spaces are
abbrev pub Kinded : Row → Type 0
Kinded Nothing = Unit {0}
Kinded (ATop t next) = (space_text t.node ≡ None) × Kinded next
Kinded (ASpace e inner next) = ((text : List ℕ) × (space_text e ≡ Some text)) × Kinded inner × Kinded next

-- none of the attributes names anything
abbrev pub NameNone : List (Named EntryName) → Type 0
NameNone attrs = Each (λ a. a.value.refs ≡ []) attrs

-- a partial unit that the top's unit uses holds, in spaces with the top's names, a top that is seen the same, places replaced
pub record IsHeldIn (units : List (FileUnit EntryName)) (m : Move) (t : Top) : Type 0 where
  pub number : ℕ
  pub part : PartialUnit
  pub nth : Nth 0 m.parts number part
  pub user : In t.unit part.users
  pub top : Top
  pub has : Has (name_list t) (OfTop top) (m.rows number)
  pub same : seen_top (image_in m) t ≡ seen_top (image_in m) top

-- a top of the unit has the same image and these names
pub record HasTopLike (units : List (FileUnit EntryName)) (m : Move) (i : ℕ) (names : List (List ℕ)) (s : Top) : Type 0 where
  pub top : Top
  pub there : In top (tops_of units)
  pub unit_is : top.unit ≡ i
  pub at : image_in m top.node.at ≡ image_in m s.node.at
  pub names_are : name_list top ≡ names

-- a space of the unit has these names, and the name of the other
abbrev pub HasSpaceLike : List (FileUnit EntryName) → ℕ → List (List ℕ) → Node EntryName → Type 0
HasSpaceLike units i names e = (d : Node EntryName) × Has names (OfSpace d) (rows_of_root units i) × (space_text d ≡ space_text e)

-- none of its attributes names the root of a partial unit
abbrev pub NamesNoRoot : Node EntryName → Type 0
NamesNoRoot e = (a : Named EntryName) (n : ℕ) → In a (map named_value e.attrs) → In (PartialRoot n) a.value.refs → ⊥

-- Each top that is gone is held by a partial unit that its unit uses. Of what a partial unit holds, each of its users has a top like
-- each top, and a space like each space; and no top there imports a partial unit. Whose tops they are isn't asked: a partial unit may
-- have stood before.
pub record Serves (units : List (FileUnit EntryName)) (m : Move) : Type 0 where
  pub held : (t : Top) → In t (tops_of units) → m.gone t.number ≡ true → IsHeldIn units m t
  pub used : (n : ℕ) (part : PartialUnit) → Nth 0 m.parts n part → (i : ℕ) → In i part.users → (names : List (List ℕ)) (s : Top)
      → Has names (OfTop s) (m.rows n) → HasTopLike units m i names s
  pub spaces : (n : ℕ) (part : PartialUnit) → Nth 0 m.parts n part → (i : ℕ) → In i part.users
      → (names : List (List ℕ)) (e : Node EntryName)
      → Has names (OfSpace e) (m.rows n) → HasSpaceLike units i names e
  pub kinds : (n : ℕ) (part : PartialUnit) → Nth 0 m.parts n part → Kinded (m.rows n)
  pub apart : (n : ℕ) (part : PartialUnit) → Nth 0 m.parts n part → (i : ℕ) → In i part.users → (names : List (List ℕ)) (s : Top)
      → Has names (OfTop s) (m.rows n) → NamesNoRoot s.node

-- Each top that is gone is held by a partial unit that its unit uses. Of what a partial unit holds, each top is a top of these units,
-- and each of its users has one like it; and each of its spaces is like one of each of its users, and its attributes name nothing.
pub record IsHeld (units : List (FileUnit EntryName)) (m : Move) : Type 0 where
  pub held : (t : Top) → In t (tops_of units) → m.gone t.number ≡ true → IsHeldIn units m t
  pub used : (n : ℕ) (part : PartialUnit) → Nth 0 m.parts n part → (i : ℕ) → In i part.users → (names : List (List ℕ)) (s : Top)
      → Has names (OfTop s) (m.rows n) → HasTopLike units m i names s
  pub spaces : (n : ℕ) (part : PartialUnit) → Nth 0 m.parts n part → (i : ℕ) → In i part.users
      → (names : List (List ℕ)) (e : Node EntryName)
      → Has names (OfSpace e) (m.rows n) → HasSpaceLike units i names e
  pub kinds : (n : ℕ) (part : PartialUnit) → Nth 0 m.parts n part → Kinded (m.rows n)
  pub tops : (n : ℕ) (part : PartialUnit) → Nth 0 m.parts n part → (names : List (List ℕ)) (s : Top) → Has names (OfTop s) (m.rows n)
      → In s (tops_of units)
  pub plain : (n : ℕ) (part : PartialUnit) → Nth 0 m.parts n part → (names : List (List ℕ)) (e : Node EntryName)
      → Has names (OfSpace e) (m.rows n) → NameNone (map named_value e.attrs)
  pub roots : (n : ℕ) → NameNone (map named_value (m.roots n))
