-- What units take from a finished common file, and which tops are left to be shared among the units of the files.
use Rattle.std.specs.Prelude.{◌≡◌, ◌⊎◌, ◌↔◌, ℕ, zero, suc, ◌+◌, ◌<◌, ◌≤◌, Bool, true, false, List, [], length, map, Option, None, MatchOption}
use Rattle.std.specs.Prelude.{slice_index_or, ◌==◌, ◌&&◌, ◌||◌, not}
use Rattle.std.specs.List.{list_any}
use Rattle.std.specs.Option.{is_some}
use Rattle.dwz_def_reading.specs.Documents.{Attr, DwUnit, Node}
use Rattle.dwz_def_reading.specs.Finished.{BesideDocs}
use Rattle.dwz_def_reading.specs.Lists.{In}
use Rattle.dwz_def_tops.specs.Lists.{Nth, Rising}
use Rattle.dwz_def_tops.specs.Spaces.{IsSpace}
use Rattle.dwz_def_tops.specs.Alike.{Alike, Apart, Movable, any_attr, any_entry, has_operand, is_number, refers_to, unit_in}
use Rattle.dwz_def_tops.specs.Deciding.{Test, alike_test}
use Rattle.dwz_def_tops.specs.Spots.{EntryName, FileUnit, RootOf, SpaceAt, Top, Within, tops_of}
use Rattle.dwz_def_images.specs.Gain.{gain_rule}
use Rattle.dwz_def_images.specs.Homes.{Rule}
use Rattle.dwz_def_taken.specs.declared.fixed.Fixed.{Fixed}
use Rattle.dwz_def_taken.specs.Beside.{CommonAlike, Reused, reused_beside, together}

-- Units of files have their numbers; the partial units of the common file are numbered by themselves, from 0.

-- the number of a partial unit among all units
abbrev pub part_unit : Reused → ℕ → ℕ
part_unit r p = length r.units + p

-- a top that stands in the partial unit
abbrev pub InPart : Reused → ℕ → Top → Type 0
InPart r p c = In c (tops_of (together r)) × (c.unit ≡ part_unit r p)

-- the unit with that number has a space with these names
abbrev pub HasSpace : List (FileUnit EntryName) → ℕ → List (List ℕ) → Type 0
HasSpace units i names = (f : FileUnit EntryName) × (e : Node EntryName) × Nth 0 units i f × IsSpace names e f.unit.below

-- a top of the unit is alike to the one of the common file
pub record HasLike (r : Reused) (u c : ℕ) : Type 0 where
  pub top : Top
  pub there : In top (tops_of r.units)
  pub unit_is : top.unit ≡ u
  pub alike : CommonAlike r top.number c

-- what has that name stands in the unit with that number
abbrev pub is_of_unit : List Top → ℕ → EntryName → Bool
is_of_unit tops i (Within t path) = is_number (unit_in tops t) i
is_of_unit tops i (RootOf n) = n == i
is_of_unit tops i (SpaceAt n path) = n == i
is_of_unit tops i _ = false

-- a reference goes to such an entry; an operand of an expression is no reference
abbrev pub attr_goes_to : (EntryName → Bool) → Attr EntryName → Bool
attr_goes_to test a = not (has_operand a.value.plain) && list_any test a.value.refs

-- a reference of the root or of an entry below it does
abbrev pub unit_goes_to : (EntryName → Bool) → DwUnit EntryName → Bool
unit_goes_to test u = any_attr (attr_goes_to test) u.root || any_entry (any_attr (attr_goes_to test)) u.below

-- one partial unit refers to the other
abbrev pub PartRefers : Reused → ℕ → ℕ → Type 0
PartRefers r p q = (f : FileUnit EntryName) × Nth 0 r.commons p f
    × (unit_goes_to (is_of_unit (tops_of (together r)) (part_unit r q)) f.unit ≡ true)

-- ---- what a unit takes

-- The unit can take the partial unit by itself: it has a top, and for each of its spaces and of its tops the unit has one like it.
pub record CanTake (r : Reused) (u p : ℕ) : Type 0 where
  pub some : (c : Top) × InPart r p c
  pub spaces : (names : List (List ℕ)) → HasSpace r.commons p names → HasSpace r.units u names
  pub tops : (c : Top) → InPart r p c → HasLike r u c.number

-- so it can all partial units to which chains of at most so many references lead from that one
unfoldable pub CanTakeAlong : Reused → ℕ → ℕ → ℕ → Type 0
CanTakeAlong r zero u p = CanTake r u p
CanTakeAlong r (suc k) u p = CanTakeAlong r k u p × ((q : ℕ) → PartRefers r p q → CanTakeAlong r k u q)

-- it takes each partial unit that it can take along every chain
pub record Takes (r : Reused) (u p : ℕ) : Type 0 where
  pub unit : u < length r.units
  pub part : p < length r.commons
  pub fits : (k : ℕ) → CanTakeAlong r k u p

-- the top is alike to that one of a partial unit that its unit takes
pub record IsTakenAs (r : Reused) (t c : Top) : Type 0 where
  pub part : ℕ
  pub takes : Takes r t.unit part
  pub in_part : InPart r part c
  pub alike : CommonAlike r t.number c.number

abbrev pub IsTaken : Reused → Top → Type 0
IsTaken r t = (c : Top) × IsTakenAs r t c

-- the first of those is its image
pub record IsImage (r : Reused) (t : Top) (n : ℕ) : Type 0 where
  pub top : Top
  pub taken : IsTakenAs r t top
  pub number : top.number ≡ n
  pub least : (c : Top) → IsTakenAs r t c → n ≤ c.number

-- ---- what is left

-- of the tops alike to it in its file one is taken, and one isn't
pub record IsSplit (r : Reused) (n : ℕ) : Type 0 where
  pub top : Top
  pub there : In top (tops_of r.units)
  pub number : top.number ≡ n
  pub one : Top
  pub one_there : In one (tops_of r.units)
  pub one_file : one.file ≡ top.file
  pub one_alike : Alike r.units n one.number
  pub taken : IsTaken r one
  pub other : Top
  pub other_there : In other (tops_of r.units)
  pub other_file : other.file ≡ top.file
  pub other_alike : Alike r.units n other.number
  pub left : IsTaken r other → ⊥

-- so it is, or a chain of at most so many references leads into one of which it is
unfoldable pub Blocked : Reused → ℕ → ℕ → Type 0
Blocked r zero n = IsSplit r n
Blocked r (suc k) n = Blocked r k n ⊎ ((t : Top) × (m : ℕ) × In t (tops_of r.units) × (t.number ≡ n) × (refers_to m t ≡ true) × Blocked r k m)

-- a movable top that isn't taken, and that no chain of references blocks
pub record IsFreeTop (r : Reused) (t : Top) : Type 0 where
  pub movable : Movable r.units t.number
  pub left : IsTaken r t → ⊥
  pub unblocked : (k : ℕ) → Blocked r k t.number → ⊥

-- both are free, and alike in one file
pub record FreeAlike (r : Reused) (a b : Top) : Type 0 where
  pub file : a.file ≡ b.file
  pub alike : Alike r.units a.number b.number
  pub first : IsFreeTop r a
  pub second : IsFreeTop r b

-- ---- the same as lists

abbrev pub takes_of : Fixed → ℕ → List ℕ
takes_of fixed u = slice_index_or fixed.takes u []

abbrev pub image_at : Fixed → ℕ → Option ℕ
image_at fixed n = slice_index_or fixed.images n None

abbrev pub is_blocked : Fixed → ℕ → Bool
is_blocked fixed n = slice_index_or fixed.blocked n false

-- They say what is taken and what is blocked, of all units and of all tops. Those of the common file take nothing, and stay.
pub record IsFixed (r : Reused) (fixed : Fixed) : Type 0 where
  pub units : length fixed.takes ≡ length (together r)
  pub takes : (u p : ℕ) → In p (takes_of fixed u) ↔ Takes r u p
  pub rising : (u : ℕ) → Rising (takes_of fixed u)
  pub tops : length fixed.images ≡ length (tops_of (together r))
  pub images : (t : Top) → In t (tops_of (together r)) → MatchOption (image_at fixed t.number) (IsTaken r t → ⊥) (IsImage r t)
  pub flags : length fixed.blocked ≡ length (tops_of (together r))
  pub blocked : (t : Top) → In t (tops_of (together r)) → (is_blocked fixed t.number ≡ true) ↔ ((k : ℕ) × Blocked r k t.number)

-- they say it of files and a common file that were read, with the places of the roots there
pub record IsFixedOf (said : BesideDocs) (fixed : Fixed) : Type 0 where
  pub roots : fixed.roots ≡ map (λ u. u.root.at.at) said.common.units
  pub lists : IsFixed (reused_beside said) fixed

-- ---- what moves among the units of the files

-- a movable top is free if it isn't taken and isn't blocked
abbrev pub is_free : Fixed → ℕ → Bool
is_free fixed n = not (is_some (image_at fixed n)) && not (is_blocked fixed n)

-- free tops are alike where tops of one file are
abbrev pub free_test : Reused → Fixed → Test
free_test r fixed = λ m n. alike_test Apart r.units m n && (is_free fixed m && is_free fixed n)

-- and of these those move whose groups gain
abbrev pub free_rule : Reused → Fixed → Rule
free_rule r fixed = gain_rule (free_test r fixed) r.units
