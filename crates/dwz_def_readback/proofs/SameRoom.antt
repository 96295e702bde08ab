-- Whether operands have room depends on the places of their unit and of what they name alone.
use Rattle.std.proofs.Common.{ℕ, ◌-◌, List, [], ◌∷◌, subst}
use Rattle.dwz_def_tops.specs.Alike.{joined_parts}
use Rattle.dwz_def_reading.specs.Trees.{End, Entry}
use Rattle.dwz_def_reading.specs.Documents.{Attr, DwUnit, Entries, Expr, Loc, Operand, Part, Plain, Same}
use Rattle.dwz_def_reading.specs.Classes.{OfExpression, OfListIndex, OfOffset}
use Rattle.dwz_def_reading.specs.Classes.{Class, class_of}
use Rattle.dwz_def_reading.specs.Lists.{Each}
use Rattle.dwz_def_encoding.specs.Fitting.{EachAttr, FitsWidth, HasRoom, HasRoomAs, OperandsHaveRoom, PlainHasRoom, UnitHasRoom}
use Rattle.dwz_def_encoding.specs.Writing.{Numbering, base_place}
use Rattle.dwz_def_readback.proofs.SameSections.{At, RefsAt, UnitAt}

module _ {K : Type 0} (m n : Numbering K) where
  module _ (unit : ℕ) where
    operands_room : (parts : List Part) (refs : List K) → Each (At m n) refs → OperandsHaveRoom m unit parts refs → OperandsHaveRoom n unit parts refs
    operands_room [] [] at room = tt
    operands_room [] (k ∷ refs) at room = absurd room
    operands_room (Same bytes ∷ parts) refs at room = operands_room parts refs at room
    operands_room (Operand width uleb base ∷ parts) [] at room = absurd room
    operands_room (Operand width uleb base ∷ parts) (k ∷ refs) at room =
        (subst (λ (p : ℕ). FitsWidth uleb width (p - base_place unit base)) at.0 room.0, operands_room parts refs at.1 room.1)

    plain_room : (plain : Plain) (refs : List K) → Each (At m n) refs → PlainHasRoom m unit plain refs → PlainHasRoom n unit plain refs
    plain_room (Expr parts) refs at room = operands_room parts refs at room
    plain_room (Loc exprs) refs at room = operands_room (joined_parts exprs) refs at room
    plain_room _ refs at room = tt

    room_as : (c : Class) (a : Attr K) → RefsAt m n a → HasRoomAs c m unit a → HasRoomAs c n unit a
    room_as OfExpression a at room = plain_room a.value.plain a.value.refs at room
    room_as OfOffset a at room = plain_room a.value.plain a.value.refs at room
    room_as OfListIndex a at room = plain_room a.value.plain a.value.refs at room
    room_as _ a at room = tt

    attrs_room : (attrs : List (Attr K)) → Each (RefsAt m n) attrs → Each (HasRoom m unit) attrs → Each (HasRoom n unit) attrs
    attrs_room [] at room = tt
    attrs_room (a ∷ attrs) at room = (room_as (class_of a.form) a at.0 room.0, attrs_room attrs at.1 room.1)

    entries_room : (g : Entries K) → EachAttr (RefsAt m n) g → EachAttr (HasRoom m unit) g → EachAttr (HasRoom n unit) g
    entries_room End at room = tt
    entries_room (Entry e children next) at room = (attrs_room e.attrs at.0 room.0, entries_room children at.1 room.1, entries_room next at.2 room.2)

  pub same_room : (units : List (DwUnit K)) → Each (UnitAt m n) units → Each (UnitHasRoom m) units → Each (UnitHasRoom n) units
  same_room [] at room = tt
  same_room (u ∷ units) at room = (
    subst (λ (p : ℕ). Each (HasRoom n p) u.root.attrs × EachAttr (HasRoom n p) u.below) at.0.unit
        (attrs_room (m.place u.at) u.root.attrs at.0.root room.0.0, entries_room (m.place u.at) u.below at.0.below room.0.1),
    same_room units at.1 room.1,
  )
