-- Units that stay as they were read name the lists that they named, whatever stands for places.
use Rattle.std.proofs.Common.{ℕ, List, [], ◌∷◌, Option, inl, inr}
use Rattle.dwz_def_reading.specs.Entries.{RawAttr}
use Rattle.dwz_def_reading.specs.Trees.{End, Entry, Forest}
use Rattle.dwz_def_reading.specs.Entries.{RawEntry}
use Rattle.dwz_def_reading.specs.Units.{RawUnit}
use Rattle.dwz_def_reading.specs.Meanings.{Around, Common, MeaningContext, Sources, without_siblings}
use Rattle.dwz_def_reading.specs.Classes.{OfListIndex, OfOffset}
use Rattle.dwz_def_reading.specs.Classes.{Class, class_of}
use Rattle.dwz_def_reading.specs.NamedLists.{AnyEntryNames, AnyNames, AnyUnitNames, IsNamedAt, NamesAs, lists_of_units}
use Rattle.dwz_def_reading.specs.Shared.{NamedList, NoneShared}
use Rattle.dwz_def_reading.proofs.NamedLemmas.{units_name}
use Rattle.dwz_def_encoding.proofs.ListsAgain.{none_fewer}

module _ {P Q : Type 0} (sources : Sources) (all : List ℕ) (place : ℕ → P) (common : Option (Common P)) (other : ℕ → Q) (none : Option (Common Q)) where
  abbrev here : Around P
  here = record { sources = sources; all = all; place = place; common = common }

  abbrev there : Around Q
  there = record { sources = sources; all = all; place = other; common = none }

  module _ (unit : ℕ) (root : RawEntry) (own : List ℕ) where
    abbrev s : MeaningContext P
    s = record { around = here; unit = unit; root = root; own = own }

    abbrev d : MeaningContext Q
    d = record { around = there; unit = unit; root = root; own = own }

    at_too : (slot : Option ℕ) (at : ℕ) (l : NamedList) → IsNamedAt s slot at l → IsNamedAt d slot at l
    at_too slot at l h = record { unit = h.unit; from = h.from; slot_is = h.slot_is; within = h.within; stands = h.stands }

    as_too : (c : Class) (a : RawAttr) (l : NamedList) → NamesAs c s a l → NamesAs c d a l
    as_too OfOffset a l h = (h.0, at_too _ _ l h.1)
    as_too OfListIndex a l h = record { base = h.base; is_base = h.is_base; offset = h.offset; slot = h.slot; named = at_too _ _ l h.named }
    as_too _ a l h = absurd h

    attrs_too : (attrs : List RawAttr) (l : NamedList) → AnyNames s attrs l → AnyNames d attrs l
    attrs_too [] l h = absurd h
    attrs_too (a ∷ attrs) l (inl x) = inl (as_too (class_of a.pair.form) a l x)
    attrs_too (a ∷ attrs) l (inr r) = inr (attrs_too attrs l r)

    entries_too : (f : Forest RawEntry) (l : NamedList) → AnyEntryNames s f l → AnyEntryNames d f l
    entries_too End l h = absurd h
    entries_too (Entry e f g) l (inl x) = inl (attrs_too (without_siblings e.attrs) l x)
    entries_too (Entry e f g) l (inr (inl x)) = inr (inl (entries_too f l x))
    entries_too (Entry e f g) l (inr (inr x)) = inr (inr (entries_too g l x))

  units_too : (raw : List RawUnit) (l : NamedList) → AnyUnitNames here raw l → AnyUnitNames there raw l
  units_too [] l h = absurd h
  units_too (u ∷ raw) l (inl (inl x)) = inl (inl (attrs_too u.at u.root _ (without_siblings u.root.attrs) l x))
  units_too (u ∷ raw) l (inl (inr x)) = inl (inr (entries_too u.at u.root _ u.below l x))
  units_too (u ∷ raw) l (inr r) = inr (units_too raw l r)

  -- so they share nothing there either
  pub still_none : (raw : List RawUnit) → NoneShared (lists_of_units there raw) → NoneShared (lists_of_units here raw)
  still_none raw none_there = none_fewer (lists_of_units here raw) (lists_of_units there raw) (λ l is. (units_name there raw l).1 (units_too raw l ((units_name here raw l).0 is))) none_there
