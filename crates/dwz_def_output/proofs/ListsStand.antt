-- The location lists that units name stand in the section.
use Rattle.std.proofs.Common.{ℕ, List, [], ◌∷◌, Option, Some, None, sym, subst, ◌+◌, inl, inr}
use Rattle.dwz_def_reading.specs.Entries.{RawAttr, RawEntry}
use Rattle.dwz_def_reading.specs.Texts.{slot_place}
use Rattle.dwz_def_reading.specs.Trees.{End, Entry, Forest}
use Rattle.dwz_def_reading.specs.Units.{RawUnit}
use Rattle.dwz_def_reading.specs.Exprs.{ExprContext}
use Rattle.dwz_def_reading.specs.LocLists.{SpellsList}
use Rattle.dwz_def_reading.specs.Meanings.{Around, MeaningContext, expr_context, offset_of, scope_of, without_siblings}
use Rattle.dwz_def_reading.specs.Classes.{OfListIndex, OfOffset}
use Rattle.dwz_def_reading.specs.Classes.{Class, class_of}
use Rattle.dwz_def_reading.specs.NamedLists.{AnyEntryNames, AnyNames, AnyUnitNames, IsNamedAt, NamesAs, lists_of_units}
use Rattle.dwz_def_reading.specs.Sequences.{StandsFrom}
use Rattle.dwz_def_reading.specs.Shared.{NamedList}
use Rattle.dwz_def_reading.proofs.NamedLemmas.{units_name}
use Rattle.dwz_def_output.proofs.ListsWritten.{AllStand}

module _ {P : Type 0} (s : MeaningContext P) (l : NamedList) where
  abbrev Stands : Type 0
  Stands = (c : ExprContext) × StandsFrom (SpellsList c) s.around.sources.lists l.from l.list

  at_stands : (slot : Option ℕ) (place : ℕ) → IsNamedAt s slot place l → Stands
  at_stands slot place n = (expr_context s 7, subst (λ (k : ℕ). StandsFrom (SpellsList (expr_context s 7)) s.around.sources.lists k l.list) (sym n.from) n.stands)

  as_stands : (c : Class) (a : RawAttr) → NamesAs c s a l → Stands
  as_stands OfOffset a n = at_stands None (offset_of a) n.1
  as_stands OfListIndex a n = at_stands (Some (slot_place n.base (offset_of a))) (n.base + n.offset) n.named
  as_stands _ a n = absurd n

  attrs_stand : (attrs : List RawAttr) → AnyNames s attrs l → Stands
  attrs_stand [] n = absurd n
  attrs_stand (a ∷ attrs) (inl is) = as_stands (class_of a.pair.form) a is
  attrs_stand (a ∷ attrs) (inr later) = attrs_stand attrs later

  entries_stand : (f : Forest RawEntry) → AnyEntryNames s f l → Stands
  entries_stand End n = absurd n
  entries_stand (Entry e children next) (inl is) = attrs_stand (without_siblings e.attrs) is
  entries_stand (Entry e children next) (inr (inl below)) = entries_stand children below
  entries_stand (Entry e children next) (inr (inr later)) = entries_stand next later

units_stand : {P : Type 0} (around : Around P) (units : List RawUnit) (l : NamedList) → AnyUnitNames around units l → (c : ExprContext) × StandsFrom (SpellsList c) around.sources.lists l.from l.list
units_stand around [] l n = absurd n
units_stand around (u ∷ units) l (inl (inl is)) = attrs_stand (scope_of around u) l (without_siblings u.root.attrs) is
units_stand around (u ∷ units) l (inl (inr below)) = entries_stand (scope_of around u) l u.below below
units_stand around (u ∷ units) l (inr later) = units_stand around units l later

pub all_stand : {P : Type 0} (around : Around P) (units : List RawUnit) → AllStand (lists_of_units around units) around.sources.lists
all_stand around units l there = units_stand around units l ((units_name around units l).0 there)
