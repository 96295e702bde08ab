-- What is read is written: no value of a file by itself leads to a common file.
use Rattle.std.proofs.Common.{◌≡◌, ℕ, List, [], ◌∷◌, None, refl, sym, subst, ◌∙◌}
use Rattle.dwz_def_reading.specs.Entries.{RawAttr, RawEntry}
use Rattle.dwz_def_reading.specs.Trees.{End, Entry, Forest}
use Rattle.dwz_def_reading.specs.Units.{RawUnit}
use Rattle.dwz_def_reading.specs.Documents.{Attr, DwUnit, Entries, Value}
use Rattle.dwz_def_reading.specs.Meanings.{Around, MeanAttrs, MeanEntries, MeanUnits, MeaningContext, MeansAs, Sources, scope_of, without_siblings}
use Rattle.dwz_def_reading.specs.Classes.{OfCommonText, Unread}
use Rattle.dwz_def_reading.specs.Classes.{Class, class_of}
use Rattle.dwz_def_reading.specs.Lists.{Each}
use Rattle.dwz_def_encoding.specs.Carried.{BuiltAttr, BuiltEntries, BuiltUnit, IsBuilt, IsBuiltAs}

-- what surrounds the units of a file by itself
abbrev pub own : Sources → List ℕ → Around ℕ
own sources all = record { sources = sources; all = all; place = λ n. n; common = None }

class_built : (k : Class) (s : MeaningContext ℕ) → s.around.common ≡ None → (a : RawAttr) (v : Value ℕ) → MeansAs k s a v → IsBuiltAs k
class_built OfCommonText s alone a v h = absurd (let none = sym alone ∙ h.1 in cc)
class_built Unread s alone a v h = absurd h
class_built _ s alone a v h = tt

module _ (s : MeaningContext ℕ) (alone : s.around.common ≡ None) where
  attrs_built : (raw : List RawAttr) (attrs : List (Attr ℕ)) → MeanAttrs s raw attrs → Each BuiltAttr attrs
  attrs_built [] [] h = tt
  attrs_built (r ∷ raw) (b ∷ attrs) h = (subst IsBuilt (sym h.0.form) (class_built (class_of r.pair.form) s alone r b.value h.0.value), attrs_built raw attrs h.1)
  attrs_built _ _ h = absurd h

  entries_built : (f : Forest RawEntry) (g : Entries ℕ) → MeanEntries s f g → BuiltEntries g
  entries_built End End h = tt
  entries_built (Entry r f f') (Entry d g g') h = (attrs_built (without_siblings r.attrs) d.attrs h.0.attrs, entries_built f g h.1, entries_built f' g' h.2)
  entries_built _ _ h = absurd h

pub units_built : (sources : Sources) (all : List ℕ) (raw : List RawUnit) (units : List (DwUnit ℕ)) → MeanUnits (own sources all) raw units → Each BuiltUnit units
units_built sources all [] [] h = tt
units_built sources all (u ∷ raw) (v ∷ units) h =
    let s = scope_of (own sources all) u in
    ((attrs_built s refl (without_siblings u.root.attrs) v.root.attrs h.0.root.attrs, entries_built s refl u.below v.below h.0.below), units_built sources all raw units h.1)
units_built sources all _ _ h = absurd h
