-- A list that a value of the file names is one of the lists of its units.
use Rattle.std.proofs.Common.{List, [], ◌∷◌, sym, subst, inl, inr}
use Rattle.dwz_model.specs.Lists.{In}
use Rattle.dwz_def_reading.specs.Entries.{RawAttr, RawEntry}
use Rattle.dwz_def_reading.specs.Meanings.{Around, MeaningContext, scope_of, without_siblings}
use Rattle.dwz_def_reading.specs.NamedLists.{AnyEntryNames, AnyNames, AnyUnitNames, NamesList, list_of_attr, lists_of_units}
use Rattle.dwz_def_reading.specs.Places.{Place}
use Rattle.dwz_def_reading.specs.Shared.{NamedList}
use Rattle.dwz_def_reading.specs.Trees.{End, Entry, Forest}
use Rattle.dwz_def_reading.specs.Units.{RawUnit}
use Rattle.dwz_def_reading.proofs.NamedLemmas.{attr_is, units_name}
use Rattle.dwz_def_expand.specs.OneFile.{IsStoredAmong, IsStoredIn, OneFile, StoredAttr, around}
use Rattle.dwz_expand_sections.proofs.StoredLemmas.{FromEntry}

module _ (s : MeaningContext Place) (l : NamedList) where
  any_attr : (a : RawAttr) (attrs : List RawAttr) → In a attrs → NamesList s a l → AnyNames s attrs l
  any_attr a [] there names = absurd there
  any_attr a (b ∷ attrs) (inl is) names = inl (subst (λ (x : RawAttr). NamesList s x l) (sym is) names)
  any_attr a (b ∷ attrs) (inr later) names = inr (any_attr a attrs later names)

  any_entry : (e : RawEntry) (f : Forest RawEntry) → IsStoredAmong e f → AnyNames s (without_siblings e.attrs) l → AnyEntryNames s f l
  any_entry e End there names = absurd there
  any_entry e (Entry d children next) (inl is) names = inl (subst (λ (x : RawEntry). AnyNames s (without_siblings x.attrs) l) (sym is) names)
  any_entry e (Entry d children next) (inr (inl below)) names = inr (inl (any_entry e children below names))
  any_entry e (Entry d children next) (inr (inr beside)) names = inr (inr (any_entry e next beside names))

any_unit : (a : Around Place) (raw : List RawUnit) (u : RawUnit) (e : RawEntry) (l : NamedList) → In u raw → IsStoredIn e u → AnyNames (scope_of a u) (without_siblings e.attrs) l → AnyUnitNames a raw l
any_unit a [] u e l there stored names = absurd there
any_unit a (w ∷ raw) u e l (inl is) stored names =
    let own : IsStoredIn e w = subst (λ (x : RawUnit). IsStoredIn e x) (sym is) stored in
    let said : AnyNames (scope_of a w) (without_siblings e.attrs) l = subst (λ (x : RawUnit). AnyNames (scope_of a x) (without_siblings e.attrs) l) (sym is) names in
    inl (elim own [
      | inl root ↦ inl (subst (λ (x : RawEntry). AnyNames (scope_of a w) (without_siblings x.attrs) l) (sym root) said)
      | inr below ↦ inr (any_entry (scope_of a w) l e w.below below said)
    ])
any_unit a (w ∷ raw) u e l (inr later) stored names = inr (any_unit a raw u e l later stored names)

pub list_there : (f : OneFile) (v : StoredAttr) → FromEntry (around f 0) f.file.raw v → (l : NamedList) → In l (list_of_attr v.scope v.attr) → In l (lists_of_units (around f 0) f.file.raw)
list_there f v from l there =
    let s = scope_of (around f 0) from.unit in
    let names : NamesList s v.attr l = (attr_is s v.attr l).0 (subst (λ (t : MeaningContext Place). In l (list_of_attr t v.attr)) from.scope there) in
    (units_name (around f 0) f.file.raw l).1
    (any_unit (around f 0) f.file.raw from.unit from.entry l from.there from.stored (any_attr s l v.attr (without_siblings from.entry.attrs) from.attr names))
