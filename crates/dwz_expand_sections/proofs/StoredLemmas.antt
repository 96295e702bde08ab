-- What is found of an attribute by a place is an attribute of an entry that is stored in one of the units.
use Rattle.std.proofs.Common.{◌≡◌, ℕ, Bool, true, false, List, [], ◌∷◌, Option, Some, None, slice_get, refl, sym, ap, subst, ◌∙◌, inl, inr}
use Rattle.std.proofs.lemmas.Bool.{eqb-true}
use Rattle.std.proofs.lemmas.Option.{same_Some}
use Rattle.dwz_model.specs.Lists.{In}
use Rattle.dwz_model.proofs.ListFacts.{got_in, in_cases}
use Rattle.dwz_model.proofs.Members.{in_map_from}
use Rattle.dwz_def_encoding.specs.Meant.{led_to}
use Rattle.dwz_def_reading.specs.declared.exprs.Operand.{Operand}
use Rattle.dwz_def_reading.specs.Entries.{RawAttr, RawEntry}
use Rattle.dwz_def_reading.specs.FirstOf.{of_first, ◌or◌}
use Rattle.dwz_def_reading.specs.Meanings.{Around, MeaningContext, scope_of, without_siblings}
use Rattle.dwz_def_reading.specs.Places.{Place, at_file}
use Rattle.dwz_def_reading.specs.Trees.{End, Entry, Forest}
use Rattle.dwz_def_reading.specs.Units.{RawUnit}
use Rattle.dwz_def_expand.specs.OneFile.{IsStoredAmong, IsStoredIn, OneFile, StoredAttr, around, attr_of, entry_if, part, stored_among, stored_attr, stored_in, with_scope}
use Rattle.dwz_def_expand.specs.Output.{Spoken, in_value, in_values}
use Rattle.dwz_def_expand.specs.Refusals.{Site}
use Rattle.std.specs.Prelude.{if◌then◌else◌, ◌==◌}

-- ---- an entry

among_from : (at : ℕ) (f : Forest RawEntry) (e : RawEntry) → stored_among at f ≡ Some e → IsStoredAmong e f
unfolding stored_among
among_from at End e is = absurd (let z : None ≡ Some e = is in cc)
among_from at (Entry d children next) e is =
    by (d.at == at) (stored_among at children) refl (λ h. among_from at children e h) (λ h. among_from at next e h) is where
      by : (b : Bool) (c : Option RawEntry) → stored_among at children ≡ c → (stored_among at children ≡ Some e → IsStoredAmong e children)
          → (stored_among at next ≡ Some e → IsStoredAmong e next) → (entry_if b d or (c or stored_among at next)) ≡ Some e → IsStoredAmong e (Entry d children next)
      by true c was below beside found = inl (same_Some d e found)
      by false (Some x) was below beside found = inr (inl (below (was ∙ found)))
      by false None was below beside found = inr (inr (beside found))

in_from : (at : ℕ) (u : RawUnit) (e : RawEntry) → stored_in at u ≡ Some e → IsStoredIn e u
in_from at u e is = by (u.root.at == at) is where
  by : (b : Bool) → (entry_if b u.root or stored_among at u.below) ≡ Some e → IsStoredIn e u
  by true found = inl (same_Some u.root e found)
  by false found = inr (among_from at u.below e found)

-- ---- an attribute

pub record FromEntry (a : Around Place) (raw : List RawUnit) (v : StoredAttr) : Type 0 where
  pub unit : RawUnit
  pub there : In unit raw
  pub entry : RawEntry
  pub stored : IsStoredIn entry unit
  pub scope : v.scope ≡ scope_of a unit
  pub attr : In v.attr (without_siblings entry.attrs)

record OfEntry (s : MeaningContext Place) (o : Option RawEntry) (v : StoredAttr) : Type 0 where
  entry : RawEntry
  is : o ≡ Some entry
  scope : v.scope ≡ s
  attr : In v.attr (without_siblings entry.attrs)

attr_from : (s : MeaningContext Place) (index : ℕ) (o : Option RawEntry) (v : StoredAttr) → attr_of s index o ≡ Some v → OfEntry s o v
attr_from s index None v is = absurd (let z : None ≡ Some v = is in cc)
attr_from s index (Some e) v is = by (slice_get (without_siblings e.attrs) index) refl is where
  by : (a : Option RawAttr) → slice_get (without_siblings e.attrs) index ≡ a → with_scope s a ≡ Some v → OfEntry s (Some e) v
  by None got found = absurd (let z : None ≡ Some v = found in cc)
  by (Some a) got found =
      let made : StoredAttr = record { scope = s; attr = a } in
      let same : made ≡ v = same_Some made v found in
      record {
        entry = e;
        is = refl;
        scope = sym (ap (λ (w : StoredAttr). w.scope) same);
        attr = subst (λ (w : StoredAttr). In w.attr (without_siblings e.attrs)) same (got_in (without_siblings e.attrs) index a got);
      }

module _ (a : Around Place) (at index : ℕ) where
  abbrev of_unit : RawUnit → Option StoredAttr
  of_unit u = attr_of (scope_of a u) index (stored_in at u)

  units_from : (raw : List RawUnit) (v : StoredAttr) → of_first of_unit raw ≡ Some v → FromEntry a raw v
  units_from [] v is = absurd (let z : None ≡ Some v = is in cc)
  units_from (u ∷ raw) v is = by (of_unit u) refl (λ h. units_from raw v h) is where
    by : (o : Option StoredAttr) → of_unit u ≡ o → (of_first of_unit raw ≡ Some v → FromEntry a raw v) → (o or of_first of_unit raw) ≡ Some v → FromEntry a (u ∷ raw) v
    by (Some w) was rest found =
        let e = attr_from (scope_of a u) index (stored_in at u) v (was ∙ found) in
        record { unit = u; there = inl refl; entry = e.entry; stored = in_from at u e.entry e.is; scope = e.scope; attr = e.attr }
    by None was rest found =
        let r = rest found in record { unit = r.unit; there = inr r.there; entry = r.entry; stored = r.stored; scope = r.scope; attr = r.attr }

pub stored_from : (f : OneFile) (p : Place) (index : ℕ) (v : StoredAttr) → stored_attr f p index ≡ Some v → FromEntry (around f p.file) (part f p.file).raw v
unfolding stored_attr
stored_from f p index v is = units_from (around f p.file) p.at index (part f p.file).raw v is

-- ---- an operand

-- it is an operand of an attribute that is found in the file
pub record OfStored (f : OneFile) (file : ℕ) (operands : StoredAttr → List Operand) (o : Spoken) : Type 0 where
  pub place : Place
  pub index : ℕ
  pub in_file : place.file ≡ file
  pub value : StoredAttr
  pub stored : stored_attr f place index ≡ Some value
  pub there : In o.operand (operands value)
  pub target : o.target ≡ at_file place.file (led_to value.scope.unit o.operand)

pub values_from : (f : OneFile) (operands : StoredAttr → List Operand) (file : ℕ) (sites : List (Site Place)) (o : Spoken) → In o (in_values f operands file sites) → OfStored f file operands o
unfolding in_values
values_from f operands file [] o there = absurd there
values_from f operands file (s ∷ sites) o there =
    elim (in_cases o (if s.source.file == file then in_value operands s (stored_attr f s.source s.index) else []) (in_values f operands file sites) there) [
      | inl here ↦ by (s.source.file == file) refl (stored_attr f s.source s.index) refl here
      | inr later ↦ values_from f operands file sites o later
    ] where
      by : (b : Bool) → (s.source.file == file) ≡ b → (v : Option StoredAttr) → stored_attr f s.source s.index ≡ v → In o (if b then in_value operands s v else [])
          → OfStored f file operands o
      by true e None is h = absurd h
      by true e (Some v) is h =
          let m = in_map_from (λ x. record { unit = s.unit; operand = x; target = at_file s.source.file (led_to v.scope.unit x) }) o (operands v) h in
          let own : m.source ≡ o.operand = ap (λ (w : Spoken). w.operand) m.is in
          record {
            place = s.source;
            index = s.index;
            in_file = eqb-true s.source.file file e;
            value = v;
            stored = is;
            there = subst (λ (x : Operand). In x (operands v)) own m.there;
            target = sym (ap (λ (w : Spoken). w.target) m.is) ∙ ap (λ (x : Operand). at_file s.source.file (led_to v.scope.unit x)) own;
          }
      by false e v is h = absurd h
