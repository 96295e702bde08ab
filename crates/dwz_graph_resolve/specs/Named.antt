-- What the values of entries name, in the order in which these are stored: entries, and location lists; or the first fault.
use Rattle.std.specs.Prelude.{ℕ, List, [], ◌∷◌, ◌++◌, Result, Ok, Err, ◌==◌, if◌then◌else◌}
use Rattle.std.specs.List.{flat_map}
use Rattle.dwz_model.specs.declared.fault.Fault.{Fault}
use Rattle.dwz_def_reading.specs.Documents.{Attr, DwUnit, Entries, Loc, Plain, Value}
use Rattle.dwz_def_reading.specs.Entries.{RawAttr, RawEntry}
pub use Rattle.dwz_def_reading.specs.Faults.{map_ok}
use Rattle.dwz_def_reading.specs.Meanings.{Around, MeaningContext, scope_of}
use Rattle.dwz_def_reading.specs.Meant.{kind_meaning, meaning}
use Rattle.dwz_def_reading.specs.NamedLists.{list_of_attr}
use Rattle.dwz_def_reading.specs.Shared.{NamedList}
use Rattle.dwz_def_reading.specs.Trees.{End, Entry, Forest}
use Rattle.dwz_def_reading.specs.Units.{RawKind, RawUnit}

-- ---- in documents

-- what a value names: the operands of a location list stand once for all attributes that name the list, and not here
abbrev pub refs_beside : {P : Type 0} → Plain → List P → List P
refs_beside (Loc exprs) refs = []
refs_beside _ refs = refs

abbrev pub value_refs : {P : Type 0} → Value P → List P
value_refs v = refs_beside v.plain v.refs

-- what the attributes name, in order
abbrev pub attrs_refs : {P : Type 0} → List (Attr P) → List P
attrs_refs attrs = flat_map (λ a. value_refs a.value) attrs

unfoldable pub entries_refs : {P : Type 0} → Entries P → List P
entries_refs End = []
entries_refs (Entry e children next) = attrs_refs e.attrs ++ (entries_refs children ++ entries_refs next)

abbrev pub unit_refs : {P : Type 0} → DwUnit P → List P
unit_refs u = attrs_refs u.root.attrs ++ entries_refs u.below

-- all references of units but those of location lists, in preorder, then in the order of attributes, then of operands
abbrev pub units_refs : {P : Type 0} → List (DwUnit P) → List P
units_refs units = flat_map unit_refs units

-- ---- entry by entry

-- the places of entries, and the lists
pub record Found : Type 0 where
  pub refs : List ℕ
  pub lists : List NamedList

abbrev pub found : List ℕ → List NamedList → Found
found refs lists = record { refs = refs; lists = lists }

abbrev pub nothing_found : Found
nothing_found = found [] []

-- what one thing names, and then another
abbrev pub and_then : Found → Found → Found
and_then a b = found (a.refs ++ b.refs) (a.lists ++ b.lists)

abbrev pub joined : Result Found Fault → Result Found Fault → Result Found Fault
joined (Err e) others = Err e
joined (Ok a) others = map_ok (and_then a) others

-- what each gives, one behind the other, or the first fault
unfoldable pub collect : {X : Type 0} → (X → Result Found Fault) → List X → Result Found Fault
collect f [] = Ok nothing_found
collect f (x ∷ xs) = joined (f x) (collect f xs)

-- what a value names, and the list that its attribute names
abbrev pub found_in : List NamedList → Value ℕ → Found
found_in lists v = found (value_refs v) lists

-- DW_AT_sibling names nothing
abbrev pub attr_named : MeaningContext ℕ → RawAttr → Result Found Fault
attr_named s a = if a.pair.name == 0x01 then Ok nothing_found else map_ok (found_in (list_of_attr s a)) (meaning s a)

abbrev pub entry_named : MeaningContext ℕ → RawEntry → Result Found Fault
entry_named s e = collect (attr_named s) e.attrs

unfoldable pub preorder : Forest RawEntry → List RawEntry
preorder End = []
preorder (Entry e children next) = e ∷ (preorder children ++ preorder next)

abbrev pub entries_of : RawUnit → List RawEntry
entries_of u = u.root ∷ preorder u.below

-- a type unit's type comes first, and isn't among the references
abbrev pub kind_named : MeaningContext ℕ → RawKind → Result Found Fault
kind_named s kind = map_ok (λ k. nothing_found) (kind_meaning s kind)

abbrev pub unit_named : Around ℕ → RawUnit → Result Found Fault
unit_named around u = joined (kind_named (scope_of around u) u.kind) (collect (entry_named (scope_of around u)) (entries_of u))

-- what the entries of units name
abbrev pub units_named : Around ℕ → List RawUnit → Result Found Fault
units_named around units = collect (unit_named around) units
