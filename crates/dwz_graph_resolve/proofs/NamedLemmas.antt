-- Entry by entry the same is named as in the units that are meant.
use Rattle.std.proofs.Common.{◌≡◌, ℕ, Bool, true, false, List, [], ◌∷◌, ◌++◌, Result, Ok, Err, refl, sym, ap, ◌∙◌}
use Rattle.std.specs.Prelude.{◌==◌, if◌then◌else◌}
use Rattle.std.proofs.lemmas.List.{append-nil, append_assoc}
use Rattle.dwz_model.specs.declared.fault.Fault.{Fault}
use Rattle.dwz_def_reading.specs.Reading.{◌>>=◌}
use Rattle.dwz_def_reading.specs.Documents.{Attr, DwUnit, Entries, Kind, Node, Value}
use Rattle.dwz_def_reading.specs.Entries.{RawAttr, RawEntry}
use Rattle.dwz_def_reading.specs.Meanings.{Around, MeaningContext, scope_of}
use Rattle.dwz_def_reading.specs.Meant.{attrs_meaning, entries_meaning, kind_meaning, meaning, node_meaning, node_with, unit_meaning, unit_with, units_meaning, with_attr}
use Rattle.dwz_def_reading.specs.Meanings.{without_siblings}
use Rattle.dwz_def_reading.specs.Meant.{unit_then, with_next}
use Rattle.dwz_def_reading.specs.NamedLists.{list_of_attr, lists_of_attrs, lists_of_entries, lists_of_unit, lists_of_units}
use Rattle.dwz_def_reading.specs.Shared.{NamedList}
use Rattle.dwz_def_reading.specs.Trees.{End, Entry, Forest}
use Rattle.dwz_def_reading.specs.Units.{RawUnit}
use Rattle.dwz_graph_resolve.specs.Named.{Found, attr_named, attrs_refs, collect, entries_refs, entry_named, found, found_in, joined, kind_named, map_ok, nothing_found, preorder, unit_named, unit_refs}
use Rattle.dwz_graph_resolve.specs.Named.{units_named, units_refs}

joined_assoc : (a b c : Result Found Fault) → joined (joined a b) c ≡ joined a (joined b c)
joined_assoc (Err e) b c = refl
joined_assoc (Ok a) (Err e) c = refl
joined_assoc (Ok a) (Ok b) (Err e) = refl
joined_assoc (Ok a) (Ok b) (Ok c) = (λ i. Ok (found (append_assoc a.refs b.refs c.refs i) (append_assoc a.lists b.lists c.lists i)))

pub none_joined : (r : Result Found Fault) → joined (Ok nothing_found) r ≡ r
none_joined (Ok a) = refl
none_joined (Err e) = refl

pub joined_none : (r : Result Found Fault) → joined r (Ok nothing_found) ≡ r
joined_none (Err e) = refl
joined_none (Ok a) = (λ i. Ok (found (append-nil a.refs i) (append-nil a.lists i)))

pub collect_append : {X : Type 0} (f : X → Result Found Fault) (xs ys : List X) → collect f (xs ++ ys) ≡ joined (collect f xs) (collect f ys)
unfolding collect
collect_append f [] ys = sym (none_joined (collect f ys))
collect_append f (x ∷ xs) ys = ap (joined (f x)) (collect_append f xs ys) ∙ sym (joined_assoc (f x) (collect f xs) (collect f ys))

-- ---- attributes

abbrev attrs_found : List NamedList → List (Attr ℕ) → Found
attrs_found lists attrs = found (attrs_refs attrs) lists

attr_step : (a : RawAttr) (here rest : List NamedList) (r : Result (Value ℕ) Fault) (q : Result (List (Attr ℕ)) Fault) → joined (map_ok (found_in here) r) (map_ok (attrs_found rest) q)
    ≡ map_ok (attrs_found (here ++ rest)) (r >>= λ v. q >>= with_attr a v)
attr_step a here rest (Err e) q = refl
attr_step a here rest (Ok v) (Err e) = refl
attr_step a here rest (Ok v) (Ok attrs) = refl

attrs_choice : (s : MeaningContext ℕ) (a : RawAttr) (attrs : List RawAttr) (b : Bool)
    → collect (attr_named s) attrs ≡ map_ok (attrs_found (lists_of_attrs s (without_siblings attrs))) (attrs_meaning s (without_siblings attrs))
    → joined (if b then Ok nothing_found else map_ok (found_in (list_of_attr s a)) (meaning s a)) (collect (attr_named s) attrs)
    ≡ map_ok (attrs_found (lists_of_attrs s (if b then without_siblings attrs else (a ∷ without_siblings attrs))))
    (attrs_meaning s (if b then without_siblings attrs else (a ∷ without_siblings attrs)))
unfolding attrs_meaning lists_of_attrs
attrs_choice s a attrs true e = none_joined (collect (attr_named s) attrs) ∙ e
attrs_choice s a attrs false e =
    ap (joined (map_ok (found_in (list_of_attr s a)) (meaning s a))) e
    ∙ attr_step a (list_of_attr s a) (lists_of_attrs s (without_siblings attrs)) (meaning s a) (attrs_meaning s (without_siblings attrs))

attrs_same : (s : MeaningContext ℕ) (attrs : List RawAttr) → collect (attr_named s) attrs ≡ map_ok (attrs_found (lists_of_attrs s (without_siblings attrs))) (attrs_meaning s (without_siblings attrs))
unfolding collect attrs_meaning without_siblings lists_of_attrs
attrs_same s [] = refl
attrs_same s (a ∷ attrs) = attrs_choice s a attrs (a.pair.name == 0x01) (attrs_same s attrs)

-- ---- entries

abbrev pub node_found : List NamedList → Node ℕ → Found
node_found lists d = found (attrs_refs d.attrs) lists

abbrev pub node_lists : MeaningContext ℕ → RawEntry → List NamedList
node_lists s e = lists_of_attrs s (without_siblings e.attrs)

node_step : (s : MeaningContext ℕ) (e : RawEntry) (lists : List NamedList) (q : Result (List (Attr ℕ)) Fault) → map_ok (attrs_found lists) q ≡ map_ok (node_found lists) (q >>= node_with s e)
node_step s e lists (Ok attrs) = refl
node_step s e lists (Err f) = refl

pub node_same : (s : MeaningContext ℕ) (e : RawEntry) → entry_named s e ≡ map_ok (node_found (node_lists s e)) (node_meaning s e)
node_same s e = attrs_same s e.attrs ∙ node_step s e (node_lists s e) (attrs_meaning s (without_siblings e.attrs))

abbrev entries_found : List NamedList → Entries ℕ → Found
entries_found lists f = found (entries_refs f) lists

entry_step : (a b c : List NamedList) (r : Result (Node ℕ) Fault) (p q : Result (Entries ℕ) Fault) → joined (map_ok (node_found a) r) (joined (map_ok (entries_found b) p) (map_ok (entries_found c) q))
    ≡ map_ok (entries_found (a ++ (b ++ c))) (r >>= λ d. p >>= λ below. q >>= with_next d below)
unfolding entries_refs
entry_step a b c (Err e) p q = refl
entry_step a b c (Ok d) (Err e) q = refl
entry_step a b c (Ok d) (Ok p) (Err e) = refl
entry_step a b c (Ok d) (Ok p) (Ok q) = refl

entries_same : (s : MeaningContext ℕ) (f : Forest RawEntry) → collect (entry_named s) (preorder f) ≡ map_ok (entries_found (lists_of_entries s f)) (entries_meaning s f)
unfolding collect preorder entries_meaning entries_refs lists_of_entries
entries_same s End = refl
entries_same s (Entry e c n) =
    ap (joined (entry_named s e)) (collect_append (entry_named s) (preorder c) (preorder n) ∙ (λ i. joined (entries_same s c i) (entries_same s n i)))
    ∙ ap (λ (w : Result Found Fault). joined w (joined (map_ok (entries_found (lists_of_entries s c)) (entries_meaning s c)) (map_ok (entries_found (lists_of_entries s n)) (entries_meaning s n))))
    (node_same s e)
    ∙ entry_step (node_lists s e) (lists_of_entries s c) (lists_of_entries s n) (node_meaning s e) (entries_meaning s c) (entries_meaning s n)

-- ---- units

abbrev unit_found : List NamedList → DwUnit ℕ → Found
unit_found lists u = found (unit_refs u) lists

unit_step : (around : Around ℕ) (u : RawUnit) (a b : List NamedList) (k : Result (Kind ℕ) Fault) (r : Result (Node ℕ) Fault) (p : Result (Entries ℕ) Fault)
    → joined (map_ok (λ k. nothing_found) k) (joined (map_ok (node_found a) r) (map_ok (entries_found b) p))
    ≡ map_ok (unit_found (a ++ b)) (k >>= λ kind. r >>= λ root. p >>= unit_with around u kind root)
unit_step around u a b (Err e) r p = refl
unit_step around u a b (Ok k) (Err e) p = refl
unit_step around u a b (Ok k) (Ok r) (Err e) = refl
unit_step around u a b (Ok k) (Ok r) (Ok p) = refl

unit_same : (around : Around ℕ) (u : RawUnit) → unit_named around u ≡ map_ok (unit_found (lists_of_unit around u)) (unit_meaning around u)
unfolding collect
unit_same around u =
    let s = scope_of around u in
    (λ i. joined (kind_named s u.kind) (joined (node_same s u.root i) (entries_same s u.below i)))
    ∙ unit_step around u (node_lists s u.root) (lists_of_entries s u.below) (kind_meaning s u.kind) (node_meaning s u.root) (entries_meaning s u.below)

abbrev pub units_found : List NamedList → List (DwUnit ℕ) → Found
units_found lists units = found (units_refs units) lists

units_step : (a b : List NamedList) (r : Result (DwUnit ℕ) Fault) (q : Result (List (DwUnit ℕ)) Fault) → joined (map_ok (unit_found a) r) (map_ok (units_found b) q)
    ≡ map_ok (units_found (a ++ b)) (r >>= λ v. q >>= unit_then v)
units_step a b (Err e) q = refl
units_step a b (Ok v) (Err e) = refl
units_step a b (Ok v) (Ok units) = refl

pub units_same : (around : Around ℕ) (raw : List RawUnit) → units_named around raw ≡ map_ok (units_found (lists_of_units around raw)) (units_meaning around raw)
unfolding collect units_meaning lists_of_units
units_same around [] = refl
units_same around (u ∷ raw) =
    (λ i. joined (unit_same around u i) (units_same around raw i))
    ∙ units_step (lists_of_unit around u) (lists_of_units around raw) (unit_meaning around u) (units_meaning around raw)
