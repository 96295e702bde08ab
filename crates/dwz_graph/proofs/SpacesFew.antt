-- A file has no more units, tops and spaces than entries, and its index as many steps.
use Rattle.std.proofs.Common.{◌≡◌, ℕ, suc, ◌+◌, ◌≤◌, Bool, true, false, List, [], ◌∷◌, length, map, Ok, sym, ap, ◌∙◌, arith}
use Rattle.std.proofs.lemmas.List.{length-append, length-map}
use Rattle.dwz_def_reading.specs.Trees.{End, Entry, Forest, size}
use Rattle.dwz_def_reading.specs.Units.{RawUnit, entries_in}
use Rattle.dwz_def_reading.specs.Documents.{Compile, Doc, DwUnit, Kind, OfType, Partial}
use Rattle.dwz_def_reading.specs.Files.{Limits, around_of, debug_abbrev, debug_info, file_meaning}
use Rattle.dwz_def_reading.specs.Entries.{given}
use Rattle.dwz_unit.proofs.ShownLemmas.{units_few as few_units}
use Rattle.dwz_def_reading.specs.Meanings.{Around, MeanUnits, scope_of}
use Rattle.dwz_def_reading.proofs.FileLemmas.{file_agrees}
use Rattle.dwz_def_tops.specs.Spots.{EntryName, spot_in, spots_from, tops_among}
use Rattle.dwz_graph.proofs.FileRoom.{size_same, tops_few}
use Rattle.dwz_graph.specs.declared.index.SpaceEntry.{SpaceEntry}
use Rattle.dwz_graph.specs.declared.index.Starts.{Starts}
use Rattle.dwz_graph.specs.Index.{Index}
use Rattle.dwz_graph.specs.Names.{names_from}
use Rattle.dwz_graph.specs.Steps.{all_spaces, below_root, is_space, space_entries, spaces_by, starts_behind}
use Rattle.dwz_graph.proofs.AmongLemmas.{spaces_many}
use Rattle.dwz_graph.proofs.TopNameLemmas.{all_named}
use Rattle.dwz_graph.specs.Indexed.{IsIndexOf}
use Rattle.dwz_graph.proofs.IndexRoom.{many_units}
use Rattle.dwz_graph.specs.Resolved.{places}
use Rattle.dwz_graph.proofs.PlaceLemmas.{places_many}
use Rattle.dwz_graph.proofs.UnitsFew.{units_few}

under_few : {E : Type 0} (space : E → Bool) (f : Forest E) → spaces_by space f ≤ size f
unfolding spaces_by
under_few space End = omega arith
under_few {E} space (Entry e c n) = by (space e) (under_few space c) (under_few space n) where
  by : (b : Bool) → spaces_by space c ≤ size c → spaces_by space n ≤ size n → (elim b as (λ _. ℕ) [ false ↦ spaces_by space n | true ↦ suc (spaces_by space c + spaces_by space n) ]) ≤ size c + size n
      + 1
  by false p q = omega arith
  by true p q = omega arith

below_few : (k first : ℕ) (u : DwUnit ℕ) → length (space_entries is_space k first (below_root u)) ≤ size u.below
below_few k first u = by u.kind where
  by : (kind : Kind ℕ) → length (space_entries is_space k first (below_root (record u { kind = kind }))) ≤ size u.below
  by Compile = (let many = spaces_many is_space 0 k (first + 1) u.below in let few = under_few is_space u.below in omega arith)
  by (OfType signature main) = omega arith
  by Partial = omega arith

spaces_few : (around : Around ℕ) (raw : List RawUnit) (said : List (DwUnit ℕ)) (s : Starts) (first : ℕ) → MeanUnits around raw said
    → length (all_spaces is_space s first (map below_root said)) ≤ entries_in raw
unfolding all_spaces entries_in
spaces_few around [] [] s first h = omega arith
spaces_few around [] (v ∷ said) s first h = absurd h
spaces_few around (u ∷ raw) [] s first h = absurd h
spaces_few around (u ∷ raw) (v ∷ said) s first h =
    let own = below_few s.space first v in
    let same = size_same (scope_of around u) u.below v.below h.0.below in
    let others = all_spaces is_space (starts_behind is_space s (below_root v)) (first + 1 + size v.below) (map below_root said) in
    let more = spaces_few around raw said (starts_behind is_space s (below_root v)) (first + 1 + size v.below) h.1 in
    let both = length-append (space_entries is_space s.space first (below_root v)) others in
    omega arith

-- what is counted of a file
pub record Counted (l : Limits) (raw : List RawUnit) (doc : Doc ℕ) (x : Index) : Type 0 where
  pub few : entries_in raw ≤ l.entries
  pub steps : length x.steps ≡ entries_in raw
  pub raw_units : length raw ≤ entries_in raw
  pub units : length doc.units ≤ entries_in raw
  pub tops : tops_among doc.units ≤ entries_in raw
  pub spaces : length x.spaces ≤ entries_in raw

pub few_entries : (l : Limits) (bytes : List ℕ) (raw : List RawUnit) (doc : Doc ℕ) → file_meaning l bytes ≡ Ok (raw, doc) → entries_in raw ≤ l.entries
few_entries l bytes raw doc e = let r = ((file_agrees l bytes).ok (raw, doc)).0 e in units_few (debug_abbrev bytes) (given l.entries) raw (debug_info bytes) r.spelled

pub names_many : (l : Limits) (bytes : List ℕ) (raw : List RawUnit) (doc : Doc ℕ) (unit top : ℕ) → file_meaning l bytes ≡ Ok (raw, doc) → length (names_from unit top doc.units) ≡ entries_in raw
names_many l bytes raw doc unit top e =
    ap (λ (w : List EntryName). length w) (sym (all_named l bytes raw doc unit top e))
    ∙ length-map (places raw) (spot_in (spots_from unit top doc.units))
    ∙ places_many raw

pub counts : (l : Limits) (bytes : List ℕ) (raw : List RawUnit) (doc : Doc ℕ) (s : Starts) (x : Index) → file_meaning l bytes ≡ Ok (raw, doc) → IsIndexOf s doc x → Counted l raw doc x
counts l bytes raw doc s x e is =
    let means = (((file_agrees l bytes).ok (raw, doc)).0 e).means in
    let units = few_units raw in
    let same = many_units l bytes raw doc e in
    let spaces = spaces_few (around_of bytes raw) raw doc.units s 0 means in
    record {
      few = few_entries l bytes raw doc e;
      steps = is.names.len ∙ names_many l bytes raw doc s.unit s.top e;
      raw_units = units;
      units = omega arith;
      tops = tops_few (around_of bytes raw) raw doc.units means;
      spaces = (let long = ap (λ (w : List SpaceEntry). length w) is.tops.spaces_are in omega arith);
    }
