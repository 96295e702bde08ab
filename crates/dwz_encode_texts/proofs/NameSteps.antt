-- Names of spaces file by file: those of each file behind those of the files before it.
use Rattle.std.proofs.Common.{◌≡◌, ℕ, zero, suc, ◌+◌, ◌≤◌, List, [], ◌∷◌, ◌++◌, length, map, take, Option, Some, slice_get, Ok, refl, sym, ap, subst, ◌∙◌, inl, inr, arith}
use Rattle.std.specs.Option.{option_map}
use Rattle.std.proofs.lemmas.List.{append-nil, append_assoc, length-append, length-map, take_all}
use Rattle.std.proofs.lemmas.Option.{slice_get-map}
use Rattle.dwz_def_reading.specs.Units.{RawUnit}
use Rattle.dwz_def_reading.proofs.ListFacts.{get_first}
use Rattle.dwz_def_reading.specs.Documents.{Doc}
use Rattle.dwz_def_reading.specs.Files.{Limits, around_of, file_meaning, limits_after, no_files_before}
use Rattle.dwz_def_reading.specs.Meanings.{alone}
use Rattle.dwz_unit.specs.Rows.{EntryRow, rows_of, units_of as raw_units}
use Rattle.dwz_graph.specs.Resolved.{around}
use Rattle.dwz_unit.proofs.RowsFound.{found_in_map}
use Rattle.dwz_graph.specs.declared.file.File.{File}
use Rattle.dwz_graph.specs.Files.{AreKept, AreRead, HasFile, IsRead}
use Rattle.dwz_graph.proofs.GraphLemmas.{same_raw}
use Rattle.dwz_graph.specs.declared.index.SpaceEntry.{SpaceEntry}
use Rattle.dwz_graph.specs.Index.{Index}
use Rattle.dwz_graph.proofs.TopLemmas.{get_cases, get_later}
use Rattle.dwz_layout.specs.declared.known.Row.{Row}
use Rattle.dwz_layout.specs.declared.known.TextAt.{TextAt}
use Rattle.dwz_law_layout.specs.Listed.{entry_row, space_entries}
use Rattle.dwz_encode_texts.specs.Names.{HaveNames, name_by_row, names_of_spaces, row_name}

-- those of a file
abbrev pub file_names : File → Index → List TextAt
file_names f x = names_of_spaces (around f.sections (raw_units f.units)) (raw_units f.units) x.spaces

abbrev pub all_names : List File → List Index → List TextAt
all_names [] indexes = []
all_names (f ∷ files) [] = []
all_names (f ∷ files) (x ∷ indexes) = file_names f x ++ all_names files indexes

-- one file more
pub names_more : (files : List File) (indexes : List Index) (k : ℕ) (f : File) (x : Index) → slice_get files k ≡ Some f → slice_get indexes k ≡ Some x
    → all_names (take (k + 1) files) (take (k + 1) indexes) ≡ all_names (take k files) (take k indexes) ++ file_names f x
names_more [] indexes k f x p q = absurd cc
names_more (g ∷ files) [] k f x p q = absurd cc
names_more (g ∷ files) (y ∷ indexes) zero f x p q =
    let a : g ≡ f = cc in
    let b : y ≡ x = cc in
    append-nil (file_names g y) ∙ (λ i. file_names (a i) (b i))
names_more (g ∷ files) (y ∷ indexes) (suc k) f x p q =
    let one : suc k + 1 ≡ suc (k + 1) = omega arith in
    (λ i. all_names (take (one i) (g ∷ files)) (take (one i) (y ∷ indexes)))
    ∙ ap (λ (w : List TextAt). file_names g y ++ w) (names_more files indexes k f x p q)
    ∙ sym (append_assoc (file_names g y) (all_names (take k files) (take k indexes)) (file_names f x))

pub names_all : (files : List File) (indexes : List Index) (k : ℕ) → length files ≤ k → length indexes ≤ k → all_names (take k files) (take k indexes) ≡ all_names files indexes
names_all files indexes k p q = (λ i. all_names (take_all k files p i) (take_all k indexes q i))

-- ---- which entries they are of

abbrev of_space : ℕ → SpaceEntry → Row
of_space file s = entry_row file s.entry

first_entries : (file : ℕ) (x : Index) (indexes : List Index) → space_entries file (x ∷ indexes) ≡ map (of_space file) x.spaces ++ space_entries (suc file) indexes
unfolding space_entries
first_entries file x indexes = refl

no_entries : (file : ℕ) → space_entries file [] ≡ []
unfolding space_entries
no_entries file = refl

-- files are counted upward
high : (file : ℕ) (indexes : List Index) (k : ℕ) (r : Row) → slice_get (space_entries file indexes) k ≡ Some r → file ≤ r.file
high file [] k r e = absurd (let none : slice_get [] k ≡ Some r = ap (λ (w : List Row). slice_get w k) (sym (no_entries file)) ∙ e in cc)
high file (x ∷ indexes) k r e =
    elim (get_cases (map (of_space file) x.spaces) (space_entries (suc file) indexes) k r (ap (λ (w : List Row). slice_get w k) (sym (first_entries file x indexes)) ∙ e)) [
      | inl a ↦ (let m = found_in_map (of_space file) x.spaces k r a in let same = ap (λ (w : Row). w.file) m.2 in omega arith)
      | inr b ↦ (let rest = high (suc file) indexes b.0 r b.2 in omega arith)
    ]

pub names_long : (file : ℕ) (files : List File) (indexes : List Index) → length files ≡ length indexes → length (all_names files indexes) ≡ length (space_entries file indexes)
names_long file [] [] e = ap (λ (w : List Row). length w) (sym (no_entries file))
names_long file [] (x ∷ indexes) e = absurd (omega arith)
names_long file (f ∷ files) [] e = absurd (omega arith)
names_long file (f ∷ files) (x ∷ indexes) e =
    let rest = names_long (suc file) files indexes (omega arith) in
    let own = length-append (file_names f x) (all_names files indexes) in
    let raw = raw_units f.units in
    let a = length-map x.spaces (λ (s : SpaceEntry). name_by_row (around f.sections raw) raw (slice_get (rows_of raw) s.entry)) in
    let b = length-map x.spaces (of_space file) in
    let all = ap (λ (w : List Row). length w) (first_entries file x indexes) in
    let both = length-append (map (of_space file) x.spaces) (space_entries (suc file) indexes) in
    omega arith

-- ---- each of them

module _ (entry : ℕ) (bytes : List ℕ) (raw : List RawUnit) (r : EntryRow) (found : slice_get (rows_of raw) entry ≡ Some r) where
  -- in its own file
  own_name : (number : ℕ) (l : Limits) (f : File) (h : IsRead l number bytes f) → raw_units f.units ≡ raw → (x : Index) (k : ℕ) (s : SpaceEntry) → slice_get x.spaces k ≡ Some s → s.entry ≡ entry
      → slice_get (file_names f x) k ≡ Some (row_name (around_of bytes raw) raw r)
  own_name number l f h same x k s got at =
      let around_is : around f.sections (raw_units f.units) ≡ around_of bytes raw = (λ i. alone (h.sections i) (same i)) in
      slice_get-map (λ (w : SpaceEntry). name_by_row (around f.sections (raw_units f.units)) (raw_units f.units) (slice_get (rows_of (raw_units f.units)) w.entry)) x.spaces k
      ∙ ap (option_map (λ (w : SpaceEntry). name_by_row (around f.sections (raw_units f.units)) (raw_units f.units) (slice_get (rows_of (raw_units f.units)) w.entry))) got
      ∙ (λ i. Some (name_by_row (around_is i) (same i) (slice_get (rows_of (same i)) (at i))))
      ∙ ap (λ (o : Option EntryRow). Some (name_by_row (around_of bytes raw) raw o)) found

  same_units : (l : Limits) (contents : List (List ℕ)) (m : Limits) (units : List RawUnit) (said doc : Doc ℕ) (b : List ℕ) → file_meaning l b ≡ Ok (units, said)
      → HasFile l (b ∷ contents) 0 m bytes raw doc → (b ≡ bytes) × (units ≡ raw)
  same_units l contents m units said doc b means h = same_raw l (b ∷ contents) 0 l m b bytes units raw said doc (refl, refl, means) h

  rest_has : (l : Limits) (contents : List (List ℕ)) (k : ℕ) (m : Limits) (units : List RawUnit) (said doc : Doc ℕ) (b : List ℕ) → file_meaning l b ≡ Ok (units, said)
      → HasFile l (b ∷ contents) (suc k) m bytes raw doc → HasFile (limits_after l b units) contents k m bytes raw doc
  rest_has l contents k m units said doc b means h =
      let same : h.0 ≡ units = (same_raw l (b ∷ contents) 0 l l b b h.0 units h.1 said (refl, refl, h.2) (refl, refl, means)).1 in
      subst (λ (us : List RawUnit). HasFile (limits_after l b us) contents k m bytes raw doc) same h.3

  each_name : (l : Limits) (contents : List (List ℕ)) (files : List File) (left : Limits) (n : ℕ) → AreRead l n contents files left → (indexes : List Index) → length files ≡ length indexes
      → (k file space : ℕ) (m : Limits) (doc : Doc ℕ) → file ≡ n + k → HasFile l contents k m bytes raw doc → slice_get (space_entries n indexes) space ≡ Some (entry_row file entry)
      → slice_get (all_names files indexes) space ≡ Some (row_name (around_of bytes raw) raw r)
  each_name l [] files left n h indexes many k file space m doc at has e = absurd has
  each_name l (b ∷ contents) [] left n h indexes many k file space m doc at has e = absurd h
  each_name l (b ∷ contents) (f ∷ files) left n h [] many k file space m doc at has e = absurd (omega arith)
  each_name l (b ∷ contents) (f ∷ files) left n h (x ∷ indexes) many zero file space m doc at has e =
      let units = raw_units f.units in
      let same = same_units l contents m units h.0.doc doc b h.0.means has in
      let read : IsRead l n bytes f = subst (λ (w : List ℕ). IsRead l n w f) same.0 h.0 in
      elim (get_cases (map (of_space n) x.spaces) (space_entries (suc n) indexes) space (entry_row file entry) (ap (λ (w : List Row). slice_get w space) (sym (first_entries n x indexes)) ∙ e)) [
        | inl a ↦
            let g = found_in_map (of_space n) x.spaces space (entry_row file entry) a in
            get_first (file_names f x) (all_names files indexes) space (row_name (around_of bytes raw) raw r)
            (own_name n l f read same.1 x space g.0 g.1 (ap (λ (w : Row). w.entry) g.2))
        | inr c ↦ absurd (let up = high (suc n) indexes c.0 (entry_row file entry) c.2 in omega arith)
      ]
  each_name l (b ∷ contents) (f ∷ files) left n h (x ∷ indexes) many (suc k) file space m doc at has e =
      let units = raw_units f.units in
      let rest = rest_has l contents k m units h.0.doc doc b h.0.means has in
      elim (get_cases (map (of_space n) x.spaces) (space_entries (suc n) indexes) space (entry_row file entry) (ap (λ (w : List Row). slice_get w space) (sym (first_entries n x indexes)) ∙ e)) [
        | inl a ↦ absurd (let g = found_in_map (of_space n) x.spaces space (entry_row file entry) a in let same = ap (λ (w : Row). w.file) g.2 in omega arith)
        | inr c ↦
            let found_there = each_name (limits_after l b units) contents files left (suc n) h.1 indexes (omega arith) k file c.0 m doc (omega arith) rest c.2 in
            let a = length-map x.spaces (of_space n) in
            let long = length-map x.spaces (λ (s : SpaceEntry). name_by_row (around f.sections units) units (slice_get (rows_of units) s.entry)) in
            let at_c = c.1 in
            let place : space ≡ length (file_names f x) + c.0 = omega arith in
            ap (λ (j : ℕ). slice_get (file_names f x ++ all_names files indexes) j) place
            ∙ get_later (file_names f x) (all_names files indexes) c.0 (row_name (around_of bytes raw) raw r) found_there
      ]

pub have_names : (contents : List (List ℕ)) (files : List File) (indexes : List Index) (texts : List TextAt) → AreKept contents files → length files ≡ length indexes → texts ≡ all_names files indexes
    → HaveNames contents indexes texts
have_names contents files indexes texts kept many is = record {
  many = ap (λ (w : List TextAt). length w) is ∙ names_long 0 files indexes many;
  each = λ space file i l bytes raw doc r e has found. (
      let at : file ≡ 0 + file = omega arith in
      ap (λ (w : List TextAt). slice_get w space) is
      ∙ each_name i bytes raw r found no_files_before contents files kept.end 0 kept.are indexes many file file space l doc at has e);
}
