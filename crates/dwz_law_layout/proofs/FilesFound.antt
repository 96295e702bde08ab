-- The file that a unit is of: units stand file by file, each file's from the number on that it begins with.
use Rattle.std.proofs.Common.{◌≡◌, ℕ, zero, suc, ◌+◌, ◌<◌, ◌≤◌, List, [], ◌∷◌, ◌++◌, length, map, Some, slice_get, refl, sym, ap, subst, ◌∙◌, inl, inr, arith}
use Rattle.dwz_def_reading.specs.Units.{RawUnit}
use Rattle.dwz_def_reading.proofs.ListFacts.{get_first, got_below, got_there, same_got}
use Rattle.dwz_def_reading.specs.Documents.{Doc, DwUnit}
use Rattle.dwz_def_reading.specs.Files.{Limits, limits_after, no_files_before}
use Rattle.dwz_def_tops.specs.Lists.{Nth}
use Rattle.dwz_def_reading.specs.Lists.{Each}
use Rattle.dwz_def_tops.proofs.Members.{nth_of}
use Rattle.dwz_def_tops.specs.Spots.{EntryName, FileUnit, in_file, named, named_files}
use Rattle.dwz_graph.specs.declared.file.File.{File}
use Rattle.dwz_graph.specs.Files.{HasFile as StandsThere}
use Rattle.dwz_graph.specs.declared.index.Starts.{Starts}
use Rattle.dwz_graph.specs.Index.{Index}
use Rattle.dwz_graph.proofs.TopLemmas.{get_cases, get_later}
use Rattle.dwz_graph.specs.Indexed.{AreIndexed, first_starts, starts_behind}
use Rattle.dwz_unit.proofs.RowsFound.{found_in_map}
use Rattle.dwz_unit.specs.Rows.{units_of as raw_units}
use Rattle.dwz_graph.specs.Across.{IsFileAmong, file_units}
use Rattle.dwz_graph.proofs.FileCounts.{are_many}
use Rattle.dwz_graph.proofs.FileWalk.{is_among}
use Rattle.dwz_graph.proofs.TopRows.{units_long}
use Rattle.dwz_layout_numbers.proofs.NumberingLemmas.{nth_get}
use Rattle.dwz_layout_order.specs.Shown.{IsOther}
use Rattle.dwz_law_layout.specs.Beside.{Beside}
use Rattle.dwz_law_layout.specs.Facts.{AreFacts, HasFile, RunFacts, docs, units}
use Rattle.dwz_law_layout.specs.Roots.{OthersLaw, UnitFilesLaw}
use Rattle.dwz_law_layout.specs.Trees.{IsReadFile}

-- ---- a file by its number

pub bytes_there : (l : Limits) (contents : List (List ℕ)) (i : ℕ) (m : Limits) (b : List ℕ) (raw : List RawUnit) (doc : Doc ℕ) → StandsThere l contents i m b raw doc → slice_get contents i ≡ Some b
bytes_there l [] i m b raw doc h = absurd h
bytes_there l (x ∷ contents) zero m b raw doc h = ap (λ (w : List ℕ). Some w) h.1
bytes_there l (x ∷ contents) (suc i) m b raw doc h = bytes_there (limits_after l x h.0) contents i m b raw doc h.3

module _ {beside : Beside} (f : RunFacts beside) (facts : AreFacts f) where
  -- a number has one file
  pub one_file : (n : ℕ) (bytes bytes' : List ℕ) (x x' : File) (index index' : Index) → HasFile f n bytes x index → HasFile f n bytes' x' index' → (bytes ≡ bytes') × (x ≡ x')
  one_file n bytes bytes' x x' index index' h k = (
    same_got f.contents n bytes bytes' (bytes_there no_files_before f.contents n h.read.limits bytes (raw_units x.units) h.read.read.doc h.read.there)
        (bytes_there no_files_before f.contents n k.read.limits bytes' (raw_units x'.units) k.read.read.doc k.read.there),
    same_got f.files n x x' h.file k.file,
  )

  pub among_of : (n : ℕ) (bytes : List ℕ) (x : File) (index : Index) → HasFile f n bytes x index → IsFileAmong f.contents n bytes x index
  among_of n bytes x index h =
      let a = is_among f.contents f.files f.indexes n x index facts.kept facts.indexed h.file h.index_is in
      let same = (one_file n a.bytes bytes x x index index (record { file = h.file; index_is = h.index_is; read = a.is.kept }) h).0 in
      subst (λ (w : List ℕ). IsFileAmong f.contents n w x index) same a.is

  -- each index has a file
  pub file_there : (n : ℕ) (index : Index) → slice_get f.indexes n ≡ Some index → IsReadFile f n
  file_there n index g =
      let m = are_many f.contents f.files f.indexes facts.kept facts.indexed in
      let a = m.0 in
      let b = m.1 in
      let within = got_below f.indexes n index g in
      let x = got_there f.files n (omega arith) in
      let is = is_among f.contents f.files f.indexes n x.0 index facts.kept facts.indexed x.1 g in
      record { bytes = is.bytes; x = x.0; index = index; has = record { file = x.1; index_is = g; read = is.is.kept } }

-- ---- a unit by its number, where the first file has number m and begins with these numbers

pub record OfFileAt (m : ℕ) (docs : List (Doc ℕ)) (indexes : List Index) (i : ℕ) (u : FileUnit EntryName) : Type 0 where
  pub k : ℕ
  pub doc : Doc ℕ
  pub x : Index
  pub j : ℕ
  pub doc_is : slice_get docs k ≡ Some doc
  pub index_is : slice_get indexes k ≡ Some x
  pub number : i ≡ x.starts.unit + j
  pub within : j < length doc.units
  pub file_is : u.file ≡ m + k

of_file : (file : ℕ) (units : List (DwUnit EntryName)) (j : ℕ) (u : FileUnit EntryName) → slice_get (map (in_file file) units) j ≡ Some u → u.file ≡ file
of_file file units j u e = (let r = found_in_map (in_file {P = EntryName} file) units j u e in ap (λ (w : FileUnit EntryName). w.file) (sym r.2))

unit_at : (m : ℕ) (s end : Starts) (docs : List (Doc ℕ)) (indexes : List Index) → AreIndexed s docs indexes end
    → (i : ℕ) (u : FileUnit EntryName) → slice_get (named_files m s.unit s.top docs) i ≡ Some u → OfFileAt m docs indexes (s.unit + i) u
unfolding named_files
unit_at m s end [] indexes h i u e = absurd cc
unit_at m s end (d ∷ docs) [] h i u e = absurd h
unit_at m s end (d ∷ docs) (z ∷ indexes) h i u e =
    let next = starts_behind s d z in
    let own = file_units s m d in
    let long = units_long s m d in
    elim (get_cases own (named_files (suc m) next.unit next.top docs) i u e) [
      | inl a ↦
          let from = ap (λ (w : Starts). w.unit) h.0.tops.starts_are in
          let none : m ≡ m + 0 = omega arith in
          let low = got_below own i u a in
          record {
            k = 0;
            doc = d;
            x = z;
            j = i;
            doc_is = refl;
            index_is = refl;
            number = omega (arith, from);
            within = omega (arith, low, long);
            file_is = of_file m (named s.unit s.top d.units) i u a ∙ none;
          }
      | inr b ↦
          let r = unit_at (suc m) next end docs indexes h.1 b.0 u b.2 in
          let at = b.1 in
          let number = r.number in
          let file : suc m + r.k ≡ m + suc r.k = omega arith in
          record {
            k = suc r.k;
            doc = r.doc;
            x = r.x;
            j = r.j;
            doc_is = r.doc_is;
            index_is = r.index_is;
            number = omega (arith, at, number, long);
            within = r.within;
            file_is = r.file_is ∙ file;
          }
    ]

module _ {beside : Beside} (f : RunFacts beside) (facts : AreFacts f) where
  pub found_unit : (i : ℕ) (u : FileUnit EntryName) → slice_get (units f) i ≡ Some u → OfFileAt 0 (docs f) f.indexes i u
  found_unit i u e =
      let r = unit_at 0 first_starts facts.indexed.end (docs f) f.indexes facts.indexed.are i u e in
      let same : 0 + i ≡ i = omega arith in
      subst (λ (w : ℕ). OfFileAt 0 (docs f) f.indexes w u) same r

pub unit_files : UnitFilesLaw
unit_files beside f facts i u nth =
    let g = nth_get 0 (units f) i u nth in
    let r = found_unit f facts g.0 u g.2 in
    let file : 0 + r.k ≡ r.k = omega arith in
    subst (IsReadFile f) (sym (r.file_is ∙ file)) (file_there f facts r.k r.x r.index_is)

-- what is found by a number has that number
pub nth_at : {X : Type 0} (xs : List X) (k : ℕ) (x : X) → slice_get xs k ≡ Some x → Nth 0 xs k x
nth_at xs k x e = (let none : 0 + k ≡ k = omega arith in subst (λ (w : ℕ). Nth 0 xs w x) none (nth_of 0 xs k x e))

-- ---- the units of other files

each_got : {X : Type 0} (P : X → Type 0) (xs : List X) → ((j : ℕ) (x : X) → slice_get xs j ≡ Some x → P x) → Each P xs
each_got P [] h = tt
each_got P (x ∷ xs) h = (h 0 x refl, each_got P xs (λ j y e. h (suc j) y e))

-- a unit of the file stands among those of the file
here : {beside : Beside} (f : RunFacts beside) (facts : AreFacts f) (n : ℕ) (bytes : List ℕ) (x : File) (index : Index) → slice_get f.indexes n ≡ Some index → (is : IsFileAmong f.contents n bytes x index)
    → (i : ℕ) (u : FileUnit EntryName) → slice_get (units f) i ≡ Some u → u.file ≡ n → (index.starts.unit ≤ i) × (i < index.starts.unit + length is.kept.read.doc.units)
here f facts n bytes x index g is i u e of =
    let r = found_unit f facts i u e in
    let none : 0 + r.k ≡ r.k = omega arith in
    let file : r.k ≡ n = sym (r.file_is ∙ none) ∙ of in
    let own : r.x ≡ index = same_got f.indexes n r.x index (ap (slice_get f.indexes) (sym file) ∙ r.index_is) g in
    let said : r.doc ≡ is.kept.read.doc = same_got (docs f) n r.doc is.kept.read.doc (ap (slice_get (docs f)) (sym file) ∙ r.doc_is) is.doc_is in
    let from = ap (λ (w : Index). w.starts.unit) own in
    let long = ap (λ (w : Doc ℕ). length w.units) said in
    let number = r.number in
    let within = r.within in
    (omega arith, omega arith)

pub others : OthersLaw
others beside f facts n bytes x index h is =
    let front = is.units.front in
    let back = is.units.back in
    let part = file_units index.starts n is.kept.read.doc in
    let many = is.units.many in
    let long = units_long index.starts n is.kept.read.doc in (
      each_got (IsOther n) front (λ j u e of.
          (let there : slice_get (units f) j ≡ Some u = ap (λ (w : List (FileUnit EntryName)). slice_get w j) is.units.all_are ∙ get_first front (part ++ back) j u e in
          let low = (here f facts n bytes x index h.index_is is j u there of).0 in
          let high = got_below front j u e in
          omega arith)),
      each_got (IsOther n) back (λ j u e of.
          (let there : slice_get (units f) (length front + (length part + j)) ≡ Some u =
          ap (λ (w : List (FileUnit EntryName)). slice_get w (length front + (length part + j))) is.units.all_are
          ∙ get_later front (part ++ back) (length part + j) u (get_later part back j u e) in
          let high = (here f facts n bytes x index h.index_is is (length front + (length part + j)) u there of).1 in
          omega arith)),
    )
