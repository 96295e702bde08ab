-- Files that are kept have one list of indexes.
use Rattle.std.proofs.Common.{◌≡◌, ℕ, List, [], ◌∷◌, Ok, refl, sym, subst, ◌∙◌}
use Rattle.dwz_def_reading.proofs.MeaningUnits.{units_agree}
use Rattle.dwz_def_reading.specs.Documents.{Doc}
use Rattle.dwz_def_reading.specs.Files.{Limits, around_of, file_meaning, limits_after, no_files_before}
use Rattle.dwz_unit.specs.Rows.{Source, units_of}
use Rattle.dwz_graph.specs.declared.file.File.{File}
use Rattle.dwz_graph.specs.declared.index.Starts.{Starts}
use Rattle.dwz_graph.specs.Building.{nothing_yet, with_units}
use Rattle.dwz_graph.specs.Files.{AreKept, docs_of}
use Rattle.dwz_graph_resolve.specs.Given.{AreGiven}
use Rattle.dwz_graph.specs.Index.{Index}
use Rattle.dwz_graph.specs.Indexed.{AreIndexed, AreIndexes, IsIndexOf, first_starts, starts_behind}
use Rattle.dwz_graph.proofs.IndexSteps.{AreDocs, docs_are, docs_there}
use Rattle.dwz_graph.proofs.TopNameLemmas.{means_units}
use Rattle.dwz_graph_resolve.proofs.UnitStarts.{all_whole}
use Rattle.dwz_graph.proofs.UnitsMean.{has_tops, is_index}

-- ---- no more than one

same_index : (s : Starts) (doc : Doc ℕ) (x y : Index) → IsIndexOf s doc x → IsIndexOf s doc y → x ≡ y
same_index s doc x y a b =
    let starts = a.tops.starts_are ∙ sym b.tops.starts_are in
    let steps = a.tops.steps_are ∙ sym b.tops.steps_are in
    let tops = a.tops.tops_are ∙ sym b.tops.tops_are in
    let spaces = a.tops.spaces_are ∙ sym b.tops.spaces_are in
    (λ j. record { steps = steps j; tops = tops j; spaces = spaces j; starts = starts j })

same_indexed : (s : Starts) (docs : List (Doc ℕ)) (xs ys : List Index) (end other : Starts) → AreIndexed s docs xs end → AreIndexed s docs ys other → xs ≡ ys
same_indexed s [] [] [] end other a b = refl
same_indexed s [] [] (y ∷ ys) end other a b = absurd b
same_indexed s [] (x ∷ xs) ys end other a b = absurd a
same_indexed s (doc ∷ docs) [] ys end other a b = absurd a
same_indexed s (doc ∷ docs) (x ∷ xs) [] end other a b = absurd b
same_indexed s (doc ∷ docs) (x ∷ xs) (y ∷ ys) end other a b =
    let one = same_index s doc x y a.0 b.0 in
    let rest = same_indexed (starts_behind s doc x) docs xs ys end other a.1 (subst (λ (w : Index). AreIndexed (starts_behind s doc w) docs ys other) (sym one) b.1) in
    (λ j. one j ∷ rest j)

pub same_indexes : (docs : List (Doc ℕ)) (xs ys : List Index) → AreIndexes docs xs → AreIndexes docs ys → xs ≡ ys
same_indexes docs xs ys a b = same_indexed first_starts docs xs ys a.end b.end a.are b.are

-- what holds of one list of indexes, holds of each
pub of_indexes : (docs : List (Doc ℕ)) (P : List Index → Type 0) (xs : List Index) → AreIndexes docs xs → P xs → (ys : List Index) → AreIndexes docs ys → P ys
of_indexes docs P xs a p ys b = subst P (same_indexes docs xs ys a b) p

-- ---- and one

pub record HaveIndexes (docs : List (Doc ℕ)) : Type 0 where
  pub indexes : List Index
  pub are : AreIndexes docs indexes

record HaveIndexed (s : Starts) (docs : List (Doc ℕ)) : Type 0 where
  indexes : List Index
  end : Starts
  are : AreIndexed s docs indexes end

index_there : (s : Starts) (l : Limits) (bytes : List ℕ) (units : Source) (doc : Doc ℕ) → file_meaning l bytes ≡ Ok (units_of units, doc) → AreGiven units
    → IsIndexOf s doc (with_units s.unit 0 (units_of units) (nothing_yet s))
index_there s l bytes units doc means given =
    let raw = units_of units in
    let around = around_of bytes raw in
    let x = with_units s.unit 0 raw (nothing_yet s) in
    let said = ((units_agree around raw).ok doc.units).0 (means_units l bytes raw doc means) in
    record { names = is_index around s raw doc.units x (all_whole units given) said refl; tops = has_tops around s raw doc.units x said refl }

indexed_there : (s : Starts) (l : Limits) (contents : List (List ℕ)) (files : List File) (docs : List (Doc ℕ)) → AreDocs l contents files docs → HaveIndexed s docs
indexed_there s l [] [] [] h = record { indexes = []; end = s; are = refl }
indexed_there s l (b ∷ contents) (f ∷ files) (doc ∷ docs) h =
    let x = with_units s.unit 0 (units_of f.units) (nothing_yet s) in
    let r = indexed_there (starts_behind s doc x) (limits_after l b (units_of f.units)) contents files docs h.2 in
    record { indexes = x ∷ r.indexes; end = r.end; are = (index_there s l b f.units doc h.0 h.1, r.are) }
indexed_there s l [] [] (doc ∷ docs) h = absurd h
indexed_there s l [] (f ∷ files) docs h = absurd h
indexed_there s l (b ∷ contents) [] docs h = absurd h
indexed_there s l (b ∷ contents) (f ∷ files) [] h = absurd h

pub indexes_there : (contents : List (List ℕ)) (files : List File) → AreKept contents files → HaveIndexes (docs_of contents)
indexes_there contents files kept =
    let d = docs_there no_files_before 0 contents files kept.end kept.are in
    let r = indexed_there first_starts no_files_before contents files d.docs d.are in
    subst (λ (w : List (Doc ℕ)). HaveIndexes w) (sym (docs_are contents files d.docs d.are)) (record { indexes = r.indexes; are = record { end = r.end; are = r.are } })
