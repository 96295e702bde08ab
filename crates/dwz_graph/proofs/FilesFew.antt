-- File by file: what the files before leave is enough for all numbers.
use Rattle.std.proofs.Common.{◌≡◌, ℕ, zero, suc, ◌+◌, ◌≤◌, ◌^◌, List, [], ◌∷◌, length, Some, Ok, slice_get, sym, ap, subst, ◌∙◌, arith}
use Rattle.std.specs.List.{flat_map}
use Rattle.std.proofs.lemmas.List.{length-append}
use Rattle.dwz_def_reading.specs.Units.{entries_in}
use Rattle.dwz_def_reading.specs.Documents.{Doc}
use Rattle.dwz_def_reading.specs.Files.{Limits, files_meaning, limits_after, most_entries, no_files_before}
use Rattle.dwz_def_reading.proofs.UnitMeans.{no_files}
use Rattle.dwz_def_tops.specs.Spots.{tops_among, tops_of, units_of}
use Rattle.dwz_graph.specs.declared.file.File.{File}
use Rattle.dwz_graph.specs.Files.{AreKept, AreRead, IsRead, docs_of}
use Rattle.dwz_graph.proofs.GraphLemmas.{files_read}
use Rattle.dwz_graph.specs.declared.index.Starts.{Starts}
use Rattle.dwz_graph.specs.declared.index.TopEntry.{TopEntry}
use Rattle.dwz_graph.specs.Index.{Index}
use Rattle.dwz_graph.specs.Names.{names_from}
use Rattle.dwz_graph.proofs.TopLemmas.{many}
use Rattle.dwz_graph.specs.Indexed.{AreIndexed, AreIndexes, IsIndexOf, first_starts, starts_behind}
use Rattle.dwz_unit.specs.Rows.{units_of as raw_units}
use Rattle.dwz_graph.specs.Across.{starts_from as numbers_from}
use Rattle.dwz_graph.proofs.FileCounts.{all_ends}
use Rattle.dwz_graph.proofs.FileWalk.{first_doc}
use Rattle.dwz_graph.proofs.FileRoom.{no_doc}
use Rattle.dwz_graph.specs.EntryCounts.{entry_count, starts_from}
use Rattle.dwz_graph.specs.AllNames.{all_names, names_of_files}
use Rattle.dwz_graph.specs.Few.{HaveSmallNumbers, HasSmallNumbers, entries_in_files}
use Rattle.dwz_graph.proofs.SpacesFew.{Counted, counts, few_entries, names_many}

-- ---- entries

entries_few : (l : Limits) (n : ℕ) (contents : List (List ℕ)) (files : List File) (left : Limits) → AreRead l n contents files left → entries_in_files files ≤ l.entries
unfolding entries_in_files
entries_few l n [] [] left h = omega arith
entries_few l n [] (y ∷ files) left h = absurd h
entries_few l n (b ∷ contents) [] left h = absurd h
entries_few l n (b ∷ contents) (y ∷ files) left h =
    let own = few_entries l b (raw_units y.units) h.0.doc h.0.means in
    let more = entries_few (limits_after l b (raw_units y.units)) (suc n) contents files left h.1 in
    omega arith

pub all_few : (contents : List (List ℕ)) (files : List File) → AreKept contents files → entries_in_files files ≤ 2 ^ 24
unfolding most_entries
all_few contents files kept = entries_few no_files_before 0 contents files kept.end kept.are

names_counted : (l : Limits) (n unit top : ℕ) (contents : List (List ℕ)) (files : List File) (left : Limits) (docs : List (Doc ℕ)) → AreRead l n contents files left
    → files_meaning l n contents ≡ Ok docs
    → length (names_of_files unit top docs) ≡ entries_in_files files
unfolding entries_in_files names_of_files
names_counted l n unit top [] [] left docs h m = ap (λ (w : List (Doc ℕ)). length (names_of_files unit top w)) (sym (no_files l n docs m))
names_counted l n unit top [] (y ∷ files) left docs h m = absurd h
names_counted l n unit top (b ∷ contents) [] left docs h m = absurd h
names_counted l n unit top (b ∷ contents) (y ∷ files) left docs h m =
    let r = first_doc l n b contents y docs h.0 m in
    let d = h.0.doc in
    let own = names_many l b (raw_units y.units) d unit top h.0.means in
    let more = names_counted (limits_after l b (raw_units y.units)) (suc n) (unit + length d.units) (top + tops_among d.units) contents files left r.0 h.1 r.1 in
    let both = length-append (names_from unit top d.units) (names_of_files (unit + length d.units) (top + tops_among d.units) r.0) in
    let all : length (names_of_files unit top (d ∷ r.0)) ≡ entries_in (raw_units y.units) + entries_in_files files = omega arith in
    ap (λ (w : List (Doc ℕ)). length (names_of_files unit top w)) (sym r.2) ∙ all

pub names_few : (contents : List (List ℕ)) (files : List File) → AreKept contents files → length (all_names (docs_of contents)) ≤ 2 ^ 24
names_few contents files kept =
    let same = names_counted no_files_before 0 0 0 contents files kept.end (docs_of contents) kept.are (files_read contents files kept.end kept.are) in
    let few = all_few contents files kept in
    omega arith

-- ---- numbers

record Fits (most : ℕ) (s : Starts) (start count : ℕ) : Type 0 where
  units : s.unit + count ≤ most
  tops : s.top + count ≤ most
  spaces : s.space + count ≤ most
  entries : start + count ≤ most

-- what is known of the first file
record First (most : ℕ) (l : Limits) (n : ℕ) (b : List ℕ) (contents : List (List ℕ)) (y : File) (s : Starts) (d : Doc ℕ) (docs : List (Doc ℕ)) (x : Index) (start : ℕ) : Type 0 where
  counted : Counted l (raw_units y.units) d x
  rest : files_meaning (limits_after l b (raw_units y.units)) (suc n) contents ≡ Ok docs
  here : Fits most s start (entries_in (raw_units y.units))
  behind : Fits most (starts_behind s d x) (start + length x.steps) (limits_after l b (raw_units y.units)).entries

first_fits : (most : ℕ) (l : Limits) (n : ℕ) (b : List ℕ) (contents : List (List ℕ)) (y : File) (s : Starts) (d : Doc ℕ) (docs : List (Doc ℕ)) (x : Index) (start : ℕ) → IsRead l n b y
    → files_meaning l n (b ∷ contents) ≡ Ok (d ∷ docs)
    → IsIndexOf s d x → Fits most s start l.entries → First most l n b contents y s d docs x start
first_fits most l n b contents y s d docs x start h m is fits =
    let r = first_doc l n b contents y (d ∷ docs) h m in
    let same : r.0 ≡ docs = (let both = r.2 in cc) in
    let doc_is : h.doc ≡ d = (let both = r.2 in cc) in
    let raw = raw_units y.units in
    let c : Counted l raw d x = subst (λ (w : Doc ℕ). Counted l raw w x) doc_is (counts l b raw h.doc s x h.means (subst (λ (w : Doc ℕ). IsIndexOf s w x) (sym doc_is) is)) in
    let few = c.few in
    let steps = c.steps in
    let units = c.units in
    let tops = c.tops in
    let spaces = c.spaces in
    let e = fits.units in
    let f = fits.tops in
    let g = fits.spaces in
    let k = fits.entries in
    record {
      counted = c;
      rest = r.1 ∙ ap (λ (w : List (Doc ℕ)). Ok w) same;
      here = record { units = omega arith; tops = omega arith; spaces = omega arith; entries = omega arith };
      behind = record { units = omega arith; tops = omega arith; spaces = omega arith; entries = omega arith };
    }

-- of the file with a number
file_fits : (most : ℕ) (l : Limits) (n : ℕ) (contents : List (List ℕ)) (files : List File) (left : Limits) (docs : List (Doc ℕ)) (indexes : List Index) (s end : Starts) (start : ℕ)
    → AreRead l n contents files left → files_meaning l n contents ≡ Ok docs
    → AreIndexed s docs indexes end → Fits most s start l.entries → (k at : ℕ) (f : File) (x : Index) → slice_get files k ≡ Some f → slice_get indexes k ≡ Some x
    → slice_get (starts_from start indexes) k ≡ Some at
    → Fits most x.starts at (entries_in (raw_units f.units)) × (length (raw_units f.units) ≤ entries_in (raw_units f.units))
unfolding starts_from
file_fits most l n contents [] left docs indexes s end start h m is fits k at f x p q e = absurd cc
file_fits most l n contents (y ∷ files) left docs [] s end start h m is fits k at f x p q e = absurd cc
file_fits most l n [] (y ∷ files) left docs (z ∷ indexes) s end start h m is fits k at f x p q e = absurd h
file_fits most l n (b ∷ contents) (y ∷ files) left [] (z ∷ indexes) s end start h m is fits k at f x p q e = absurd is
file_fits most l n (b ∷ contents) (y ∷ files) left (d ∷ docs) (z ∷ indexes) s end start h m is fits zero at f x p q e =
    let r = first_fits most l n b contents y s d docs z start h.0 m is.0 fits in
    let f_is : y ≡ f = cc in
    let x_is : z ≡ x = cc in
    let at_is : start ≡ at = cc in
    let from : s ≡ z.starts = sym is.0.tops.starts_are in
    let begin : Fits most x.starts start (entries_in (raw_units y.units)) = subst (λ (w : Starts). Fits most w start (entries_in (raw_units y.units))) (from ∙ ap (λ (w : Index). w.starts) x_is)
    r.here in
    let counted : Fits most x.starts at (entries_in (raw_units y.units)) = subst (λ (w : ℕ). Fits most x.starts w (entries_in (raw_units y.units))) at_is begin in (
      subst (λ (w : File). Fits most x.starts at (entries_in (raw_units w.units))) f_is counted,
      subst (λ (w : File). length (raw_units w.units) ≤ entries_in (raw_units w.units)) f_is
          r.counted.raw_units,
    )
file_fits most l n (b ∷ contents) (y ∷ files) left (d ∷ docs) (z ∷ indexes) s end start h m is fits (suc k) at f x p q e =
    let r = first_fits most l n b contents y s d docs z start h.0 m is.0 fits in
    file_fits most (limits_after l b (raw_units y.units)) (suc n) contents files left docs indexes (starts_behind s d z) end (start + length z.steps) h.1 r.rest is.1 r.behind k at f x p q e

-- and behind so many files
starts_fit : (most : ℕ) (l : Limits) (n : ℕ) (contents : List (List ℕ)) (files : List File) (left : Limits) (docs : List (Doc ℕ)) (indexes : List Index) (s end : Starts) (start : ℕ)
    → AreRead l n contents files left → files_meaning l n contents ≡ Ok docs
    → AreIndexed s docs indexes end → Fits most s start l.entries → Fits most end (start + entry_count indexes) 0
unfolding entry_count
starts_fit most l n contents files left [] [] s end start h m is fits =
    let e = fits.units in
    let f = fits.tops in
    let g = fits.spaces in
    let k = fits.entries in
    subst (λ (w : Starts). Fits most w (start + 0) 0) is (record { units = omega arith; tops = omega arith; spaces = omega arith; entries = omega arith })
starts_fit most l n contents files left [] (z ∷ indexes) s end start h m is fits = absurd is
starts_fit most l n contents files left (d ∷ docs) [] s end start h m is fits = absurd is
starts_fit most l n [] files left (d ∷ docs) (z ∷ indexes) s end start h m is fits = absurd (no_doc l n d docs m)
starts_fit most l n (b ∷ contents) [] left (d ∷ docs) (z ∷ indexes) s end start h m is fits = absurd h
starts_fit most l n (b ∷ contents) (y ∷ files) left (d ∷ docs) (z ∷ indexes) s end start h m is fits =
    let r = first_fits most l n b contents y s d docs z start h.0 m is.0 fits in
    let more = starts_fit most (limits_after l b (raw_units y.units)) (suc n) contents files left docs indexes (starts_behind s d z) end (start + length z.steps) h.1 r.rest is.1 r.behind in
    let same : start + length z.steps + entry_count indexes ≡ start + (length z.steps + entry_count indexes) = omega arith in
    subst (λ (k : ℕ). Fits most end k 0) same more

begins : Fits (2 ^ 24) first_starts 0 no_files_before.entries
unfolding most_entries
begins = record { units = omega arith; tops = omega arith; spaces = omega arith; entries = omega arith }

pub file_small : (contents : List (List ℕ)) (files : List File) (indexes : List Index) (file start : ℕ) (f : File) (x : Index) → AreKept contents files → AreIndexes (docs_of contents) indexes
    → slice_get files file ≡ Some f → slice_get indexes file ≡ Some x → slice_get (starts_from 0 indexes) file ≡ Some start
    → HasSmallNumbers x.starts start (entries_in (raw_units f.units)) × (length (raw_units f.units) ≤ entries_in (raw_units f.units))
file_small contents files indexes file start f x kept is p q e =
    let r = file_fits (2 ^ 24) no_files_before 0 contents files kept.end (docs_of contents) indexes first_starts is.end 0 kept.are (files_read contents files kept.end kept.are) is.are begins file
    start f x p q e in
    let fits = r.0 in
    (record { units = fits.units; tops = fits.tops; spaces = fits.spaces; entries = fits.entries }, r.1)

-- ---- all

listed : (s end : Starts) (docs : List (Doc ℕ)) (indexes : List Index) → AreIndexed s docs indexes end
    → (s.top + length (flat_map (λ (x : Index). x.tops) indexes) ≡ end.top) × (s.space + length (flat_map (λ (x : Index). x.spaces) indexes) ≡ end.space)
listed s end [] [] h = (let e : s.top + 0 ≡ s.top = omega arith in e ∙ ap (λ (w : Starts). w.top) h, let e : s.space + 0 ≡ s.space = omega arith in e ∙ ap (λ (w : Starts). w.space) h)
listed s end [] (x ∷ indexes) h = absurd h
listed s end (d ∷ docs) [] h = absurd h
listed s end (d ∷ docs) (x ∷ indexes) h =
    let r = listed (starts_behind s d x) end docs indexes h.1 in
    let count : length x.tops ≡ tops_among d.units = ap (λ (w : List TopEntry). length w) h.0.tops.tops_are ∙ many s 0 d.units in
    let tops = length-append x.tops (flat_map (λ (y : Index). y.tops) indexes) in
    let spaces = length-append x.spaces (flat_map (λ (y : Index). y.spaces) indexes) in
    let a = r.0 in
    let b = r.1 in
    (omega arith, omega arith)

ends : (s end : Starts) (docs : List (Doc ℕ)) (indexes : List Index) → AreIndexed s docs indexes end → numbers_from s docs indexes (length indexes) ≡ end
unfolding numbers_from
ends s end [] [] h = h
ends s end [] (x ∷ indexes) h = absurd h
ends s end (d ∷ docs) [] h = absurd h
ends s end (d ∷ docs) (x ∷ indexes) h = ends (starts_behind s d x) end docs indexes h.1

pub all_small : (contents : List (List ℕ)) (files : List File) (indexes : List Index) → AreKept contents files → AreIndexes (docs_of contents) indexes → HaveSmallNumbers (docs_of contents) indexes
all_small contents files indexes kept is =
    let docs = docs_of contents in
    let fits = starts_fit (2 ^ 24) no_files_before 0 contents files kept.end docs indexes first_starts is.end 0 kept.are (files_read contents files kept.end kept.are) is.are begins in
    let end = all_ends contents indexes is in
    let at = ends first_starts is.end docs indexes is.are in
    let units : is.end.unit ≡ length (units_of docs) = ap (λ (w : Starts). w.unit) (sym at) ∙ end.0 in
    let tops : is.end.top ≡ length (tops_of (units_of docs)) = ap (λ (w : Starts). w.top) (sym at) ∙ end.1 in
    let list = listed first_starts is.end docs indexes is.are in
    let a = fits.units in
    let b = fits.tops in
    let c = fits.spaces in
    let d = fits.entries in
    let e = list.0 in
    let f = list.1 in
    record { entries = omega arith; units = omega arith; tops = omega arith; listed = omega arith; spaces = omega arith }
