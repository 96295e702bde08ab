-- The runs of tops among the names of the entries of files, and how many tops files have.
use Rattle.std.proofs.Common.{◌≡◌, ℕ, suc, ◌+◌, ◌≤◌, List, [], ◌∷◌, ◌++◌, length, map, refl, sym, ap, subst, ◌∙◌, inl, inr, arith}
use Rattle.dwz_def_reading.specs.Lists.{Each, In}
use Rattle.dwz_def_reading.proofs.ListFacts.{in_cases}
use Rattle.dwz_def_reading.specs.Documents.{Compile, Doc, DwUnit, Entries, Kind, OfType, Partial, kind_map, language, unit_map}
use Rattle.dwz_def_tops.proofs.Members.{each_append}
use Rattle.dwz_def_tops.specs.Spots.{EntryName, FileUnit, InType, RootOf, Top, in_file, named_files, row_below, row_in, row_tops, spot_in, spots_from, top_count, tops_among, tops_from, tops_of}
use Rattle.dwz_def_tops.specs.Spots.{units_of}
use Rattle.dwz_def_tops.proofs.NameLists.{count_map}
use Rattle.dwz_def_tops.proofs.RowLemmas.{row_is}
use Rattle.dwz_def_tops.proofs.FiledTops.{counted, tops_length, tops_append}
use Rattle.dwz_graph.specs.Names.{names_from}
use Rattle.dwz_graph.proofs.TopLemmas.{below_names}
use Rattle.dwz_graph.specs.AllNames.{names_of_files}
use Rattle.dwz_layout_numbers.proofs.Paths.{names_paths, paths_in, paths_of}
use Rattle.dwz_layout_numbers.proofs.Runs.{Between, Run, row_run, run_left, run_right, tops_between, wider}

-- ---- below a root

type_between : (low high unit : ℕ) (paths : List (List ℕ)) → Each (Between low high) (map (InType unit) paths)
type_between low high unit [] = tt
type_between low high unit (p ∷ paths) = (tt, type_between low high unit paths)

below_between : (unit top high : ℕ) (kind : Kind ℕ) (f : Entries ℕ) → top + top_count kind f ≤ high → Each (Between top high) (below_names unit top kind f)
below_between unit top high Compile f le = tops_between unit [] 0 top high f le
below_between unit top high (OfType signature main) f le = subst (Each (Between top high)) (sym (names_paths (InType unit) [] 0 f)) (type_between top high unit (paths_in [] 0 f))
below_between unit top high Partial f le = tt

module _ (file : ℕ) (name : ℕ → EntryName) where
  below_run : (unit top high : ℕ) (v : DwUnit ℕ) (kind : Kind ℕ) → top + top_count kind v.below ≤ high → (t : Top)
      → In t (row_tops (row_below file unit top (unit_map name v) (kind_map name kind))) → Run top high (below_names unit top kind v.below) t.number (paths_of t.below)
  unfolding row_tops
  below_run unit top high v Compile le t is =
      let u = unit_map name v in
      row_run file unit (language u) name unit [] 0 top high [] (row_in file unit (language u) [] top u.below) v.below (row_is file unit (language u) [] top u.below) le t is
  below_run unit top high v (OfType signature main) le t is = absurd is
  below_run unit top high v Partial le t is = absurd is

-- ---- of units

pub units_between : (unit top high : ℕ) (units : List (DwUnit ℕ)) → top + tops_among units ≤ high → Each (Between top high) (names_from unit top units)
unfolding names_from tops_among
units_between unit top high [] le = tt
units_between unit top high (v ∷ units) le =
    let mid = top + top_count v.kind v.below in
    let rest = names_from (suc unit) mid units in (
      tt,
      each_append (Between top high) (below_names unit top v.kind v.below) rest (below_between unit top high v.kind v.below (omega (arith, le)))
          (wider mid high top high (omega arith) (omega arith) rest (units_between (suc unit) mid high units (omega (arith, le)))),
    )

abbrev pub filed : ℕ → (ℕ → EntryName) → List (DwUnit ℕ) → List (FileUnit EntryName)
filed file name units = map (in_file file) (map (unit_map name) units)

pub units_run : (file : ℕ) (name : ℕ → EntryName) (unit top high : ℕ) (units : List (DwUnit ℕ)) → top + tops_among units ≤ high → (t : Top) → In t (tops_from unit top (filed file name units))
    → Run top high (names_from unit top units) t.number (paths_of t.below)
unfolding names_from tops_among tops_from
units_run file name unit top high [] le t is = absurd is
units_run file name unit top high (v ∷ units) le t is =
    let w = unit_map name v in
    let mid = top + top_count v.kind v.below in
    let same = count_map name v.kind v.below in
    let own = below_names unit top v.kind v.below in
    let rest = names_from (suc unit) mid units in
    let root : Each (Between top top) (RootOf unit ∷ []) = (tt, tt) in
    run_right top top high t.number (paths_of t.below) (RootOf unit ∷ []) (own ++ rest) (omega arith) root
    (elim (in_cases t (row_tops (row_below file unit top w w.kind)) (tops_from (suc unit) (top + top_count w.kind w.below) (filed file name units)) is) [
      | inl a ↦ run_left top mid high t.number (paths_of t.below) own rest (omega (arith, le)) (below_run file name unit top mid v v.kind (omega arith) t a)
          (units_between (suc unit) mid high units (omega (arith, le)))
      | inr b ↦ run_right top mid high t.number (paths_of t.below) own rest (omega arith) (below_between unit top mid v.kind v.below (omega arith))
          (units_run file name (suc unit) mid high units (omega (arith, le)) t (subst (λ (n : ℕ). In t (tops_from (suc unit) (top + n) (filed file name units))) same b))
    ])

-- ---- how many tops there are

pub counted_append : (xs ys : List (FileUnit EntryName)) → counted (xs ++ ys) ≡ counted xs + counted ys
unfolding counted
counted_append [] ys = (let e : counted ys ≡ 0 + counted ys = omega arith in e)
counted_append (f ∷ xs) ys = (let h = counted_append xs ys in omega (arith, h))

pub filed_counted : (file : ℕ) (name : ℕ → EntryName) (units : List (DwUnit ℕ)) → counted (filed file name units) ≡ tops_among units
unfolding counted tops_among
filed_counted file name [] = refl
filed_counted file name (v ∷ units) = (λ j. count_map name v.kind v.below j + filed_counted file name units j)

pub filed_length : (file : ℕ) (name : ℕ → EntryName) (units : List (DwUnit ℕ)) → length (filed file name units) ≡ length units
filed_length file name [] = refl
filed_length file name (v ∷ units) = ap suc (filed_length file name units)

unfoldable pub tops_in_all : List (Doc ℕ) → ℕ
tops_in_all [] = 0
tops_in_all (doc ∷ docs) = tops_among doc.units + tops_in_all docs

files_counted : (file unit top : ℕ) (docs : List (Doc ℕ)) → counted (named_files file unit top docs) ≡ tops_in_all docs
unfolding named_files tops_in_all counted
files_counted file unit top [] = refl
files_counted file unit top (doc ∷ docs) =
    let name = spot_in (spots_from unit top doc.units) in
    let rest = named_files (suc file) (unit + length doc.units) (top + tops_among doc.units) docs in
    counted_append (filed file name doc.units) rest ∙ (λ j. filed_counted file name doc.units j + files_counted (suc file) (unit + length doc.units) (top + tops_among doc.units) docs j)

pub many_tops : (docs : List (Doc ℕ)) → length (tops_of (units_of docs)) ≡ tops_in_all docs
many_tops docs = tops_length 0 0 (units_of docs) ∙ files_counted 0 0 0 docs

-- ---- of files

pub files_between : (unit top high : ℕ) (docs : List (Doc ℕ)) → top + tops_in_all docs ≤ high → Each (Between top high) (names_of_files unit top docs)
unfolding names_of_files tops_in_all
files_between unit top high [] le = tt
files_between unit top high (doc ∷ docs) le =
    let mid = top + tops_among doc.units in
    let rest = names_of_files (unit + length doc.units) mid docs in
    each_append (Between top high) (names_from unit top doc.units) rest (units_between unit top high doc.units (omega (arith, le)))
    (wider mid high top high (omega arith) (omega arith) rest (files_between (unit + length doc.units) mid high docs (omega (arith, le))))

pub files_run : (file unit top high : ℕ) (docs : List (Doc ℕ)) → top + tops_in_all docs ≤ high → (t : Top) → In t (tops_from unit top (named_files file unit top docs))
    → Run top high (names_of_files unit top docs) t.number (paths_of t.below)
unfolding names_of_files tops_in_all named_files tops_from
files_run file unit top high [] le t is = absurd is
files_run file unit top high (doc ∷ docs) le t is =
    let name = spot_in (spots_from unit top doc.units) in
    let own = filed file name doc.units in
    let mid = top + tops_among doc.units in
    let others = named_files (suc file) (unit + length doc.units) mid docs in
    let names = names_from unit top doc.units in
    let rest = names_of_files (unit + length doc.units) mid docs in
    elim (in_cases t (tops_from unit top own) (tops_from (unit + length own) (top + counted own) others) (subst (In t) (tops_append unit top own others) is)) [
      | inl a ↦ run_left top mid high t.number (paths_of t.below) names rest (omega (arith, le)) (units_run file name unit top mid doc.units (omega arith) t a)
          (files_between (unit + length doc.units) mid high docs (omega (arith, le)))
      | inr b ↦ run_right top mid high t.number (paths_of t.below) names rest (omega arith) (units_between unit top mid doc.units (omega arith))
          (files_run (suc file) (unit + length doc.units) mid high docs (omega (arith, le)) t
          (subst (λ (w : ℕ). In t (tops_from (unit + length doc.units) (top + w) others)) (filed_counted file name doc.units)
          (subst (λ (w : ℕ). In t (tops_from (unit + w) (top + counted own) others)) (filed_length file name doc.units) b)))
    ]
