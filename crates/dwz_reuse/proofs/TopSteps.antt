-- The tops of an index, one after the other.
use Rattle.std.proofs.Common.{◌≡◌, ℕ, ◌+◌, ◌<◌, Bool, List, [], ◌∷◌, ◌++◌, None, Option, Ok, Some, get_or, length, map, slice_get, take, sym, ap, subst, ◌∙◌, arith}
use Rattle.std.proofs.lemmas.List.{map-append, take_more}
use Rattle.dwz_model.proofs.ListFacts.{got_below, got_index_or, got_there}
use Rattle.dwz_check_index.specs.Both.{from_top}
use Rattle.dwz_check_index.specs.Index.{CrossIndex, IsCrossIndex, IsTopEntry, ListedEntry, listed_units}
use Rattle.dwz_check_index.specs.declared.index.TopEntry.{TopEntry}
use Rattle.dwz_check_labels.specs.FilesSaid.{IsFileSaid, around_given}
use Rattle.dwz_check_labels.proofs.EntryLemmas.{row_of}
use Rattle.dwz_check_labels.proofs.StepLemmas.{found_or}
use Rattle.dwz_def_check.specs.CrossNames.{cross_names_from, cross_tops}
use Rattle.dwz_def_cross.specs.Tops.{CrossTop}
use Rattle.dwz_def_reading.specs.Documents.{DwUnit}
use Rattle.dwz_def_reading.specs.Meanings.{Around}
use Rattle.dwz_def_reading.specs.Meant.{units_meaning}
use Rattle.dwz_def_reading.specs.Units.{RawUnit, entries_in}
use Rattle.dwz_def_tops.specs.Spots.{EntryName}
use Rattle.dwz_graph.specs.declared.file.File.{File}
use Rattle.dwz_graph.specs.Parts.{AreParted}
use Rattle.dwz_move.specs.Known.{KnowsRefs, tops_of_refs}
use Rattle.dwz_unit.specs.Rows.{rows_of, units_of}
use Rattle.dwz_unit.proofs.ShownLemmas.{rows_from-length}

-- what is made of the first so many, and of one more
pub flags_next : {X : Type 0} → (test : X → Bool) (xs : List X) (i : ℕ) (t : X) (old new : List Bool) (b : Bool) → slice_get xs i ≡ Some t → old ≡ map test (take i xs) → new ≡ old ++ b ∷ []
    → b ≡ test t → new ≡ map test (take (i + 1) xs)
flags_next test xs i t old new b got are more is =
    let one = take_more xs i t (got_below xs i t got) ∙ ap (λ w. take i xs ++ w ∷ []) (got_index_or xs i t t got) in
    more ∙ (λ k. are k ++ is k ∷ []) ∙ sym (map-append test (take i xs) (t ∷ [])) ∙ ap (map test) (sym one)

-- an entry has a row
pub entry_low : (around : Around ℕ) (raw : List RawUnit) (said : List (DwUnit ℕ)) (i : ℕ) (d : ListedEntry ℕ) → units_meaning around raw ≡ Ok said → slice_get (listed_units said) i ≡ Some d
    → i < entries_in raw
entry_low around raw said i d means found =
    let r = row_of around raw said i d means found in
    let low = got_below (rows_of raw) i r.row r.found in
    let many = rows_from-length raw 0 0 in
    omega (arith, low, many)

pub record TopAt (said : List (DwUnit ℕ)) (top i : ℕ) (x : TopEntry) : Type 0 where
  pub t : CrossTop ℕ
  pub got : slice_get (cross_tops said) i ≡ Some t
  pub is : IsTopEntry said (cross_names_from 0 top said) (listed_units said) (top + i) x t

pub top_here : (said : List (DwUnit ℕ)) (top : ℕ) (index : CrossIndex) → IsCrossIndex (from_top top) said index → (list : List TopEntry) → list ≡ index.tops → (i : ℕ) (d : TopEntry) → i < length list
    → TopAt said top i (get_or list i d)
top_here said top index is list are i d lt =
    let many = is.tops.len in
    let long = ap (λ (w : List TopEntry). length w) are in
    let o = got_there (cross_tops said) i (omega (arith, lt, many, long)) in
    let found = subst (λ (w : List TopEntry). slice_get w i ≡ Some (get_or list i d)) are (found_or list i d lt) in
    record { t = o.0; got = o.1; is = is.tops.each i (get_or list i d) o.0 found o.1 }

-- what a file that was read by itself says of its references
pub refs_known : (f : File) (said : List (DwUnit ℕ)) → IsFileSaid f None said → (name : ℕ → EntryName) (into : List (Option ℕ)) → into ≡ tops_of_refs name (units_of f.units) f.resolved.refs.items
    → (starts : List ℕ) → starts ≡ f.resolved.starts.items → KnowsRefs (around_given f None) (units_of f.units) name f.resolved.refs.items starts into
refs_known f said is name into are starts begin = record {
  parted = subst (λ (w : List ℕ). AreParted (around_given f None) (units_of f.units) (entries_in (units_of f.units)) f.resolved.refs.items w) (sym begin) is.parts;
  entries = is.refs;
  into_are = are;
}
