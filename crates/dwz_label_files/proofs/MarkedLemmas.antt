-- Labels that tell marks, one behind the other.
use Rattle.std.proofs.Common.{◌≡◌, ℕ, ◌+◌, Bool, true, false, List, [], ◌∷◌, ◌++◌, length, Some, slice_get, refl, sym, ap, subst, ◌∙◌, ⊎_elim, arith}
use Rattle.std.specs.Prelude.{slice_index_or}
use Rattle.std.proofs.lemmas.Bool.{cases_lt}
use Rattle.std.proofs.lemmas.List.{length-append}
use Rattle.dwz_def_reading.specs.Lists.{In}
use Rattle.dwz_def_reading.proofs.ListFacts.{get_first, get_last, got_index_or, got_there}
use Rattle.dwz_def_tops.specs.Alike.{Movable}
use Rattle.dwz_def_tops.specs.Deciding.{AreMovable}
use Rattle.dwz_def_tops.specs.Spots.{EntryName, FileUnit, Top, name_list, tops_of}
use Rattle.dwz_def_tops.proofs.AlikeBound.{movable_decides}
use Rattle.dwz_def_tops.proofs.TopNumbers.{at_number, tops_numbers}
use Rattle.dwz_graph.specs.declared.file.File.{File}
use Rattle.dwz_label.specs.Labels.{place_label}
use Rattle.dwz_label.specs.Shown.{nth_label}
use Rattle.dwz_label.proofs.NodeLooks.{top_below}
use Rattle.dwz_label_files.specs.Marked.{AreNamesIn, HasPlace, IsStretch, TellFrom}
use Rattle.dwz_label_files.specs.Shown.{ShowTargets}
use Rattle.dwz_label_files.specs.declared.marks.Place.{Place}
use Rattle.dwz_label_files.specs.declared.run.Run.{Run}
use Rattle.dwz_label_files.specs.declared.stretch.Stretch.{Stretch}
use Rattle.dwz_label_marks.specs.Marks.{Mark, marks_of}
use Rattle.dwz_label_marks.specs.Shown.{ShowApart, TellApart}
use Rattle.dwz_label_marks.specs.Told.{Adds, Keeps, Tells}
use Rattle.dwz_label_marks.proofs.AddsLemmas.{adds_kept}
use Rattle.dwz_label_marks.proofs.ShownLemmas.{marks_apart}
use Rattle.dwz_label_words.specs.Known.{FileNames, StaysNamed}
use Rattle.dwz_unit.specs.Declarations.{AreOf, Declarations}
use Rattle.dwz_unit.specs.Rows.{rows_of, units_of as raw_units}

-- ---- names

pub tells_kept : (old new : List (List ℕ)) (m : List Mark) (bytes : List ℕ) → Keeps old new → Tells old m bytes → Tells new m bytes
tells_kept old new m bytes k h =
    let more = adds_kept old new m [] bytes k (record { more = bytes; told = h; is = refl }) in
    subst (λ (w : List ℕ). Tells new m w) (sym more.is) more.told

-- what was appended to nothing
pub adds_alone : (names : List (List ℕ)) (m : List Mark) (old new : List ℕ) → old ≡ [] → Adds names m old new → Tells names m new
adds_alone names m old new e h = subst (λ (w : List ℕ). Tells names m w) (sym (h.is ∙ ap (λ (w : List ℕ). w ++ h.more) e)) h.told

pub still_names : (files : List File) (file : ℕ) (old new : FileNames) → StaysNamed old new → AreNamesIn files file old → AreNamesIn files file new
still_names files file old new stays h f got =
    let own = h f got in
    record {
      strs = ap (λ (x : FileNames). x.strs) stays.same ∙ own.strs;
      tables = ap (λ (x : FileNames). x.tables) stays.same ∙ own.tables;
      declared = subst (λ (d : Declarations). AreOf (rows_of (raw_units f.units)) d) (sym (ap (λ (x : FileNames). x.declarations) stays.same)) own.declared;
    }

pub place_kept : (r : Run) (file : ℕ) (old new : List (List ℕ)) (p : Place) → Keeps old new → HasPlace r file old p → HasPlace r file new p
place_kept r file old new p keeps h = λ x k e t got entry unit inner there. keeps (place_label t.language (name_list t)) p.name (h x k e t got entry unit inner there)

-- ---- labels

module _ (units : List (FileUnit EntryName)) where
  pub from_kept : (old new : List (List ℕ)) (first : ℕ) (labels : List (List ℕ)) → Keeps old new → TellFrom units old first labels → TellFrom units new first labels
  from_kept old new first labels keeps h = λ t k there free at low. tells_kept old new (marks_of t) (nth_label labels k) keeps (h t k there free at low)

  pub from_none : (names : List (List ℕ)) (first : ℕ) (labels : List (List ℕ)) → labels ≡ [] → TellFrom units names first labels
  from_none names first labels e = λ t k there free at low. absurd (let none = ap (λ (w : List (List ℕ)). length w) e in omega arith)

  pub from_more : (names : List (List ℕ)) (first : ℕ) (labels grown : List (List ℕ)) (label : List ℕ) → grown ≡ labels ++ label ∷ [] → TellFrom units names first labels
      → ((t : Top) → In t (tops_of units) → Movable units t.number → t.number ≡ first + length labels → Tells names (marks_of t) label) → TellFrom units names first grown
  from_more names first labels grown label is h last = λ t k there free at low. (
      let long = ap (λ (w : List (List ℕ)). length w) is ∙ length-append labels (label ∷ []) in
      ⊎_elim
      (λ less.
      let x = got_there labels k less in
      let here : nth_label grown k ≡ nth_label labels k =
      ap (λ (w : List (List ℕ)). nth_label w k) is ∙ got_index_or (labels ++ label ∷ []) k x.0 [] (get_first labels (label ∷ []) k x.0 x.1) ∙ sym (got_index_or labels k x.0 [] x.1) in
      subst (λ (w : List ℕ). Tells names (marks_of t) w) (sym here) (h t k there free at less))
      (λ least.
      let end : k ≡ length labels = omega arith in
      let here : nth_label grown k ≡ label =
      ap (λ (w : List (List ℕ)). nth_label w k) is ∙ ap (nth_label (labels ++ label ∷ [])) end ∙ got_index_or (labels ++ label ∷ []) (length labels) label [] (get_last labels label) in
      subst (λ (w : List ℕ). Tells names (marks_of t) w) (sym here) (last t there free (at ∙ ap (λ (j : ℕ). first + j) end)))
      (cases_lt k (length labels)))

  -- a top that may move has its flag, and stands at its number
  pub flag_of : (movable : List Bool) (t : Top) → AreMovable units movable → In t (tops_of units) → Movable units t.number → slice_index_or movable t.number false ≡ true
  flag_of movable t flags there free = flags.each t there ∙ (movable_decides units t there).1 free

  pub top_there : (t : Top) → In t (tops_of units) → slice_get (tops_of units) t.number ≡ Some t
  top_there t there =
      let r = at_number 0 (tops_of units) (tops_numbers units) t there in
      let at : r.0 ≡ t.number = (let e = r.2 in omega arith) in
      subst (λ (k : ℕ). slice_get (tops_of units) k ≡ Some t) at r.1

  -- those of all tops tell these apart
  pub all_apart : (movable : List Bool) (s : Stretch) → length movable ≡ length (tops_of units) → AreMovable units movable → IsStretch units movable 0 (length movable) s → TellApart units s.labels
  all_apart movable s many flags h = marks_apart units s.names s.labels (record {
    len = (let len = h.len in omega arith);
    are = λ t there free. h.told flags t t.number there free (let same : t.number ≡ 0 + t.number = omega arith in same) (let low = top_below units t there in let len = h.len in omega arith);
  })

-- with flags and targets that are those of the tops
pub apart_shown : (units : List (FileUnit EntryName)) (labels : List (List ℕ)) (movable : List Bool) (targets : List (List ℕ)) → TellApart units labels → length targets ≡ length (tops_of units)
    → ShowTargets units movable targets → ShowApart units labels movable targets
apart_shown units labels movable targets apart many h = record { flags = h.flags; labels_are = apart; targets_len = many; targets_are = h.are }
