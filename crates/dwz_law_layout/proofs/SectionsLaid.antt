-- Sections among the files that are written are those among all, so what is laid are the sections of the run.
use Rattle.std.proofs.Common.{◌≡◌, ℕ, ◌+◌, List, [], ◌∷◌, length, refl, ap, subst, ◌∙◌, inl, inr}
use Rattle.dwz_def_reading.specs.Lists.{In}
use Rattle.dwz_def_tops.specs.Spots.{EntryName, same_spot}
use Rattle.dwz_def_tops.specs.Shown.{unit_keys, units_keys}
use Rattle.dwz_def_reading.specs.Documents.{DwUnit}
use Rattle.dwz_def_reading.proofs.ListFacts.{in_cases, in_left, in_right}
use Rattle.dwz_def_encoding.specs.Meant.{all_entry_keys}
use Rattle.dwz_def_encoding.proofs.Rising.{entries_are_keys}
use Rattle.dwz_def_encoding.specs.Placing.{FileOut, FitsSections, UnitSections, files_keys, numbering, sections}
use Rattle.dwz_def_encoding.specs.Writing.{Numbering}
use Rattle.dwz_def_readback.specs.Files.{places}
use Rattle.dwz_def_readback.specs.Fewer.{NameOnly}
use Rattle.dwz_def_readback.proofs.NameLemmas.{in_file_keys}
use Rattle.dwz_def_readback.proofs.SameSections.{all_at, same_sections}
use Rattle.dwz_law_layout.proofs.EntriesNamed.{all_only, entries_of}
use Rattle.dwz_law_layout.proofs.FilesLaid.{places_among}
use Rattle.dwz_layout.specs.declared.known.EntryTable.{EntryTable}
use Rattle.dwz_layout.specs.declared.order.UnitItems.{UnitItems}
use Rattle.dwz_layout.specs.Laid.{FileMade, made_of}
use Rattle.dwz_encode.specs.Laws.{FileIs, FilesAre}
use Rattle.dwz_encode.proofs.LawLemmas.{sections_are}
use Rattle.dwz_law_layout.specs.Beside.{Alone}
use Rattle.dwz_law_layout.specs.Facts.{AreFacts, RunFacts, units}
use Rattle.dwz_law_layout.specs.Named.{keys}
use Rattle.dwz_law_layout.specs.Laid.{RunLaidLaw, places_of, written_out}

module _ (n p : Numbering EntryName) (k : EntryTable) (at roots : List ℕ) where
  file_is : (first : ℕ) (order : List UnitItems) (m : FileMade) (x : FileOut EntryName) → sections n x.units ≡ sections p x.units → FileIs n k at roots first order m x
      → FileIs p k at roots first order m x
  file_is first order m x same is = record {
    info = is.info ∙ ap (λ (s : UnitSections). s.info) same;
    abbrevs = is.abbrevs ∙ ap (λ (s : UnitSections). s.abbrevs) same;
    end = is.end ∙ ap (λ (s : UnitSections). length s.info) same;
    room = λ small. subst FitsSections same (is.room small);
  }

  files_are : (first : ℕ) (orders : List (List UnitItems)) (made : List FileMade) (files : List (FileOut EntryName)) → FilesAre n k at roots first orders made files
      → ((x : FileOut EntryName) → In x files → sections n x.units ≡ sections p x.units) → FilesAre p k at roots first orders made files
  files_are first [] [] [] are same = tt
  files_are first [] [] (x ∷ files) are same = absurd are
  files_are first [] (m ∷ made) files are same = absurd are
  files_are first (order ∷ orders) [] files are same = absurd are
  files_are first (order ∷ orders) (m ∷ made) [] are same = absurd are
  files_are first (order ∷ orders) (m ∷ made) (x ∷ files) are same = (
    file_is first order m x (same x (inl refl)) are.0,
    files_are (first + length order) orders made files are.1 (λ y there. same y (inr there)),
  )

module _ (f : RunFacts Alone) (facts : AreFacts f) where
  abbrev among : List EntryName
  among = files_keys (written_out f)

  key_among : (files : List (FileOut EntryName)) (s : EntryName) → In s (entries_of files) → In s (files_keys files)
  unfolding entries_of files_keys
  key_among [] s there = absurd there
  key_among (x ∷ files) s there = elim (in_cases s (all_entry_keys x.units) (entries_of files) there) [
    | inl own ↦ in_left s (units_keys x.units) (files_keys files) (entries_are_keys x.units s own)
    | inr later ↦ in_right s (units_keys x.units) (files_keys files) (key_among files s later)
  ]

  -- what the files that are written name stands in one of them
  pub names_only : (x : FileOut EntryName) → In x (written_out f) → NameOnly among x.units
  names_only x there =
      let only = all_only f facts x there in
      record {
        refs = λ e a s seen attr ref. key_among (written_out f) s (only.refs e a s seen attr ref);
        mains = λ u signature main u_in kind. key_among (written_out f) main (only.mains u signature main u_in kind);
      }

  unit_in : (us : List (DwUnit EntryName)) (u : DwUnit EntryName) → In u us → In u.at (units_keys us)
  unfolding units_keys unit_keys
  unit_in [] u there = absurd there
  unit_in (v ∷ us) u (inl e) = inl (ap (λ (w : DwUnit EntryName). w.at) e)
  unit_in (v ∷ us) u (inr later) = in_right u.at (unit_keys v) (units_keys us) (unit_in us u later)

  same_laid : (x : FileOut EntryName) → In x (written_out f) → sections (numbering same_spot (written_out f)) x.units ≡ sections (places_of f) x.units
  same_laid x there =
      let own = numbering same_spot (written_out f) in
      same_sections own (places_of f) x.units
      (all_at own (places_of f) among x.units (places_among f facts)
      (λ u u_in. in_file_keys (written_out f) x u.at there (unit_in x.units u u_in)) (names_only x there))

pub run_laid : RunLaidLaw
run_laid f k orders facts order =
    let all = made_of k orders in
    files_are (numbering same_spot (written_out f)) (places_of f) k all.places all.roots 0 orders all.files (written_out f) (sections_are (keys f) k orders (written_out f) order)
    (λ x there. same_laid f facts x there)
