-- Over a finished common file, too, a unit that was read begins so many bytes before its root as its header has (DWARF 5, 7.5.1).
use Rattle.std.proofs.Common.{◌≡◌, ℕ, ◌+◌, Bool, true, false, List, [], ◌∷◌, refl, sym, ap, subst, ◌∙◌, inl, inr}
use Rattle.dwz_def_reading.specs.Documents.{Compile, DwUnit, Kind, OfType, Partial, kind_map}
use Rattle.dwz_def_reading.specs.Lists.{In}
use Rattle.dwz_def_reading.specs.Pruning.{new_number}
use Rattle.dwz_def_reading.proofs.ListFacts.{in_map, in_right}
use Rattle.dwz_def_tops.specs.Lists.{Nth}
use Rattle.dwz_def_tops.specs.Shown.{units_keys}
use Rattle.dwz_def_tops.specs.Spots.{EntryName, FileUnit, RootOf, UnitOf}
use Rattle.dwz_def_images.specs.Homes.{Local}
use Rattle.dwz_def_images.specs.Moves.{image_in}
use Rattle.dwz_def_images.specs.Units.{kept_unit, kept_units, out_units, partial_units}
use Rattle.dwz_def_images.proofs.FileLemmas.{files_are}
use Rattle.dwz_def_encoding.specs.Placing.{UnitsStand, fit_unit, fit_units, with_keys}
use Rattle.dwz_def_encoding.specs.Pruned.{renumbered_unit, renumbered_units}
use Rattle.dwz_def_encoding.specs.Writing.{Numbering, written_header_size, written_unit_size}
use Rattle.dwz_def_readback.specs.Files.{CommonFile, Run, file_forms_by, fitted_by, fitted_if_by, formed_by, sources, uses_by}
use Rattle.dwz_def_readback.proofs.WithinLemmas.{kept_to}
use Rattle.dwz_law_layout.specs.Beside.{Over, Standing}
use Rattle.dwz_law_layout.specs.Facts.{AreFacts, RunFacts, common, docs, move, run, units}
use Rattle.dwz_law_layout.specs.Laid.{places_of}
use Rattle.dwz_law_layout.proofs.ImagesStand.{old}
use Rattle.dwz_law_layout.specs.OverLaws.{AreOver}
use Rattle.dwz_law_layout.proofs.OverPlaces.{file_stands}

-- one of these units has that header, and begins and has its root under the same names
record HasHead (us : List (DwUnit EntryName)) (v : DwUnit EntryName) : Type 0 where
  unit : DwUnit EntryName
  there : In unit us
  at : unit.at ≡ v.at
  root : unit.root.at ≡ v.root.at
  kind : unit.kind ≡ v.kind

module _ (cf : CommonFile) (r : Run) (file : ℕ) (v : DwUnit EntryName) where
  formed : In v (out_units r.move r.units file) → HasHead (formed_by cf r file) v
  unfolding formed_by fit_units
  formed there =
      let outs = out_units r.move r.units file in
      let fit = fit_unit (with_keys (file_forms_by cf r file) (units_keys outs)) in
      record { unit = fit v; there = in_map fit v outs there; at = refl; root = refl; kind = refl }

  -- it is kept by forms and by new numbers of texts
  fitted : In v (out_units r.move r.units file) → HasHead (fitted_by cf r file) v
  unfolding fitted_by renumbered_units
  fitted there = by (r.input.prunes file) (formed there) where
    by : (b : Bool) → HasHead (formed_by cf r file) v → HasHead (fitted_if_by b cf r file) v
    by true h =
        let number = renumbered_unit (new_number (sources r file).strs (uses_by cf r file)) in
        record { unit = number h.unit; there = in_map number h.unit (formed_by cf r file) h.there; at = h.at; root = h.root; kind = h.kind }
    by false h = h

-- where units stand one behind the other
begins : (p : Numbering EntryName) (us : List (DwUnit EntryName)) (at : ℕ) → UnitsStand p us at → (u : DwUnit EntryName) → In u us → p.place u.root.at ≡ p.place u.at + written_header_size u.kind
begins p [] at stand u there = absurd there
begins p (w ∷ us) at stand u (inl e) =
    subst (λ (x : DwUnit EntryName). p.place x.root.at ≡ p.place x.at + written_header_size x.kind) e
    (stand.0.root ∙ ap (λ (q : ℕ). q + written_header_size w.kind) (sym stand.0.unit))
begins p (w ∷ us) at stand u (inr later) = begins p us (at + written_unit_size p at w) stand.1 u later

same_size : (g : EntryName → EntryName) (kind : Kind EntryName) → written_header_size (kind_map g kind) ≡ written_header_size kind
same_size g Compile = refl
same_size g (OfType signature main) = refl
same_size g Partial = refl

module _ (s : Standing) (f : RunFacts (Over s)) (o : AreOver s f) (facts : AreFacts f) (i : ℕ) (u : FileUnit EntryName) (nth : Nth 0 (units f) i u) where
  abbrev image : EntryName → EntryName
  image = image_in (move f)

  kept_in : In (kept_unit (move f) (units f) i u) (out_units (move f) (units f) u.file)
  unfolding out_units
  kept_in =
      in_right (kept_unit (move f) (units f) i u) (partial_units (move f) (Local u.file) 0 (move f).parts) (kept_units (move f) (units f) u.file 0 (units f))
      (kept_to (move f) (units f) u.file 0 (units f) i u nth refl)

  pub root_begins : (places_of f).place (RootOf i) ≡ (places_of f).place (UnitOf i) + written_header_size u.unit.kind
  root_begins =
      let place = (places_of f).place in
      let named = (old f facts).units_named i u nth in
      let h = fitted (common f) (run f) u.file (kept_unit (move f) (units f) i u) kept_in in
      let own = begins (places_of f) (fitted_by (common f) (run f) u.file) 0 (file_stands s f o facts u.file (files_are (docs f) i u nth)) h.unit h.there in
      let root : image u.unit.root.at ≡ RootOf i = ap image named.root in
      ap place (sym root ∙ sym h.root)
      ∙ own
      ∙ ap (λ (n : EntryName). place n + written_header_size h.unit.kind) (h.at ∙ named.unit)
      ∙ ap (λ (kind : Kind EntryName). place (UnitOf i) + written_header_size kind) h.kind
      ∙ ap (λ (q : ℕ). place (UnitOf i) + q) (same_size image u.unit.kind)
