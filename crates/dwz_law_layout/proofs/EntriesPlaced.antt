-- An entry of a file that is written that stands for itself is written, so its place is that of its name; and a unit stands before its root.
use Rattle.std.proofs.Common.{◌≡◌, ℕ, ◌+◌, ◌<◌, Bool, true, false, List, [], ◌∷◌, ◌++◌, length, map, refl, sym, ap, subst, ◌∙◌, inr, arith}
use Rattle.dwz_def_reading.specs.Lists.{Each, In}
use Rattle.dwz_def_reading.specs.Pruning.{new_number}
use Rattle.dwz_def_reading.proofs.ListFacts.{got_below, got_in, in_map, in_right}
use Rattle.dwz_def_reading.specs.Documents.{Compile, DwUnit, Kind, OfType, Partial, kind_map}
use Rattle.dwz_def_tops.specs.Lists.{Nth}
use Rattle.dwz_def_tops.specs.Shown.{units_keys}
use Rattle.dwz_def_tops.proofs.Members.{each_in}
use Rattle.dwz_def_tops.specs.Spots.{EntryName, FileUnit, RootOf, UnitOf, file_numbers, same_spot}
use Rattle.dwz_def_images.specs.Homes.{Local}
use Rattle.dwz_def_images.specs.Moves.{image_in}
use Rattle.dwz_def_images.specs.Units.{common_units, file_units, kept_unit, kept_units, out_units, partial_units}
use Rattle.dwz_def_images.proofs.FileLemmas.{files_are}
use Rattle.dwz_def_tops.proofs.UnitKeys.{keys_joined}
use Rattle.dwz_def_encoding.specs.Placing.{Forms, UnitsStand, files_keys, fit_unit, fit_units, with_keys}
use Rattle.dwz_def_encoding.specs.Pruned.{renumbered_unit, renumbered_units}
use Rattle.dwz_def_encoding.specs.Writing.{Numbering, written_header_size, written_unit_size}
use Rattle.dwz_def_encoding.proofs.Places.{numbering_stands}
use Rattle.dwz_def_encoding.proofs.SameLemmas.{spots_same}
use Rattle.dwz_def_readback.specs.Files.{fitted_by, formed_by, file_forms_by, file_out, file_out_by, files_out as all_out, fitted_if_by, sources, uses_by}
use Rattle.dwz_def_readback.proofs.NameLemmas.{common_names, fitted_fixed, fitted_names_by, run_once}
use Rattle.dwz_def_readback.proofs.WithinLemmas.{kept_to}
use Rattle.dwz_graph.specs.AllNames.{all_names}
use Rattle.dwz_layout.specs.Entries.{row}
use Rattle.dwz_layout.specs.Known.{number_of, owner_of}
use Rattle.dwz_law_layout.proofs.HeldNames.{each_of_map}
use Rattle.dwz_law_layout.proofs.RowsWritten.{row_written}
use Rattle.dwz_law_layout.specs.Facts.{AreFacts, RunFacts, common, docs, every, files_written, move, run, units, units_written}
use Rattle.dwz_law_layout.specs.Beside.{Alone, Beside}
use Rattle.dwz_law_layout.specs.Named.{keys}
use Rattle.dwz_law_layout.specs.NamedLaws.{entry_name}
use Rattle.dwz_law_layout.proofs.FileEntries.{below, here, named, named_every, number_is}
use Rattle.dwz_law_layout.proofs.ImagesStand.{in_units, old}
use Rattle.dwz_law_layout.proofs.LayoutLemmas.{names_entry, owns_entry}
use Rattle.dwz_law_layout.specs.Laid.{RunRootsLaw, RunSelfLaw, files_out, places_of, written_out}
use Rattle.dwz_law_layout.proofs.FilesLaid.{all_once, run_places}
use Rattle.dwz_law_layout.proofs.NamesApart.{entries_many, rows_apart}
use Rattle.dwz_law_layout.proofs.WrittenUnits.{written_units}

-- ---- names of what is written

module _ {beside : Beside} (f : RunFacts beside) where
  out_keys : (files : List ℕ) → files_keys (map (file_out_by (common f) (run f)) files) ≡ units_keys (file_units (move f) (units f) files)
  unfolding files_keys file_units units_keys
  out_keys [] = refl
  out_keys (n ∷ files) =
      ap (λ (w : List EntryName). w ++ files_keys (map (file_out_by (common f) (run f)) files)) (fitted_names_by (common f) (run f) n)
      ∙ ap (λ (w : List EntryName). units_keys (out_units (move f) (units f) n) ++ w) (out_keys files)
      ∙ sym (keys_joined (out_units (move f) (units f) n) (file_units (move f) (units f) files))

written_keys : (f : RunFacts Alone) → files_keys (written_out f) ≡ units_keys (units_written f)
unfolding files_keys
written_keys f =
    ap (λ (w : List EntryName). w ++ files_keys (files_out f)) (common_names (run f))
    ∙ ap (λ (w : List EntryName). units_keys (common_units (move f)) ++ w) (out_keys f (files_written f))
    ∙ sym (keys_joined (common_units (move f)) (file_units (move f) (units f) (files_written f)))
    ∙ ap (λ (w : List (DwUnit EntryName)). units_keys w) (sym (written_units f))

pub run_self : RunSelfLaw
run_self f t k orders facts listed order n bytes x index h changed i r d read itself =
    let o = here f t k facts listed n x index h.file h.index_is in
    let number = number_of k (row n i) in
    let name = names_entry f t k facts listed n bytes x index h i r d read in
    let own = owns_entry f t k facts listed n bytes x index h changed i r d read itself in
    let many = entries_many f t k facts listed in
    let low = got_below (all_names (every f)) (o.start + i) (named f k n x index o i) (named_every f k n x index o i (below f k n x index o bytes i r d read)) in
    let at = number_is f k n x index o i in
    let counted : number < length k.owners.items = omega (arith, low, many, at) in
    let there : In (entry_name f n d) (units_keys (units_written f)) =
    in_units own.unit (units_written f) (entry_name f n d) (got_in (units_written f) (owner_of k number) own.unit own.is) own.has in
    let key : In ((keys f).row number) (files_keys (written_out f)) =
    subst (In ((keys f).row number)) (sym (written_keys f)) (subst (λ (s : EntryName). In s (units_keys (units_written f))) (sym name) there) in
    let written = row_written (keys f) k orders (written_out f) (rows_apart f facts k many orders) number counted order.shows key in
    run_places f k orders facts order number counted written ∙ ap (places_of f).place name

-- ---- units and their roots

module _ (p : Numbering EntryName) where
  abbrev Begins : DwUnit EntryName → Type 0
  Begins v = p.place v.root.at ≡ p.place v.at + written_header_size v.kind

  begin : (us : List (DwUnit EntryName)) (at : ℕ) → UnitsStand p us at → Each Begins us
  begin [] at stand = tt
  begin (u ∷ us) at stand = (stand.0.root ∙ ap (λ (q : ℕ). q + written_header_size u.kind) (sym stand.0.unit), begin us (at + written_unit_size p at u) stand.1)

  before_forms : (forms : Forms EntryName) (us : List (DwUnit EntryName)) → Each Begins (fit_units forms us) → Each Begins us
  unfolding fit_units
  before_forms forms us begins = each_of_map (fit_unit (with_keys forms (units_keys us))) Begins us begins

  before_numbers : (number : ℕ → ℕ) (us : List (DwUnit EntryName)) → Each Begins (renumbered_units number us) → Each Begins us
  unfolding renumbered_units
  before_numbers number us begins = each_of_map (renumbered_unit number) Begins us begins

same_size : (g : EntryName → EntryName) (kind : Kind EntryName) → written_header_size (kind_map g kind) ≡ written_header_size kind
same_size g Compile = refl
same_size g (OfType signature main) = refl
same_size g Partial = refl

module _ {beside : Beside} (f : RunFacts beside) (facts : AreFacts f) where
  formed_begin : (n : ℕ) → Each (Begins (places_of f)) (fitted_by (common f) (run f) n) → Each (Begins (places_of f)) (formed_by (common f) (run f) n)
  unfolding fitted_by
  formed_begin n = by (f.input.prunes n) where
    by : (b : Bool) → Each (Begins (places_of f)) (fitted_if_by b (common f) (run f) n) → Each (Begins (places_of f)) (formed_by (common f) (run f) n)
    by true begins = before_numbers (places_of f) (new_number (sources (run f) n).strs (uses_by (common f) (run f) n)) (formed_by (common f) (run f) n) begins
    by false begins = begins

  out_begin : (n : ℕ) → Each (Begins (places_of f)) (formed_by (common f) (run f) n) → Each (Begins (places_of f)) (out_units (move f) (units f) n)
  unfolding formed_by
  out_begin n begins = before_forms (places_of f) (file_forms_by (common f) (run f) n) (out_units (move f) (units f) n) begins

  kept_in : (i : ℕ) (u : FileUnit EntryName) → Nth 0 (units f) i u → In (kept_unit (move f) (units f) i u) (out_units (move f) (units f) u.file)
  unfolding out_units
  kept_in i u nth =
      in_right (kept_unit (move f) (units f) i u) (partial_units (move f) (Local u.file) 0 (move f).parts) (kept_units (move f) (units f) u.file 0 (units f))
      (kept_to (move f) (units f) u.file 0 (units f) i u nth refl)

-- the units of a file stand one behind the other
files_stand : (f : RunFacts Alone) → AreFacts f → (file : ℕ) → In file (file_numbers 0 (docs f)) → UnitsStand (places_of f) (fitted_by (common f) (run f) file) 0
files_stand f facts file there =
    numbering_stands same_spot spots_same (all_out (run f)) (run_once (run f) (all_once f facts)) (file_out (run f) file)
    (inr (in_map (file_out (run f)) file (file_numbers 0 (docs f)) there)) (fitted_fixed (run f) file)

pub run_roots : RunRootsLaw
run_roots f facts i u nth =
    let stand = files_stand f facts u.file (files_are (docs f) i u nth) in
    let begins = out_begin f facts u.file (formed_begin f facts u.file (begin (places_of f) (fitted_by (common f) (run f) u.file) 0 stand)) in
    let own = each_in (Begins (places_of f)) (kept_unit (move f) (units f) i u) (out_units (move f) (units f) u.file) begins (kept_in f facts i u nth) in
    let named = (old f facts).units_named i u nth in
    let root : image_in (move f) u.unit.root.at ≡ RootOf i = ap (image_in (move f)) named.root in
    ap (places_of f).place (sym root)
    ∙ own
    ∙ ap (λ (s : EntryName). (places_of f).place s + written_header_size (kind_map (image_in (move f)) u.unit.kind)) named.unit
    ∙ ap (λ (q : ℕ). (places_of f).place (UnitOf i) + q) (same_size (image_in (move f)) u.unit.kind)
