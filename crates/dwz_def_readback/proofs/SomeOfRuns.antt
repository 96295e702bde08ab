-- What files of a run name is in the same file or in the common one.
use Rattle.std.proofs.Common.{◌≡◌, ℕ, Bool, true, false, List, [], ◌∷◌, map, refl, sym, ap, subst, ◌∙◌, inl, inr}
use Rattle.dwz_def_reading.specs.Lists.{Each, In}
use Rattle.dwz_def_reading.specs.Pruning.{new_number}
use Rattle.dwz_def_reading.proofs.ListFacts.{in_left, in_map, in_right}
use Rattle.dwz_def_reading.specs.Documents.{Doc, DwUnit, OfType}
use Rattle.dwz_def_tops.specs.Alike.{IsAlike, TopScope}
use Rattle.dwz_def_tops.specs.Spots.{EntryName, file_numbers, same_spot, units_of}
use Rattle.dwz_def_tops.specs.Lists.{NoneTwice}
use Rattle.dwz_def_tops.specs.Seen.{all_seen}
use Rattle.dwz_def_tops.specs.Shown.{HaveMains, unit_keys, units_keys}
use Rattle.dwz_def_tops.proofs.Members.{From, in_map_from}
use Rattle.dwz_def_images.specs.Homes.{IsChoice, Rule}
use Rattle.dwz_def_images.specs.After.{ArePlaced, FilesSame}
use Rattle.dwz_def_images.specs.Units.{all_units, common_units, file_units, out_units}
use Rattle.dwz_def_images.proofs.FileLemmas.{files_same}
use Rattle.dwz_def_encoding.specs.Meant.{all_entry_keys}
use Rattle.dwz_def_encoding.specs.Fitting.{UnitHasRoom}
use Rattle.dwz_def_encoding.specs.Placing.{FileOut, files_keys, sections}
use Rattle.dwz_def_encoding.proofs.Rising.{entries_are_keys}
use Rattle.dwz_def_encoding.proofs.SameLemmas.{spots_same}
use Rattle.dwz_def_readback.specs.Back.{run_of}
use Rattle.dwz_def_readback.specs.Files.{fitted_by, formed_by, Run, Stored, common_fitted, common_forms, common_out, file_forms, file_out, files_out, fitted, fitted_if, formed, places, sources, uses}
use Rattle.dwz_def_readback.proofs.CommonLemmas.{common_within}
use Rattle.dwz_def_readback.proofs.NameLemmas.{common_names, fitted_names, in_file_keys, run_once}
use Rattle.dwz_def_readback.proofs.WithinLemmas.{within}
use Rattle.dwz_def_readback.proofs.OutOperands.{all_with}
use Rattle.dwz_def_readback.specs.Fewer.{AgreeOn, AreSome, NameOnly}
use Rattle.dwz_def_readback.specs.Runs.{some_out, some_places}
use Rattle.dwz_def_readback.proofs.SameRoom.{same_room}
use Rattle.dwz_def_readback.proofs.SameSections.{UnitAt, all_at, same_sections}
use Rattle.dwz_def_readback.proofs.SeenFitted.{fit_kinds, fit_seen, new_kinds, new_seen}
use Rattle.dwz_def_readback.proofs.SomeFiles.{some_in, some_map, some_number, some_once}

-- ---- some of a run

module _ (r : Run) (some : List ℕ) (are : AreSome some r.files) where
  out_some : AreSome (some_out r some) (files_out r)
  out_some = inl (refl, some_map (file_out r) r.files some are)

  pub files_in_run : (f : FileOut EntryName) → In f (some_out r some) → In f (files_out r)
  files_in_run f there = some_in (files_out r) (some_out r some) out_some f there

  pub once_in_run : NoneTwice (units_keys (all_units r.move r.units r.files)) → NoneTwice (files_keys (some_out r some))
  once_in_run once = some_once (files_out r) (some_out r some) out_some (run_once r once)

  pub places_in_run : NoneTwice (units_keys (all_units r.move r.units r.files)) → AgreeOn (files_keys (some_out r some)) (some_places r some) (places r)
  places_in_run once k key = some_number same_spot spots_same (files_out r) (some_out r some) (some_in (files_out r) (some_out r some) out_some) (run_once r once) k key

-- ---- units as they are written, and before

module _ (r : Run) where
  fitted_seen : (file : ℕ) → all_seen (fitted r file) ≡ all_seen (out_units r.move r.units file)
  unfolding fitted_by formed_by
  fitted_seen file = by (r.input.prunes file) where
    by : (b : Bool) → all_seen (fitted_if b r file) ≡ all_seen (out_units r.move r.units file)
    by true = new_seen (new_number (sources r file).strs (uses r file)) (formed r file) ∙ fit_seen (file_forms r file) (out_units r.move r.units file)
    by false = fit_seen (file_forms r file) (out_units r.move r.units file)

  fitted_kinds : (file : ℕ) → map (λ u. u.kind) (fitted r file) ≡ map (λ u. u.kind) (out_units r.move r.units file)
  unfolding fitted_by formed_by
  fitted_kinds file = by (r.input.prunes file) where
    by : (b : Bool) → map (λ u. u.kind) (fitted_if b r file) ≡ map (λ u. u.kind) (out_units r.move r.units file)
    by true = new_kinds (new_number (sources r file).strs (uses r file)) (formed r file) ∙ fit_kinds (file_forms r file) (out_units r.move r.units file)
    by false = fit_kinds (file_forms r file) (out_units r.move r.units file)

  common_seen : all_seen (common_fitted r) ≡ all_seen (common_units r.move)
  unfolding common_fitted
  common_seen = fit_seen (common_forms r) (common_units r.move)

  common_kinds : map (λ u. u.kind) (common_fitted r) ≡ map (λ u. u.kind) (common_units r.move)
  unfolding common_fitted
  common_kinds = fit_kinds (common_forms r) (common_units r.move)

  out_in : (files : List ℕ) (file : ℕ) (u : DwUnit EntryName) → In file files → In u (out_units r.move r.units file) → In u (file_units r.move r.units files)
  unfolding file_units
  out_in [] file u there is = absurd there
  out_in (n ∷ files) file u (inl e) is = in_left u (out_units r.move r.units n) (file_units r.move r.units files) (subst (λ (m : ℕ). In u (out_units r.move r.units m)) (sym e) is)
  out_in (n ∷ files) file u (inr later) is = in_right u (out_units r.move r.units n) (file_units r.move r.units files) (out_in files file u later is)

-- the types of units with the kinds of others are entries of these
mains_by : (units outs : List (DwUnit EntryName)) → map (λ u. u.kind) units ≡ map (λ u. u.kind) outs → HaveMains outs
    → (u : DwUnit EntryName) (signature : ℕ) (main : EntryName) → In u units → u.kind ≡ OfType signature main → In main (units_keys outs)
mains_by units outs same mains u signature main there is =
    let k : In u.kind (map (λ v. v.kind) outs) = subst (In u.kind) same (in_map (λ (v : DwUnit EntryName). v.kind) u units there) in
    let o : From (λ (v : DwUnit EntryName). v.kind) outs u.kind = in_map_from (λ (v : DwUnit EntryName). v.kind) u.kind outs k in
    entries_are_keys outs main (all_with outs o.source main o.there (mains o.source o.there signature main (o.is ∙ is)))

-- ---- files that were read

module _ (scope : TopScope) (docs : List (Doc ℕ)) (rule : Rule) (placed : Each (λ doc. ArePlaced doc.units) docs) (is : IsAlike scope (units_of docs) rule.alike)
    (choice : IsChoice (units_of docs) rule)
    (input : Stored) (some : List ℕ) (are : AreSome some (file_numbers 0 docs)) where
  abbrev r : Run
  r = run_of rule docs input

  together : FilesSame scope docs rule (file_numbers 0 docs)
  together = files_same scope docs rule placed is choice

  abbrev names : List EntryName
  names = files_keys (some_out r some)

  in_common : (k : EntryName) → In k (all_entry_keys (common_fitted r)) → In k names
  in_common k there = in_file_keys (some_out r some) (common_out r) k (inl refl) (entries_are_keys (common_fitted r) k there)

  common_only : NameOnly names (common_fitted r)
  common_only = record {
    refs = λ e a k there attr ref. elim (common_within scope docs rule placed is choice input e a k (subst (In e) (common_seen r) there) attr ref) [
      | inl own ↦ in_common k own
      | inr none ↦ absurd none
    ];
    mains = λ u signature main there kind. in_file_keys (some_out r some) (common_out r) main (inl refl) (subst (In main) (sym (common_names r))
        (mains_by (common_fitted r) (common_units r.move) (common_kinds r)
        (λ v v_in. together.mains v (in_left v (common_units r.move) (file_units r.move r.units r.files) v_in)) u signature main there kind));
  }

  file_only : (file : ℕ) → In file some → NameOnly names (fitted r file)
  file_only file file_in =
      let there : In (file_out r file) (some_out r some) = inr (in_map (file_out r) file some file_in) in
      record {
        refs = λ e a k seen attr ref. elim (within scope docs rule placed is choice input file e a k (subst (In e) (fitted_seen r file) seen) attr ref) [
          | inl own ↦ in_file_keys (some_out r some) (file_out r file) k there (entries_are_keys (fitted r file) k own)
          | inr common ↦ in_common k common
        ];
        mains = λ u signature main u_in kind. in_file_keys (some_out r some) (file_out r file) main there (subst (In main) (sym (fitted_names r file))
            (mains_by (fitted r file) (out_units r.move r.units file) (fitted_kinds r file)
            (λ v v_in. together.mains v (in_right v (common_units r.move) (file_units r.move r.units r.files)
            (out_in r r.files file v (some_in r.files some are file file_in) v_in))) u signature main u_in kind));
      }

  pub some_name : (f : FileOut EntryName) → In f (some_out r some) → NameOnly names f.units
  some_name f (inl e) = subst (λ (g : FileOut EntryName). NameOnly names g.units) e common_only
  some_name f (inr there) =
      let o = in_map_from (file_out r) f some there in
      subst (λ (g : FileOut EntryName). NameOnly names g.units) o.is (file_only o.source o.there)

  unit_in : (units : List (DwUnit EntryName)) (u : DwUnit EntryName) → In u units → In u.at (units_keys units)
  unfolding units_keys unit_keys
  unit_in [] u there = absurd there
  unit_in (v ∷ units) u (inl e) = inl (ap (λ (w : DwUnit EntryName). w.at) e)
  unit_in (v ∷ units) u (inr later) = in_right u.at (unit_keys v) (units_keys units) (unit_in units u later)

  at_places : (f : FileOut EntryName) → In f (some_out r some) → Each (UnitAt (some_places r some) (places r)) f.units
  at_places f there =
      all_at (some_places r some) (places r) names f.units (places_in_run r some are together.apart) (λ u u_in. in_file_keys (some_out r some) f u.at there (unit_in f.units u u_in))
      (some_name f there)

  pub some_sections : (f : FileOut EntryName) → In f (some_out r some) → sections (some_places r some) f.units ≡ sections (places r) f.units
  some_sections f there = same_sections (some_places r some) (places r) f.units (at_places f there)

  pub some_room : (f : FileOut EntryName) → In f (some_out r some) → Each (UnitHasRoom (some_places r some)) f.units → Each (UnitHasRoom (places r)) f.units
  some_room f there room = same_room (some_places r some) (places r) f.units (at_places f there) room
