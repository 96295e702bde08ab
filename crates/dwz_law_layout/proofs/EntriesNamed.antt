-- What the units of files that are written name are entries of these: none is a unit's name.
use Rattle.std.proofs.Common.{◌≡◌, ℕ, Bool, true, false, List, [], ◌∷◌, ◌++◌, length, map, refl, sym, ap, subst, ◌∙◌, inl, inr}
use Rattle.std.proofs.lemmas.List.{length-map}
use Rattle.dwz_def_reading.specs.Lists.{In}
use Rattle.dwz_def_reading.specs.Pruning.{new_number}
use Rattle.dwz_def_reading.proofs.ListFacts.{in_cases, in_left, in_map, in_right}
use Rattle.dwz_def_reading.specs.Documents.{DwUnit, Kind, OfType}
use Rattle.dwz_def_tops.specs.Seen.{all_seen}
use Rattle.dwz_def_tops.specs.Shown.{HaveMains}
use Rattle.dwz_def_tops.proofs.Members.{From, in_map_from}
use Rattle.dwz_def_tops.specs.Spots.{EntryName, UnitOf, file_numbers}
use Rattle.dwz_def_images.specs.Units.{all_units, common_units, file_units, out_units}
use Rattle.dwz_def_encoding.specs.Meant.{all_entry_keys}
use Rattle.dwz_def_encoding.specs.Placing.{FileOut}
use Rattle.dwz_def_readback.specs.Files.{CommonFile, common_fitted_by, common_out_by, file_forms_by, file_out_by, fitted_by, fitted_if_by, formed_by, uses_by}
use Rattle.dwz_def_readback.specs.Files.{Run, common_fitted, common_forms, sources}
use Rattle.dwz_def_readback.proofs.NameLemmas.{common_entries, fitted_entries_by}
use Rattle.dwz_def_readback.proofs.OutOperands.{all_with, unit_with}
use Rattle.dwz_def_readback.specs.Fewer.{NameOnly}
use Rattle.dwz_def_readback.proofs.SeenFitted.{fit_kinds, fit_seen, new_kinds, new_seen}
use Rattle.dwz_def_readback.proofs.SomeFiles.{some_in}
use Rattle.dwz_law_layout.specs.Facts.{AreFacts, RunFacts, common, docs, files_written, move, run, units}
use Rattle.dwz_law_layout.specs.Laid.{files_out, written_out}
use Rattle.dwz_law_layout.proofs.FilesLaid.{some_written}
use Rattle.dwz_law_layout.specs.Beside.{Alone, Beside}

-- ---- units as they are written, and before

module _ (k : CommonFile) (r : Run) where
  fitted_seen : (file : ℕ) → all_seen (fitted_by k r file) ≡ all_seen (out_units r.move r.units file)
  unfolding fitted_by formed_by
  fitted_seen file = by (r.input.prunes file) where
    by : (b : Bool) → all_seen (fitted_if_by b k r file) ≡ all_seen (out_units r.move r.units file)
    by true = new_seen (new_number (sources r file).strs (uses_by k r file)) (formed_by k r file) ∙ fit_seen (file_forms_by k r file) (out_units r.move r.units file)
    by false = fit_seen (file_forms_by k r file) (out_units r.move r.units file)

  fitted_kinds : (file : ℕ) → map (λ u. u.kind) (fitted_by k r file) ≡ map (λ u. u.kind) (out_units r.move r.units file)
  unfolding fitted_by formed_by
  fitted_kinds file = by (r.input.prunes file) where
    by : (b : Bool) → map (λ u. u.kind) (fitted_if_by b k r file) ≡ map (λ u. u.kind) (out_units r.move r.units file)
    by true = new_kinds (new_number (sources r file).strs (uses_by k r file)) (formed_by k r file) ∙ fit_kinds (file_forms_by k r file) (out_units r.move r.units file)
    by false = fit_kinds (file_forms_by k r file) (out_units r.move r.units file)

  pub fitted_many : (file : ℕ) → length (fitted_by k r file) ≡ length (out_units r.move r.units file)
  fitted_many file =
      sym (length-map (fitted_by k r file) (λ u. u.kind)) ∙ ap (λ (w : List (Kind EntryName)). length w) (fitted_kinds file) ∙ length-map (out_units r.move r.units file) (λ u. u.kind)

module _ (r : Run) where
  common_seen : all_seen (common_fitted r) ≡ all_seen (common_units r.move)
  unfolding common_fitted
  common_seen = fit_seen (common_forms r) (common_units r.move)

  common_kinds : map (λ u. u.kind) (common_fitted r) ≡ map (λ u. u.kind) (common_units r.move)
  unfolding common_fitted
  common_kinds = fit_kinds (common_forms r) (common_units r.move)

  pub common_many : length (common_fitted r) ≡ length (common_units r.move)
  common_many = sym (length-map (common_fitted r) (λ u. u.kind)) ∙ ap (λ (w : List (Kind EntryName)). length w) common_kinds ∙ length-map (common_units r.move) (λ u. u.kind)

-- ---- the entries of files

unfoldable pub entries_of : List (FileOut EntryName) → List EntryName
entries_of [] = []
entries_of (x ∷ files) = all_entry_keys x.units ++ entries_of files

entries_in : (files : List (FileOut EntryName)) (x : FileOut EntryName) (s : EntryName) → In x files → In s (all_entry_keys x.units) → In s (entries_of files)
unfolding entries_of
entries_in [] x s there key = absurd there
entries_in (y ∷ files) x s (inl e) key = in_left s (all_entry_keys y.units) (entries_of files) (subst (λ (w : FileOut EntryName). In s (all_entry_keys w.units)) (sym e) key)
entries_in (y ∷ files) x s (inr later) key = in_right s (all_entry_keys y.units) (entries_of files) (entries_in files x s later key)

-- of a file, and of an entry of it
entries_from : (files : List (FileOut EntryName)) (s : EntryName) → In s (entries_of files) → (x : FileOut EntryName) × In x files × In s (all_entry_keys x.units)
unfolding entries_of
entries_from [] s key = absurd key
entries_from (y ∷ files) s key = elim (in_cases s (all_entry_keys y.units) (entries_of files) key) [
  | inl a ↦ (y, inl refl, a)
  | inr b ↦ (let o = entries_from files s b in (o.0, inr o.1, o.2))
]

-- the types of units with the kinds of others are entries of these
mains_by : (us outs : List (DwUnit EntryName)) → map (λ u. u.kind) us ≡ map (λ u. u.kind) outs → HaveMains outs
    → (u : DwUnit EntryName) (signature : ℕ) (main : EntryName) → In u us → u.kind ≡ OfType signature main → In main (all_entry_keys outs)
mains_by us outs same mains u signature main there is =
    let k : In u.kind (map (λ v. v.kind) outs) = subst (In u.kind) same (in_map (λ (v : DwUnit EntryName). v.kind) u us there) in
    let o : From (λ (v : DwUnit EntryName). v.kind) outs u.kind = in_map_from (λ (v : DwUnit EntryName). v.kind) u.kind outs k in
    all_with outs o.source main o.there (mains o.source o.there signature main (o.is ∙ is))

module _ {beside : Beside} (f : RunFacts beside) (facts : AreFacts f) where
  file_in : (files : List ℕ) (n : ℕ) (v : DwUnit EntryName) → In n files → In v (out_units (move f) (units f) n) → In v (file_units (move f) (units f) files)
  unfolding file_units
  file_in [] n v there is = absurd there
  file_in (file ∷ files) n v (inl e) is =
      in_left v (out_units (move f) (units f) file) (file_units (move f) (units f) files) (subst (λ (w : ℕ). In v (out_units (move f) (units f) w)) (sym e) is)
  file_in (file ∷ files) n v (inr later) is = in_right v (out_units (move f) (units f) file) (file_units (move f) (units f) files) (file_in files n v later is)

  pub among_all : (n : ℕ) (v : DwUnit EntryName) → In n (file_numbers 0 (docs f)) → In v (out_units (move f) (units f) n)
      → In v (all_units (move f) (units f) (file_numbers 0 (docs f)))
  among_all n v there is = in_right v (common_units (move f)) (file_units (move f) (units f) (file_numbers 0 (docs f))) (file_in (file_numbers 0 (docs f)) n v there is)

  number_in : (n : ℕ) → In n (files_written f) → In n (file_numbers 0 (docs f))
  number_in n there = some_in (file_numbers 0 (docs f)) (files_written f) (some_written f facts) n there

  abbrev names : List EntryName
  names = entries_of (written_out f)

  in_common : (s : EntryName) → In s (all_entry_keys (common_fitted_by (common f) (run f))) → In s names
  in_common s key = entries_in (written_out f) (common_out_by (common f) (run f)) s (inl refl) key

  -- what a file that is written names stands in it, or in the common one
  pub file_only : (n : ℕ) → In n (files_written f) → NameOnly names (fitted_by (common f) (run f) n)
  file_only n file_in =
      let k = common f in
      let there : In (file_out_by k (run f) n) (written_out f) = inr (in_map (file_out_by k (run f)) n (files_written f) file_in) in
      record {
        refs = λ e a s seen attr ref. elim (facts.whole.closed n e a s (subst (In e) (fitted_seen k (run f) n) seen) attr ref) [
          | inl own ↦ entries_in (written_out f) (file_out_by k (run f) n) s there own
          | inr shared ↦ in_common s shared
        ];
        mains = λ u signature main u_in kind. entries_in (written_out f) (file_out_by k (run f) n) main there (subst (In main) (sym (fitted_entries_by k (run f) n))
            (mains_by (fitted_by k (run f) n) (out_units (move f) (units f) n) (fitted_kinds k (run f) n)
            (λ v v_in. facts.whole.mains v (among_all n v (number_in n file_in) v_in)) u signature main u_in kind));
      }

  pub files_only : (x : FileOut EntryName) → In x (files_out f) → NameOnly names x.units
  files_only x there =
      let o = in_map_from (file_out_by (common f) (run f)) x (files_written f) there in
      subst (λ (y : FileOut EntryName). NameOnly names y.units) o.is (file_only o.source o.there)

  common_no : (s : EntryName) → In s (all_entry_keys (common_fitted_by (common f) (run f))) → s ≡ UnitOf 0 → ⊥
  common_no s key e =
      let o = unit_with (common_units (move f)) s (subst (In s) facts.whole.shared key) in
      facts.whole.entries o.0 s (in_left o.0 (common_units (move f)) (file_units (move f) (units f) (file_numbers 0 (docs f))) o.1) o.2 e

  file_no : (n : ℕ) → In n (files_written f) → (s : EntryName) → In s (all_entry_keys (fitted_by (common f) (run f) n)) → s ≡ UnitOf 0 → ⊥
  file_no n there s key e =
      let o = unit_with (out_units (move f) (units f) n) s (subst (In s) (fitted_entries_by (common f) (run f) n) key) in
      facts.whole.entries o.0 s (among_all n o.0 (number_in n there) o.1) o.2 e

  -- no entry that they have is a unit
  pub entries_no : (s : EntryName) → In s names → s ≡ UnitOf 0 → ⊥
  entries_no s key e = (let o = entries_from (written_out f) s key in by o.0 o.1 o.2) where
    by : (x : FileOut EntryName) → In x (written_out f) → In s (all_entry_keys x.units) → ⊥
    by x (inl q) has = common_no s (subst (λ (y : FileOut EntryName). In s (all_entry_keys y.units)) (sym q) has) e
    by x (inr there) has =
        (let o = in_map_from (file_out_by (common f) (run f)) x (files_written f) there in
        file_no o.source o.there s (subst (λ (y : FileOut EntryName). In s (all_entry_keys y.units)) (sym o.is) has) e)

-- a common file that is made names its own entries
common_only : (f : RunFacts Alone) → AreFacts f → NameOnly (entries_of (written_out f)) (common_fitted_by (common f) (run f))
common_only f facts = record {
  refs = λ e a s seen attr ref. elim (facts.whole.common e a s (subst (In e) (common_seen (run f)) seen) attr ref) [
    | inl own ↦ in_common f facts s own
    | inr none ↦ absurd none
  ];
  mains = λ u signature main u_in kind. in_common f facts main (subst (In main) (sym (common_entries (run f)))
      (mains_by (common_fitted (run f)) (common_units (move f)) (common_kinds (run f))
      (λ v v_in. facts.whole.mains v (in_left v (common_units (move f)) (file_units (move f) (units f) (file_numbers 0 (docs f))) v_in)) u signature main u_in kind));
}

pub all_only : (f : RunFacts Alone) → AreFacts f → (x : FileOut EntryName) → In x (written_out f) → NameOnly (entries_of (written_out f)) x.units
all_only f facts x (inl e) = subst (λ (y : FileOut EntryName). NameOnly (entries_of (written_out f)) y.units) e (common_only f facts)
all_only f facts x (inr there) = files_only f facts x there
