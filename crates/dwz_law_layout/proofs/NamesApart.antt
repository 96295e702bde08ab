-- Entries that were read have names of their own: one number each, and no unit after, no root of a partial unit and nothing that is made
-- has one.
use Rattle.std.proofs.Common.{◌≡◌, ℕ, ◌<◌, Bool, true, false, List, ◌++◌, Some, length, slice_get, refl, sym, ap, subst, ◌∙◌, inl, inr, arith}
use Rattle.std.proofs.lemmas.List.{length-append}
use Rattle.std.proofs.lemmas.Option.{get_or_from_slice_get}
use Rattle.dwz_def_reading.specs.Lists.{Each, In}
use Rattle.dwz_def_reading.specs.Pruning.{new_number}
use Rattle.dwz_def_reading.proofs.ListFacts.{got_in, got_there}
use Rattle.dwz_def_reading.specs.Documents.{Compile, DwUnit, Kind, OfType, Partial, kind_map}
use Rattle.dwz_def_tops.specs.Lists.{Nth}
use Rattle.dwz_def_tops.specs.Seen.{IsPartial}
use Rattle.dwz_def_tops.specs.Shown.{units_keys}
use Rattle.dwz_def_tops.proofs.Members.{each_append, each_in, each_of, in_map_from}
use Rattle.dwz_def_tops.specs.Spots.{EntryName, FileUnit, no_name, rows_of_root}
use Rattle.dwz_def_images.specs.Homes.{Common, Home, Local}
use Rattle.dwz_def_images.specs.Moves.{image_in}
use Rattle.dwz_def_tops.specs.UnitNames.{IsNamedBelow}
use Rattle.dwz_def_images.specs.Units.{common_units, kept_unit, kept_units, out_units, partial_unit, partial_units}
use Rattle.dwz_def_encoding.specs.Placing.{FileOut, Forms, fit_unit, fit_units, with_keys}
use Rattle.dwz_def_encoding.specs.Pruned.{renumbered_unit, renumbered_units}
use Rattle.dwz_def_readback.specs.Files.{fitted_by, formed_by, CommonFile, common_fitted, common_forms, file_forms_by, file_out_by, fitted_if_by, sources, uses_by}
use Rattle.dwz_def_readback.proofs.HomeLemmas.{kept_from, parts_from}
use Rattle.dwz_graph.specs.AllNames.{all_names}
use Rattle.dwz_layout_numbers.proofs.OnceNames.{no_unit, one_entry}
use Rattle.dwz_layout.specs.declared.known.EntryTable.{EntryTable}
use Rattle.dwz_layout.specs.declared.order.UnitItems.{UnitItems}
use Rattle.dwz_law_layout.specs.Refers.{RowsApart}
use Rattle.dwz_law_layout.proofs.HeldNames.{each_to_map}
use Rattle.dwz_law_layout.specs.Facts.{AreFacts, RunFacts, common, every, files_written, move, owners_beside, run, units}
use Rattle.dwz_law_layout.specs.Beside.{Alone, Beside}
use Rattle.dwz_law_layout.specs.Listed.{AreListed, TextsAt}
use Rattle.dwz_law_layout.specs.Named.{keys}
use Rattle.dwz_law_layout.proofs.ImagesStand.{old}
use Rattle.dwz_law_layout.specs.Laid.{files_out, written_out}
use Rattle.dwz_law_layout.proofs.EntryNames.{IsOfEntry, is_of_entry}
use Rattle.dwz_law_layout.proofs.NamesCounted.{got_or}
use Rattle.dwz_law_layout.proofs.Walks.{owners_split}

-- ---- how many entries there are

pub entries_many : {beside : Beside} (f : RunFacts beside) (t : TextsAt) (k : EntryTable) → AreFacts f → AreListed f t k → length k.owners.items ≡ length (all_names (every f))
entries_many f t k facts listed =
    let o = owners_split f t k facts listed in
    let all = ap (λ (w : List ℕ). length w) o.are in
    let both = length-append o.own (owners_beside f) in
    let own = o.many in
    let every_many = facts.behind.many in
    omega (arith, all, both, own, every_many)

-- ---- units and their roots

-- it has no name of an entry that was read, and if it is a partial unit, nor has its root
abbrev Made : DwUnit EntryName → Type 0
Made u = (IsOfEntry u.at → ⊥) × (IsPartial u.kind → IsOfEntry u.root.at → ⊥)

fitted_made : (forms : Forms EntryName) (us : List (DwUnit EntryName)) → Each Made us → Each Made (fit_units forms us)
unfolding fit_units
fitted_made forms us made = each_to_map (fit_unit (with_keys forms (units_keys us))) Made us made

new_made : (number : ℕ → ℕ) (us : List (DwUnit EntryName)) → Each Made us → Each Made (renumbered_units number us)
unfolding renumbered_units
new_made number us made = each_to_map (renumbered_unit number) Made us made

module _ {beside : Beside} (f : RunFacts beside) (facts : AreFacts f) where
  part_made : (n : ℕ) → Made (partial_unit (move f) n)
  part_made n = (λ h. h, λ partial h. h)

  parts_made : (h : Home) → Each Made (partial_units (move f) h 0 (move f).parts)
  parts_made h = each_of Made (partial_units (move f) h 0 (move f).parts) (λ v there.
      (let o = parts_from (move f) h 0 (move f).parts v there in subst Made o.is (part_made o.number)))

  kept_made : (i : ℕ) (u : FileUnit EntryName) → Nth 0 (units f) i u → Made (kept_unit (move f) (units f) i u)
  kept_made i u nth = (let named = (old f facts).units_named i u nth in (subst (λ (s : EntryName). IsOfEntry s → ⊥) (sym named.unit) (λ h. h), λ partial of. by u.unit.kind refl partial)) where
    by : (kind : Kind EntryName) → u.unit.kind ≡ kind → IsPartial (kind_map (image_in (move f)) kind) → ⊥
    by Compile e partial = partial
    by (OfType signature main) e partial = partial
    by Partial e partial = subst (λ (w : Kind EntryName). IsNamedBelow i w (rows_of_root (units f) i) u.unit.below) e ((old f facts).units_named i u nth).below

  old_made : (n : ℕ) → Each Made (kept_units (move f) (units f) n 0 (units f))
  old_made n = each_of Made (kept_units (move f) (units f) n 0 (units f)) (λ v there.
      (let o = kept_from (move f) (units f) n 0 (units f) v there in subst Made o.is (kept_made o.number o.unit o.nth)))

  common_made : Each Made (common_fitted (run f))
  unfolding common_fitted common_units
  common_made = fitted_made (common_forms (run f)) (partial_units (move f) Common 0 (move f).parts) (parts_made Common)

  formed_made : (k : CommonFile) (n : ℕ) → Each Made (formed_by k (run f) n)
  unfolding formed_by out_units
  formed_made k n =
      fitted_made (file_forms_by k (run f) n) (partial_units (move f) (Local n) 0 (move f).parts ++ kept_units (move f) (units f) n 0 (units f))
      (each_append Made (partial_units (move f) (Local n) 0 (move f).parts) (kept_units (move f) (units f) n 0 (units f)) (parts_made (Local n)) (old_made n))

  file_made : (k : CommonFile) (n : ℕ) → Each Made (fitted_by k (run f) n)
  unfolding fitted_by
  file_made k n = by (f.input.prunes n) where
    by : (b : Bool) → Each Made (fitted_if_by b k (run f) n)
    by true = new_made (new_number (sources (run f) n).strs (uses_by k (run f) n)) (formed_by k (run f) n) (formed_made k n)
    by false = formed_made k n

  files_made : (x : FileOut EntryName) → In x (files_out f) → Each Made x.units
  files_made x there =
      let o = in_map_from (file_out_by (common f) (run f)) x (files_written f) there in
      subst (λ (y : FileOut EntryName). Each Made y.units) o.is (file_made (common f) o.source)

  -- ---- entries

  module _ (k : EntryTable) (many : length k.owners.items ≡ length (all_names (every f))) where
    row_there : (m : ℕ) → m < length k.owners.items → slice_get (all_names (every f)) m ≡ Some ((keys f).row m)
    row_there m lt =
        let o = got_there (all_names (every f)) m (omega (arith, lt, many)) in
        o.1 ∙ ap (λ (s : EntryName). Some s) (sym (get_or_from_slice_get (all_names (every f)) m o.0 no_name o.1))

    row_in : (m : ℕ) → m < length k.owners.items → In ((keys f).row m) (all_names (every f))
    row_in m lt = got_in (all_names (every f)) m ((keys f).row m) (row_there m lt)

    row_is : (m : ℕ) → m < length k.owners.items → (s : EntryName) → (keys f).row m ≡ s → IsOfEntry s
    row_is m lt s e = subst IsOfEntry e (is_of_entry (every f) ((keys f).row m) (row_in m lt))

    one_row : (m n : ℕ) → m < length k.owners.items → (keys f).row m ≡ (keys f).row n → m ≡ n
    one_row m n lt e = elim (got_or (all_names (every f)) n no_name) [
      | inl inside ↦ one_entry (every f) ((keys f).row n) m n (row_there m lt ∙ ap (λ (s : EntryName). Some s) e) (row_there n (omega (arith, inside, many)))
      | inr none ↦ absurd (no_unit (every f) 0 (subst (λ (s : EntryName). In s (all_names (every f))) (e ∙ none) (row_in m lt)))
    ]

    apart_by : (orders : List (List UnitItems)) (files : List (FileOut EntryName)) → ((x : FileOut EntryName) → In x files → Each Made x.units) → RowsApart (keys f) k orders files
    apart_by orders files made = record {
      rows = λ m n lt written e. one_row m n lt e;
      units = λ m x u lt x_in u_in e. (each_in Made u x.units (made x x_in) u_in).0 (row_is m lt u.at e);
      roots = λ m x u lt x_in u_in partial e. (each_in Made u x.units (made x x_in) u_in).1 partial (row_is m lt u.root.at e);
      chained = λ m unit chain depth lt e. row_is m lt ((keys f).chained unit chain depth) e;
      imports = λ m unit part lt e. row_is m lt ((keys f).import unit part) e;
    }

    pub files_apart : (orders : List (List UnitItems)) → RowsApart (keys f) k orders (files_out f)
    files_apart orders = apart_by orders (files_out f) files_made

module _ (f : RunFacts Alone) (facts : AreFacts f) where
  units_made : (x : FileOut EntryName) → In x (written_out f) → Each Made x.units
  units_made x (inl e) = subst (λ (y : FileOut EntryName). Each Made y.units) e (common_made f facts)
  units_made x (inr there) = files_made f facts x there

  pub rows_apart : (k : EntryTable) → length k.owners.items ≡ length (all_names (every f)) → (orders : List (List UnitItems)) → RowsApart (keys f) k orders (written_out f)
  rows_apart k many orders = apart_by f facts k many orders (written_out f) units_made
