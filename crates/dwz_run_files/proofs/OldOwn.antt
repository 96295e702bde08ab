-- What is written of the old units of a file are entries of its own: what stays in a unit is of no top that goes to the common file.
use Rattle.std.proofs.Common.{[], ◌+◌, ◌==◌, ◌∙◌, ◌∷◌, ◌≡◌, Bool, List, Some, ℕ, ap, arith, false, inl, inr, refl, slice_get, subst, suc, sym, true}
use Rattle.std.proofs.lemmas.Bool.{eqb-true}
use Rattle.dwz_def_reading.specs.Lists.{Each, In}
use Rattle.dwz_def_reading.proofs.ListFacts.{in_right}
use Rattle.dwz_def_reading.specs.Documents.{Node}
use Rattle.dwz_def_reading.specs.Meanings.{IfSo}
use Rattle.dwz_def_tops.specs.Lists.{Nth}
use Rattle.dwz_def_tops.specs.Spots.{EntryName, FileUnit}
use Rattle.dwz_def_images.specs.Homes.{Local, is_home}
use Rattle.dwz_def_images.specs.Moves.{image_in}
use Rattle.dwz_def_images.specs.Units.{changes, kept_unit, kept_units, out_units, partial_units}
use Rattle.dwz_def_readback.proofs.WithinLemmas.{kept_to}
use Rattle.dwz_graph.specs.declared.file.File.{File}
use Rattle.dwz_graph.specs.Index.{Index}
use Rattle.dwz_unit.specs.Rows.{EntryRow}
use Rattle.dwz_graph.specs.AllNames.{all_names}
use Rattle.dwz_layout_numbers.specs.Owners.{IsFileWritten}
use Rattle.dwz_layout_order.specs.Orders.{First}
use Rattle.dwz_layout.specs.declared.known.EntryTable.{EntryTable}
use Rattle.dwz_layout.specs.declared.order.UnitItems.{UnitItems}
use Rattle.dwz_layout.specs.declared.walk.Origin.{Origin}
use Rattle.dwz_layout.specs.declared.walk.Origin.TheVariants.{Chained, Imported, OwnRoot, Read as OfRow}
use Rattle.dwz_layout.specs.declared.walk.Slot.{Slot}
use Rattle.dwz_layout.specs.Entries.{items_slots, row}
use Rattle.dwz_layout.specs.Known.{number_of}
use Rattle.dwz_encode.specs.Shown.{HasRow, IsRow}
use Rattle.dwz_law_layout.specs.Knows.{IsRead, Writes}
use Rattle.dwz_encode_common.specs.Placed.{in_common_file}
use Rattle.dwz_law_layout.specs.Beside.{Alone}
use Rattle.dwz_law_layout.specs.Facts.{AreFacts, HasFile, RunFacts, docs, file_read, move, units, written}
use Rattle.dwz_law_layout.specs.Listed.{AreListed, TextsAt}
use Rattle.dwz_law_layout.specs.NamedLaws.{entry_name}
use Rattle.dwz_law_layout.specs.Old.{EachOld, OldNames}
use Rattle.dwz_law_layout.specs.Roots.{UnitShown}
use Rattle.dwz_law_layout.proofs.FileEntries.{IsHere, below, here, named_all, number_is, read_name}
use Rattle.dwz_law_layout.proofs.ItemsShown.{items_stay}
use Rattle.dwz_law_layout.proofs.StayingTrees.{IsStaying, OriginStays, SlotsStay, StaysIn}
use Rattle.dwz_run_files.proofs.OwnersApart.{IsApart, owned_apart}

module _ (f : RunFacts Alone) (t : TextsAt) (k : EntryTable) (facts : AreFacts f) (listed : AreListed f t k) (n : ℕ) (bytes : List ℕ) (x : File)
    (index : Index) (h : HasFile f n bytes x index) (changed : changes (move f) (units f) n ≡ true) where
  abbrev o : IsHere f k n x index
  o = here f t k facts listed n x index h.file h.index_is

  abbrev P : ℕ → Type 0
  P = StaysIn (move f) (units f)

  -- ---- an entry that stays

  -- what stands for a top in the common file moves, so an entry of such a top doesn't stay
  stays_apart : (number : ℕ) (s : EntryName) → slice_get (all_names (docs f)) number ≡ Some s → IsStaying P (image_in (move f) s)
      → IsApart f s
  stays_apart number s there stays top path is at =
      let gone : (move f).gone ((move f).stand top) ≡ true = ap is_home at in
      let no : (move f).gone ((move f).stand top) ≡ false =
      (subst (λ (w : EntryName). IsStaying P (image_in (move f) w)) is stays).0 in
      cc

  module _ (i : ℕ) (r : EntryRow) (d : Node ℕ) (read : IsRead (file_read f n bytes x) i r d) where
    origin_stays : (q : Origin) → OriginStays P (file_read f n bytes x) q → IsRow k (number_of k (row n i)) q
        → IsStaying P ((file_read f n bytes x).after d.at)
    origin_stays (OfRow w) stays e =
        let is : w ≡ row n w.entry = λ j. row (stays.0 j) w.entry in
        let one = ap (number_of k) is ∙ number_is f k n x index o w.entry in
        let two = number_is f k n x index o i in
        let same : i ≡ w.entry = omega (arith, one, two, e) in
        stays.1 r d (subst (λ (q : ℕ). IsRead (file_read f n bytes x) q r d) same read)
    origin_stays (OwnRoot place) stays e = absurd e
    origin_stays (Chained chain space) stays e = absurd e
    origin_stays (Imported part) stays e = absurd e

    found_stays : (slots : List Slot) → SlotsStay P (file_read f n bytes x) slots → HasRow k (number_of k (row n i)) slots
        → IsStaying P ((file_read f n bytes x).after d.at)
    found_stays [] all has = absurd has
    found_stays (s ∷ slots) all (inl e) = origin_stays s.origin all.0 e
    found_stays (s ∷ slots) all (inr later) = found_stays slots all.1 later

    entry_own : (slots : List Slot) → SlotsStay P (file_read f n bytes x) slots → HasRow k (number_of k (row n i)) slots
        → in_common_file k n i ≡ false
    entry_own slots all has =
        let low = below f k n x index o bytes i r d read in
        let there : slice_get (all_names (docs f)) (o.start + i) ≡ Some (entry_name f n d) =
        named_all f k n x index o i low ∙ ap (λ (w : EntryName). Some w) (sym (read_name f k n x index o bytes i r d read)) in
        owned_apart f t k facts listed n bytes x index h changed i r d read
        (stays_apart (o.start + i) (entry_name f n d) there (found_stays slots all has))

  -- ---- units

  abbrev Own : UnitItems → Type 0
  Own u = (i : ℕ) (r : EntryRow) (d : Node ℕ) → IsRead (file_read f n bytes x) i r d → Writes k u (file_read f n bytes x) i
      → in_common_file k n i ≡ false

  old_own : (j : ℕ) (u : FileUnit EntryName) (items : UnitItems) → Nth 0 (units f) j u → u.file ≡ n
      → OldNames (move f) (units f) j u.unit.kind items.items → UnitShown f n bytes x u.unit items.sort → Own items
  unfolding out_units
  old_own j u items nth own names shown i r d read writes =
      let v = kept_unit (move f) (units f) j u in
      let number = facts.numbers.olds_are j u nth (subst (λ (q : ℕ). IsFileWritten (written f) q) (sym own) (facts.numbers.changed n changed)) in
      let is : In v (out_units (move f) (units f) n) =
      in_right v (partial_units (move f) (Local n) 0 (move f).parts) (kept_units (move f) (units f) n 0 (units f))
      (kept_to (move f) (units f) n 0 (units f) j u nth own) in
      entry_own i r d read (items_slots k items.sort items.items)
      (items_stay f t k facts listed n bytes x index h j u nth own changed number.0 number.2 is items.sort shown u.unit.kind refl items.items
      names) writes

  abbrev Names : ℕ → List (FileUnit EntryName) → List UnitItems → Type 0
  Names j us order = EachOld (λ j u o. OldNames (move f) (units f) j u.unit.kind o.items) n j us order

  abbrev Shown : ℕ → List (FileUnit EntryName) → List UnitItems → Type 0
  Shown j us order = EachOld (λ j u o. UnitShown f n bytes x u.unit o.sort) n j us order

  each_own : (j : ℕ) (us : List (FileUnit EntryName)) (order : List UnitItems) → Names j us order → Shown j us order
      → ((c : ℕ) (u : FileUnit EntryName) → Nth j us c u → Nth 0 (units f) c u) → Each Own order
  each_own j [] order names shown among = subst (Each Own) (sym names) tt
  each_own j (u ∷ us) order names shown among =
      by (u.file == n) refl order names shown (among j u (inl (refl, refl)))
      (λ some names shown. each_own (suc j) us some names shown (λ c w nth. among c w (inr nth)))
    where
      by : (b : Bool) → (u.file == n) ≡ b → (order : List UnitItems)
          → IfSo b (First (λ o. OldNames (move f) (units f) j u.unit.kind o.items) (Names (suc j) us) order) (Names (suc j) us order)
          → IfSo b (First (λ o. UnitShown f n bytes x u.unit o.sort) (Shown (suc j) us) order) (Shown (suc j) us order)
          → Nth 0 (units f) j u
          → ((some : List UnitItems) → Names (suc j) us some → Shown (suc j) us some → Each Own some) → Each Own order
      by true is [] names shown nth rest = absurd names
      by true is (o ∷ order) names shown nth rest =
          (old_own j u o nth (eqb-true u.file n is) names.0 shown.0, rest order names.1 shown.1)
      by false is order names shown nth rest = rest order names shown

  pub olds_own : (order : List UnitItems) → Names 0 (units f) order → Shown 0 (units f) order → Each Own order
  olds_own order names shown = each_own 0 (units f) order names shown (λ c u nth. nth)
