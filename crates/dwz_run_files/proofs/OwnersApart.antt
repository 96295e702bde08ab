-- An entry of a file that is written isn't owned by a unit of the common file, unless it is one of a top whose home is that file.
use Rattle.std.proofs.Common.{◌≡◌, ℕ, ◌+◌, ◌-◌, true, false, List, length, Option, Some, None, slice_get, refl, sym, ap, subst}
use Rattle.std.proofs.Common.{◌∙◌, inl, inr, arith}
use Rattle.std.proofs.lemmas.Bool.{le-ltb}
use Rattle.std.specs.Prelude.{nat_lt, slice_index_or}
use Rattle.std.proofs.lemmas.Option.{get_or_from_slice_get}
use Rattle.dwz_def_reading.proofs.ListFacts.{got_in}
use Rattle.dwz_def_reading.specs.Documents.{DwUnit, Node, unit_map}
use Rattle.dwz_def_tops.specs.Lists.{Nth}
use Rattle.dwz_def_tops.proofs.Members.{in_map_from, nth_of}
use Rattle.dwz_def_tops.specs.Spots.{EntryName, PartialOf, Top, UnitOf, Within, file_numbers, in_file}
use Rattle.dwz_graph.specs.declared.index.Starts.{Starts}
use Rattle.dwz_graph.specs.Names.{top_in}
use Rattle.dwz_graph.proofs.TopLemmas.{get_cases}
use Rattle.dwz_graph.specs.Indexed.{first_starts}
use Rattle.dwz_def_images.specs.Homes.{Common, home}
use Rattle.dwz_def_images.specs.Plan.{PartialUnit}
use Rattle.dwz_plan.specs.declared.plan.Home.{Home as Place}
use Rattle.dwz_plan.specs.declared.plan.Home.TheVariants.{Common as InCommon, Local as InOwn, Stay as InUnit}
use Rattle.dwz_plan.specs.ShowsMove.{IsPlaceIn}
use Rattle.dwz_law_layout.proofs.PartUnits.{part_is}
use Rattle.dwz_def_images.specs.Units.{changes, common_units, kept_unit}
use Rattle.dwz_graph.specs.declared.file.File.{File}
use Rattle.dwz_graph.specs.Index.{Index}
use Rattle.dwz_unit.specs.Rows.{EntryRow}
use Rattle.dwz_graph.specs.AllNames.{all_names}
use Rattle.dwz_layout_numbers.specs.Owners.{files_written, owner_at, owner_by}
use Rattle.dwz_layout_numbers.proofs.ImageSteps.{in_a_top}
use Rattle.dwz_layout_numbers.proofs.OwnerLemmas.{own_name}
use Rattle.dwz_layout_numbers.proofs.OwnerSteps.{got_or}
use Rattle.dwz_layout.specs.declared.known.EntryTable.{EntryTable}
use Rattle.dwz_layout.specs.Attributes.{is_common}
use Rattle.dwz_layout.specs.Entries.{row}
use Rattle.dwz_layout.specs.Known.{number_of, owner_of}
use Rattle.dwz_law_layout.specs.Knows.{IsRead}
use Rattle.dwz_law_layout.specs.Beside.{Alone}
use Rattle.dwz_law_layout.specs.Facts.{AreFacts, HasFile, RunFacts, docs, file_read, move, units, units_written, written}
use Rattle.dwz_law_layout.specs.Listed.{AreListed, TextsAt}
use Rattle.dwz_law_layout.specs.NamedLaws.{entry_name}
use Rattle.dwz_law_layout.proofs.FileEntries.{IsHere, below, here, name_there, named, named_all, number_is, read_name}
use Rattle.dwz_law_layout.proofs.ImagesStand.{old}
use Rattle.dwz_law_layout.proofs.OwnedEntries.{found_names, name, names_same, unit_there}
use Rattle.dwz_law_layout.proofs.PartHomes.{not_first}
use Rattle.dwz_law_layout.proofs.Walks.{owners_at}
use Rattle.dwz_law_layout.proofs.UnitsKnown.{partial_is}

-- ---- units that aren't of the common file

-- the name isn't one of an entry for which one of a top stands that goes to the common file
abbrev pub IsApart : RunFacts Alone → EntryName → Type 0
IsApart f s = (top : ℕ) (path : List ℕ) → s ≡ Within top path → home f.rule (units f) ((move f).stand top) ≡ Common → ⊥

module _ (f : RunFacts Alone) (t : TextsAt) (k : EntryTable) (facts : AreFacts f) (listed : AreListed f t k) where
  old_behind : (at i : ℕ) (u : DwUnit EntryName) → slice_get (units_written f) at ≡ Some u → u.at ≡ UnitOf i → is_common k at ≡ false
  unfolding common_units
  old_behind at i u e name =
      let common = common_units (move f) in
      let many : k.commons ≡ length common = listed.commons ∙ facts.numbers.commons_are in
      ap (nat_lt at) many ∙ elim (get_cases common (files_written (move f) (units f) 0 (written f)) at u e) [
        | inl a ↦ absurd (let o = partial_is (move f) Common 0 (move f).parts u (got_in common at u a) in
            let no : UnitOf i ≡ PartialOf o.0 = sym name ∙ o.1 in cc)
        | inr b ↦ le-ltb at (length common) (let far = b.1 in omega (arith, far))
      ]

  -- ---- owners

  abbrev parts : List PartialUnit
  parts = (move f).parts

  -- that of a top with this place, where it isn't the common file
  placed : (kept top : ℕ) → is_common k kept ≡ false → (home f.rule (units f) ((move f).stand top) ≡ Common → ⊥) → (p : Place)
      → IsPlaceIn (move f) top p → is_common k (owner_at f.parts kept p) ≡ false
  placed kept top own apart (InCommon p) q =
      let none : 0 + p ≡ p = omega arith in
      let nth : Nth 0 parts p q.1.part = subst (λ (w : ℕ). Nth 0 parts w q.1.part) none (nth_of 0 parts p q.1.part q.1.there) in
      let y = in_map_from (λ (t : Top). t.number) ((move f).stand top) q.1.part.tops q.1.holds in
      let is = ((part_is (units f) f.rule (file_numbers 0 (docs f)) p q.1.part nth).tops y.source).0 y.there in
      absurd (apart (ap (home f.rule (units f)) (sym y.is) ∙ is.home ∙ q.1.home))
  placed kept top own apart (InOwn p) q =
      let none : 0 + p ≡ p = omega arith in
      let nth : Nth 0 parts p q.2.part = subst (λ (w : ℕ). Nth 0 parts w q.2.part) none (nth_of 0 parts p q.2.part q.2.there) in
      let number = facts.numbers.parts_are p q.2.part nth in
      subst (λ (w : ℕ). is_common k w ≡ false) (sym (got_or f.parts p number.0 kept number.1))
      (not_first f facts q.0 p q.2.part nth q.2.home t k listed number.0 number.2)
  placed kept top own apart InUnit q = own

  module _ (n : ℕ) (bytes : List ℕ) (x : File) (index : Index) (h : HasFile f n bytes x index) where
    abbrev o : IsHere f k n x index
    o = here f t k facts listed n x index h.file h.index_is

    pub owned_apart : changes (move f) (units f) n ≡ true → (i : ℕ) (r : EntryRow) (d : Node ℕ) → IsRead (file_read f n bytes x) i r d
        → IsApart f (entry_name f n d) → is_common k (owner_of k (number_of k (row n i))) ≡ false
    owned_apart changed i r d read away =
        let s = named f k n x index o i in
        let low = below f k n x index o bytes i r d read in
        let apart : IsApart f s = subst (IsApart f) (read_name f k n x index o bytes i r d read) away in
        let found : slice_get (found_names f t k facts listed n x index o) i ≡ Some s =
        ap (λ (w : List EntryName). slice_get w i) (names_same f t k facts listed n x index o) ∙ name_there f k n x index o i low in
        let u = unit_there f t k facts listed n x index o i r s read.found found in
        let unit = in_file n (unit_map (name f t k facts listed n x index o) u.its.v) in
        let kept = facts.numbers.olds_are u.number unit u.nth (facts.numbers.changed n changed) in
        let owners = owners_at f first_starts (docs f) f.indexes facts.indexed.end facts.indexed.are f.files k.owners.items listed.owners
        0 n o.start x index (found_names f t k facts listed n x index o) o.file_is o.index_is o.start_is o.found.index.names i r s read.found
        found in
        let w = owners.1 in
        let at : o.start + i ≡ (o.start - 0) + i = omega arith in
        let owner : owner_of k (o.start + i) ≡ w.owner =
        get_or_from_slice_get k.owners.items (o.start + i) w.owner 0 (ap (slice_get k.owners.items) at ∙ w.there) in
        let number = u.is_number in
        let same : index.starts.unit + r.unit ≡ u.number = ap (λ (v : Starts). v.unit + r.unit) (sym o.starts_same) ∙ sym number in
        let is = w.is kept.0 (ap (slice_get f.olds) same ∙ kept.1) in
        let own = old_behind kept.0 u.number (kept_unit (move f) (units f) u.number unit) kept.2 ((old f facts).units_named u.number unit u.nth).unit in
        subst (λ (m : ℕ). is_common k m ≡ false) (sym (ap (owner_of k) (number_is f k n x index o i) ∙ owner ∙ is))
        (by kept.0 own s apart (named_all f k n x index o i low) (top_in s) refl)
      where
        by : (kept : ℕ) → is_common k kept ≡ false → (s : EntryName) → IsApart f s → slice_get (all_names (docs f)) (o.start + i) ≡ Some s
            → (top : Option ℕ) → top_in s ≡ top → is_common k (owner_by f.planned f.parts kept top) ≡ false
        by kept own s apart there None e = own
        by kept own s apart there (Some top) e =
            let w = in_a_top top s e in
            let v = own_name (docs f) (o.start + i) top w.0 (there ∙ ap (λ (q : EntryName). Some q) w.1) in
            let place = slice_index_or f.planned.homes top InUnit in
            let shown : IsPlaceIn (move f) top place =
            subst (λ (m : ℕ). IsPlaceIn (move f) m (slice_index_or f.planned.homes m InUnit)) v.2 (facts.shows.homes v.0 v.1) in
            placed kept top own (apart top w.0 w.1) place shown
