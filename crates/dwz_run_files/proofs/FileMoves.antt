-- The texts of a file move, unit by unit: where just those stay that are used, each stands where its new number says; and in a file that
-- isn't prunable all stay where they were.
use Rattle.std.proofs.Common.{[], ◌++◌, ◌+◌, ◌∙◌, ◌∷◌, ◌≡◌, Bool, Contains, List, None, Option, Some, ℕ, ap, arith, false, refl, slice_get, subst, suc, sym, zero}
use Rattle.std.proofs.lemmas.Option.{get_or_from_slice_get}
use Rattle.dwz_def_reading.specs.Lists.{Each, In}
use Rattle.dwz_def_reading.specs.Pruning.{new_number}
use Rattle.dwz_def_reading.proofs.ListFacts.{got_below, got_map, got_there, in_left}
use Rattle.dwz_def_reading.specs.Documents.{DwUnit, Node, node_map}
use Rattle.dwz_def_tops.specs.Spaces.{space_text}
use Rattle.dwz_def_tops.specs.Spots.{EntryName, name_of}
use Rattle.dwz_strs.specs.Pruned.{IsPruned}
use Rattle.dwz_def_images.specs.Units.{out_units}
use Rattle.dwz_unit.specs.Rows.{EntryRow}
use Rattle.dwz_def_encoding.specs.Pruned.{known_slots}
use Rattle.dwz_def_encoding.specs.Pruned as pruning
use Rattle.dwz_def_readback.specs.Files.{sources, uses_by}
use Rattle.dwz_graph.specs.declared.file.File.{File}
use Rattle.dwz_graph.specs.Index.{Index}
use Rattle.dwz_layout.specs.declared.known.ValueCounts.{ValueCounts}
use Rattle.dwz_layout.specs.declared.known.EntryTable.{EntryTable}
use Rattle.dwz_layout.specs.declared.known.SpaceRow.{SpaceRow}
use Rattle.dwz_layout.specs.declared.known.TextAt.{TextAt}
use Rattle.dwz_layout.specs.declared.known.TextAt.TheVariants.{Own}
use Rattle.dwz_layout.specs.declared.order.UnitItems.{UnitItems}
use Rattle.dwz_layout.specs.Attributes.{holder_by, is_common}
use Rattle.dwz_layout.specs.Entries.{row}
use Rattle.dwz_layout.specs.Known.{no_space, no_text, space_at, text_at, text_held}
use Rattle.dwz_law_layout.specs.Fitted.{KnowUnits, KnowsShown}
use Rattle.dwz_law_layout.specs.Knows.{EachFrom, IsRead, IsText, NewNumbers, Writes, firsts_at, name_attr, texts_in}
use Rattle.dwz_law_layout.proofs.UnitFits.{same_holder}
use Rattle.dwz_layout_order.specs.declared.orders.Settled.{Settled}
use Rattle.dwz_law_layout.specs.Beside.{Beside}
use Rattle.dwz_law_layout.specs.Facts.{HasFile, RunFacts, common, file_read, move, run, units}
use Rattle.dwz_law_layout.specs.Listed.{TextsAt, entry_row, space_entries}
use Rattle.dwz_law_layout.specs.Named.{keys}
use Rattle.dwz_law_layout.proofs.LayoutLemmas.{knows_file}
use Rattle.dwz_law_layout.specs.Unfitted.{HasChained, KnowTexts, KnowsUnitTexts, file_keyed_forms, file_unit_forms}
use Rattle.dwz_encode_texts.proofs.FileTexts.{space_row}
use Rattle.dwz_law_layout.specs.Laid.{numbers_if, run_numbers}
use Rattle.dwz_encode_texts.specs.declared.pruning.PrunedFile.{PrunedFile}
use Rattle.dwz_encode_texts.specs.PrunedFiles.{file_uses}
use Rattle.dwz_encode_texts.specs.Used.{order_uses}
use Rattle.dwz_encode_texts.proofs.MovedNames.{name_moved}
use Rattle.dwz_encode_texts.proofs.MovedUses.{entry_moved}
use Rattle.dwz_run_files.specs.Moved.{AreMoved, IsPrunedIf, moved_if, moved_space, pruned_at}
use Rattle.dwz_run_files.specs.Prepared.{ArePrepared, IsOrdered}
use Rattle.dwz_run_files.specs.Whole.{EachText, IsNotPooled, StandWhole}
use Rattle.dwz_run_files.proofs.CommonMoves.{each_from_more}
use Rattle.dwz_run_files.proofs.FilesUse.{units_known, uses_are}
use Rattle.dwz_run_files.proofs.SameLists.{firsts_same, texts_moved, writes_same}
use Rattle.dwz_run_files.proofs.HeldTexts.{held_in_file}
use Rattle.dwz_run_files.proofs.SlotsThere.{unit_there}
use Rattle.dwz_run_files.proofs.UnitUses.{chained_among, entry_among, front_stays, here, in_contains}

each_at : {X : Type 0} (P : X → Type 0) (xs : List X) (i : ℕ) (x : X) → Each P xs → slice_get xs i ≡ Some x → P x
each_at P [] i x all e = absurd cc
each_at P (y ∷ xs) zero x all e = (let same : y ≡ x = cc in subst P same all.0)
each_at P (y ∷ xs) (suc i) x all e = each_at P xs i x all.1 e

module _ {beside : Beside} (f : RunFacts beside) (s : Settled) (t : TextsAt) (k : EntryTable) (orders : List (List UnitItems)) (p : ArePrepared f s t k orders)
    (stand : StandWhole f k orders)
    (pruned : List (Option PrunedFile)) (m : EntryTable) (h : AreMoved pruned k m) where
  -- ---- the names of spaces

  module _ (n space i : ℕ) (at : slice_get (space_entries 0 f.indexes) space ≡ Some (entry_row n i)) where
    text_there : (x : TextAt) × (slice_get t.spaces space ≡ Some x)
    text_there =
        let low = got_below (space_entries 0 f.indexes) space (entry_row n i) at in
        let many = p.listed.many_spaces in
        got_there t.spaces space (omega (arith, low, many))

    common_there : (x : TextAt) × (slice_get t.commons space ≡ Some x)
    common_there =
        let low = got_below (space_entries 0 f.indexes) space (entry_row n i) at in
        let many = p.listed.many_commons in
        got_there t.commons space (omega (arith, low, many))

    abbrev old_space : SpaceRow
    old_space = record { row = entry_row n i; text = text_there.0; common = common_there.0 }

    there : slice_get k.spaces.items space ≡ Some old_space
    there = ap (λ (w : List SpaceRow). slice_get w space) p.listed.spaces
        ∙ space_row (space_entries 0 f.indexes) t.spaces t.commons space (entry_row n i) text_there.0 common_there.0 at text_there.1
        common_there.1

    space_is : space_at k space ≡ old_space
    space_is = get_or_from_slice_get k.spaces.items space old_space no_space there

    space_now : space_at m space ≡ moved_space pruned old_space
    space_now =
        get_or_from_slice_get m.spaces.items space (moved_space pruned old_space) no_space
        (ap (λ (w : List SpaceRow). slice_get w space) h.spaces ∙ got_map (moved_space pruned) k.spaces.items space old_space there)

    space_row_is : (space_at k space).row ≡ row n i
    space_row_is = ap (λ (w : SpaceRow). w.row) space_is

    space_moves : (space_at m space).text ≡ moved_if (pruned_at pruned n) (space_at k space).text
    space_moves = ap (λ (w : SpaceRow). w.text) space_now ∙ sym (ap (λ (w : SpaceRow). moved_if (pruned_at pruned n) w.text) space_is)

    -- so does its name where a unit of the file holds it
    held_moves : (u : DwUnit EntryName)
        → text_held (file_unit_forms f n u).holder (space_at m space) ≡ moved_if (pruned_at pruned n) (text_held (file_unit_forms f n u).holder (space_at k space))
    held_moves u = held_in_file u.kind (space_at m space) ∙ space_moves
        ∙ ap (moved_if (pruned_at pruned n)) (sym (held_in_file u.kind (space_at k space)))

  -- ---- a file of which this stays

  module _ (n : ℕ) (q : Option PrunedFile) (at : pruned_at pruned n ≡ q) (front : moved_if q no_text ≡ no_text) where
    text_moves : (j : ℕ) → text_at m n j ≡ moved_if q (text_at k n j)
    text_moves j =
        texts_moved pruned k m h n (ap (λ (o : Option PrunedFile). moved_if o no_text) at ∙ front) j
        ∙ ap (λ (o : Option PrunedFile). moved_if o (text_at k n j)) at

    abbrev EntriesTold : NewNumbers → UnitItems → DwUnit EntryName → Type 0
    EntriesTold rn o u = (bytes : List ℕ) (x : File) (index : Index) → HasFile f n bytes x index
        → (i : ℕ) (r : EntryRow) (d : Node ℕ) → IsRead (file_read f n bytes x) i r d → Writes k o (file_read f n bytes x) i
        → EachFrom (λ j a. IsText (file_unit_forms f n u) rn a (text_at m n j)) (firsts_at k (file_read f n bytes x) i).text
        (texts_in (node_map (file_read f n bytes x).after d).attrs)

    abbrev NamesTold : NewNumbers → UnitItems → DwUnit EntryName → Type 0
    NamesTold rn o u = (bytes : List ℕ) (x : File) (index : Index) → HasFile f n bytes x index
        → (space i : ℕ) (r : EntryRow) (d : Node ℕ) (text : List ℕ) → HasChained space o.items
        → slice_get (space_entries 0 f.indexes) space ≡ Some (entry_row n i)
        → IsRead (file_read f n bytes x) i r d → space_text d ≡ Some text
        → IsText (file_unit_forms f n u) rn (name_attr (name_of text d)) (moved_if q (text_held (file_unit_forms f n u).holder (space_at k space)))

    unit_told : (rn : NewNumbers) (o : UnitItems) (u : DwUnit EntryName) → EntriesTold rn o u → NamesTold rn o u → KnowsUnitTexts f m rn n o u
    unit_told rn o u entries names = record {
      entries = λ bytes x index has. record {
        are = λ i r d read writes.
            subst (λ (w : ValueCounts). EachFrom (λ j a. IsText (file_unit_forms f n u) rn a (text_at m n j)) w.text
            (texts_in (node_map (file_read f n bytes x).after d).attrs))
            (sym (firsts_same pruned k m h (row n i)))
            (entries bytes x index has i r d read (writes_same pruned k m h o (file_read f n bytes x) i writes));
      };
      spaces = λ bytes x index has space i r d text chained found read is.
          subst (λ (w : TextAt). IsText (file_unit_forms f n u) rn (name_attr (name_of text d)) w)
          (sym (held_moves n space i found u ∙ ap (λ (w : Option PrunedFile). moved_if w (text_held (file_unit_forms f n u).holder (space_at k space))) at))
          (names bytes x index has space i r d text chained found read is);
    }

  -- nothing moves
  unit_stays : (n : ℕ) → pruned_at pruned n ≡ None → (o : UnitItems) (u : DwUnit EntryName) → KnowsUnitTexts f k None n o u
      → KnowsUnitTexts f m None n o u
  unit_stays n at o u old = unit_told n None at refl None o u
      (λ bytes x index has i r d read writes.
      each_from_more (λ j a. IsText (file_unit_forms f n u) None a (text_at k n j)) (λ j a. IsText (file_unit_forms f n u) None a (text_at m n j))
      (firsts_at k (file_read f n bytes x) i).text
      (texts_in (node_map (file_read f n bytes x).after d).attrs)
      (λ j a told. subst (λ (w : TextAt). IsText (file_unit_forms f n u) None a w) (sym (text_moves n None at refl j)) told)
      ((old.entries bytes x index has).are i r d read writes))
      (λ bytes x index has space i r d text chained found read is. old.spaces bytes x index has space i r d text chained found read is)

  -- just what is used stays
  module _ (n first : ℕ) (order : List UnitItems) (pf : PrunedFile) (at : pruned_at pruned n ≡ Some pf) (strs used : List ℕ)
      (is : IsPruned strs used pf.strs)
      (among : (x : ℕ) → In x (order_uses k first order) → Contains used x) where
    front : moved_if (Some pf) no_text ≡ no_text
    front = ap (λ (x : ℕ). Own x) (front_stays strs used pf.strs is)

    unit_moves : (j : ℕ) (o : UnitItems) (u : DwUnit EntryName) → slice_get order j ≡ Some o → EachText IsNotPooled f k o n
        → KnowsShown (keys f) k (file_keyed_forms f n) None (first + j) o u
        → KnowsUnitTexts f k None n o u → KnowsUnitTexts f m (Some (new_number strs used)) n o u
    unit_moves j o u found own known old =
        let slots = unit_there (keys f) k known.files (first + j) o (file_unit_forms f n u) None known.names known.known in
        let common : is_common k (first + j) ≡ false = known.common in
        let held : (file_unit_forms f n u).holder ≡ holder_by (is_common k (first + j)) o.sort =
        same_holder (keys f) false o.sort u.kind known.sort ∙ ap (λ (b : Bool). holder_by b o.sort) (sym common) in
        unit_told n (Some pf) at front (Some (new_number strs used)) o u
        (λ bytes x index has i r d read writes.
        (let file = file_read f n bytes x in
        let rows = (knows_file f t k p.facts p.listed n bytes x index has).rows in
        let there = ap (λ (w : List EntryRow). slice_get w i) rows ∙ read.found in
        entry_moved strs used pf.strs is k m file (text_moves n (Some pf) at front) rows (here k used first j order o found among)
        (file_unit_forms f n u) held i r d read
        (entry_among k used first j order o found among f t p.facts p.listed slots (row n i) r there writes)
        ((old.entries bytes x index has).are i r d read writes)
        (own bytes x index has i r d read writes)))
        (λ bytes x index has space i r d text chained at_space read is_space.
        (let file = file_read f n bytes x in
        let rows = (knows_file f t k p.facts p.listed n bytes x index has).rows in
        name_moved strs used pf.strs is k file rows (file_unit_forms f n u) (space_at k space) i r d text
        (space_row_is n space i at_space) read is_space
        (chained_among k used first j order o found among (file_unit_forms f n u).holder held space chained)
        (old.spaces bytes x index has space i r d text chained at_space read is_space)
        (subst IsNotPooled (sym (held_in_file u.kind (space_at k space))) (stand.names n bytes x index has space i r d at_space read))))

  -- ---- unit by unit

  module _ (n first : ℕ) (order : List UnitItems) (rn : NewNumbers)
      (one : (j : ℕ) (o : UnitItems) (u : DwUnit EntryName) → slice_get order j ≡ Some o
      → KnowsShown (keys f) k (file_keyed_forms f n) None (first + j) o u
      → KnowsUnitTexts f k None n o u → KnowsUnitTexts f m rn n o u) where
    units_move : (c : ℕ) (some : List UnitItems) (us : List (DwUnit EntryName))
        → ((j : ℕ) (o : UnitItems) → slice_get some j ≡ Some o → slice_get order (c + j) ≡ Some o)
        → KnowUnits (keys f) k (file_keyed_forms f n) None (first + c) some us → KnowTexts f k None n some us → KnowTexts f m rn n some us
    units_move c [] [] within known old = tt
    units_move c [] (u ∷ us) within known old = absurd old
    units_move c (o ∷ some) [] within known old = absurd old
    units_move c (o ∷ some) (u ∷ us) within known old =
        let none : c ≡ c + 0 = omega arith in
        let next : suc (first + c) ≡ first + suc c = omega arith in (
          one c o u (ap (slice_get order) none ∙ within 0 o refl) known.0 old.0,
          units_move (suc c) some us
              (λ j x e. (let far : suc c + j ≡ c + suc j = omega arith in ap (slice_get order) far ∙ within (suc j) x e))
              (subst (λ (w : ℕ). KnowUnits (keys f) k (file_keyed_forms f n) None w some us) next known.1) old.1,
        )

    all_move : KnowUnits (keys f) k (file_keyed_forms f n) None first order (out_units (move f) (units f) n)
        → KnowTexts f k None n order (out_units (move f) (units f) n)
        → KnowTexts f m rn n order (out_units (move f) (units f) n)
    all_move known old =
        let none : first ≡ first + 0 = omega arith in
        units_move 0 order (out_units (move f) (units f) n) (λ j o e. (let same : 0 + j ≡ j = omega arith in ap (slice_get order) same ∙ e))
        (subst (λ (w : ℕ). KnowUnits (keys f) k (file_keyed_forms f n) None w order (out_units (move f) (units f) n)) none known) old

  -- ---- a file that is written

  module _ (n rank first : ℕ) (order : List UnitItems) (is : IsOrdered f orders n rank first order) where
    -- all uses are those of the file after
    uses_same : file_uses (sources (run f) n).strs (sources (run f) n).offsets (order_uses k first order) ≡ uses_by (common f) (run f) n
    unfolding uses_by
    uses_same =
        let strs = (sources (run f) n).strs in
        let offsets = (sources (run f) n).offsets in
        ap (λ (w : List ℕ). w ++ pruning.slot_uses strs offsets (known_slots offsets))
        (uses_are f s t k orders p stand n rank first order is)

    pub file_moves : IsPrunedIf f n (order_uses k first order) (pruned_at pruned n)
        → KnowTexts f k None n order (out_units (move f) (units f) n)
        → KnowTexts f m (run_numbers f n) n order (out_units (move f) (units f) n)
    file_moves stays old = by (pruned_at pruned n) refl stays where
      known : KnowUnits (keys f) k (file_keyed_forms f n) None first order (out_units (move f) (units f) n)
      known = units_known _ f s t k orders p stand n rank first order is

      by : (q : Option PrunedFile) → pruned_at pruned n ≡ q → IsPrunedIf f n (order_uses k first order) q
          → KnowTexts f m (run_numbers f n) n order (out_units (move f) (units f) n)
      by None at all_stay =
          subst (λ (b : Bool). KnowTexts f m (numbers_if b (common f) (run f) n) n order (out_units (move f) (units f) n)) (sym all_stay)
          (all_move n first order None (λ j o u found shown texts. unit_stays n at o u texts) known old)
      by (Some pf) at some_stay =
          let strs = (sources (run f) n).strs in
          let offsets = (sources (run f) n).offsets in
          let all = subst (λ (w : List ℕ). IsPruned strs w pf.strs) uses_same some_stay.1.texts in
          let among : (x : ℕ) → In x (order_uses k first order) → Contains (uses_by (common f) (run f) n) x =
          λ x there. in_contains (uses_by (common f) (run f) n) x
          (subst (In x) uses_same (in_left x (order_uses k first order) (pruning.slot_uses strs offsets (known_slots offsets)) there)) in
          subst (λ (b : Bool). KnowTexts f m (numbers_if b (common f) (run f) n) n order (out_units (move f) (units f) n)) (sym some_stay.0)
          (all_move n first order (Some (new_number strs (uses_by (common f) (run f) n)))
          (λ j o u found shown texts. unit_moves n first order pf at strs (uses_by (common f) (run f) n) all among j o u found
          (each_at (λ (w : UnitItems). EachText IsNotPooled f k w n) order j o (stand.owned n rank first order is) found) shown texts) known old)
