-- What is known of each old unit of a file, and so of all of them, in step with what is written of them.
use Rattle.std.proofs.Common.{◌≡◌, ℕ, suc, ◌+◌, Bool, true, false, List, [], ◌∷◌, ◌==◌, length, Some, slice_get, refl, sym, ap, subst, ◌∙◌, inl, inr, arith}
use Rattle.std.proofs.lemmas.Bool.{eqb-true, le-ltb}
use Rattle.std.specs.Prelude.{nat_lt}
use Rattle.dwz_def_reading.specs.Lists.{In}
use Rattle.dwz_def_reading.proofs.ListFacts.{got_in, in_right}
use Rattle.dwz_def_reading.specs.Documents.{Compile, DwUnit, Kind, OfType, Partial}
use Rattle.dwz_def_reading.specs.Meanings.{IfSo}
use Rattle.dwz_def_tops.specs.Lists.{Nth}
use Rattle.dwz_def_tops.proofs.Members.{nth_of}
use Rattle.dwz_def_tops.specs.Spots.{EntryName, FileUnit, PartialOf, UnitOf}
use Rattle.dwz_graph.proofs.TopLemmas.{get_cases}
use Rattle.dwz_def_images.specs.Homes.{Common, Home, Local, same_home}
use Rattle.dwz_def_images.specs.Moves.{Move}
use Rattle.dwz_def_images.specs.Plan.{PartialUnit}
use Rattle.dwz_def_images.specs.Units.{changes, common_units, kept_unit, kept_units, out_units, partial_unit, partial_units}
use Rattle.dwz_def_encoding.specs.Placing.{CommonUnit, holder_of}
use Rattle.dwz_def_readback.proofs.WithinLemmas.{kept_to}
use Rattle.dwz_graph.specs.declared.file.File.{File}
use Rattle.dwz_graph.specs.Index.{Index}
use Rattle.dwz_layout_numbers.specs.Owners.{files_written}
use Rattle.dwz_layout_order.specs.Orders.{First, KeptShown, ShowsKept}
use Rattle.dwz_law_layout.specs.Old.{EachOld, OldNames}
use Rattle.dwz_layout.specs.declared.known.EntryTable.{EntryTable}
use Rattle.dwz_layout.specs.declared.order.UnitItems.{UnitItems}
use Rattle.dwz_layout.specs.Attributes.{is_common}
use Rattle.dwz_law_layout.specs.Fitted.{KnowUnits, KnowsShown}
use Rattle.dwz_law_layout.specs.Knows.{NewNumbers}
use Rattle.dwz_law_layout.specs.Beside.{Beside}
use Rattle.dwz_law_layout.specs.Facts.{AreFacts, HasFile, RunFacts, file_read, move, units, units_written, written}
use Rattle.dwz_law_layout.specs.Listed.{AreListed, TextsAt}
use Rattle.dwz_law_layout.specs.Named.{keys, root_name}
use Rattle.dwz_law_layout.specs.Unfitted.{KnowTexts, KnowsUnitTexts, file_keyed_forms}
use Rattle.dwz_law_layout.proofs.ImagesStand.{old}
use Rattle.dwz_law_layout.proofs.LayoutLemmas.{file_owners, knows_file, knows_references}
use Rattle.dwz_law_layout.specs.Roots.{UnitShown}
use Rattle.dwz_law_layout.specs.ShownKept.{AreWrittenFrom, KeptKnownLaw}
use Rattle.dwz_law_layout.proofs.FileKept.{are_shown, entered, file_changes, in_order, stand_for}
use Rattle.dwz_law_layout.proofs.ItemsShown.{items_shown, items_stay}
use Rattle.dwz_law_layout.proofs.UnitNames.{kept_names, names_all, names_kept}
use Rattle.dwz_law_layout.proofs.WrittenNames.{knows_names}

-- ---- it is no unit of the common file

pub partial_is : (m : Move) (h : Home) (s : ℕ) (parts : List PartialUnit) (u : DwUnit EntryName) → In u (partial_units m h s parts) → (p : ℕ) × (u.at ≡ PartialOf p)
unfolding partial_units
partial_is m h s [] u is = absurd is
partial_is m h s (part ∷ parts) u is = by (same_home part.home h) is (partial_is m h (suc s) parts u) where
  by : (b : Bool) → In u (elim b as (λ _. List (DwUnit EntryName)) [ true ↦ partial_unit m s ∷ partial_units m h (suc s) parts | false ↦ partial_units m h (suc s) parts ])
      → (In u (partial_units m h (suc s) parts) → (p : ℕ) × (u.at ≡ PartialOf p)) → (p : ℕ) × (u.at ≡ PartialOf p)
  by true (inl e) more = (s, ap (λ (w : DwUnit EntryName). w.at) (sym e))
  by true (inr r) more = more r
  by false r more = more r

pub not_common : (kind : Kind EntryName) → holder_of false kind ≡ CommonUnit → ⊥
not_common Compile e = cc
not_common (OfType signature main) e = cc
not_common Partial e = cc

module _ {beside : Beside} (f : RunFacts beside) (t : TextsAt) (k : EntryTable) (facts : AreFacts f) (listed : AreListed f t k) where
  behind_common : (here i : ℕ) (u : DwUnit EntryName) → slice_get (units_written f) here ≡ Some u → u.at ≡ UnitOf i → is_common k here ≡ false
  unfolding common_units
  behind_common here i u e at =
      let common = common_units (move f) in
      let many : k.commons ≡ length common = listed.commons ∙ facts.numbers.commons_are in
      ap (nat_lt here) many ∙ elim (get_cases common (files_written (move f) (units f) 0 (written f)) here u e) [
        | inl a ↦ absurd (let o = partial_is (move f) Common 0 (move f).parts u (got_in common here u a) in let no : UnitOf i ≡ PartialOf o.0 = sym at ∙ o.1 in cc)
        | inr b ↦ le-ltb here (length common) (let far = b.1 in omega (arith, far))
      ]

  module _ (n : ℕ) (bytes : List ℕ) (x : File) (index : Index) (h : HasFile f n bytes x index) (changed : changes (move f) (units f) n ≡ true) (start : ℕ) (numbers : NewNumbers) where
    -- ---- a unit

    unit_known : (i : ℕ) (u : FileUnit EntryName) (o : UnitItems) (here : ℕ) → Nth 0 (units f) i u → u.file ≡ n
        → ShowsKept (entered f facts n bytes x index h start) (move f) (units f) i u o
        → OldNames (move f) (units f) i u.unit.kind o.items → UnitShown f n bytes x u.unit o.sort
        → KnowsUnitTexts f k numbers n o (kept_unit (move f) (units f) i u) → slice_get (units_written f) here ≡ Some (kept_unit (move f) (units f) i u)
        → KnowsShown (keys f) k (file_keyed_forms f n) numbers here o (kept_unit (move f) (units f) i u)
    unfolding out_units
    unit_known i u o here nth own kept items shown texts at =
        let v = kept_unit (move f) (units f) i u in
        let is : In v (out_units (move f) (units f) n) =
        in_right v (partial_units (move f) (Local n) 0 (move f).parts) (kept_units (move f) (units f) n 0 (units f)) (kept_to (move f) (units f) n 0 (units f) i u nth own) in
        record {
          files = file_read f n bytes x ∷ [];
          names = kept_names (move f) (units f) i u.unit;
          known = record {
            of_files = (
              record {
                file = knows_file f t k facts listed n bytes x index h;
                references = knows_references f t k facts listed n bytes x index h;
                owners = file_owners f t k facts listed n bytes x index h changed here v at is o;
                texts = texts.entries bytes x index h;
                files = record { are = λ j r d read writes common. absurd (not_common v.kind common) };
                names = knows_names f t k facts listed n bytes x index h o
                    (items_stay f t k facts listed n bytes x index h i u nth own changed here at is o.sort shown u.unit.kind refl o.items items);
              },
              tt,
            );
            of_items = items_shown f t k facts listed n bytes x index h i u nth own changed here at is o.sort shown numbers u.unit.kind o.items items;
          };
          common = behind_common here i v at ((old f facts).units_named i u nth).unit;
          sort = shown.sort;
          root = ap root_name at;
          order = kept.lines (kept_names (move f) (units f) i u.unit) (names_all (move f) (units f) i u.unit) (names_kept (move f) (units f) i u.unit);
        }

    -- ---- all of them

    abbrev Order : ℕ → List (FileUnit EntryName) → List UnitItems → Type 0
    Order i us order = KeptShown (entered f facts n bytes x index h start) (move f) (units f) n i us order

    abbrev Items : ℕ → List (FileUnit EntryName) → List UnitItems → Type 0
    Items i us order = EachOld (λ j u o. OldNames (move f) (units f) j u.unit.kind o.items) n i us order

    abbrev Roots : ℕ → List (FileUnit EntryName) → List UnitItems → Type 0
    Roots i us order = EachOld (λ j u o. UnitShown f n bytes x u.unit o.sort) n i us order

    -- the unit, if it is of the file, and those behind it
    abbrev these : Bool → ℕ → FileUnit EntryName → List (FileUnit EntryName) → List (DwUnit EntryName)
    these b i u us =
        elim b as (λ _. List (DwUnit EntryName)) [ true ↦ kept_unit (move f) (units f) i u ∷ kept_units (move f) (units f) n (suc i) us | false ↦ kept_units (move f) (units f) n (suc i) us ]

    -- what is known of the units behind
    abbrev Rest : ℕ → List (FileUnit EntryName) → Type 0
    Rest i us =
        (here : ℕ) (order : List UnitItems) → Order (suc i) us order → Items (suc i) us order → Roots (suc i) us order → AreWrittenFrom f here (kept_units (move f) (units f) n (suc i) us)
        → KnowTexts f k numbers n order (kept_units (move f) (units f) n (suc i) us) → KnowUnits (keys f) k (file_keyed_forms f n) numbers here order (kept_units (move f) (units f) n (suc i) us)

    units_known : (i here : ℕ) (us : List (FileUnit EntryName)) (order : List UnitItems) → Order i us order → Items i us order → Roots i us order
        → ((j : ℕ) (u : FileUnit EntryName) → slice_get us j ≡ Some u → Nth 0 (units f) (i + j) u)
        → AreWrittenFrom f here (kept_units (move f) (units f) n i us) → KnowTexts f k numbers n order (kept_units (move f) (units f) n i us)
        → KnowUnits (keys f) k (file_keyed_forms f n) numbers here order (kept_units (move f) (units f) n i us)
    unfolding kept_units
    units_known i here [] order kept items shown there stand texts = subst (λ (w : List UnitItems). KnowUnits (keys f) k (file_keyed_forms f n) numbers here w []) (sym kept) tt
    units_known i here (u ∷ us) order kept items shown there stand texts =
        by (u.file == n) refl order kept items shown stand texts (λ from some kept items shown stand texts. units_known (suc i) from us some kept items shown
        (λ j w e. (let far : i + suc j ≡ suc i + j = omega arith in subst (λ (q : ℕ). Nth 0 (units f) q w) far (there (suc j) w e))) stand texts)
      where
        by : (b : Bool) → (u.file == n) ≡ b → (order : List UnitItems)
            → IfSo b (First (ShowsKept (entered f facts n bytes x index h start) (move f) (units f) i u) (Order (suc i) us) order) (Order (suc i) us order)
            → IfSo b (First (λ o. OldNames (move f) (units f) i u.unit.kind o.items) (Items (suc i) us) order) (Items (suc i) us order)
            → IfSo b (First (λ o. UnitShown f n bytes x u.unit o.sort) (Roots (suc i) us) order) (Roots (suc i) us order)
            → AreWrittenFrom f here (these b i u us) → KnowTexts f k numbers n order (these b i u us) → Rest i us → KnowUnits (keys f) k (file_keyed_forms f n) numbers here order (these b i u us)
        by true is [] kept items shown stand texts more = absurd kept
        by true is (o ∷ order) kept items shown stand texts more =
            let none : i + 0 ≡ i = omega arith in
            let first : here + 0 ≡ here = omega arith in
            let nth = subst (λ (q : ℕ). Nth 0 (units f) q u) none (there 0 u refl) in
            let at = subst (λ (q : ℕ). slice_get (units_written f) q ≡ Some (kept_unit (move f) (units f) i u)) first (stand 0 (kept_unit (move f) (units f) i u) refl) in (
              unit_known i u o here nth (eqb-true u.file n is) kept.0 items.0 shown.0 texts.0 at,
              more (suc here) order kept.1 items.1 shown.1
                  (λ j v e. (let far : here + suc j ≡ suc here + j = omega arith in subst (λ (q : ℕ). slice_get (units_written f) q ≡ Some v) far (stand (suc j) v e))) texts.1,
            )
        by false is order kept items shown stand texts more = more here order kept items shown stand texts

pub kept_known : KeptKnownLaw
kept_known beside f t k s facts listed settled n bytes x index h w start at numbers here order kept stand texts =
    units_known f t k facts listed n bytes x index h (file_changes f n w) start numbers 0 here (units f) order (in_order f facts n bytes x index h t k s listed settled start order kept w)
    (stand_for f facts n bytes x index h t k s listed settled start order kept) (are_shown f facts n bytes x index h t k s listed settled start order kept at) (λ j u e. nth_of 0 (units f) j u e)
    stand texts
