-- The units of a finished common file stand after under names, each at the place at which it was read.
use Rattle.std.proofs.Common.{◌≡◌, ℕ, ◌<◌, ◌^◌, ◌++◌, Bool, true, false, List, [], ◌∷◌, length, map, refl, sym, ap, subst, ◌∙◌, inl, inr, arith}
use Rattle.std.specs.List.{zip}
use Rattle.std.proofs.lemmas.Slice.Zip.{firsts-zip}
use Rattle.std.proofs.lemmas.List.{length-map, map-append}
use Rattle.dwz_def_reading.proofs.OnceLemmas.{none_left}
use Rattle.dwz_def_reading.specs.Documents.{Compile, Doc, DwUnit, Entries, Kind, Node, OfType, Partial, kind_map, unit_map}
use Rattle.dwz_def_reading.specs.Files.{debug_abbrev, debug_info, longest_file, no_files_before, section_of, sources_of}
use Rattle.dwz_def_reading.specs.ElfNames.{sections_in}
use Rattle.dwz_def_reading.specs.ElfReading.{section_range}
use Rattle.dwz_def_reading.proofs.RangeBytes.{bytes_short}
use Rattle.dwz_def_reading.specs.Entries.{of_common}
use Rattle.dwz_def_reading.specs.Lists.{Each, In}
use Rattle.dwz_def_reading.specs.Meanings.{MeanUnits, Sources, all_places, places_of, scope_of}
use Rattle.dwz_def_reading.specs.Places.{Place, at_file}
use Rattle.dwz_def_reading.specs.Units.{RawUnit}
use Rattle.dwz_def_reading.specs.Values.{AreBytes}
use Rattle.dwz_def_reading.proofs.ListFacts.{in_map}
use Rattle.dwz_def_reading.proofs.PlacesRise.{entries_below, units_below}
use Rattle.dwz_def_tops.specs.Lists.{NoneTwice}
use Rattle.dwz_def_tops.specs.Seen.{IsPartial}
use Rattle.dwz_def_tops.specs.Shown.{HaveMains, OnePlace, UnitsShown, keys, units_keys}
use Rattle.dwz_def_tops.proofs.Members.{in_map_from}
use Rattle.dwz_def_tops.proofs.ShownLemmas.{map_shown}
use Rattle.dwz_def_tops.specs.Spots.{EntryName, in_file, named_files, same_spot, spot_in, units_of}
use Rattle.dwz_def_images.specs.Units.{common_units, file_units}
use Rattle.dwz_def_tops.proofs.UnitKeys.{keys_joined}
use Rattle.dwz_def_encoding.specs.Meant.{all_entry_keys}
use Rattle.dwz_def_encoding.specs.Placing.{files_placed, number_of_key}
use Rattle.dwz_def_encoding.proofs.Rising.{entries_are_keys}
use Rattle.dwz_def_encoding.proofs.SameLemmas.{spots_same}
use Rattle.dwz_def_readback.specs.Back.{HasItsNames, IsPlacingBy}
use Rattle.dwz_def_readback.specs.Files.{file_out_by, places_by}
use Rattle.dwz_def_readback.proofs.ReadBuilt.{own}
use Rattle.dwz_def_readback.proofs.ReadPlaces.{entries_places}
use Rattle.dwz_def_taken.specs.Beside.{Reused, as_compile, offsets_doc, reused_of}
use Rattle.dwz_def_taken.specs.Laws.{ArePlacedOver}
use Rattle.dwz_def_taken.specs.Over.{as_part, standing_unit}
use Rattle.dwz_def_taken.specs.Takes.{IsFixed}
use Rattle.dwz_def_taken.proofs.CommonUnits.{common_stands}
use Rattle.dwz_def_taken.proofs.KeptOwn.{over_apart}
use Rattle.dwz_def_taken.proofs.NamesOver.{common_spots}
use Rattle.dwz_def_over.specs.Over.{AreOverFiles, OverFiles, standing_file, limits_over, run_over, standing_units, stands}
use Rattle.dwz_def_over.proofs.MapsOver.{below_twice, keys_mapped, root_twice, shown_of, units_keys_mapped}
use Rattle.dwz_def_over.proofs.PlacedOver.{common_closed, common_partial, means_offsets, placed_over, said_is}
use Rattle.dwz_def_over.proofs.PlacesOver.{some_as}
use Rattle.dwz_def_over.proofs.ReadOver.{read_length}

-- ---- lists of names and of what has them

one_of : {A B : Type 0} (f : A → B) (xs : List A) → NoneTwice (map f xs) → (x y : A) → In x xs → In y xs → f x ≡ f y → x ≡ y
one_of f [] h x y p q e = absurd p
one_of f (z ∷ xs) h x y (inl p) (inl q) e = sym p ∙ q
one_of {A} {B} f (z ∷ xs) h x y (inl p) (inr q) e = absurd (h.0 (subst (λ (w : B). In w (map f xs)) (sym e ∙ ap f (sym p)) (in_map f y xs q)))
one_of {A} {B} f (z ∷ xs) h x y (inr p) (inl q) e = absurd (h.0 (subst (λ (w : B). In w (map f xs)) (e ∙ ap f (sym q)) (in_map f x xs p)))
one_of f (z ∷ xs) h x y (inr p) (inr q) e = one_of f xs h.1 x y p q e

place_found : (f : ℕ → EntryName) (xs : List ℕ) → NoneTwice (map f xs) → (rest : List (EntryName × ℕ)) (n : ℕ) → In n xs → number_of_key same_spot (zip (map f xs) xs ++ rest) (f n) ≡ n
unfolding number_of_key
place_found f [] none rest n there = absurd there
place_found f (x ∷ xs) none rest n there = by (λ later. place_found f xs none.1 rest n later) there (same_spot (f x) (f n)) refl where
  by : (In n xs → number_of_key same_spot (zip (map f xs) xs ++ rest) (f n) ≡ n) → In n (x ∷ xs) → (b : Bool) → same_spot (f x) (f n) ≡ b
      → (elim b as (λ _. ℕ) [ true ↦ x | false ↦ number_of_key same_spot (zip (map f xs) xs ++ rest) (f n) ]) ≡ n
  by more (inl e) true q = e
  by more (inr later) true q = absurd (none.0 (subst (λ (w : EntryName). In w (map f xs)) (sym (spots_same.true_is (f x) (f n) q)) (in_map f n xs later)))
  by more (inl e) false q = absurd (let z : true ≡ false = sym (spots_same.refl_is (f n)) ∙ ap (λ (w : ℕ). same_spot (f w) (f n)) (sym e) ∙ q in cc)
  by more (inr later) false q = more later

-- ---- the entries of units

entries_all : (sources : Sources) (all : List ℕ) (raw : List RawUnit) (us : List (DwUnit ℕ)) → MeanUnits (own sources all) raw us → all_entry_keys us ≡ all_places raw
unfolding all_entry_keys all_places
entries_all sources all [] [] h = refl
entries_all sources all (u ∷ raw) (v ∷ us) h =
    ap (λ (w : ℕ). (w ∷ keys v.below) ++ all_entry_keys us) h.0.root.place
    ∙ ap (λ (w : List ℕ). (u.root.at ∷ w) ++ all_entry_keys us) (entries_places (scope_of (own sources all) u) u.below v.below refl h.0.below)
    ∙ ap (λ (w : List ℕ). places_of u ++ w) (entries_all sources all raw us h.1)
entries_all sources all [] (v ∷ us) h = absurd h
entries_all sources all (u ∷ raw) [] h = absurd h

module _ {A B : Type 0} (f : A → B) where
  keys_all : (us : List (DwUnit A)) → all_entry_keys (map (unit_map f) us) ≡ map f (all_entry_keys us)
  unfolding all_entry_keys
  keys_all [] = refl
  keys_all (u ∷ us) =
      ap (λ (w : List B). (f u.root.at ∷ w) ++ all_entry_keys (map (unit_map f) us)) (keys_mapped f u.below)
      ∙ ap (λ (w : List B). (f u.root.at ∷ map f (keys u.below)) ++ w) (keys_all us)
      ∙ sym (map-append f (u.root.at ∷ keys u.below) (all_entry_keys us))

-- ---- the common file

unit_by : {a b : EntryName} {k l : Kind EntryName} {d e : Node EntryName} {f g : Entries EntryName} → a ≡ b → k ≡ l → d ≡ e → f ≡ g
    → (let u : DwUnit EntryName = record { at = a; kind = k; root = d; below = f } in let v : DwUnit EntryName = record { at = b; kind = l; root = e; below = g } in u ≡ v)
unit_by p q s t = λ i. record { at = p i; kind = q i; root = s i; below = t i }

partial_is : (f : ℕ → EntryName) (k : Kind ℕ) → IsPartial k → Partial ≡ kind_map f k
partial_is f Compile h = absurd h
partial_is f (OfType s t) h = absurd h
partial_is f Partial h = refl

module _ (o : OverFiles) (are : Each AreBytes o.contents) (is : AreOverFiles o) where
  abbrev docs : List (Doc ℕ)
  docs = o.said.docs

  abbrev common : Doc ℕ
  common = offsets_doc o.said.common

  abbrev offs : List (DwUnit ℕ)
  offs = (offsets_doc o.said.common).units

  abbrev r : Reused
  r = reused_of docs (offsets_doc o.said.common)

  placed : ArePlacedOver docs (offsets_doc o.said.common)
  placed = placed_over o are is

  abbrev fx : IsFixed (reused_of docs (offsets_doc o.said.common)) o.fixed
  fx = is.taken.lists

  partial : (v : DwUnit ℕ) → In v offs → IsPartial v.kind
  partial = common_partial (length o.contents) no_files_before o.common o.raw o.said.common is.common

  -- the name of what was read at a place
  abbrev name_at : ℕ → EntryName
  name_at n = as_part (length (units_of docs)) (spot_in (common_spots docs (offsets_doc o.said.common)) n)

  one_standing : (u : DwUnit ℕ) → IsPartial u.kind → standing_unit r (in_file (length docs) (unit_map (spot_in (common_spots docs (offsets_doc o.said.common))) (as_compile u))) ≡ unit_map name_at u
  one_standing u h =
      unit_by refl (partial_is name_at u.kind h) (root_twice (spot_in (common_spots docs (offsets_doc o.said.common))) (as_part (length (units_of docs))) u.root)
      (below_twice (spot_in (common_spots docs (offsets_doc o.said.common))) (as_part (length (units_of docs))) u.below)

  all_standing : (some : List (DwUnit ℕ)) → ((v : DwUnit ℕ) → In v some → IsPartial v.kind)
      → map (standing_unit r) (map (in_file (length docs)) (map (unit_map (spot_in (common_spots docs (offsets_doc o.said.common)))) (map as_compile some)) ++ []) ≡ map (unit_map name_at) some
  all_standing [] h = refl
  all_standing (u ∷ some) h = (let x = one_standing u (h u (inl refl)) in let y = all_standing some (λ v there. h v (inr there)) in λ i. x i ∷ y i)

  pub standing_is : standing_units o ≡ map (unit_map name_at) offs
  unfolding named_files
  standing_is = all_standing offs partial

  pub common_is : common_units (run_over o).move ≡ standing_units o
  common_is = common_stands docs common o.fixed placed fx

  abbrev places : List ℕ
  places = units_keys (offsets_doc o.said.common).units

  names_are : units_keys (standing_units o) ≡ map name_at places
  names_are = ap units_keys standing_is ∙ units_keys_mapped name_at offs

  once : NoneTwice (map name_at places)
  once =
      let all = subst NoneTwice (keys_joined (common_units (run_over o).move) (file_units (run_over o).move (run_over o).units (run_over o).files)) (over_apart docs common o.fixed placed fx) in
      subst NoneTwice (ap units_keys common_is ∙ names_are) (none_left (units_keys (common_units (run_over o).move)) (units_keys (file_units (run_over o).move (run_over o).units (run_over o).files)) all)

  pub has_names : HasItsNames (standing_file o) (run_over o)
  has_names = record {
    rows = firsts-zip (units_keys (standing_units o)) places (sym (length-map places name_at) ∙ ap length (sym names_are));
    names = ap units_keys (sym common_is);
  }

  place_is : (n : ℕ) → In n places → (places_by (stands o) (run_over o)).place (name_at n) ≡ n
  place_is n there =
      let rest = files_placed (map (file_out_by (stands o) (run_over o)) (run_over o).files) in
      ap (λ (w : List EntryName). number_of_key same_spot (zip w places ++ rest) (name_at n)) names_are ∙ place_found name_at places once rest n there

  -- a name there is that of a place that was read
  pub record ReadAt (k : EntryName) : Type 0 where
    pub place : ℕ
    pub there : In place places
    pub is_name : name_at place ≡ k

  pub read_at : (k : EntryName) → In k (units_keys (standing_units o)) → ReadAt k
  read_at k key = (let x = in_map_from name_at k places (subst (In k) names_are key) in record { place = x.source; there = x.there; is_name = x.is })

  pub same_number : length docs ≡ length o.contents
  same_number = read_length (limits_over o) o.contents docs is.files

  -- ---- places of entries

  short : (code : ℕ) → length (section_of o.common code) < 2 ^ 29
  unfolding section_of longest_file
  short code =
      let few = bytes_short o.common (section_range (sections_in o.common) code) in
      let file = is.common.size.file in
      omega (arith, few, file)

  pub texts_short : length (section_of o.common 3) < 2 ^ 32
  texts_short = let few = short 3 in omega (arith, few)

  entry_place : (k : EntryName) → In k (all_entry_keys (standing_units o)) → (n : ℕ) × In n (all_places o.raw) × ((places_by (stands o) (run_over o)).place k ≡ n)
  entry_place k key =
      let is_places : all_entry_keys offs ≡ all_places o.raw = entries_all (sources_of o.common) (all_places o.raw) o.raw offs (means_offsets (length o.contents) no_files_before o.common o.raw o.said.common is.common) in
      let is_all : all_entry_keys (standing_units o) ≡ map name_at (all_places o.raw) =
      ap all_entry_keys standing_is ∙ keys_all name_at offs
      ∙ ap (map name_at) is_places in
      let x = in_map_from name_at k (all_places o.raw) (subst (In k) is_all key) in
      let all : In x.source places = entries_are_keys offs x.source (subst (In x.source) (sym is_places) x.there) in
      (x.source, x.there, ap (λ (w : EntryName). (places_by (stands o) (run_over o)).place w) (sym x.is) ∙ place_is x.source all)

  pub entry_low : (k : EntryName) → In k (all_entry_keys (standing_units o)) → (places_by (stands o) (run_over o)).place k < 2 ^ 32
  entry_low k key =
      let e = entry_place k key in
      let info = short 1 in
      let lie = units_below (debug_abbrev o.common) (of_common no_files_before.entries) 0 o.raw 0 (debug_info o.common) (2 ^ 32) is.common.spelled (omega (arith, info)) in
      let low = entries_below (2 ^ 32) o.raw lie e.0 e.1 in
      omega (arith, low, e.2)

  pub entry_there : (k : EntryName) → In k (all_entry_keys (standing_units o)) → In ((places_by (stands o) (run_over o)).place k) (all_places o.raw)
  entry_there k key = (let e = entry_place k key in subst (λ (n : ℕ). In n (all_places o.raw)) (sym e.2) e.1)

  -- ---- at some places for names

  module _ (g : EntryName → Place) (ok : IsPlacingBy (stands o) (run_over o) g) where
    at_place : (n : ℕ) → In n places → at_file (length docs) n ≡ g (name_at n)
    at_place n there =
        ap (at_file (length docs)) (sym (place_is n there))
        ∙ ok.common (name_at n) (subst (In (name_at n)) (sym names_are) (in_map name_at n places there))

    mains : HaveMains offs
    mains = λ u there signature main e. absurd (subst IsPartial e (partial u there))

    -- what the common file says is what stands after of it
    pub common_shown_at : UnitsShown g (common_units (run_over o).move) o.said.common.units
    common_shown_at =
        let said : o.said.common.units ≡ map (unit_map (at_file (length o.contents))) offs = said_is (length o.contents) no_files_before o.common o.raw o.said.common is.common in
        let closed = common_closed (length o.contents) no_files_before o.common o.raw o.said.common is.common in
        let here = map_shown (at_file (length o.contents)) offs in
        let number : (n : ℕ) → In n places → at_file (length o.contents) n ≡ g (name_at n) = λ n there. ap (λ (f : ℕ). at_file f n) (sym same_number) ∙ at_place n there in
        let named = some_as (at_file (length o.contents)) (λ n. g (name_at n)) offs number closed mains offs (map (unit_map (at_file (length o.contents))) offs) (λ u there. there) here in
        let shown = shown_of name_at g offs (map (unit_map (at_file (length o.contents))) offs) named in
        subst (λ (w : List (DwUnit EntryName)). UnitsShown g w o.said.common.units) (sym (common_is ∙ standing_is))
        (subst (λ (w : List (DwUnit Place)). UnitsShown g (map (unit_map name_at) offs) w) (sym said) shown)

    pub common_one_at : OnePlace g (common_units (run_over o).move)
    common_one_at x y a b e =
        let p = read_at x (subst (λ (w : List (DwUnit EntryName)). In x (units_keys w)) common_is a) in
        let q = read_at y (subst (λ (w : List (DwUnit EntryName)). In y (units_keys w)) common_is b) in
        let same : at_file (length docs) p.place ≡ at_file (length docs) q.place = at_place p.place p.there ∙ ap g p.is_name ∙ e ∙ ap g (sym q.is_name) ∙ sym (at_place q.place q.there) in
        sym p.is_name ∙ ap name_at (ap (λ (w : Place). w.at) same) ∙ q.is_name
