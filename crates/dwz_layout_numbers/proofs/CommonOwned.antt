-- The entries of a finished common file stand in its units, which come first among all that are written.
use Rattle.std.proofs.Common.{◌≡◌, ◌⊎◌, ℕ, ◌+◌, ◌==◌, ◌&&◌, Bool, true, false, List, [], ◌∷◌, ◌++◌, length, map, Ok, Some, slice_get, refl, sym, ap, subst, ◌∙◌, inl, inr, arith, ◌||◌}
use Rattle.std.proofs.lemmas.List.{append-nil}
use Rattle.std.specs.List.{list_any}
use Rattle.dwz_def_reading.specs.Documents.{Doc, DwUnit, Entries, unit_map}
use Rattle.dwz_def_reading.specs.Lists.{Each, In}
use Rattle.dwz_def_reading.specs.Meanings.{Around}
use Rattle.dwz_def_reading.specs.Meant.{units_meaning}
use Rattle.dwz_def_reading.specs.Units.{RawUnit}
use Rattle.dwz_def_reading.proofs.ListFacts.{get_first, got_in, got_map, in_map, in_right}
use Rattle.dwz_def_reading.proofs.MeaningUnits.{units_agree}
use Rattle.dwz_def_tops.specs.Lists.{Nth}
use Rattle.dwz_def_tops.specs.Seen.{IsPartial}
use Rattle.dwz_def_tops.specs.Shown.{keys, unit_keys}
use Rattle.dwz_def_tops.proofs.MainLemmas.{keys_map}
use Rattle.dwz_def_tops.proofs.Members.{in_map_from, nth_of}
use Rattle.dwz_def_tops.specs.Spots.{EntryName, FileUnit, Import, InChain, InType, Nothing, PartialOf, PartialRoot, RootOf, SpaceAt, Top, UnitOf, Within, file_numbers, in_file, named_files, spot_in}
use Rattle.dwz_def_tops.specs.Spots.{tops_from, tops_of, units_of}
use Rattle.dwz_def_tops.proofs.Tops.{one_top}
use Rattle.dwz_graph.proofs.TopLemmas.{below_names, get_later}
use Rattle.dwz_unit.specs.Rows.{EntryRow, rows_of}
use Rattle.dwz_def_images.specs.Moves.{Move, image_in}
use Rattle.dwz_def_images.specs.Units.{changes, common_units}
use Rattle.dwz_def_images.proofs.EntryLemmas.{kept_still}
use Rattle.dwz_def_tops.proofs.FiledTops.{counted, tops_length, tops_append}
use Rattle.dwz_def_taken.specs.declared.fixed.Fixed.{Fixed}
use Rattle.dwz_def_taken.specs.Beside.{Reused, as_compile, compile_doc, own_tops, reused_of, together}
use Rattle.dwz_def_taken.specs.Laws.{ArePlacedOver, IsReused}
use Rattle.dwz_def_taken.specs.Over.{as_part, move_over, standing_unit}
use Rattle.dwz_def_taken.specs.Takes.{IsFixed}
use Rattle.dwz_def_taken.proofs.CommonUnits.{common_stands}
use Rattle.dwz_def_taken.proofs.NamesOver.{common_spots, named_over, together_is}
use Rattle.dwz_def_taken.proofs.PlaceLemmas.{nth_move, nth_right}
use Rattle.dwz_graph.specs.AllNames.{all_names}
use Rattle.dwz_layout_numbers.specs.OverLaws.{common_names}
use Rattle.dwz_layout_numbers.specs.Owners.{StandsIn, all_written, files_written}
use Rattle.dwz_layout_numbers.proofs.BesideNames.{every_names}
use Rattle.dwz_layout_numbers.proofs.FileRuns.{filed}
use Rattle.dwz_layout_numbers.proofs.OnceNames.{no_unit}
use Rattle.dwz_layout_numbers.proofs.OwnerKeys.{below_kept}
use Rattle.dwz_layout_numbers.proofs.OwnerLemmas.{own_name}
use Rattle.dwz_layout_numbers.proofs.Paths.{paths_of}
use Rattle.dwz_layout_numbers.proofs.UnitNames.{SameBelow, of_unit_by}

-- ---- what stands in a unit that was read stands in it as it was

abbrev stay : Move
stay = record { gone = λ n. false; stand = λ n. n; parts = []; rows = λ n. Nothing; roots = λ n. [] }

stay_same : (s : EntryName) → image_in stay s ≡ s
stay_same (Within t path) = refl
stay_same (UnitOf i) = refl
stay_same (RootOf i) = refl
stay_same (SpaceAt i path) = refl
stay_same (InType i path) = refl
stay_same (PartialOf i) = refl
stay_same (PartialRoot i) = refl
stay_same (InChain p i d) = refl
stay_same (Import i p) = refl

none_gone : (file : ℕ) (tops : List Top) → list_any (λ t. t.file == file && false) tops ≡ false
none_gone file [] = refl
none_gone file (t ∷ tops) = go (none_gone file tops) (t.file == file) where
  go : list_any (λ (u : Top). u.file == file && false) tops ≡ false → (b : Bool) → ((b && false) || list_any (λ (u : Top). u.file == file && false) tops) ≡ false
  go h true = h
  go h false = h

stay_still : (units : List (FileUnit EntryName)) (file : ℕ) → changes stay units file ≡ false
unfolding changes
stay_still units file = none_gone file (tops_of units)

part_same : (first : ℕ) (s : EntryName) → ((i : ℕ) → s ≡ RootOf i → ⊥) → ((i : ℕ) → s ≡ UnitOf i → ⊥) → as_part first s ≡ s
part_same first (Within t path) not_root not_unit = refl
part_same first (UnitOf i) not_root not_unit = absurd (not_unit i refl)
part_same first (RootOf i) not_root not_unit = absurd (not_root i refl)
part_same first (SpaceAt i path) not_root not_unit = refl
part_same first (InType i path) not_root not_unit = refl
part_same first (PartialOf i) not_root not_unit = refl
part_same first (PartialRoot i) not_root not_unit = refl
part_same first (InChain p i d) not_root not_unit = refl
part_same first (Import i p) not_root not_unit = refl

as_compiled : (units : List (DwUnit ℕ)) → Each (λ v. IsPartial v.kind → ⊥) (map as_compile units)
as_compiled [] = tt
as_compiled (v ∷ units) = ((λ is. is), as_compiled units)

like_compiled : (units : List (DwUnit ℕ)) → SameBelow units (map as_compile units)
like_compiled [] = tt
like_compiled (v ∷ units) = (refl, like_compiled units)

module _ (docs : List (Doc ℕ)) (common : Doc ℕ) (fixed : Fixed) (p : ArePlacedOver docs common) (fx : IsFixed (reused_of docs common) fixed) where
  abbrev r : Reused
  r = reused_of docs common

  abbrev m : Move
  m = move_over (reused_of docs common) fixed (file_numbers 0 docs)

  re : IsReused r
  re = named_over docs common p

  abbrev name : ℕ → EntryName
  name = spot_in (common_spots docs common)

  -- the entry of a unit of the common file, by its row and by its name
  pub common_owned : (around : Around ℕ) (raw : List RawUnit) → units_meaning around raw ≡ Ok common.units → (written : List Bool) (entry : ℕ) (row : EntryRow) (s : EntryName)
      → slice_get (rows_of raw) entry ≡ Some row → slice_get (common_names docs common) entry ≡ Some s → ((i : ℕ) → s ≡ RootOf i → ⊥)
      → StandsIn (all_written (move_over (reused_of docs common) fixed (file_numbers 0 docs)) (units_of docs) written) s row.unit
  unfolding unit_keys named_files
  common_owned around raw means written entry row s got_row got_name no_root =
      let mean = ((units_agree around raw).ok common.units).0 means in
      let units = map as_compile common.units in
      let o = of_unit_by around (length docs) name raw common.units units mean (like_compiled common.units) (as_compiled common.units) (length r.units) (own_tops r) 0 0 entry row s got_row got_name in
      let i = o.0 in
      let w = o.2 in
      let at = o.1 in
      let number = w.number in
      let f = in_file (length docs) (unit_map name w.v) in
      let here : row.unit ≡ w.k = omega (arith, at, number) in
      let got_f = got_map (in_file (length docs)) (map (unit_map name) units) w.k (unit_map name w.v) (got_map (unit_map name) units w.k w.v w.is) in
      let got_common : slice_get r.commons w.k ≡ Some f = ap (λ (fs : List (FileUnit EntryName)). slice_get fs w.k) commons_are ∙ got_f in
      let nth_common : Nth 0 r.commons w.k f = subst (λ (n : ℕ). Nth 0 r.commons n f) (let z : 0 + w.k ≡ w.k = omega arith in z) (nth_of 0 r.commons w.k f got_common) in
      let nth : Nth 0 (together r) i f = nth_right 0 r.units r.commons i f (nth_move 0 (0 + length r.units) r.commons w.k i f nth_common (omega (arith, number))) in
      let below = below_kept (together r) stay re.all (length docs) name i w.first w.v nth (λ t is. tops_there t (w.tops t is)) s (stay_same s) stays
      (inner i (In s (below_names i w.first w.v.kind w.v.below)) w.own) in
      let kept : In s (map (image_in stay) (keys f.unit.below)) = subst (In s) (keys_map (image_in stay) f.unit.below)
      (subst (λ (e : Entries EntryName). In s (keys e)) (kept_still stay (together r) i f (stay_still (together r) f.file)) below) in
      let k = in_map_from (image_in stay) s (keys f.unit.below) kept in
      let same : k.source ≡ s = sym (stay_same k.source) ∙ k.is in
      let own : In s (keys f.unit.below) = subst (λ (e : EntryName). In e (keys f.unit.below)) same k.there in
      let mapped : In s (keys (standing_unit r f).below) = subst (In s) (sym (keys_map (as_part (length r.units)) f.unit.below))
      (subst (λ (e : EntryName). In e (map (as_part (length r.units)) (keys f.unit.below))) (part_same (length r.units) s no_root no_unit_name) (in_map (as_part (length r.units)) s (keys f.unit.below) own)) in
      let got_unit : slice_get (common_units m) row.unit ≡ Some (standing_unit r f) = ap (slice_get (common_units m)) here
      ∙ ap (λ (us : List (DwUnit EntryName)). slice_get us w.k) (common_stands docs common fixed p fx) ∙ got_map (standing_unit r) r.commons w.k f got_common in
      record {
        unit = standing_unit r f;
        is = get_first (common_units m) (files_written m (units_of docs) 0 written) row.unit (standing_unit r f) got_unit;
        has = inr (inr mapped);
      }
    where
      among_all : slice_get (all_names (docs ++ compile_doc common ∷ [])) (length (all_names docs) + entry) ≡ Some s
      among_all = ap (λ (ns : List EntryName). slice_get ns (length (all_names docs) + entry)) (every_names docs common) ∙ get_later (all_names docs) (common_names docs common) entry s got_name

      no_unit_name : (i : ℕ) → s ≡ UnitOf i → ⊥
      no_unit_name i e = no_unit (docs ++ compile_doc common ∷ []) i
          (subst (λ (w : EntryName). In w (all_names (docs ++ compile_doc common ∷ []))) e (got_in (all_names (docs ++ compile_doc common ∷ [])) (length (all_names docs) + entry) s among_all))

      inner : (i : ℕ) (X : Type 0) → (s ≡ RootOf i) ⊎ X → X
      inner i X (inl e) = absurd (no_root i e)
      inner i X (inr x) = x

      commons_are : r.commons ≡ filed (length docs) name (map as_compile common.units)
      commons_are = append-nil (filed (length docs) name (map as_compile common.units))

      tops_there : (t : Top) → In t (tops_from (length r.units) (own_tops r) (filed (length docs) name (map as_compile common.units))) → In t (tops_of (together r))
      tops_there t is =
          let u : length r.units ≡ 0 + length r.units = omega arith in
          let n : own_tops r ≡ 0 + counted r.units = omega (arith, tops_length 0 0 r.units) in
          subst (In t) (sym (tops_append 0 0 r.units r.commons)) (in_right t (tops_of r.units) (tops_from (0 + length r.units) (0 + counted r.units) r.commons)
          (subst (In t) (λ j. tops_from (u j) (n j) (sym commons_are j)) is))

      stays : (t : Top) (path : List ℕ) → In t (tops_of (together r)) → s ≡ Within t.number path → In path (paths_of t.below) × (false ≡ false)
      stays t path is e =
          let o = own_name (docs ++ compile_doc common ∷ []) (length (all_names docs) + entry) t.number path (among_all ∙ ap (λ (w : EntryName). Some w) e) in
          let there = subst (λ (us : List (FileUnit EntryName)). In o.0 (tops_of us)) (sym (together_is docs common)) o.1 in
          let same : o.0 ≡ t = one_top (together r) o.0 t there is o.2 in
          (subst (λ (w : Top). In path (paths_of w.below)) same o.3, refl)
