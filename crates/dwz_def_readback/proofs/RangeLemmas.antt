-- Sets of address ranges are of the units that they were of, where these stand after.
use Rattle.std.proofs.Common.{◌≡◌, ℕ, suc, ◌+◌, ◌<◌, ◌^◌, Bool, true, false, List, [], ◌∷◌, ◌++◌, length, map, Option, refl, sym, ap, subst, ◌∙◌, arith, inl, inr, eq-eqb, ne_eqb}
use Rattle.std.proofs.lemmas.List.{length-map}
use Rattle.dwz_def_reading.specs.Lists.{Each, In}
use Rattle.dwz_def_reading.specs.Units.{CompileUnit, PartialUnit, RawKind, RawUnit, TypeUnit}
use Rattle.dwz_def_reading.specs.Documents.{Compile, Doc, DwUnit, Entries, Kind, OfType, Partial, kind_map, unit_map}
use Rattle.dwz_def_reading.specs.Files.{is_place_of, place_if_whole, unit_places}
use Rattle.dwz_def_reading.specs.Meanings.{Common, MeanUnits, MeaningContext, MeansKind, Sources, scope_of}
use Rattle.dwz_def_reading.specs.Patching.{AreUnits, of_units}
use Rattle.dwz_def_reading.specs.Ranges.{RangeSet, SpellsSets}
use Rattle.dwz_def_reading.proofs.MeaningLemmas.{has_in}
use Rattle.dwz_def_reading.proofs.PatchedSets.{sets_patched}
use Rattle.dwz_def_tops.specs.Lists.{Nth}
use Rattle.dwz_def_tops.specs.Seen.{IsPartial}
use Rattle.dwz_def_tops.specs.Shown.{units_keys}
use Rattle.dwz_def_tops.proofs.Members.{in_nth, nth_from}
use Rattle.dwz_def_reading.proofs.HasLemmas.{in_has}
use Rattle.dwz_def_tops.specs.Spots.{EntryName, FileUnit, Row, in_file, named, named_files, rows_of_root, spot_in, spots_from, tops_among}
use Rattle.dwz_def_images.specs.Homes.{Local}
use Rattle.dwz_def_images.specs.Moves.{image_in}
use Rattle.dwz_def_images.specs.After.{AreOld}
use Rattle.dwz_def_tops.specs.UnitNames.{IsNamedBelow, name_from}
use Rattle.dwz_def_reading.specs.Places.{Place, at_file}
use Rattle.dwz_def_images.specs.Units.{kept_unit, kept_units, out_units, partial_units}
use Rattle.dwz_def_encoding.specs.Meant.{placed_units}
use Rattle.dwz_def_encoding.specs.Placing.{Forms, KeyedForms, fit_unit, fit_units, with_keys}
use Rattle.dwz_def_encoding.specs.Writing.{Numbering}
use Rattle.dwz_def_readback.specs.Back.{AllStandAfter, around_in}
use Rattle.dwz_def_readback.specs.Files.{AreRangedBy, CommonFile, Made, file_forms_by, fitted_by, fitted_if_by, formed_by, places_by, uses_by}
use Rattle.dwz_def_readback.specs.Files.{AreRanged, Run, file_forms, fitted, fitted_if, formed, name_after, places, sources, uses}
use Rattle.dwz_def_reading.specs.Pruning.{new_number}
use Rattle.dwz_def_reading.proofs.ListFacts.{in_cases, in_left, in_map, in_right}
use Rattle.dwz_def_encoding.specs.Pruned.{renumbered_unit, renumbered_units}
use Rattle.dwz_def_readback.proofs.ReadBuilt.{own}
use Rattle.dwz_def_readback.proofs.WithinLemmas.{kept_to}

-- ---- units that are read

-- a unit that isn't partial begins there
pub record WholeAt (raw : List RawUnit) (place : ℕ) : Type 0 where
  pub unit : RawUnit
  pub there : In unit raw
  pub at : unit.at ≡ place

pub whole_at : (raw : List RawUnit) (place : ℕ) → In place (unit_places raw) → WholeAt raw place
unfolding unit_places
whole_at [] place h = absurd h
whole_at (u ∷ raw) place h = elim (in_cases place (place_if_whole u.kind u.at) (unit_places raw) h) [
  | inl a ↦ record { unit = u; there = inl refl; at = by u.kind a }
  | inr b ↦ (let o = whole_at raw place b in record { unit = o.unit; there = inr o.there; at = o.at })
]
  where
    by : (k : RawKind) → In place (place_if_whole k u.at) → u.at ≡ place
    by CompileUnit (inl e) = e
    by CompileUnit (inr x) = absurd x
    by (TypeUnit signature offset) (inl e) = e
    by (TypeUnit signature offset) (inr x) = absurd x
    by PartialUnit x = absurd x

meant_at : (sources : Sources) (all : List ℕ) (raw : List RawUnit) (units : List (DwUnit ℕ)) → MeanUnits (own sources all) raw units → (u : RawUnit) → In u raw → (v : DwUnit ℕ) × In v units
    × (v.at ≡ u.at)
meant_at sources all [] [] h u there = absurd there
meant_at sources all (w ∷ raw) (v ∷ units) h u (inl e) = (v, inl refl, h.0.place ∙ ap (λ (x : RawUnit). x.at) e)
meant_at sources all (w ∷ raw) (v ∷ units) h u (inr r) = (let o = meant_at sources all raw units h.1 u r in (o.0, inr o.1, o.2))
meant_at sources all _ _ h u there = absurd h

-- ---- units that have names

-- it is at the name of that place in the file
pub record NamedAt (units : List (FileUnit EntryName)) (file : ℕ) (name : EntryName) : Type 0 where
  pub unit : FileUnit EntryName
  pub there : In unit units
  pub of_file : unit.file ≡ file
  pub at : unit.unit.at ≡ name

block_at : (file : ℕ) (f : ℕ → EntryName) (units : List (DwUnit ℕ)) (v : DwUnit ℕ) → In v units → NamedAt (map (in_file file) (map (unit_map f) units)) file (f v.at)
block_at file f [] v h = absurd h
block_at file f (w ∷ units) v (inl e) = record { unit = in_file file (unit_map f w); there = inl refl; of_file = refl; at = ap (λ (x : DwUnit ℕ). f x.at) e }
block_at file f (w ∷ units) v (inr r) = (let o = block_at file f units v r in record { unit = o.unit; there = inr o.there; of_file = o.of_file; at = o.at })

pub named_at : (own unit top : ℕ) (docs : List (Doc ℕ)) (file : ℕ) (doc : Doc ℕ) → Nth own docs file doc → (v : DwUnit ℕ) → In v doc.units
    → NamedAt (named_files own unit top docs) file (name_from own unit top docs (at_file file v.at))
unfolding named_files name_from
named_at own unit top [] file doc nth v there = absurd nth
named_at own unit top (d ∷ docs) file doc (inl e) v there =
    let f = spot_in (spots_from unit top d.units) in
    let rest = name_from (suc own) (unit + length d.units) (top + tops_among d.units) docs (at_file file v.at) in
    let o = block_at own f d.units v (subst (λ (x : Doc ℕ). In v x.units) (sym e.1) there) in
    let is = ap (λ (b : Bool). elim b as (λ _. EntryName) [ true ↦ f v.at | false ↦ rest ]) (eq-eqb own file e.0) in
    record { unit = o.unit; there = in_left o.unit (map (in_file own) (named unit top d.units)) _ o.there; of_file = o.of_file ∙ e.0; at = o.at ∙ sym is }
named_at own unit top (d ∷ docs) file doc (inr r) v there =
    let f = spot_in (spots_from unit top d.units) in
    let rest = name_from (suc own) (unit + length d.units) (top + tops_among d.units) docs (at_file file v.at) in
    let later = nth_from (suc own) docs file doc r in
    let o = named_at (suc own) (unit + length d.units) (top + tops_among d.units) docs file doc r v there in
    let is = ap (λ (b : Bool). elim b as (λ _. EntryName) [ true ↦ f v.at | false ↦ rest ]) (ne_eqb own file (λ e. omega (arith, e, later))) in
    record { unit = o.unit; there = in_right o.unit (map (in_file own) (named unit top d.units)) _ o.there; of_file = o.of_file; at = o.at ∙ sym is }

-- ---- units after

-- each unit that was read stands after, at its name
pub stand_after : (r : Run) → AreOld r.units → (file : ℕ) (sources : Sources) (all : List ℕ) (units : List (DwUnit ℕ)) → MeanUnits (own sources all) (r.input.raw file) units
    → ((v : DwUnit ℕ) → In v units → NamedAt r.units file (r.name (at_file file v.at))) → AllStandAfter r file
unfolding out_units
stand_after r old file sources all units means stands place known =
    let w = whole_at (r.input.raw file) place (has_in place (unit_places (r.input.raw file)) known) in
    let v = meant_at sources all (r.input.raw file) units means w.unit w.there in
    let u = stands v.0 v.1 in
    let n = in_nth 0 r.units u.unit u.there in
    let is = old.units_named n.number u.unit n.nth in
    let f = image_in r.move in
    let own_name : u.unit.unit.at ≡ f u.unit.unit.at = is.unit ∙ ap f (sym is.unit) in
    record {
      unit = kept_unit r.move r.units n.number u.unit;
      there = in_right _ (partial_units r.move (Local file) 0 r.move.parts) (kept_units r.move r.units file 0 r.units) (kept_to r.move r.units file 0 r.units n.number u.unit n.nth u.of_file);
      kind = λ partial. by n.number (rows_of_root r.units n.number) u.unit.unit.below u.unit.unit.kind is.below partial;
      at = own_name ∙ ap f (u.at ∙ ap (λ (p : ℕ). r.name (at_file file p)) (v.2 ∙ w.at));
    }
  where
    by : (i : ℕ) (row : Row) (below : Entries EntryName) (k : Kind EntryName) → IsNamedBelow i k row below → IsPartial (kind_map (image_in r.move) k) → ⊥
    by i row below Compile is partial = partial
    by i row below (OfType signature main) is partial = partial
    by i row below Partial is partial = is

-- ---- where they are read back

module _ (n : Numbering EntryName) (g : EntryName → Place) (common : Option (Common Place)) (number : ℕ) (bytes : List ℕ) where
  kind_whole : (s : MeaningContext Place) (k : RawKind) (kind : Kind EntryName) → MeansKind s k (kind_map g kind) → (IsPartial kind → ⊥) → (p : ℕ) → In p (place_if_whole k p)
  kind_whole s CompileUnit kind h whole p = inl refl
  kind_whole s (TypeUnit signature offset) kind h whole p = inl refl
  kind_whole s PartialUnit Compile h whole p = absurd (let z = h in cc)
  kind_whole s PartialUnit (OfType signature main) h whole p = absurd (let z = h in cc)
  kind_whole s PartialUnit Partial h whole p = absurd (whole tt)

  places_back : (all : List ℕ) (sources : Sources) (raw : List RawUnit) (units : List (DwUnit EntryName))
      → MeanUnits (record { sources = sources; all = all; place = at_file number; common = common }) raw (placed_units n g units)
      → ((w : DwUnit EntryName) → In w units → at_file number (n.place w.at) ≡ g w.at) → (w : DwUnit EntryName) → In w units → (IsPartial w.kind → ⊥) → In (n.place w.at) (unit_places raw)
  unfolding unit_places
  places_back all sources [] [] h own w there whole = absurd there
  places_back all sources (u ∷ raw) (v ∷ units) h own w (inl e) whole =
      let place : n.place v.at ≡ u.at = ap (λ (p : Place). p.at) (own v (inl refl) ∙ h.0.place) in
      let whole' : IsPartial v.kind → ⊥ = λ partial. whole (subst (λ (x : DwUnit EntryName). IsPartial x.kind) e partial) in
      subst (λ (p : ℕ). In p (place_if_whole u.kind u.at ++ unit_places raw)) (sym place ∙ ap (λ (x : DwUnit EntryName). n.place x.at) e)
      (in_left u.at (place_if_whole u.kind u.at) (unit_places raw) (kind_whole (scope_of (record { sources = sources; all = all; place = at_file number; common = common }) u) u.kind v.kind h.0.kind
      whole' u.at))
  places_back all sources (u ∷ raw) (v ∷ units) h own w (inr r) whole =
      in_right (n.place w.at) (place_if_whole u.kind u.at) (unit_places raw) (places_back all sources raw units h.1 (λ x x_in. own x (inr x_in)) w r whole)
  places_back all sources _ _ h own w there whole = absurd h

  -- the place of a unit that isn't partial is one of those
  pub place_back : (raw : List RawUnit) (units : List (DwUnit EntryName)) → MeanUnits (around_in common number bytes raw) raw (placed_units n g units)
      → ((w : DwUnit EntryName) → In w units → at_file number (n.place w.at) ≡ g w.at)
      → (w : DwUnit EntryName) → In w units → (IsPartial w.kind → ⊥) → is_place_of raw (n.place w.at) ≡ true
  place_back raw units h own w there whole = in_has (n.place w.at) (unit_places raw) (places_back _ _ raw units h own w there whole)

-- ---- sets

pub set_known : (is_unit : ℕ → Bool) (sets : List RangeSet) (start : ℕ) (bytes : List ℕ) → SpellsSets is_unit sets start bytes → Each (λ s. is_unit s.unit ≡ true) sets
set_known is_unit [] start bytes h = tt
set_known is_unit (s ∷ sets) start bytes h = (ap is_unit h.first.unit ∙ h.first.known, set_known is_unit sets _ h.second_bytes h.second)

pub are_units : (others : ℕ → Bool) (number : ℕ → ℕ) (is_unit : ℕ → Bool) → ((p : ℕ) → is_unit p ≡ true → (number p < 2 ^ 32) × (others (number p) ≡ true)) → (sets : List RangeSet)
    → Each (λ s. is_unit s.unit ≡ true) sets
    → AreUnits others (map (λ s. number s.unit) sets)
are_units others number is_unit good [] h = tt
are_units others number is_unit good (s ∷ sets) h = (let o = good s.unit h.0 in (o.0, o.1, are_units others number is_unit good sets h.1))

fitted_there : (f : KeyedForms EntryName) (units : List (DwUnit EntryName)) (u : DwUnit EntryName) → In u units → In (fit_unit f u) (map (fit_unit f) units)
fitted_there f units u there = in_map (fit_unit f) u units there

fit_there : (f : Forms EntryName) (units : List (DwUnit EntryName)) (u : DwUnit EntryName) → In u units → (w : DwUnit EntryName) × In w (fit_units f units) × (w.at ≡ u.at) × (w.kind ≡ u.kind)
unfolding fit_units
fit_there f units u there = (fit_unit (with_keys f (units_keys units)) u, fitted_there (with_keys f (units_keys units)) units u there, refl, refl)

-- each unit of a file is written
pub written_there_by : (cf : CommonFile) (r : Run) (file : ℕ) (u : DwUnit EntryName) → In u (out_units r.move r.units file) → (w : DwUnit EntryName) × In w (fitted_by cf r file) × (w.at ≡ u.at)
    × (w.kind ≡ u.kind)
unfolding fitted_by formed_by renumbered_units
written_there_by cf r file u there = by (r.input.prunes file) where
  formed_there : (w : DwUnit EntryName) × In w (formed_by cf r file) × (w.at ≡ u.at) × (w.kind ≡ u.kind)
  formed_there = fit_there (file_forms_by cf r file) (out_units r.move r.units file) u there

  by : (b : Bool) → (w : DwUnit EntryName) × In w (fitted_if_by b cf r file) × (w.at ≡ u.at) × (w.kind ≡ u.kind)
  by true =
      let number = new_number (sources r file).strs (uses_by cf r file) in
      let w = formed_there in
      (renumbered_unit number w.0, in_map (renumbered_unit number) w.0 (formed_by cf r file) w.1, w.2, w.3)
  by false = formed_there

-- sets that were changed are of units, where the places of units after pass the test
pub ranged_spell_by : (cf : CommonFile) (r : Run) (file : ℕ) → AllStandAfter r file → (new : List ℕ) → (are : AreRangedBy cf r file new)
    → (others : ℕ → Bool) → ((u : DwUnit EntryName) → In u (out_units r.move r.units file) → (IsPartial u.kind → ⊥) → ((places_by cf r).place u.at < 2 ^ 32)
    × (others ((places_by cf r).place u.at) ≡ true))
    → SpellsSets others (of_units are.sets (map (λ s. (places_by cf r).place (name_after r file s.unit)) are.sets)) 0 new
ranged_spell_by cf r file units new are others good =
    let number : ℕ → ℕ = λ p. (places_by cf r).place (name_after r file p) in
    let known : (p : ℕ) → is_place_of (r.input.raw file) p ≡ true → (number p < 2 ^ 32) × (others (number p) ≡ true) = λ p is.
    (let u = units p is in
    let o = good u.unit u.there u.kind in
    subst (λ (s : EntryName). ((places_by cf r).place s < 2 ^ 32) × (others ((places_by cf r).place s) ≡ true)) u.at o) in
    let patched = sets_patched (is_place_of (r.input.raw file)) others _ are.sets (map (λ s. number s.unit) are.sets) are.spelled (length-map are.sets (λ (s : RangeSet). number s.unit))
    (are_units others number (is_place_of (r.input.raw file)) known are.sets (set_known (is_place_of (r.input.raw file)) are.sets 0 _ are.spelled)) in
    subst (SpellsSets others (of_units are.sets (map (λ s. number s.unit) are.sets)) 0) (sym are.are) patched

pub written_there : (r : Run) (file : ℕ) (u : DwUnit EntryName) → In u (out_units r.move r.units file) → (w : DwUnit EntryName) × In w (fitted r file) × (w.at ≡ u.at) × (w.kind ≡ u.kind)
written_there = written_there_by Made

pub ranged_spell : (r : Run) (file : ℕ) → AllStandAfter r file → (new : List ℕ) → (are : AreRanged r file new)
    → (others : ℕ → Bool) → ((u : DwUnit EntryName) → In u (out_units r.move r.units file) → (IsPartial u.kind → ⊥) → ((places r).place u.at < 2 ^ 32) × (others ((places r).place u.at) ≡ true))
    → SpellsSets others (of_units are.sets (map (λ s. (places r).place (name_after r file s.unit)) are.sets)) 0 new
ranged_spell = ranged_spell_by Made
