-- The spaces of units with tops that may move, and of partial units, by rows.
use Rattle.std.proofs.Common.{◌≡◌, ◌↔◌, ℕ, Bool, List, length, map, sym, ap, subst, ◌∙◌, [], ◌∷◌, inl, inr, arith}
use Rattle.std.specs.Prelude.{slice_index}
use Rattle.std.proofs.lemmas.List.{length-map}
use Rattle.dwz_model.proofs.ListFacts.{got_in, got_index_or, got_map, got_there}
use Rattle.dwz_model.proofs.Members.{nth_get, nth_one}
use Rattle.dwz_def_reading.specs.Documents.{Compile, Doc, DwUnit, Kind}
use Rattle.dwz_def_reading.specs.Lists.{In}
use Rattle.dwz_def_taken.specs.Beside.{reused_of}
use Rattle.dwz_def_taken.specs.Takes.{HasSpace}
use Rattle.dwz_def_tops.proofs.Tops.{unit_of}
use Rattle.dwz_def_tops.specs.Lists.{Nth}
use Rattle.dwz_def_tops.specs.Spots.{EntryName, FileUnit, Top, tops_of, units_of}
use Rattle.dwz_match.proofs.CommonTops.{commons_are, spot_of, whole_units}
use Rattle.dwz_match.specs.Units.{MovesIn}
use Rattle.dwz_reuse.specs.SpaceNames.{ShowLists}
use Rattle.dwz_reuse.specs.Spaces.{IsNoType}
use Rattle.dwz_takes.specs.Takes.{list_at}
use Rattle.dwz_reuse.specs.Rows.{SpacesLaw}

-- a unit with a top is a compile unit
record WholeUnit (units : List (FileUnit EntryName)) (u : ℕ) : Type 0 where
  unit : FileUnit EntryName
  nth : Nth 0 units u unit
  plain : IsNoType unit.unit.kind

whole_unit : (units : List (FileUnit EntryName)) (movable : List Bool) (u t : ℕ) → MovesIn (map (λ (x : Top). x.unit) (tops_of units)) movable u t → WholeUnit units u
whole_unit units movable u t m =
    let long = length-map (tops_of units) (λ (x : Top). x.unit) in
    let low = m.there in
    let o = got_there (tops_of units) t (omega (arith, long, low)) in
    let of_top : slice_index (map (λ (x : Top). x.unit) (tops_of units)) t ≡ (o.0).unit =
    got_index_or (map (λ (x : Top). x.unit) (tops_of units)) t (o.0).unit 0 (got_map (λ (x : Top). x.unit) (tops_of units) t o.0 o.1) in
    let f = unit_of units o.0 (got_in (tops_of units) t o.0 o.1) in
    record {
      unit = f.unit;
      nth = subst (λ (n : ℕ). Nth 0 units n f.unit) (sym of_top ∙ m.unit) f.nth;
      plain = subst (λ (k : Kind EntryName). IsNoType k) (sym f.compile) tt;
    }

-- a partial unit is read as a compile unit
both_ways : (units : List (FileUnit EntryName)) (name : ℕ → List (List ℕ)) (lists : List (List ℕ)) → ShowLists units name lists → (u n : ℕ)
    → ((f : FileUnit EntryName) → Nth 0 units u f → IsNoType f.unit.kind) → In n (list_at lists u) ↔ HasSpace units u (name n)
both_ways units name lists h u n plain = (λ i. h.only u n i, λ x. h.found u n x.0 x.2 (plain x.0 x.2) x)

commons_whole : (file : ℕ) (g : ℕ → EntryName) (units : List (DwUnit ℕ)) (f : FileUnit EntryName) → In f (whole_units file g units) → f.unit.kind ≡ Compile
commons_whole file g [] f h = absurd h
commons_whole file g (u ∷ units) f (inl e) = ap (λ (w : FileUnit EntryName). w.unit.kind) (sym e)
commons_whole file g (u ∷ units) f (inr r) = commons_whole file g units f r

part_plain : (docs : List (Doc ℕ)) (common : Doc ℕ) (p : ℕ) (f : FileUnit EntryName) → Nth 0 (reused_of docs common).commons p f → IsNoType f.unit.kind
part_plain docs common p f nth =
    let here : Nth 0 (whole_units (length docs) (spot_of docs common) common.units) p f = subst (λ (w : List (FileUnit EntryName)). Nth 0 w p f) (commons_are docs common) nth in
    let there = got_in (whole_units (length docs) (spot_of docs common) common.units) p f (nth_get 0 (whole_units (length docs) (spot_of docs common) common.units) p p f here (omega arith)) in
    subst (λ (k : Kind EntryName). IsNoType k) (sym (commons_whole (length docs) (spot_of docs common) common.units f there)) tt

pub spaces_law : SpacesLaw
spaces_law docs common movable rows names tops refers = record {
  unit_names = λ u t n i. (
      let w = whole_unit (units_of docs) movable u t ((tops.unit_tops u t).0 i) in
      both_ways (units_of docs) names.name rows.unit_names names.unit_names u n
      (λ f nth. subst (λ (x : FileUnit EntryName). IsNoType x.unit.kind) (nth_one 0 (units_of docs) u w.unit f w.nth nth) w.plain));
  part_names = λ p n. both_ways (reused_of docs common).commons names.name rows.part_names names.part_names p n (part_plain docs common p);
  named = names.named;
  part_targets = refers;
}
