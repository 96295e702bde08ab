-- The units of the tops of a common file, by where the tops of each begin.
use Rattle.std.proofs.Common.{◌≡◌, ℕ, suc, ◌+◌, ◌-◌, List, [], ◌∷◌, ◌++◌, length, map, refl, sym, ap, ◌∙◌, inl, inr, arith}
use Rattle.std.specs.Prelude.{replicate}
use Rattle.std.proofs.lemmas.List.{length-append, map-append}
use Rattle.dwz_def_reading.specs.Documents.{Compile, Doc, DwUnit, Kind, OfType, Partial, unit_map}
use Rattle.dwz_def_reading.specs.Lists.{In}
use Rattle.dwz_def_tops.specs.Seen.{IsPartial}
use Rattle.dwz_def_tops.specs.Spaces.{tops_under}
use Rattle.dwz_def_tops.specs.Spots.{EntryName, FileUnit, Top, in_file, row_below, row_tops, top_count, tops_from}
use Rattle.dwz_def_tops.proofs.SpaceLemmas.{under_count}
use Rattle.dwz_def_tops.proofs.TopNumbers.{below_length}
use Rattle.dwz_def_tops.proofs.TopOrder.{here_unit}
use Rattle.dwz_def_check.specs.CrossLists.{NumberedUnit, numbered_units}
use Rattle.dwz_def_check.specs.CrossNames.{cross_tops, unit_tops}
use Rattle.dwz_def_check.specs.CrossNodes.{lone_of}
use Rattle.dwz_def_check.proofs.TopLists.{tops_count}
use Rattle.dwz_def_taken.specs.Beside.{as_compile, own_tops, reused_of}
use Rattle.dwz_check_index.specs.declared.index.UnitStart.{UnitStart}
use Rattle.dwz_check_index.specs.Both.{from_top}
use Rattle.dwz_check_index.specs.Index.{CrossIndex, IsCrossIndex, start_of}
use Rattle.dwz_match.specs.Parts.{start_in}
use Rattle.dwz_match.proofs.CommonTops.{commons_are, spot_of, whole_units}
use Rattle.dwz_plan.specs.OverLaws.{common_tops}
use Rattle.dwz_layout_input.specs.Behind.{units_from}

-- units all of which are partial
abbrev ArePartial : List (DwUnit ℕ) → Type 0
ArePartial units = (u : DwUnit ℕ) → In u units → IsPartial u.kind

first_start : (end n lone : ℕ) (units : List (DwUnit ℕ)) → end ≡ n + length (cross_tops units) → start_in end (map (λ x. x.top) (numbered_units n lone units)) ≡ n
unfolding numbered_units cross_tops
first_start end n lone [] e = omega (arith, e)
first_start end n lone (u ∷ units) e = refl

all_one : (s : ℕ) (tops : List Top) → ((t : Top) → In t tops → t.unit ≡ s) → map (λ t. t.unit) tops ≡ replicate (length tops) s
all_one s [] h = refl
all_one s (t ∷ tops) h = (λ i. h t (inl refl) i ∷ all_one s tops (λ u is. h u (inr is)) i)

module _ (file : ℕ) (name : ℕ → EntryName) where
  abbrev whole : DwUnit ℕ → FileUnit EntryName
  whole u = in_file file (unit_map name (as_compile u))

  kind_count : (k : Kind ℕ) (u : DwUnit ℕ) → IsPartial k → length (unit_tops k u) ≡ tops_under u.below
  kind_count Partial u h = tops_count [] u.below
  kind_count Compile u h = absurd h
  kind_count (OfType signature main) u h = absurd h

  unit_count : (u : DwUnit ℕ) → IsPartial u.kind → top_count (whole u).unit.kind (whole u).unit.below ≡ length (unit_tops u.kind u)
  unit_count u h = under_count name u.below ∙ sym (kind_count u.kind u h)

  units_are : (end s n lone : ℕ) (units : List (DwUnit ℕ)) → ArePartial units → end ≡ n + length (cross_tops units)
      → map (λ t. t.unit) (tops_from s n (whole_units file name units)) ≡ units_from end s (map (λ x. x.top) (numbered_units n lone units))
  unfolding tops_from numbered_units cross_tops
  units_are end s n lone [] h e = refl
  units_are end s n lone (u ∷ units) h e =
      let m : ℕ = length (unit_tops u.kind u) in
      let count = unit_count u (h u (inl refl)) in
      let first : List Top = row_tops (row_below file s n (whole u).unit (whole u).unit.kind) in
      let rest = numbered_units (n + m) (lone + length (lone_of u.kind u)) units in
      let long : length first ≡ m = below_length file s n (whole u).unit (whole u).unit.kind ∙ count in
      let e' : end ≡ n + m + length (cross_tops units) = omega (arith, e, length-append (unit_tops u.kind u) (cross_tops units)) in
      let next = first_start end (n + m) (lone + length (lone_of u.kind u)) units e' in
      let many : length first ≡ start_in end (map (λ (x : NumberedUnit ℕ). x.top) rest) - n = omega (arith, long, next) in
      ap (λ (k : ℕ). map (λ (t : Top). t.unit) (first ++ tops_from (suc s) (n + k) (whole_units file name units))) count
      ∙ map-append (λ (t : Top). t.unit) first (tops_from (suc s) (n + m) (whole_units file name units))
      ∙ (λ i. (all_one s first (here_unit s n (whole u) (whole_units file name units)) ∙ ap (λ (k : ℕ). replicate k s) many) i
      ++ units_are end (suc s) (n + m) (lone + length (lone_of u.kind u)) units (λ v is. h v (inr is)) e' i)

  tops_many : (s n : ℕ) (units : List (DwUnit ℕ)) → ArePartial units → length (tops_from s n (whole_units file name units)) ≡ length (cross_tops units)
  unfolding tops_from cross_tops
  tops_many s n [] h = refl
  tops_many s n (u ∷ units) h =
      let first : List Top = row_tops (row_below file s n (whole u).unit (whole u).unit.kind) in
      let long = below_length file s n (whole u).unit (whole u).unit.kind ∙ unit_count u (h u (inl refl)) in
      let m : ℕ = n + top_count (whole u).unit.kind (whole u).unit.below in
      omega (
        arith,
        long,
        length-append first (tops_from (suc s) m (whole_units file name units)),
        length-append (unit_tops u.kind u) (cross_tops units),
        tops_many (suc s) m units (λ v is. h v (inr is)),
      )

-- there are as many tops as in the index
pub behind_many : (docs : List (Doc ℕ)) (doc : Doc ℕ) (x : CrossIndex) → ((u : DwUnit ℕ) → In u doc.units → IsPartial u.kind)
    → IsCrossIndex (from_top (own_tops (reused_of docs doc))) doc.units x → length (common_tops (reused_of docs doc)) ≡ length x.tops
behind_many docs doc x partial is =
    let r = reused_of docs doc in
    ap (λ w. length (tops_from (length r.units) (own_tops r) w)) (commons_are docs doc) ∙ tops_many (length docs) (spot_of docs doc) (length r.units) (own_tops r) doc.units partial ∙ sym is.tops.len

starts_of : (units : List (NumberedUnit ℕ)) → map (λ (s : UnitStart). s.top) (map start_of units) ≡ map (λ (x : NumberedUnit ℕ). x.top) units
starts_of [] = refl
starts_of (x ∷ units) = ap (λ (w : List ℕ). x.top ∷ w) (starts_of units)

-- by the index of the common file
pub behind_units : (docs : List (Doc ℕ)) (doc : Doc ℕ) (x : CrossIndex) (end : ℕ) → ((u : DwUnit ℕ) → In u doc.units → IsPartial u.kind)
    → IsCrossIndex (from_top (own_tops (reused_of docs doc))) doc.units x → end ≡ x.starts.top + length x.tops
    → map (λ t. t.unit) (common_tops (reused_of docs doc)) ≡ units_from end (length (reused_of docs doc).units) (map (λ s. s.top) x.units)
behind_units docs doc x end partial is e =
    let r = reused_of docs doc in
    let first = ap (λ w. w.top) is.starts_are in
    let many = is.tops.len in
    ap (λ w. map (λ (t : Top). t.unit) (tops_from (length r.units) (own_tops r) w)) (commons_are docs doc)
    ∙ units_are (length docs) (spot_of docs doc) end (length r.units) (own_tops r) 0 doc.units partial (omega (arith, e, first, many))
    ∙ ap (units_from end (length r.units)) (sym (ap (map (λ (s : UnitStart). s.top)) is.units ∙ starts_of (numbered_units (own_tops r) 0 doc.units)))

-- there are as many units as starts
pub starts_many : (first lone : ℕ) (units : List (DwUnit ℕ)) → length (numbered_units first lone units) ≡ length units
unfolding numbered_units
starts_many first lone [] = refl
starts_many first lone (u ∷ units) = ap suc (starts_many (first + length (unit_tops u.kind u)) (lone + length (lone_of u.kind u)) units)
