-- Where the tops of the partial units of a common file begin, by its index.
use Rattle.std.proofs.Common.{◌≡◌, ℕ, ◌+◌, List, [], ◌∷◌, length, map, refl, ap, ◌∙◌, arith}
use Rattle.dwz_def_reading.specs.Documents.{Doc}
use Rattle.dwz_def_check.specs.CrossLists.{NumberedUnit, numbered_units}
use Rattle.dwz_def_taken.specs.Beside.{own_tops, reused_of}
use Rattle.dwz_check_index.specs.declared.index.CrossStarts.{CrossStarts}
use Rattle.dwz_check_index.specs.declared.index.UnitStart.{UnitStart}
use Rattle.dwz_check_index.specs.Both.{from_top}
use Rattle.dwz_check_index.specs.Index.{CrossIndex, IsCrossIndex, start_of}
use Rattle.dwz_match.specs.Partial.{ArePartial}
use Rattle.dwz_match.specs.Parts.{AreStarts}

tops_of_starts : (units : List (NumberedUnit ℕ)) → map (λ (s : UnitStart). s.top) (map start_of units) ≡ map (λ (x : NumberedUnit ℕ). x.top) units
tops_of_starts [] = refl
tops_of_starts (x ∷ units) = ap (λ (w : List ℕ). x.top ∷ w) (tops_of_starts units)

pub starts_are : (docs : List (Doc ℕ)) (common : Doc ℕ) (x : CrossIndex) → ArePartial common.units → IsCrossIndex (from_top (own_tops (reused_of docs common))) common.units x
    → AreStarts docs common (map (λ (s : UnitStart). s.top) x.units) (x.starts.top + length x.tops)
starts_are docs common x partial is = record {
  partial = partial;
  starts_are = ap (map (λ (s : UnitStart). s.top)) is.units ∙ tops_of_starts (numbered_units (own_tops (reused_of docs common)) 0 common.units);
  end_is = (let first : x.starts.top ≡ own_tops (reused_of docs common) = ap (λ (w : CrossStarts). w.top) is.starts_are in let many = is.tops.len in omega (arith, first, many));
}
