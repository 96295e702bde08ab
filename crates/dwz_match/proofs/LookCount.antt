-- Looks across files and a common file go over as many tops as these have.
use Rattle.std.proofs.Common.{◌≡◌, ℕ, suc, ◌+◌, List, [], ◌∷◌, ◌++◌, length, map, Option, Some, None, refl, ap, ◌∙◌, inl, inr, arith}
use Rattle.dwz_def_reading.specs.Documents.{Compile, Entries, Kind, OfType, Partial}
use Rattle.dwz_def_reading.specs.Trees.{End, Entry}
use Rattle.dwz_def_tops.specs.Spaces.{space_text, tops_under}
use Rattle.dwz_def_tops.specs.Spots.{EntryName, FileUnit, top_count, tops_of}
use Rattle.dwz_def_tops.proofs.FiledTops.{counted, tops_length}
use Rattle.dwz_def_taken.specs.Beside.{Reused, all_below, as_one, look_units, muted, then_entries, together}
use Rattle.dwz_def_taken.proofs.LookTops.{AreWhole}
use Rattle.dwz_def_taken.proofs.NamesOver.{counted_append}

counted_muted : (units : List (FileUnit EntryName)) → counted (map muted units) ≡ counted units
unfolding counted
counted_muted [] = refl
counted_muted (f ∷ units) = ap (λ (w : ℕ). top_count f.unit.kind f.unit.below + w) (counted_muted units)

under_then : (f g : Entries EntryName) → tops_under (then_entries f g) ≡ tops_under f + tops_under g
unfolding then_entries tops_under
under_then End g = (let e : tops_under g ≡ 0 + tops_under g = omega arith in e)
under_then (Entry e f k) g = go (space_text e) (under_then k g) where
  go : (o : Option (List ℕ)) → tops_under (then_entries k g) ≡ tops_under k + tops_under g
      → elim o as (λ _. ℕ) [ None ↦ suc (tops_under (then_entries k g)) | Some text ↦ tops_under f + tops_under (then_entries k g) ]
      ≡ elim o as (λ _. ℕ) [ None ↦ suc (tops_under k) | Some text ↦ tops_under f + tops_under k ] + tops_under g
  go None more = omega (arith, more)
  go (Some text) more = omega (arith, more)

whole_count : (k : Kind EntryName) (below : Entries EntryName) → k ≡ Compile → tops_under below ≡ top_count k below
whole_count Compile below e = refl
whole_count (OfType signature main) below e = absurd cc
whole_count Partial below e = absurd cc

under_all : (commons : List (FileUnit EntryName)) → AreWhole commons → tops_under (all_below commons) ≡ counted commons
unfolding all_below counted tops_under
under_all [] whole = refl
under_all (f ∷ commons) whole =
    let here = whole_count f.unit.kind f.unit.below (whole f (inl refl)) in
    let more = under_all commons (λ g i. whole g (inr i)) in
    under_then f.unit.below (all_below commons) ∙ (let e : tops_under f.unit.below + tops_under (all_below commons) ≡ top_count f.unit.kind f.unit.below + counted commons = omega (arith, here, more) in e)

one_counted : (f : FileUnit EntryName) → f.unit.kind ≡ Compile → counted (f ∷ []) ≡ tops_under f.unit.below
unfolding counted
one_counted f e = let here = whole_count f.unit.kind f.unit.below e in omega (arith, here)

pub look_many : (r : Reused) → AreWhole r.commons → length (tops_of (look_units r)) ≡ length (tops_of (together r))
look_many r whole =
    let one = muted (as_one r.file (length r.units) r.commons) in
    let a = tops_length 0 0 (look_units r) in
    let b = tops_length 0 0 (together r) in
    let d = counted_append (map muted r.units) (one ∷ []) in
    let e = counted_append r.units r.commons in
    let m = counted_muted r.units in
    let n = one_counted one refl in
    let k = under_all r.commons whole in
    omega (arith, a, b, d, e, m, n, k)
