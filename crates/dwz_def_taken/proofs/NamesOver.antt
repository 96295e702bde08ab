-- Units of files that have places, and of a finished common file that has, are at their own names.
use Rattle.std.proofs.Common.{◌≡◌, ℕ, suc, ◌+◌, List, [], ◌∷◌, ◌++◌, length, map, sym, ap, subst, ◌∙◌, inl, inr, arith, append_assoc}
use Rattle.std.proofs.Common.{length-append}
use Rattle.dwz_def_reading.specs.Documents.{Doc, DwUnit, unit_map}
use Rattle.dwz_def_reading.specs.Lists.{In}
use Rattle.dwz_def_reading.proofs.ListFacts.{in_cases}
use Rattle.dwz_def_tops.proofs.Members.{each_append, in_map_from, nth_in}
use Rattle.dwz_def_tops.specs.Spots.{EntryName, FileUnit, in_file, named_files, named_in, spot_in, spots_from, top_count, tops_among, tops_of, units_of}
use Rattle.dwz_def_images.specs.After.{AreOld, ArePlaced}
use Rattle.dwz_def_images.proofs.OldFiles.{files_old}
use Rattle.dwz_def_tops.proofs.FiledTops.{counted, filed_count, filed_length, tops_length}
use Rattle.dwz_def_taken.specs.Beside.{as_compile, compile_doc, reused_of, together}
use Rattle.dwz_def_taken.specs.Laws.{NamedOverLaw}

-- ---- files behind others

pub counted_append : (xs ys : List (FileUnit EntryName)) → counted (xs ++ ys) ≡ counted xs + counted ys
unfolding counted
counted_append [] ys = let p : counted ys ≡ 0 + counted ys = omega arith in p
counted_append (f ∷ xs) ys = let more = counted_append xs ys in let p : top_count f.unit.kind f.unit.below + counted (xs ++ ys) ≡ top_count f.unit.kind f.unit.below + counted xs + counted ys = omega (arith, more) in p

numbered : (ys : List (Doc ℕ)) {f g u v t w : ℕ} → f ≡ g → u ≡ v → t ≡ w → named_files f u t ys ≡ named_files g v w ys
numbered ys p q r = λ i. named_files (p i) (q i) (r i) ys

named_append : (file unit top : ℕ) (xs ys : List (Doc ℕ)) → named_files file unit top (xs ++ ys)
    ≡ named_files file unit top xs ++ named_files (file + length xs) (unit + length (named_files file unit top xs)) (top + counted (named_files file unit top xs)) ys
unfolding named_files counted
named_append file unit top [] ys =
    let f : file ≡ file + 0 = omega arith in let u : unit ≡ unit + 0 = omega arith in let t : top ≡ top + 0 = omega arith in numbered ys f u t
named_append file unit top (d ∷ xs) ys =
    let spots = spots_from unit top d.units in
    let own = map (in_file file) (named_in spots d.units) in
    let rest = named_files (suc file) (unit + length d.units) (top + tops_among d.units) xs in
    let long : length (own ++ rest) ≡ length d.units + length rest = length-append own rest ∙ ap (λ (n : ℕ). n + length rest) (filed_length spots file d.units) in
    let count : counted (own ++ rest) ≡ tops_among d.units + counted rest = counted_append own rest ∙ ap (λ (n : ℕ). n + counted rest) (filed_count spots file d.units) in
    let f : suc file + length xs ≡ file + suc (length xs) = omega arith in
    let u : unit + length d.units + length rest ≡ unit + length (own ++ rest) = omega (arith, long) in
    let t : top + tops_among d.units + counted rest ≡ top + counted (own ++ rest) = omega (arith, count) in
    let behind = named_files (file + suc (length xs)) (unit + length (own ++ rest)) (top + counted (own ++ rest)) ys in
    ap (λ (w : List (FileUnit EntryName)). own ++ w) (named_append (suc file) (unit + length d.units) (top + tops_among d.units) xs ys ∙ ap (λ (w : List (FileUnit EntryName)). rest ++ w) (numbered ys f u t))
    ∙ sym (append_assoc own rest behind)

pub together_is : (docs : List (Doc ℕ)) (common : Doc ℕ) → together (reused_of docs common) ≡ units_of (docs ++ compile_doc common ∷ [])
together_is docs common =
    let f : length docs ≡ 0 + length docs = omega arith in
    let u : length (units_of docs) ≡ 0 + length (units_of docs) = omega arith in
    let t : length (tops_of (units_of docs)) ≡ 0 + counted (units_of docs) = omega (arith, tops_length 0 0 (units_of docs)) in
    ap (λ (w : List (FileUnit EntryName)). units_of docs ++ w) (numbered (compile_doc common ∷ []) f u t) ∙ sym (named_append 0 0 0 docs (compile_doc common ∷ []))

-- ---- the units of the common file

abbrev pub common_spots : List (Doc ℕ) → Doc ℕ → List (ℕ × EntryName)
common_spots docs common = spots_from (length (units_of docs)) (length (tops_of (units_of docs))) (map as_compile common.units)

-- one is a unit that was read, with names for places
pub record FromCommon (docs : List (Doc ℕ)) (common : Doc ℕ) (f : FileUnit EntryName) : Type 0 where
  pub source : DwUnit ℕ
  pub there : In source common.units
  pub is : in_file (length docs) (unit_map (spot_in (common_spots docs common)) (as_compile source)) ≡ f

pub from_common : (docs : List (Doc ℕ)) (common : Doc ℕ) (f : FileUnit EntryName) → In f (reused_of docs common).commons → FromCommon docs common f
unfolding named_files
from_common docs common f is = elim (in_cases f (map (in_file (length docs)) (named_in (common_spots docs common) (map as_compile common.units))) [] is) [
  | inl a ↦
      let x = in_map_from (in_file (length docs)) f (named_in (common_spots docs common) (map as_compile common.units)) a in
      let y = in_map_from (unit_map (spot_in (common_spots docs common))) x.source (map as_compile common.units) x.there in
      let z = in_map_from as_compile y.source common.units y.there in
      record {
        source = z.source;
        there = z.there;
        is = ap (λ (w : DwUnit ℕ). in_file (length docs) (unit_map (spot_in (common_spots docs common)) w)) z.is ∙ ap (in_file (length docs)) y.is ∙ x.is;
      }
  | inr b ↦ absurd b
]

pub named_over : NamedOverLaw
named_over docs common p = record {
  own = files_old docs p.each;
  all = subst AreOld (sym (together_is docs common))
      (files_old (docs ++ compile_doc common ∷ []) (each_append (λ d. ArePlaced d.units) docs (compile_doc common ∷ []) p.each (p.parts, tt)));
  whole = λ k f nth. (
      let o = from_common docs common f (nth_in 0 (reused_of docs common).commons k f nth) in
      sym (ap (λ (w : FileUnit EntryName). w.unit.kind) o.is));
}
