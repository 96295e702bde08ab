-- Each unit has its place after beside the one at which it began, so sets with these places are those after.
use Rattle.std.proofs.Common.{◌≡◌, ℕ, zero, suc, ◌+◌, ◌<◌, Bool, cond, List, [], ◌∷◌, ◌++◌, length, get_or, map, Option, Some, None, refl, sym, ap, subst, ◌∙◌, arith}
use Rattle.std.specs.List.Sorted.{IsStrictlyIncreasing}
use Rattle.std.proofs.lemmas.Bool.{eq-eqb, ne_eqb}
use Rattle.std.proofs.lemmas.List.{ext_get_or, get_or-map, length-map}
use Rattle.std.proofs.lemmas.List.Kept.{AllPairs-from_increasing}
use Rattle.dwz_def_cross.specs.Tops.{unless_partial, whole_units}
use Rattle.dwz_def_expand.specs.OneFile.{FileRead, OneFile, ReadsOne, around}
use Rattle.dwz_def_expand.specs.Output.{new_ranges, new_start, number_of_unit, sets, unit_number, wholes}
use Rattle.dwz_def_output.specs.Contents.{sets_in}
use Rattle.dwz_def_reading.specs.Documents.{DwUnit, Kind}
use Rattle.dwz_def_reading.specs.Files.{debug_aranges, is_place_of, place_if_whole, unit_places}
use Rattle.dwz_def_reading.specs.Input.{input}
use Rattle.dwz_def_reading.specs.Lists.{In}
use Rattle.dwz_def_reading.specs.Meanings.{Around, MeanUnits, MeansKind, scope_of}
use Rattle.dwz_def_reading.specs.Patching.{with_units}
use Rattle.dwz_def_reading.specs.Places.{Place}
use Rattle.dwz_def_reading.specs.Ranges.{RangeSet}
use Rattle.dwz_def_reading.specs.Units.{CompileUnit, PartialUnit, RawKind, RawUnit, TypeUnit}
use Rattle.dwz_def_reading.proofs.MeaningLemmas.{has_in}
use Rattle.dwz_def_reading.proofs.RangeLemmas.{sets_agree}
use Rattle.dwz_encode_sections.specs.Ranges.{AreMoved}
use Rattle.dwz_encode_sections.proofs.RangeSetLemmas.{ranges_law}
use Rattle.dwz_expand_layout.specs.declared.layout.LaidUnit.{LaidUnit}
use Rattle.dwz_expand_sections.specs.Ranges.{HasStarts}

-- ---- numbers of units

abbrev pub places_of : List (DwUnit Place) → List ℕ
places_of units = map (λ (u : DwUnit Place). u.at.at) units

-- where none before it begins there, a unit has its own number
own_number : (n : ℕ) (units : List (DwUnit Place)) (i at : ℕ) → i < length units → get_or (places_of units) i 0 ≡ at
    → ((k : ℕ) → k < i → get_or (places_of units) k 0 ≡ at → ⊥) → unit_number n units at ≡ n + i
unfolding unit_number
own_number n [] i at lt is before = absurd (omega (arith, lt))
own_number n (u ∷ units) zero at lt is before =
    ap (λ (b : Bool). cond b n (unit_number (suc n) units at)) (eq-eqb u.at.at at is) ∙ (let e : n ≡ n + 0 = omega arith in e)
own_number n (u ∷ units) (suc i) at lt is before =
    ap (λ (b : Bool). cond b n (unit_number (suc n) units at)) (ne_eqb u.at.at at (before 0 (omega arith)))
    ∙ own_number (suc n) units i at (omega (arith, lt)) is (λ k less. before (suc k) (omega (arith, less)))
    ∙ (let e : suc n + i ≡ n + suc i = omega arith in e)

-- ---- units as they are stored

module _ (a : Around Place) (place : (n : ℕ) → (a.place n).at ≡ n) where
  places_are : (raw : List RawUnit) (units : List (DwUnit Place)) → MeanUnits a raw units → unit_places raw ≡ places_of (whole_units units)
  unfolding unit_places whole_units
  places_are [] [] h = refl
  places_are [] (v ∷ units) h = absurd h
  places_are (u ∷ raw) [] h = absurd h
  places_are (u ∷ raw) (v ∷ units) h = by (places_are raw units h.1) u.kind h.0.kind where
    here : u.at ≡ v.at.at
    here = sym (ap (λ (p : Place). p.at) h.0.place ∙ place u.at)

    by : unit_places raw ≡ places_of (whole_units units) → (k : RawKind) → MeansKind (scope_of a u) k v.kind
        → place_if_whole k u.at ++ unit_places raw ≡ places_of (unless_partial v.kind v (whole_units units))
    by rest CompileUnit is = (λ i. here i ∷ rest i) ∙ ap (λ (k : Kind Place). places_of (unless_partial k v (whole_units units))) (sym is)
    by rest (TypeUnit signature type_offset) is = (λ i. here i ∷ rest i) ∙ ap (λ (k : Kind Place). places_of (unless_partial k v (whole_units units))) (sym is.1)
    by rest PartialUnit is = rest ∙ ap (λ (k : Kind Place). places_of (unless_partial k v (whole_units units))) (sym is)

-- places in a file are those of its bytes
own_place : (file : FileRead) (common : Option FileRead) (n : ℕ) → ((around (record { file = file; common = common }) 0).place n).at ≡ n
own_place file None n = refl
own_place file (Some c) n = refl

pub places_in_file : (f : OneFile) → ReadsOne f → unit_places f.file.raw ≡ places_of (wholes f)
places_in_file f read = places_are (around f 0) (own_place f.file f.common) f.file.raw f.file.doc.units read.file.means

-- ---- the places after

module _ (f : OneFile) (section units : List ℕ) (laid : List LaidUnit) (has : HasStarts f section units laid) (rises : IsStrictlyIncreasing units) (many : length laid ≡ length units) where
  abbrev after : ℕ → ℕ
  after at = new_start f (number_of_unit f at)

  abbrev starts : List ℕ
  starts = map (λ (u : LaidUnit). u.at) laid

  began : units ≡ places_of (wholes f)
  began = has.began ∙ places_in_file f has.read

  count : length units ≡ length (wholes f)
  count = ap length began ∙ length-map (wholes f) (λ (u : DwUnit Place). u.at.at)

  number : (i : ℕ) → i < length units → number_of_unit f (get_or units i 0) ≡ i
  number i lt =
      let at = get_or units i 0 in
      let is : get_or (places_of (wholes f)) i 0 ≡ at = ap (λ (w : List ℕ). get_or w i 0) (sym began) in
      own_number 0 (wholes f) i at (omega (arith, lt, count)) is
      (λ k less same.
      let low = AllPairs-from_increasing units rises k i 0 less lt in
      let e : get_or units k 0 ≡ at = ap (λ (w : List ℕ). get_or w k 0) began ∙ same in
      omega (arith, low, e))
      ∙ (let e : 0 + i ≡ i = omega arith in e)

  starts_are : starts ≡ map after units
  starts_are =
      let all : length starts ≡ length units = length-map laid (λ (u : LaidUnit). u.at) ∙ many in
      ext_get_or 0 starts (map after units) (all ∙ sym (length-map units after))
      (λ i lt.
      let within : i < length units = omega (arith, lt, all) in
      has.starts i (omega (arith, within, count))
      ∙ ap (new_start f) (sym (number i within))
      ∙ sym (get_or-map after units i 0 0 within))

  pub ranges_new : (out : List ℕ) → AreMoved units starts section out → out ≡ new_ranges f
  unfolding new_ranges
  ranges_new out moved =
      let good = has.read.file.ranges in
      let raw = f.file.raw in
      let old = debug_aranges f.file.bytes in
      let so : AreMoved units (map after units) old out =
      subst (λ (w : List ℕ). AreMoved units w old out) starts_are (subst (λ (s : List ℕ). AreMoved units starts s out) has.section_is moved) in
      let is : out ≡ with_units good.sets (map (λ (s : RangeSet). after s.unit) good.sets) old =
      ranges_law (is_place_of raw) after units old out good.sets good.spelled
      (λ n e. subst (λ (w : List ℕ). In n w) (sym has.began) (has_in n (unit_places raw) e)) so in
      let said : sets f ≡ good.sets = ap sets_in (((sets_agree (is_place_of raw) (input old 0)).ok good.sets).1 good.spelled) in
      is ∙ ap (λ (w : List RangeSet). with_units w (map (λ (s : RangeSet). after s.unit) w) old) (sym said)
