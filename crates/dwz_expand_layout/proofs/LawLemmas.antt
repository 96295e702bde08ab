-- The law on new units that show those of a document.
use Rattle.std.proofs.Common.{◌≡◌, ℕ, ◌+◌, ◌<◌, Bool, List, [], ◌∷◌, inl, length, map, slice_index, refl, sym, ap, subst, ◌∙◌, append-nil, arith}
use Rattle.std.specs.Prelude.{◌==◌}
use Rattle.std.proofs.lemmas.Bool.{and_parts, eq-eqb, eqb-true}
use Rattle.dwz_def_encoding.proofs.Places.{IsSame, numbering_stands}
use Rattle.dwz_def_encoding.proofs.WriteLengths.{FixedUnit}
use Rattle.dwz_def_encoding.specs.Placing.{UnitsStand, files_keys, numbering, sections}
use Rattle.dwz_def_encoding.specs.Writing.{Numbering, joined, tables_of, units_bytes}
use Rattle.dwz_def_expand.specs.ExpandLaws.{IsTest}
use Rattle.dwz_def_expand.specs.Written.{same_copy, written}
use Rattle.dwz_def_reading.specs.Documents.{DwUnit}
use Rattle.dwz_def_reading.specs.Lists.{Each}
use Rattle.dwz_def_tops.specs.Lists.{NoneTwice}
use Rattle.dwz_def_tops.specs.Shown.{units_keys}
use Rattle.dwz_expand_layout.specs.declared.layout.LaidUnit.{LaidUnit}
use Rattle.dwz_expand_layout.specs.Entries.{UnitLines, line_count}
use Rattle.dwz_expand_layout.specs.Laid.{Made, laid, nothing_laid}
use Rattle.dwz_expand_layout.specs.Laws.{AreLaid, AreUnits, LayoutLaw}
use Rattle.dwz_expand_layout.specs.Written.{written as bytes_by}
use Rattle.dwz_expand_layout.proofs.FormLemmas.{written_fixed}
use Rattle.dwz_expand_layout.proofs.SectionLemmas.{all_at, all_many, end_is, made_all, starts_are, units_laid, units_written}
use Rattle.dwz_expand_layout.proofs.ShownLemmas.{CopiesAt, copy_at}

-- where the keys of units stand
abbrev pub places_by : {K : Type 0} → (K → K → Bool) → List (DwUnit K) → Numbering K
places_by same units = numbering same (record { number = 0; units = units } ∷ [])

module _ {K : Type 0} (same : K → K → Bool) (is_same : IsSame same) (key : ℕ → K) (order : List UnitLines) (units : List (DwUnit K)) (fixed : Each FixedUnit units)
    (are : AreUnits key order units) where
  once : NoneTwice (files_keys (record { number = 0; units = units } ∷ []))
  unfolding files_keys
  once = subst NoneTwice (sym (append-nil (units_keys units))) are.apart

  stand : UnitsStand (places_by same units) units 0
  stand = numbering_stands same is_same (record { number = 0; units = units } ∷ []) once (record { number = 0; units = units }) (inl refl) fixed

  abbrev Whole : Made
  Whole = made_all nothing_laid.made order units

  whole : laid order ≡ Whole
  whole = units_laid key 0 order units nothing_laid.made 0 [] are.shows fixed

  many : length Whole.places ≡ line_count order
  many = all_many key 0 0 order units are.shows

  stands_there : CopiesAt (places_by same units) key 0 Whole.places
  stands_there = all_at key (places_by same units) 0 0 order units are.shows fixed stand

  there : (i : ℕ) → i < line_count order → slice_index Whole.places i ≡ (places_by same units).place (key i)
  there i lt =
      let first : 0 + i ≡ i = omega arith in
      copy_at (places_by same units) key 0 Whole.places i stands_there (omega (arith, lt, many)) ∙ ap (λ (k : ℕ). (places_by same units).place (key k)) first

  bytes : bytes_by Whole order ≡ units_bytes (places_by same units) (tables_of [] units) units
  bytes =
      units_written key (places_by same units) Whole (line_count order) (tables_of [] units) there 0 0 [] order units [] [] [] 0 0 0 refl refl refl refl are.refer are.shows fixed stand
      (record { more = []; is = sym (append-nil (tables_of [] units)) })

  pub are_laid : AreLaid (places_by same units) key order units
  unfolding sections
  are_laid =
      let e = end_is (places_by same units) 0 (tables_of [] units) units fixed in
      record {
        info = ap (λ (m : Made). bytes_by m order) whole ∙ bytes;
        abbrevs = ap (λ (m : Made). joined m.tables) whole;
        end = ap (λ (m : Made). m.end) whole ∙ (omega (arith, e));
        starts = ap (λ (m : Made). map (λ (o : LaidUnit). o.at) m.units) whole ∙ starts_are (places_by same units) 0 [] units fixed stand;
        count = ap (λ (m : Made). length m.places) whole ∙ many;
        places = λ i lt. ap (λ (m : Made). slice_index m.places i) whole ∙ there i lt;
      }

-- ---- of a file without its partial units

copies_same : {P : Type 0} (same : P → P → Bool) → IsTest same → IsSame (same_copy same)
copies_same same test = record {
  true_is = λ x y e.
      (let both = and_parts (x.unit == y.unit) (same x.source y.source) e in
      let unit = eqb-true x.unit y.unit both.0 in
      let source = test.yes x.source y.source both.1 in
      (λ i. record { unit = unit i; source = source i }));
  refl_is = λ x. rw (eq-eqb x.unit x.unit refl, test.no x.source) refl;
}

pub layout_law : (P : Type 0) → LayoutLaw P
layout_law P same c w key order test are = are_laid (same_copy same) (copies_same same test) key order (written same c w) (written_fixed same c w) are
