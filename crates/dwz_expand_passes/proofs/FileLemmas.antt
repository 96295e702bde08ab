-- New units that have copies are the new file.
use Rattle.std.proofs.Common.{◌≡◌, ℕ, zero, suc, ◌+◌, ◌<◌, List, [], ◌∷◌, get_or, inl, inr, length, map, refl, sym, ap, ◌∙◌, arith}
use Rattle.std.proofs.lemmas.List.{length-map}
use Rattle.dwz_def_cross.specs.Tops.{WithCommon, units_with_common, whole_units}
use Rattle.dwz_def_encoding.specs.Placing.{UnitSections}
use Rattle.dwz_def_encoding.specs.Writing.{Numbering}
use Rattle.dwz_def_expand.proofs.FileLemmas.{test}
use Rattle.dwz_def_expand.proofs.WholeLemmas.{alone, unit_copy}
use Rattle.dwz_def_expand.specs.Chosen.{Choice, chosen_units}
use Rattle.dwz_def_expand.specs.OneFile.{OneFile, said_by_file, same_place}
use Rattle.dwz_def_expand.specs.Output.{forms, new_places, new_sections, new_start, wholes}
use Rattle.dwz_def_expand.specs.Source.{Copy, copies, copy, source_places, source_unit, source_units}
use Rattle.dwz_def_expand.specs.Written.{expanded_places, expanded_sections, written}
use Rattle.dwz_def_reading.specs.Documents.{DwUnit, unit_map}
use Rattle.dwz_def_reading.specs.Places.{Place, at_file}
use Rattle.dwz_def_tops.specs.Lists.{NoneTwice}
use Rattle.dwz_def_tops.specs.Shown.{units_keys}
use Rattle.dwz_expand_layout.proofs.LawLemmas.{layout_law}
use Rattle.dwz_expand_layout.specs.declared.layout.LaidUnit.{LaidUnit}
use Rattle.dwz_expand_layout.specs.Entries.{UnitLines}
use Rattle.dwz_expand_layout.specs.Laid.{laid}
use Rattle.dwz_expand_layout.specs.Laws.{AreLaid}
use Rattle.dwz_expand_sources.specs.Sources.{AreSources, Sources}
use Rattle.dwz_expand_sources.specs.Imports.{same}
use Rattle.dwz_expand_passes.proofs.RenamedLemmas.{renamed_law, tests_agree}
use Rattle.dwz_expand_passes.proofs.SourceMaps.{whole_mapped}
use Rattle.dwz_expand_passes.specs.Renamed.{SameChoice, SameWritten, copy_map, renamed}
use Rattle.dwz_model.specs.Lists.{In}
use Rattle.dwz_expand_passes.proofs.CopiedLemmas.{copies_law}
use Rattle.dwz_expand_passes.proofs.StandLemmas.{same_test}
use Rattle.dwz_expand_passes.specs.CopiesOf.{HaveCopies}
use Rattle.dwz_expand_passes.specs.Numbered.{key_in}
use Rattle.dwz_expand_passes.specs.OfFile.{FileLaw, IsNewFile}

-- ---- where units begin

module _ (w : WithCommon ℕ) (c : Choice ℕ) (n : Numbering (Copy ℕ)) (apart : NoneTwice (units_keys (units_with_common w))) where
  starts_at : (first i d : ℕ) (units : List (DwUnit ℕ)) → ((u : DwUnit ℕ) → In u units → In u (source_units same w)) → i < length units
      → get_or (map (λ (u : DwUnit (Copy ℕ)). n.place u.at) (chosen_units c (copies same (source_places same w) first units))) i 0
      ≡ n.place (copy (first + i) (get_or (map (λ (u : DwUnit ℕ). u.at) units) i d))
  unfolding copies
  starts_at first i d [] into lt = absurd (omega (arith, lt))
  starts_at first zero d (u ∷ units) into lt =
      let none : first ≡ first + 0 = omega arith in
      ap n.place (unit_copy same same_test (source_units same w) first u.at (alone same same_test w apart u (into u (inl refl)))) ∙ ap (λ (k : ℕ). n.place (copy k u.at)) none
  starts_at first (suc i) d (u ∷ units) into lt =
      let next : suc first + i ≡ first + suc i = omega arith in
      starts_at (suc first) i d units (λ v h. into v (inr h)) (omega (arith, lt)) ∙ ap (λ (k : ℕ). n.place (copy k (get_or (map (λ (v : DwUnit ℕ). v.at) units) i d))) next

-- the units' own places are those of their sources
same_ats : (all some : List (DwUnit ℕ)) → map (λ (u : DwUnit ℕ). u.at) (map (source_unit same all) some) ≡ map (λ (u : DwUnit ℕ). u.at) some
same_ats all [] = refl
same_ats all (u ∷ some) = ap (λ (ks : List ℕ). u.at ∷ ks) (same_ats all some)

at_mapped : (place : ℕ → Place) (units : List (DwUnit ℕ)) (i d : ℕ) (e : Place) → i < length units
    → get_or (map (λ (u : DwUnit Place). u.at) (map (unit_map place) units)) i e ≡ place (get_or (map (λ (u : DwUnit ℕ). u.at) units) i d)
at_mapped place [] i d e lt = absurd (omega (arith, lt))
at_mapped place (u ∷ units) zero d e lt = refl
at_mapped place (u ∷ units) (suc i) d e lt = at_mapped place units i d e (omega (arith, lt))

module _ (f : OneFile) (w : WithCommon ℕ) (place : ℕ → Place) (c : Choice ℕ) (s : Sources) (order : List UnitLines) (said : said_by_file f ≡ renamed place w)
    (apart : (p q : ℕ) → place p ≡ place q → p ≡ q) (choice : SameChoice place c (forms f)) (are : AreSources w s) (once : NoneTwice (units_keys (units_with_common w)))
    (has : HaveCopies w s c 0 s.units (whole_units w.own) order) where
  law : SameWritten place same same_place c (forms f) w
  law = renamed_law ℕ Place place same same_place c (forms f) w (tests_agree place same same_place same_test test apart) choice

  is : AreLaid (expanded_places same c w) (key_in w) order (written same c w)
  is = layout_law ℕ same c w (key_in w) order same_test (copies_law w s c order are once has)

  these : expanded_sections same_place (forms f) (said_by_file f) ≡ expanded_sections same c w
  these = ap (expanded_sections same_place (forms f)) said ∙ law.sections

  -- a copy of a number stands where that of its place does
  there : (k : Copy ℕ) → (expanded_places same c w).place k ≡ (new_places f).place (copy_map place k)
  there k = sym (ap (λ (v : WithCommon Place). (expanded_places same_place (forms f) v).place (copy_map place k)) said ∙ law.places k)

  own : wholes f ≡ map (unit_map place) (whole_units w.own)
  own = ap (λ (v : WithCommon Place). whole_units v.own) said ∙ whole_mapped place same same_place (tests_agree place same same_place same_test test apart) w.own

  starts : (n : ℕ) → n < length (wholes f) → get_or (map (λ (o : LaidUnit). o.at) (laid order).units) n 0 ≡ new_start f n
  unfolding written
  starts n lt =
      let us = whole_units w.own in
      let sources = source_units same w in
      let less : n < length us = omega (arith, lt, ap (λ (vs : List (DwUnit Place)). length vs) own, length-map us (unit_map place)) in
      let long : n < length sources = omega (arith, less, length-map us (source_unit same (units_with_common w))) in
      let d = get_or (map (λ (u : DwUnit ℕ). u.at) us) n 0 in
      ap (λ (ks : List ℕ). get_or ks n 0) is.starts
      ∙ starts_at w c (expanded_places same c w) once 0 n 0 sources (λ u h. h) long
      ∙ ap (λ (ks : List ℕ). (expanded_places same c w).place (copy (0 + n) (get_or ks n 0))) (same_ats (units_with_common w) us)
      ∙ (let first : 0 + n ≡ n = omega arith in ap (λ (k : ℕ). (expanded_places same c w).place (copy k d)) first)
      ∙ there (copy n d)
      ∙ ap (λ (p : Place). (new_places f).place (copy n p))
      (sym (ap (λ (vs : List (DwUnit Place)). get_or (map (λ (u : DwUnit Place). u.at) vs) n (at_file 0 0)) own ∙ at_mapped place us n 0 (at_file 0 0) less))

  pub is_new : IsNewFile f (λ i. copy_map place (key_in w i)) order
  unfolding new_sections
  is_new = record {
    info = is.info ∙ sym (ap (λ (x : UnitSections). x.info) these);
    abbrevs = is.abbrevs ∙ sym (ap (λ (x : UnitSections). x.abbrevs) these);
    end = is.end ∙ sym (ap (λ (x : UnitSections). length x.info) these);
    starts = starts;
    count = is.count;
    places = λ i lt. is.places i lt ∙ there (key_in w i);
  }

pub file_law : FileLaw
file_law f w place c s order said apart choice are once has = is_new f w place c s order said apart choice are once has
