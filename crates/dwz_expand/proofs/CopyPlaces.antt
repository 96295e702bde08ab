-- Where new units begin, and where the copies stand that their operands name.
use Rattle.std.proofs.Common.{◌≡◌, ℕ, zero, suc, ◌-◌, ◌<◌, List, [], ◌∷◌, get_or, length, map, refl, sym, ap, subst, ◌∙◌, arith}
use Rattle.std.specs.List.{flat_map}
use Rattle.std.specs.Prelude.{slice_index, slice_index_or}
use Rattle.std.proofs.lemmas.List.{length-map}
use Rattle.std.proofs.lemmas.List.Sums.{sum_by-cons}
use Rattle.dwz_def_cross.specs.CrossSame.{EachTwo}
use Rattle.dwz_def_cross.specs.Tops.{WithCommon, units_with_common, whole_units}
use Rattle.dwz_def_encoding.specs.Meant.{entry_keys}
use Rattle.dwz_def_encoding.specs.Writing.{base_place}
use Rattle.dwz_def_expand.specs.Chosen.{Choice}
use Rattle.dwz_def_expand.specs.OneFile.{OneFile, same_place}
use Rattle.dwz_def_expand.specs.Output.{Spoken, new_places, new_start, number_of_operand, sources_by_file}
use Rattle.dwz_def_expand.specs.Source.{Copy, copy_for, source_places, source_unit}
use Rattle.dwz_def_reading.specs.Documents.{DwUnit}
use Rattle.dwz_def_reading.specs.Places.{Place}
use Rattle.dwz_expand_sources.specs.Imports.{same}
use Rattle.dwz_expand_layout.specs.Depths.{DeepLine, with_ends}
use Rattle.dwz_expand_layout.specs.Entries.{NewLine, UnitLines, line_count}
use Rattle.dwz_expand_layout.specs.Laid.{Made, laid}
use Rattle.dwz_expand_layout.specs.Lines.{Line, line, lines}
use Rattle.dwz_expand_layout.specs.declared.layout.LaidUnit.{LaidUnit}
use Rattle.dwz_expand_sources.specs.declared.sources.NewUnit.{NewUnit}
use Rattle.dwz_expand_sources.specs.Sources.{Sources, in_range, ranges_of}
use Rattle.dwz_expand_passes.proofs.SourceMaps.{copy_mapped, places_mapped}
use Rattle.dwz_expand_passes.specs.Renamed.{copy_map}
use Rattle.dwz_expand_passes.proofs.FileLemmas.{file_law}
use Rattle.dwz_expand_passes.proofs.LineLemmas.{key_of, unit_line_keys}
use Rattle.dwz_expand_passes.proofs.NumberLemmas.{lengths, named_in, one_of_all}
use Rattle.dwz_expand_passes.proofs.StandLemmas.{lines_law}
use Rattle.dwz_expand_passes.specs.CopiesOf.{HaveCopies, IsCopyOf}
use Rattle.dwz_expand_passes.specs.Lined.{StandsAs, all_lines}
use Rattle.dwz_expand_passes.specs.Numbered.{key_in}
use Rattle.dwz_expand_passes.specs.OfFile.{IsNewFile}
use Rattle.dwz_expand_passes.specs.declared.new_file.NewFile.{NewFile}
use Rattle.dwz_expand_passes.specs.Passes.{forms_in}
use Rattle.dwz_expand.specs.OneKnown.{stands_of}
use Rattle.dwz_expand.specs.Units.{IsLaidOf, IsOfOne}
use Rattle.dwz_expand.proofs.OneKept.{wholes_many}

-- ---- how many copies there are

module _ (w : WithCommon ℕ) (s : Sources) (c : Choice ℕ) where
  many_copies : (n : ℕ) (deep : List DeepLine) (ls : List (Line ℕ)) → EachTwo (IsCopyOf w c n) deep ls → length (with_ends deep) ≡ length ls
  unfolding with_ends
  many_copies n [] [] copies = refl
  many_copies n [] (l ∷ ls) copies = absurd copies
  many_copies n (d ∷ deep) [] copies = absurd copies
  many_copies n (d ∷ deep) (l ∷ ls) copies = ap suc (many_copies n deep ls copies.1)

  units_many : (n : ℕ) (xs : List NewUnit) (us : List (DwUnit ℕ)) (order : List UnitLines) → EachTwo (StandsAs w s.ranges) xs us → HaveCopies w s c n xs us order
      → line_count order ≡ lengths (map (λ (v : DwUnit ℕ). entry_keys v) (map (source_unit same (units_with_common w)) us))
  units_many n [] [] [] stand has = refl
  units_many n [] [] (o ∷ order) stand has = absurd has
  units_many n [] (u ∷ us) order stand has = absurd stand
  units_many n (x ∷ xs) [] order stand has = absurd stand
  units_many n (x ∷ xs) (u ∷ us) [] stand has = absurd has
  units_many n (x ∷ xs) (u ∷ us) (o ∷ order) stand has =
      let v = source_unit same (units_with_common w) u in
      let own = has.0 in
      let copied : length o.lines ≡ length (own.root ∷ flat_map (in_range (all_lines w)) (ranges_of s.ranges x)) =
      ap (λ (ls : List NewLine). length ls) own.lines ∙ many_copies n own.deep (own.root ∷ flat_map (in_range (all_lines w)) (ranges_of s.ranges x)) own.copies in
      let below : length (own.root ∷ flat_map (in_range (all_lines w)) (ranges_of s.ranges x)) ≡ length (line 1 u.root ∷ lines 2 v.below) =
      ap (λ (ls : List (Line ℕ)). length (line 1 u.root ∷ ls)) stand.0.below in
      let keys : length (line 1 u.root ∷ lines 2 v.below) ≡ length (entry_keys v) =
      sym (length-map (line 1 u.root ∷ lines 2 v.below) key_of) ∙ ap (λ (ks : List ℕ). length ks) (unit_line_keys v) in
      omega (
        arith,
        copied,
        below,
        keys,
        units_many (suc n) xs us order stand.1 has.1,
        sum_by-cons (λ (y : UnitLines). length y.lines) o order,
        sum_by-cons (λ (ps : List ℕ). length ps) (entry_keys v) (map (λ (y : DwUnit ℕ). entry_keys y) (map (source_unit same (units_with_common w)) us)),
      )

-- ---- where a unit begins

unit_at : (units : List LaidUnit) (n : ℕ) → (slice_index_or units n (record { at = 0; end = 0; table = 0 })).at ≡ get_or (map (λ (u : LaidUnit). u.at) units) n 0
unit_at [] n = refl
unit_at (u ∷ units) zero = refl
unit_at (u ∷ units) (suc n) = unit_at units n

-- ---- of a file whose units are laid

module _ (f : OneFile) (x : NewFile) (k : IsOfOne f x) (made : Made) (l : IsLaidOf f x made) where
  copies : HaveCopies k.w x.sources.now (forms_in x k.w) 0 x.sources.now.units (whole_units k.w.own) l.order
  copies = l.new.copies k.w (stands_of f k.place) k.says

  laid_file : IsNewFile f (λ i. copy_map k.place (key_in k.w i)) l.order
  laid_file = file_law f k.w k.place (forms_in x k.w) x.sources.now l.order k.stand.said k.apart k.stand.choice k.says.are k.says.apart copies

  count : line_count l.order ≡ lengths (source_places same k.w)
  count =
      units_many k.w x.sources.now (forms_in x k.w) 0 x.sources.now.units (whole_units k.w.own) l.order (lines_law k.w x.sources.now k.says.are k.says.apart) copies

  places_many : length (source_places same k.w) ≡ length (whole_units k.w.own)
  places_many =
      let source = source_unit same (units_with_common k.w) in
      length-map (map source (whole_units k.w.own)) (λ (v : DwUnit ℕ). entry_keys v) ∙ length-map (whole_units k.w.own) source

  -- the n-th unit begins where it does after
  pub begins : (n : ℕ) → n < length (whole_units k.w.own) → (slice_index_or made.units n (record { at = 0; end = 0; table = 0 })).at ≡ new_start f n
  begins n lt =
      ap (λ (m : Made). (slice_index_or m.units n (record { at = 0; end = 0; table = 0 })).at) l.is ∙ unit_at (laid l.order).units n
      ∙ laid_file.starts n (omega (arith, lt, wholes_many f k.w k.place k.stand.alike k.stand.said))

  copy_placed : (n p : ℕ) → copy_map k.place (copy_for same (source_places same k.w) n p) ≡ copy_for same_place (sources_by_file f) n (k.place p)
  copy_placed n p =
      sym (copy_mapped k.place same same_place k.stand.alike (source_places same k.w) n p)
      ∙ ap (λ (ps : List (List Place)). copy_for same_place ps n (k.place p))
      (sym (ap (λ (v : WithCommon Place). source_places same_place v) k.stand.said ∙ places_mapped k.place same same_place k.stand.alike k.w))

  -- a copy that an operand of it names stands where that of its place does
  pub copy_stands : (n c p : ℕ) → n < length (whole_units k.w.own) → key_in k.w c ≡ copy_for same (source_places same k.w) n p
      → slice_index made.places c ≡ (new_places f).place (copy_for same_place (sources_by_file f) n (k.place p))
  copy_stands n c p lt named =
      let there : n < length (source_places same k.w) = omega (arith, lt, places_many) in
      let known : (key_in k.w c).unit < length (source_places same k.w) =
      subst (λ (y : Copy ℕ). y.unit < length (source_places same k.w)) (sym named) (named_in k.w n p there) in
      let low : c < line_count l.order = omega (arith, one_of_all k.w c known, count) in
      ap (λ (m : Made). slice_index m.places c) l.is ∙ laid_file.places c low ∙ ap (λ (y : Copy ℕ). (new_places f).place (copy_map k.place y)) named
      ∙ ap (new_places f).place (copy_placed n p)

  -- so an operand has the number that it has after, which leads from the n-th unit to the copy for a place
  pub number_stands : (n c p : ℕ) (o : Spoken) → n < length (whole_units k.w.own) → key_in k.w c ≡ copy_for same (source_places same k.w) n p → o.unit ≡ n → o.target ≡ k.place p
      → slice_index made.places c - base_place (slice_index_or made.units n (record { at = 0; end = 0; table = 0 })).at o.operand.base ≡ number_of_operand f o
  number_stands n c p o lt named unit target =
      let one : slice_index made.places c ≡ (new_places f).place (copy_for same_place (sources_by_file f) o.unit o.target) =
      copy_stands n c p lt named ∙ (λ j. (new_places f).place (copy_for same_place (sources_by_file f) (sym unit j) (sym target j))) in
      let start : (slice_index_or made.units n (record { at = 0; end = 0; table = 0 })).at ≡ new_start f o.unit = begins n lt ∙ ap (new_start f) (sym unit) in
      (λ j. one j - base_place (start j) o.operand.base)
