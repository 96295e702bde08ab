-- What has the new sections of a file reads by itself.
use Rattle.std.proofs.Common.{◌≡◌, ℕ, suc, ◌<◌, ◌^◌, true, List, [], ◌∷◌, ◌++◌, length, map, Option, Some, None, refl, sym, ap, subst, ◌∙◌, arith, inl, inr}
use Rattle.std.proofs.lemmas.List.{length-append, length-map}
use Rattle.dwz_def_reading.specs.Refusal.{Refusal}
use Rattle.dwz_def_reading.specs.Lists.{Each, In, Nth}
use Rattle.dwz_def_reading.proofs.ListFacts.{in_cases, in_left, in_right}
use Rattle.dwz_def_reading.proofs.Members.{each_in, in_nth}
use Rattle.dwz_def_reading.specs.Documents.{Compile, DwUnit, Kind, OfType, Partial, kind_map}
use Rattle.dwz_def_reading.specs.Files.{HaveGoodRanges, around_of, debug_abbrev, debug_aranges, is_place_of, place_if_whole, sources_of, unit_places}
use Rattle.dwz_def_reading.specs.Input.{input}
use Rattle.dwz_def_reading.specs.Meanings.{Around, MeanUnits, MeaningContext, MeansKind, scope_of}
use Rattle.dwz_def_reading.specs.NamedLists.{lists_of_units}
use Rattle.dwz_def_reading.specs.Patching.{of_units, with_units}
use Rattle.dwz_def_reading.specs.Places.{Place, at_file}
use Rattle.dwz_def_reading.specs.Ranges.{RangeSet, SpellsSets}
use Rattle.dwz_def_reading.specs.Shared.{NoneShared}
use Rattle.dwz_def_reading.specs.Texts.{IsTextAt}
use Rattle.dwz_def_reading.specs.Units.{CompileUnit, PartialUnit, RawKind, RawUnit, SpellsUnits, TypeUnit}
use Rattle.dwz_def_reading.proofs.HasLemmas.{in_has}
use Rattle.dwz_def_reading.proofs.MeaningLemmas.{has_in}
use Rattle.dwz_def_reading.proofs.PatchedSets.{sets_patched}
use Rattle.dwz_def_reading.proofs.RangeLemmas.{sets_agree}
use Rattle.dwz_def_tops.specs.Seen.{IsPartial}
use Rattle.dwz_def_tops.specs.Shown.{unit_keys, units_keys}
use Rattle.dwz_def_tops.proofs.ShownLemmas.{unit_key}
use Rattle.dwz_def_encoding.specs.Meant.{AreRenumbered, IsAround, placed_units}
use Rattle.dwz_def_encoding.specs.Placing.{sections}
use Rattle.dwz_def_encoding.specs.Writing.{Numbering, tables_of}
use Rattle.dwz_def_encoding.proofs.ListsAgain.{units_share_none}
use Rattle.dwz_def_encoding.proofs.RawUnits.{raw_units}
use Rattle.dwz_def_encoding.proofs.Rising.{entries_are_keys, place_within}
use Rattle.dwz_def_encoding.proofs.UnitsMean.{all_raw}
use Rattle.dwz_def_encoding.proofs.UnitsSpelled.{units_len}
use Rattle.dwz_def_encoding.proofs.WriteLaws.{means}
use Rattle.dwz_def_output.specs.Contents.{sets_in}
use Rattle.dwz_def_readback.proofs.RangeLemmas.{are_units, set_known}
use Rattle.dwz_def_cross.specs.Tops.{unless_partial, whole_units}
use Rattle.dwz_def_expand.specs.Alone.{IsByItself}
use Rattle.dwz_def_expand.specs.OneFile.{FileRead, OneFile, ReadsOne, around, said_by_file, same_place}
use Rattle.dwz_def_expand.specs.Output.{ExpandRefusal, forms, new_places, new_ranges, new_start, number_of_unit, sets}
use Rattle.dwz_def_expand.specs.Refusals.{AllCopied}
use Rattle.dwz_def_expand.specs.Source.{Copy, source_unit, source_units}
use Rattle.dwz_def_expand.proofs.AloneLemmas.{alone_mode, alone_spelled}
use Rattle.dwz_def_expand.proofs.ChosenLemmas.{chosen_alone}
use Rattle.dwz_def_expand.proofs.FileLemmas.{own_place, test}
use Rattle.dwz_def_expand.proofs.RefusalLemmas.{all_copied}
use Rattle.dwz_law_expand.specs.FormLaws.{CanBeExpanded}
use Rattle.dwz_def_expand.specs.After.{ReadsFreely, units_after, new_units}
use Rattle.dwz_law_expand.specs.ReadLaws.{HasExpanded}
use Rattle.dwz_law_expand.specs.Told.{IsOfBytes, told}
use Rattle.dwz_law_expand.proofs.CopyLemmas.{in_written}
use Rattle.dwz_law_expand.proofs.FitLemmas.{NoneNarrow, start_is}
use Rattle.dwz_law_expand.proofs.FormLemmas.{can_be, none_narrow}
use Rattle.dwz_law_expand.proofs.OriginLemmas.{all, apart, new, unit_numbered, w}
use Rattle.dwz_law_expand.proofs.RenumberLemmas.{lists_renumbered, none_shared}

-- ---- where units begin that aren't partial

-- such a place is that of a unit that is said
whole_said : {P : Type 0} (a : Around P) (raw : List RawUnit) (units : List (DwUnit P)) → MeanUnits a raw units → (p : ℕ) → In p (unit_places raw) → (v : DwUnit P) × In v (whole_units units) × (v.at ≡ a.place p)
unfolding unit_places whole_units
whole_said a [] [] h p is = absurd is
whole_said a [] (v ∷ units) h p is = absurd h
whole_said a (u ∷ raw) [] h p is = absurd h
whole_said {P} a (u ∷ raw) (v ∷ units) h p is = elim (in_cases p (place_if_whole u.kind u.at) (unit_places raw) is) [
  | inl here ↦ (v, by u.kind v.kind h.0.kind here, h.0.place ∙ ap a.place (at u.kind here))
  | inr later ↦ (let o = whole_said a raw units h.1 p later in (o.0, more v.kind o.0 o.1, o.2))
] where
  at : (k : RawKind) → In p (place_if_whole k u.at) → u.at ≡ p
  at CompileUnit (inl e) = e
  at CompileUnit (inr x) = absurd x
  at (TypeUnit signature offset) (inl e) = e
  at (TypeUnit signature offset) (inr x) = absurd x
  at PartialUnit x = absurd x

  by : (k : RawKind) (kind : Kind P) → MeansKind (scope_of a u) k kind → In p (place_if_whole k u.at) → In v (unless_partial kind v (whole_units units))
  by CompileUnit kind h here = subst (λ (q : Kind P). In v (unless_partial q v (whole_units units))) (sym h) (inl refl)
  by (TypeUnit signature offset) kind h here = subst (λ (q : Kind P). In v (unless_partial q v (whole_units units))) (sym h.1) (inl refl)
  by PartialUnit kind h here = absurd here

  more : (kind : Kind P) (x : DwUnit P) → In x (whole_units units) → In x (unless_partial kind v (whole_units units))
  more Compile x there = inr there
  more (OfType s m) x there = inr there
  more Partial x there = there

-- a unit that is written, and isn't partial, begins at such a place
module _ {K : Type 0} (n : Numbering K) (a : Around ℕ) (place : (p : ℕ) → a.place p ≡ p) where
  kind_whole : (s : MeaningContext ℕ) (k : RawKind) (kind : Kind K) → MeansKind s k (kind_map n.place kind) → (IsPartial kind → ⊥) → (p : ℕ) → In p (place_if_whole k p)
  kind_whole s CompileUnit kind h whole p = inl refl
  kind_whole s (TypeUnit signature offset) kind h whole p = inl refl
  kind_whole s PartialUnit Compile h whole p = absurd (let z = h in cc)
  kind_whole s PartialUnit (OfType signature main) h whole p = absurd (let z = h in cc)
  kind_whole s PartialUnit Partial h whole p = absurd (whole tt)

  places_back : (raw : List RawUnit) (units : List (DwUnit K)) → MeanUnits a raw (placed_units n n.place units) → (v : DwUnit K) → In v units → (IsPartial v.kind → ⊥) → In (n.place v.at) (unit_places raw)
  unfolding unit_places
  places_back [] [] h v there whole = absurd there
  places_back [] (x ∷ units) h v there whole = absurd h
  places_back (u ∷ raw) [] h v there whole = absurd h
  places_back (u ∷ raw) (x ∷ units) h v (inl e) whole =
      let at : n.place x.at ≡ u.at = h.0.place ∙ place u.at in
      let whole' : IsPartial x.kind → ⊥ = λ p. whole (subst (λ (y : DwUnit K). IsPartial y.kind) e p) in
      subst (λ (p : ℕ). In p (place_if_whole u.kind u.at ++ unit_places raw)) (sym at ∙ ap (λ (y : DwUnit K). n.place y.at) e)
      (in_left u.at (place_if_whole u.kind u.at) (unit_places raw) (kind_whole (scope_of a u) u.kind x.kind h.0.kind whole' u.at))
  places_back (u ∷ raw) (x ∷ units) h v (inr r) whole = in_right (n.place v.at) (place_if_whole u.kind u.at) (unit_places raw) (places_back raw units h.1 v r whole)

no_text : (at : ℕ) (text : List ℕ) → IsTextAt [] at text → ⊥
no_text at text stands =
    omega (
      arith,
      ap length stands.parts,
      ap length stands.spelled.parts,
      length-append stands.before (stands.front ++ stands.after),
      length-append stands.front stands.after,
      length-append text (0 ∷ []),
    )

own_sources : (common : Option FileRead) (file : FileRead) → (around (record { file = file; common = common }) 0).sources ≡ sources_of file.bytes
own_sources None file = refl
own_sources (Some c) file = refl

module _ (f : OneFile) (out : List ℕ) (bytes : IsOfBytes f) (reads : ReadsOne f) (free : (q : Refusal) → ¬ ExpandRefusal f q) (has : HasExpanded f out) where
  abbrev n : Numbering (Copy Place)
  n = new_places f

  abbrev units : List (DwUnit (Copy Place))
  units = new_units f

  can : CanBeExpanded f
  can = can_be f reads bytes free

  copied : AllCopied same_place (forms f) (said_by_file f)
  copied = all_copied f free

  none : NoneNarrow f
  none = none_narrow f reads bytes free

  abbrev raw : List RawUnit
  raw = raw_units n (tables_of [] units) units

  alone : Each IsByItself units
  alone = chosen_alone same_place (forms f) (said_by_file f)

  abbrev after : Around ℕ
  after = around_of out raw

  own_shared : NoneShared (lists_of_units (around f 0) f.file.raw)
  own_shared = reads.file.lists

  is_around : IsAround n n.place (told f) (units_keys units) after
  is_around = record {
    strs = has.strs;
    line_strs = has.line_strs;
    offsets = has.offsets;
    line = has.line;
    common_strs = λ at text stands. absurd (no_text at text stands);
    none_shared = none_shared f reads bytes copied none own_shared;
    lists = subst (AreRenumbered n (told f)) (sym has.lists) (lists_renumbered f reads bytes copied none (own_sources f.common f.file) own_shared);
    all = all_raw n (tables_of [] units) units;
    place = λ k there. refl;
    common = λ k there. absurd there;
  }

  meant : MeanUnits after raw (units_after f)
  meant = means n n.place units (told f) after refl is_around can.writable.sound can.fit can.say

  no_list_shared : NoneShared (lists_of_units after raw)
  no_list_shared =
      units_share_none n n.place (tables_of [] units) (told f) (units_keys units) after is_around (λ k there. entries_are_keys units k there) units (λ k there. there) can.writable.sound can.fit can.say

  -- ---- address ranges

  few_places : (k : Copy Place) → In k (units_keys units) → n.place k < 2 ^ 32
  unfolding sections
  few_places k is =
      let within = place_within n units can.writable.stands k is in
      let len = units_len n (tables_of [] units) units in
      let few = can.writable.fits.0 in
      omega (arith, within, len, few)

  abbrev number : ℕ → ℕ
  number p = new_start f (number_of_unit f p)

  known : (p : ℕ) → is_place_of f.file.raw p ≡ true → (number p < 2 ^ 32) × (is_place_of raw (number p) ≡ true)
  unfolding unit_keys
  known p is =
      let place : (around f 0).place ≡ at_file 0 = own_place f.common f.file in
      let v = whole_said (around f 0) f.file.raw f.file.doc.units reads.file.means p (has_in p (unit_places f.file.raw) is) in
      let found = in_nth 0 (whole_units (w f reads bytes).own) v.0 v.1 in
      let su = source_unit same_place (all f reads bytes) v.0 in
      let nth : Nth 0 (source_units same_place (said_by_file f)) found.number su = nth_mapped 0 (whole_units (w f reads bytes).own) found.number v.0 found.nth in
      let at : v.0.at.at ≡ p = ap (λ (q : Place). q.at) (v.2 ∙ ap (λ (h : ℕ → Place). h p) place) in
      let numbered : number_of_unit f p ≡ found.number = ap (number_of_unit f) (sym at) ∙ unit_numbered f reads bytes found.number v.0 found.nth in
      let start : number p ≡ n.place (new f reads bytes found.number su).at = ap (new_start f) numbered ∙ start_is f reads bytes copied none found.number su nth in
      let there : In (new f reads bytes found.number su) units = in_written same_place test (w f reads bytes) (apart f reads bytes) (forms f) found.number su nth in
      let whole = (each_in IsByItself (new f reads bytes found.number su) units alone there).0 in
      let key : In (new f reads bytes found.number su).at (units_keys units) = unit_key units (new f reads bytes found.number su) (new f reads bytes found.number su).at there (inl refl) in
      let back = places_back n after (λ q. refl) raw units meant (new f reads bytes found.number su) there whole in
      subst (λ (q : ℕ). (q < 2 ^ 32) × (is_place_of raw q ≡ true)) (sym start) (few_places (new f reads bytes found.number su).at key, in_has (n.place (new f reads bytes found.number su).at) (unit_places raw) back)
    where
      nth_mapped : (s : ℕ) (xs : List (DwUnit Place)) (m : ℕ) (v : DwUnit Place) → Nth s xs m v → Nth s (map (source_unit same_place (all f reads bytes)) xs) m (source_unit same_place (all f reads bytes) v)
      nth_mapped s [] m v h = absurd h
      nth_mapped s (x ∷ xs) m v (inl e) = inl (e.0, ap (source_unit same_place (all f reads bytes)) e.1)
      nth_mapped s (x ∷ xs) m v (inr r) = inr (nth_mapped (suc s) xs m v r)

  ranged : HaveGoodRanges out raw
  unfolding new_ranges
  ranged =
      let good = reads.file.ranges in
      let said : sets f ≡ good.sets = ap sets_in (((sets_agree (is_place_of f.file.raw) (input (debug_aranges f.file.bytes) 0)).ok good.sets).1 good.spelled) in
      let numbers : List ℕ = map (λ s. number s.unit) good.sets in
      let patched = sets_patched (is_place_of f.file.raw) (is_place_of raw) (debug_aranges f.file.bytes) good.sets numbers good.spelled (length-map good.sets (λ (s : RangeSet). number s.unit))
      (are_units (is_place_of raw) number (is_place_of f.file.raw) known good.sets (set_known (is_place_of f.file.raw) good.sets 0 _ good.spelled)) in
      record {
        sets = of_units good.sets numbers;
        spelled = subst (SpellsSets (is_place_of raw) (of_units good.sets numbers) 0)
            (sym (has.ranges ∙ ap (λ (some : List RangeSet). with_units some (map (λ s. number s.unit) some) (debug_aranges f.file.bytes)) said)) patched;
      }

  pub reads_freely : (some : List RawUnit) × ReadsFreely out some (units_after f)
  reads_freely =
      let mode = alone_mode units in (
        raw,
        record {
          manner = has.manner;
          alone = has.alone;
          elf = has.elf;
          mode = mode;
          whole = refl;
          partial = refl;
          forms = refl;
          spelled = subst (λ (info : List ℕ). SpellsUnits (debug_abbrev out) mode 0 raw 0 info) (sym has.info)
              (subst (λ (abbrevs : List ℕ). SpellsUnits abbrevs mode 0 raw 0 (sections n units).info) (sym has.abbrevs) (alone_spelled n [] units can.writable can.fit alone));
          means = meant;
          ranges = ranged;
          lists = no_list_shared;
        },
      )
