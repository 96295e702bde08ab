-- What is written of a file is what it says, whether its common file is made or stands.
use Rattle.std.proofs.Common.{◌≡◌, ℕ, ◌<◌, ◌^◌, true, false, List, [], ◌∷◌, ◌++◌, length, map, Option, Some, None, refl, sym, ap, subst, ◌∙◌, arith, Bool, inl}
use Rattle.dwz_def_reading.specs.Documents.{DwUnit}
use Rattle.dwz_def_reading.specs.ElfFaults.{IsElfFaultFor, read_back}
use Rattle.dwz_def_reading.specs.Files.{debug_abbrev, debug_aranges, debug_info, is_place_of, sources_of}
use Rattle.dwz_def_reading.specs.Patching.{of_units}
use Rattle.dwz_def_reading.specs.Ranges.{RangeSet, SpellsSets}
use Rattle.dwz_def_reading.specs.Lists.{Each, In}
use Rattle.dwz_def_reading.specs.Texts.{IsTextAt}
use Rattle.std.proofs.lemmas.List.{length-append}
use Rattle.dwz_def_reading.specs.Meanings.{Common, Sources}
use Rattle.dwz_def_reading.specs.Units.{SpellsUnits}
use Rattle.dwz_def_tops.specs.Spots.{EntryName, same_spot}
use Rattle.dwz_def_tops.specs.Lists.{NoneTwice}
use Rattle.dwz_def_tops.specs.Shown.{unit_keys, units_keys}
use Rattle.dwz_def_tops.specs.Seen.{IsPartial}
use Rattle.dwz_def_tops.proofs.ShownLemmas.{unit_key}
use Rattle.dwz_def_readback.proofs.RangeLemmas.{place_back, ranged_spell, written_there, ranged_spell_by, written_there_by}
use Rattle.dwz_def_reading.specs.Places.{Place, at_file}
use Rattle.dwz_def_images.specs.Units.{all_units, changes, common_units, out_units}
use Rattle.dwz_def_encoding.specs.Carried.{OfAny, OfFile}
use Rattle.dwz_def_encoding.specs.Fitting.{AreWritable, UnitFits, UnitHasRoom, mode_for}
use Rattle.dwz_def_encoding.specs.Meant.{AreRenumbered, IsAround, Tells, UnitsSay, all_entry_keys}
use Rattle.dwz_def_encoding.specs.Placing.{FitsSections, UnitsStand, lines_bytes, sections, texts_bytes, texts_of, units_with}
use Rattle.dwz_def_encoding.specs.Sound.{SoundUnit}
use Rattle.dwz_def_encoding.specs.Writing.{Numbering, tables_of}
use Rattle.dwz_def_encoding.proofs.Chosen.{fit_units_all, fit_units_fixed, units_good}
use Rattle.dwz_def_encoding.proofs.Places.{numbering_stands}
use Rattle.dwz_def_encoding.proofs.ListsAgain.{units_share_none}
use Rattle.dwz_def_encoding.proofs.PoolLemmas.{paths_texts, units_paths, units_texts}
use Rattle.dwz_def_readback.proofs.PathLemmas.{paths_carried}
use Rattle.dwz_def_reading.specs.ElfLayout.{too_large}
use Rattle.dwz_def_encoding.proofs.RawUnits.{raw_units}
use Rattle.dwz_def_encoding.proofs.Rising.{entries_are_keys, place_within}
use Rattle.dwz_def_encoding.proofs.SameLemmas.{spots_same}
use Rattle.dwz_def_encoding.proofs.UnitsMean.{all_raw}
use Rattle.dwz_def_encoding.proofs.UnitsSpelled.{units_len}
use Rattle.dwz_def_encoding.proofs.WriteLaws.{fits, is_roomy, means, spelled}
use Rattle.dwz_def_readback.specs.Back.{CanWrite, IsPlacing, RangesBack, SaysPlaced, around_in, given_by, CanWriteBy, IsPlacingBy, RangesBackBy, SaysPlacedBy}
use Rattle.dwz_def_reading.specs.Shared.{ListOperand, NoneShared, operands_in_lists}
use Rattle.dwz_def_readback.specs.Files.{fitted_by, formed_by, uses_by}
use Rattle.dwz_def_readback.specs.Files.{HasCommon, HasSections, Run, common_fitted, common_forms, common_out, common_sections, file_forms, file_out, files_out, fitted, fitted_if, formed, imports_common}
use Rattle.dwz_def_readback.specs.Files.{name_after, OffsetsIf, paths, place_of, places, sections_of, shared, shared_if, sources, strs_if, tells, tells_common, texts, uses}
use Rattle.dwz_def_reading.specs.Pruning.{new_number}
use Rattle.dwz_def_reading.proofs.ListFacts.{in_map}
use Rattle.dwz_def_encoding.specs.Pruned.{with_texts}
use Rattle.dwz_def_encoding.proofs.PrunedUnits.{units_pruned}
use Rattle.dwz_def_encoding.proofs.Renumbered.{renumbered_room}
use Rattle.dwz_def_readback.proofs.NameLemmas.{common_names, common_there, file_once, file_there, fitted_entries, fitted_fixed, fitted_names, name_in_common, name_in_file, not_common, run_once}
use Rattle.dwz_def_readback.specs.Files.{AreRangedBy, CommonFile, HasSectionsBy, OffsetsIfBy, common_fitted_by, file_forms_by, file_out_by, fitted_if_by, places_by, sections_by, shared_by, strs_if_by, tells_by}
use Rattle.dwz_def_readback.proofs.NameLemmas.{fitted_entries_by, fitted_names_by}

at_key : (u : DwUnit EntryName) → In u.at (unit_keys u)
unfolding unit_keys
at_key u = inl refl

module _ (cf : CommonFile) (r : Run) (g : EntryName → Place) where
  abbrev n : Numbering EntryName
  n = places_by cf r

  -- a name's place is small
  few_places : (units : List (DwUnit EntryName)) → UnitsStand n units 0 → FitsSections (sections n units) → (k : EntryName) → In k (units_keys units) → n.place k < 2 ^ 32
  unfolding sections
  few_places units stands small k is =
      let within = place_within n units stands k is in
      let len = units_len n (tables_of [] units) units in
      let few = small.0 in
      omega (arith, within, len, few)

  record Said (t : Tells EntryName) (common : Option (Common Place)) (number : ℕ) (bytes : List ℕ) (units : List (DwUnit EntryName)) : Type 0 where
    all : t.all ≡ all_entry_keys units
    good : Each SoundUnit units × UnitsSay t units
    stands : UnitsStand n units 0
    elf : (f : _) → IsElfFaultFor read_back bytes f → ⊥
    info : debug_info bytes ≡ (sections n units).info
    abbrevs : debug_abbrev bytes ≡ (sections n units).abbrevs
    strs : (sources_of bytes).strs ≡ t.strs
    line_strs : (sources_of bytes).line_strs ≡ t.line_strs
    offsets : (sources_of bytes).offsets ≡ t.offsets
    line : (sources_of bytes).line ≡ t.line
    common_strs : (at : ℕ) (text : List ℕ) → IsTextAt t.common_strs at text → (c : Common Place) × (common ≡ Some c) × IsTextAt c.strs at text
    none_shared : NoneShared t.named
    lists : AreRenumbered n t (sources_of bytes).lists
    ranges : (others : ℕ → Bool) → ((w : DwUnit EntryName) → In w units → (IsPartial w.kind → ⊥) → (n.place w.at < 2 ^ 32) × (others (n.place w.at) ≡ true)) → (sets : List RangeSet)
        × SpellsSets others sets 0 (debug_aranges bytes)
    room : Each (UnitHasRoom n) units
    small : FitsSections (sections n units)
    common_few : (k : EntryName) → In k t.common → n.place k < 2 ^ 32
    own : (k : EntryName) → In k (units_keys units) → at_file number (n.place k) ≡ g k
    given : (k : EntryName) → In k t.common → (c : Common Place) × (common ≡ Some c) × In (n.place k) c.entries × (c.place (n.place k) ≡ g k)

  said_placed : (t : Tells EntryName) (common : Option (Common Place)) (number : ℕ) (bytes : List ℕ) (units : List (DwUnit EntryName)) → Said t common number bytes units
      → SaysPlacedBy cf r g common number bytes units
  said_placed t common number bytes units s =
      let w : AreWritable n t.common units = record { sound = s.good.0; stands = s.stands; room = s.room; fits = s.small; common_fits = s.common_few } in
      let fit : Each (UnitFits n) units = fits n t.common units t s.all refl w s.good.1 in
      let raw = raw_units n (tables_of [] units) units in
      let entries = all_raw n (tables_of [] units) units in
      let mode = mode_for units in
      let spells : SpellsUnits (sections n units).abbrevs mode 0 raw 0 (sections n units).info = spelled n t.common units mode w fit (is_roomy units) in
      let around : IsAround n g t (units_keys units) (around_in common number bytes raw) = record {
        strs = s.strs;
        line_strs = s.line_strs;
        offsets = s.offsets;
        line = s.line;
        common_strs = s.common_strs;
        none_shared = s.none_shared;
        lists = s.lists;
        all = entries ∙ ap (λ (ks : List EntryName). map n.place ks) (sym s.all);
        place = s.own;
        common = s.given;
      } in
      let meant = means n g units t (around_in common number bytes raw) s.all around s.good.0 fit s.good.1 in
      let back = place_back n g common number bytes raw units meant (λ w there. s.own w.at (unit_key units w w.at there (at_key w))) in
      let sets = s.ranges (is_place_of raw) (λ w there whole. (few_places units s.stands s.small w.at (unit_key units w w.at there (at_key w)), back w there whole)) in
      record {
        raw = raw;
        says = record {
          elf = s.elf;
          mode = mode;
          whole = refl;
          partial = refl;
          forms = refl;
          spelled = subst (λ (info : List ℕ). SpellsUnits (debug_abbrev bytes) mode 0 raw 0 info) (sym s.info)
              (subst (λ (abbrevs : List ℕ). SpellsUnits abbrevs mode 0 raw 0 (sections n units).info) (sym s.abbrevs) spells);
          means = meant;
          ranges = record { sets = sets.0; spelled = sets.1 };
          lists = units_share_none n g (tables_of [] units) t (units_keys units) (around_in common number bytes raw) around (λ k there. entries_are_keys units k (subst (In k) s.all there)) units
              (λ k there. there) s.good.0 fit s.good.1;
        };
        entries = entries;
      }

-- each file's names stand where they are counted, once, and none is one of the common file
pub record FilesStand (cf : CommonFile) (r : Run) : Type 0 where
  pub stands : (file : ℕ) → In file r.files → UnitsStand (places_by cf r) (fitted_by cf r file) 0
  pub once : (file : ℕ) → In file r.files → NoneTwice (units_keys (fitted_by cf r file))
  pub apart : (file : ℕ) → In file r.files → (s : EntryName) → In s (units_keys (common_fitted_by cf r)) → In s (units_keys (fitted_by cf r file)) → ⊥

module _ (cf : CommonFile) (r : Run) (can : CanWriteBy cf r) (g : EntryName → Place) (ok : IsPlacingBy cf r g) (fs : FilesStand cf r) where
  abbrev m : Numbering EntryName
  m = places_by cf r

  formed_good : (file : ℕ) → In file r.files → changes r.move r.units file ≡ true → length (texts_bytes (shared_by cf r file)) < 2 ^ 32
      → Each SoundUnit (formed_by cf r file) × UnitsSay (tells_by cf r file) (formed_by cf r file)
  unfolding formed_by
  formed_good file there changed few =
      let names = fitted_names_by cf r file in
      let c = can.file file there changed in
      units_good (file_forms_by cf r file) spots_same (OfFile (sources r file)) (tells_by cf r file) (out_units r.move r.units file) (fitted_entries_by cf r file)
      (subst NoneTwice names (fs.once file there)) c.carried c.closed
      (λ k common own. fs.apart file there k (entries_are_keys (common_fitted_by cf r) k common) (subst (In k) (sym names) own)) (
        can.few file there,
        λ s a is. record {
          strs = ap (λ (x : Sources). x.strs) (sym is);
          line_strs = ap (λ (x : Sources). x.line_strs) (sym is);
          offsets = ap (λ (x : Sources). x.offsets) (sym is);
          line = ap (λ (x : Sources). x.line) (sym is);
          slots = ap (λ (x : Sources). x.offsets) (sym is);
        },
        record { strs = refl; few = few },
      ) c.over.bases c.over.operands

  -- where the file is pruned its units say the same of what stays
  file_good : (file : ℕ) → In file r.files → changes r.move r.units file ≡ true → length (texts_bytes (shared_by cf r file)) < 2 ^ 32 → (offsets : List ℕ) → OffsetsIfBy (r.input.prunes file) cf r file offsets
      → Each SoundUnit (fitted_by cf r file) × UnitsSay (with_texts (tells_by cf r file) (strs_if_by (r.input.prunes file) cf r file) offsets) (fitted_by cf r file)
  unfolding fitted_by uses_by
  file_good file there changed few offsets new = by (r.input.prunes file) refl new where
    good : Each SoundUnit (formed_by cf r file) × UnitsSay (tells_by cf r file) (formed_by cf r file)
    good = formed_good file there changed few

    by : (b : Bool) → r.input.prunes file ≡ b → OffsetsIfBy b cf r file offsets
        → Each SoundUnit (fitted_if_by b cf r file) × UnitsSay (with_texts (tells_by cf r file) (strs_if_by b cf r file) offsets) (fitted_if_by b cf r file)
    by true e new = units_pruned (tells_by cf r file) (formed_by cf r file) offsets (can.few file there) new (can.stay file there changed e) good.0 good.1
    by false e new = (good.0, subst (λ (w : List ℕ). UnitsSay (with_texts (tells_by cf r file) (sources r file).strs w) (formed_by cf r file)) (sym new) good.1)

  file_room : (file : ℕ) → In file r.files → changes r.move r.units file ≡ true → Each (UnitHasRoom m) (fitted_by cf r file)
  unfolding fitted_by formed_by
  file_room file there changed = by (r.input.prunes file) where
    by : (b : Bool) → Each (UnitHasRoom m) (fitted_if_by b cf r file)
    by true = renumbered_room (new_number (sources r file).strs (uses_by cf r file)) m (formed_by cf r file) (can.file file there changed).over.room
    by false = (can.file file there changed).over.room

  -- its sets of address ranges are of units after
  file_ranged : (file : ℕ) → In file r.files → (out : List ℕ) (has : HasSectionsBy cf r file out) (others : ℕ → Bool)
      → ((w : DwUnit EntryName) → In w (fitted_by cf r file) → (IsPartial w.kind → ⊥) → (m.place w.at < 2 ^ 32) × (others (m.place w.at) ≡ true))
      → SpellsSets others (of_units has.ranges.sets (map (λ s. m.place (name_after r file s.unit)) has.ranges.sets)) 0 (debug_aranges out)
  file_ranged file there out has others good = ranged_spell_by cf r file (can.units file there) (debug_aranges out) has.ranges others (λ u u_in whole.
      (let w = written_there_by cf r file u u_in in
      let o = good w.0 w.1 (λ partial. whole (subst IsPartial w.3 partial)) in
      subst (λ (k : EntryName). (m.place k < 2 ^ 32) × (others (m.place k) ≡ true)) w.2 o))

  pub with_common : (common : Option (Common Place)) (out : List ℕ) (file : ℕ) → In file r.files → changes r.move r.units file ≡ true → HasSectionsBy cf r file out → FitsSections (sections_by cf r file)
      → ((k : EntryName) → In k (all_entry_keys (common_fitted_by cf r)) → m.place k < 2 ^ 32)
      → ((k : EntryName) → In k (all_entry_keys (common_fitted_by cf r)) → (c : Common Place) × (common ≡ Some c) × In (m.place k) c.entries × (c.place (m.place k) ≡ g k))
      → length (texts_bytes (shared_by cf r file)) < 2 ^ 32 → ((at : ℕ) (text : List ℕ) → IsTextAt (texts_bytes (shared_by cf r file)) at text → (c : Common Place) × (common ≡ Some c) × IsTextAt c.strs at text)
      → SaysPlacedBy cf r g common file out (fitted_by cf r file)
  with_common common out file there changed has small few given few_texts texts_given = said_placed cf r g (with_texts (tells_by cf r file) (strs_if_by (r.input.prunes file) cf r file) (sources_of out).offsets) common
      file out (fitted_by cf r file) (record {
        all = refl;
        good = file_good file there changed few_texts (sources_of out).offsets has.offsets;
        stands = fs.stands file there;
        elf = has.elf;
        info = has.info;
        abbrevs = has.abbrevs;
        strs = has.strs;
        line_strs = has.line_strs;
        offsets = refl;
        line = has.line;
        common_strs = texts_given;
        none_shared = (can.file file there changed).over.lists;
        lists = record { number = has.lists.number; are = has.lists.are; patched = has.lists.patched };
        ranges = λ others good. (_, file_ranged file there out has others good);
        room = file_room file there changed;
        small = small;
        common_few = few;
        own = ok.written file there changed;
        given = given;
      })

  -- the sets of address ranges of a file are of the units of which they were
  pub ranges_by : (common : Option (Common Place)) (out : List ℕ) (file : ℕ) → In file r.files → changes r.move r.units file ≡ true → HasSectionsBy cf r file out → FitsSections (sections_by cf r file)
      → (says : SaysPlacedBy cf r g common file out (fitted_by cf r file)) → RangesBackBy cf r file out says.raw
  ranges_by common out file there changed has small says =
      let back = place_back m g common file out says.raw (fitted_by cf r file) says.says.means (λ w w_in. ok.written file there changed w.at (unit_key (fitted_by cf r file) w w.at w_in (at_key w))) in
      record {
        sets = has.ranges.sets;
        before = has.ranges.spelled;
        after = file_ranged file there out has (is_place_of says.raw) (λ w w_in whole.
            (few_places cf r g (fitted_by cf r file) (fs.stands file there) small w.at (unit_key (fitted_by cf r file) w w.at w_in (at_key w)), back w w_in whole));
      }
