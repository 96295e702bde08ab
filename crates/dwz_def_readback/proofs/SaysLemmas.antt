-- What is written of files is what they say.
use Rattle.std.proofs.Common.{◌≡◌, ℕ, ◌<◌, ◌^◌, true, false, List, [], ◌∷◌, ◌++◌, length, map, Option, Some, None, refl, sym, ap, subst, ◌∙◌, arith, Bool, inl}
use Rattle.dwz_def_reading.specs.Documents.{DwUnit}
use Rattle.dwz_def_reading.specs.ElfFaults.{IsElfFaultFor, read_back}
use Rattle.dwz_def_reading.specs.Files.{debug_abbrev, debug_aranges, debug_info, is_place_of, sources_of}
use Rattle.dwz_def_reading.specs.Patching.{of_units}
use Rattle.dwz_def_reading.specs.Ranges.{RangeSet, SpellsSets}
use Rattle.dwz_def_reading.specs.Lists.{Each, In}
use Rattle.dwz_def_reading.specs.Texts.{IsTextAt}
use Rattle.std.proofs.lemmas.List.{length-append}
use Rattle.dwz_def_reading.specs.Meanings.{Common, Sources}
use Rattle.dwz_def_reading.specs.Units.{SpellsUnits}
use Rattle.dwz_def_tops.specs.Spots.{EntryName, same_spot}
use Rattle.dwz_def_tops.specs.Lists.{NoneTwice}
use Rattle.dwz_def_tops.specs.Shown.{unit_keys, units_keys}
use Rattle.dwz_def_tops.specs.Seen.{IsPartial}
use Rattle.dwz_def_tops.proofs.ShownLemmas.{unit_key}
use Rattle.dwz_def_readback.proofs.RangeLemmas.{place_back, ranged_spell, written_there}
use Rattle.dwz_def_reading.specs.Places.{Place, at_file}
use Rattle.dwz_def_images.specs.Units.{all_units, changes, common_units, out_units}
use Rattle.dwz_def_encoding.specs.Carried.{OfAny, OfFile}
use Rattle.dwz_def_encoding.specs.Fitting.{AreWritable, UnitFits, UnitHasRoom, mode_for}
use Rattle.dwz_def_encoding.specs.Meant.{AreRenumbered, IsAround, Tells, UnitsSay, all_entry_keys}
use Rattle.dwz_def_encoding.specs.Placing.{FitsSections, UnitsStand, lines_bytes, sections, texts_bytes, texts_of, units_with}
use Rattle.dwz_def_encoding.specs.Sound.{SoundUnit}
use Rattle.dwz_def_encoding.specs.Writing.{Numbering, tables_of}
use Rattle.dwz_def_encoding.proofs.Chosen.{fit_units_all, fit_units_fixed, units_good}
use Rattle.dwz_def_encoding.proofs.Places.{numbering_stands}
use Rattle.dwz_def_encoding.proofs.ListsAgain.{units_share_none}
use Rattle.dwz_def_encoding.proofs.PoolLemmas.{paths_texts, units_paths, units_texts}
use Rattle.dwz_def_readback.proofs.PathLemmas.{paths_carried}
use Rattle.dwz_def_reading.specs.ElfLayout.{too_large}
use Rattle.dwz_def_encoding.proofs.RawUnits.{raw_units}
use Rattle.dwz_def_encoding.proofs.Rising.{entries_are_keys, place_within}
use Rattle.dwz_def_encoding.proofs.SameLemmas.{spots_same}
use Rattle.dwz_def_encoding.proofs.UnitsMean.{all_raw}
use Rattle.dwz_def_encoding.proofs.UnitsSpelled.{units_len}
use Rattle.dwz_def_encoding.proofs.WriteLaws.{fits, is_roomy, means, spelled}
use Rattle.dwz_def_readback.specs.Back.{CanWrite, IsPlacing, RangesBack, SaysPlaced, around_in, given_by}
use Rattle.dwz_def_reading.specs.Shared.{ListOperand, NoneShared, operands_in_lists}
use Rattle.dwz_def_readback.specs.Files.{fitted_by, formed_by, uses_by}
use Rattle.dwz_def_readback.specs.Files.{HasCommon, HasSections, Run, common_fitted, common_forms, common_out, common_sections, file_forms, file_out, files_out, fitted, fitted_if, formed, imports_common}
use Rattle.dwz_def_readback.specs.Files.{name_after, OffsetsIf, paths, place_of, places, sections_of, shared, shared_if, sources, strs_if, tells, tells_common, texts, uses}
use Rattle.dwz_def_reading.specs.Pruning.{new_number}
use Rattle.dwz_def_reading.proofs.ListFacts.{in_map}
use Rattle.dwz_def_encoding.specs.Pruned.{with_texts}
use Rattle.dwz_def_encoding.proofs.PrunedUnits.{units_pruned}
use Rattle.dwz_def_encoding.proofs.Renumbered.{renumbered_room}
use Rattle.dwz_def_readback.proofs.NameLemmas.{common_names, common_there, file_once, file_there, fitted_entries, fitted_fixed, fitted_names, name_in_common, name_in_file, not_common, run_once}

-- the places where names are written are such places
pub written_places : (r : Run) → NoneTwice (units_keys (all_units r.move r.units r.files)) → IsPlacing r (place_of r)
written_places r once = record {
  common = λ k is. ap (λ (f : ℕ). at_file f ((places r).place k)) (sym (name_in_common r once k is));
  written = λ file there changed k is. ap (λ (f : ℕ). at_file f ((places r).place k)) (sym (name_in_file r once file there k is));
}

at_key : (u : DwUnit EntryName) → In u.at (unit_keys u)
unfolding unit_keys
at_key u = inl refl

-- no text stands where there are no bytes
no_text : (at : ℕ) (text : List ℕ) → IsTextAt [] at text → ⊥
no_text at text stands =
    omega (
      arith,
      ap length stands.parts,
      ap length stands.spelled.parts,
      length-append stands.before (stands.front ++ stands.after),
      length-append stands.front stands.after,
      length-append text (0 ∷ []),
    )

no_operands : (o : ListOperand) → In o (operands_in_lists []) → ⊥
unfolding operands_in_lists
no_operands o there = there

module _ (r : Run) (can : CanWrite r) (g : EntryName → Place) (ok : IsPlacing r g) where
  abbrev n : Numbering EntryName
  n = places r

  common_stands : UnitsStand n (common_fitted r) 0
  unfolding common_fitted
  common_stands = numbering_stands same_spot spots_same (files_out r) (run_once r can.apart) (common_out r) (common_there r) (fit_units_fixed (common_forms r) (common_units r.move))

  file_stands : (file : ℕ) → In file r.files → UnitsStand n (fitted r file) 0
  file_stands file there = numbering_stands same_spot spots_same (files_out r) (run_once r can.apart) (file_out r file) (file_there r file there) (fitted_fixed r file)

  common_all : all_entry_keys (common_fitted r) ≡ all_entry_keys (common_units r.move)
  unfolding common_fitted
  common_all = fit_units_all (common_forms r) (common_units r.move)

  -- a name's place is small
  few_places : (units : List (DwUnit EntryName)) → UnitsStand n units 0 → FitsSections (sections n units) → (k : EntryName) → In k (units_keys units) → n.place k < 2 ^ 32
  unfolding sections
  few_places units stands small k is =
      let within = place_within n units stands k is in
      let len = units_len n (tables_of [] units) units in
      let few = small.0 in
      omega (arith, within, len, few)

  -- places in the common file are small
  common_small : FitsSections (common_sections r) → (k : EntryName) → In k (all_entry_keys (common_fitted r)) → n.place k < 2 ^ 32
  common_small small k is = few_places (common_fitted r) common_stands small k (entries_are_keys (common_fitted r) k is)

  -- ---- what is said, whatever surrounds it

  record Said (t : Tells EntryName) (common : Option (Common Place)) (number : ℕ) (bytes : List ℕ) (units : List (DwUnit EntryName)) : Type 0 where
    all : t.all ≡ all_entry_keys units
    good : Each SoundUnit units × UnitsSay t units
    stands : UnitsStand n units 0
    elf : (f : _) → IsElfFaultFor read_back bytes f → ⊥
    info : debug_info bytes ≡ (sections n units).info
    abbrevs : debug_abbrev bytes ≡ (sections n units).abbrevs
    strs : (sources_of bytes).strs ≡ t.strs
    line_strs : (sources_of bytes).line_strs ≡ t.line_strs
    offsets : (sources_of bytes).offsets ≡ t.offsets
    line : (sources_of bytes).line ≡ t.line
    common_strs : (at : ℕ) (text : List ℕ) → IsTextAt t.common_strs at text → (c : Common Place) × (common ≡ Some c) × IsTextAt c.strs at text
    none_shared : NoneShared t.named
    lists : AreRenumbered n t (sources_of bytes).lists
    ranges : (others : ℕ → Bool) → ((w : DwUnit EntryName) → In w units → (IsPartial w.kind → ⊥) → (n.place w.at < 2 ^ 32) × (others (n.place w.at) ≡ true)) → (sets : List RangeSet)
        × SpellsSets others sets 0 (debug_aranges bytes)
    room : Each (UnitHasRoom n) units
    small : FitsSections (sections n units)
    common_few : (k : EntryName) → In k t.common → n.place k < 2 ^ 32
    own : (k : EntryName) → In k (units_keys units) → at_file number (n.place k) ≡ g k
    given : (k : EntryName) → In k t.common → (c : Common Place) × (common ≡ Some c) × In (n.place k) c.entries × (c.place (n.place k) ≡ g k)

  said_placed : (t : Tells EntryName) (common : Option (Common Place)) (number : ℕ) (bytes : List ℕ) (units : List (DwUnit EntryName)) → Said t common number bytes units
      → SaysPlaced r g common number bytes units
  said_placed t common number bytes units s =
      let w : AreWritable n t.common units = record { sound = s.good.0; stands = s.stands; room = s.room; fits = s.small; common_fits = s.common_few } in
      let fit : Each (UnitFits n) units = fits n t.common units t s.all refl w s.good.1 in
      let raw = raw_units n (tables_of [] units) units in
      let entries = all_raw n (tables_of [] units) units in
      let mode = mode_for units in
      let spells : SpellsUnits (sections n units).abbrevs mode 0 raw 0 (sections n units).info = spelled n t.common units mode w fit (is_roomy units) in
      let around : IsAround n g t (units_keys units) (around_in common number bytes raw) = record {
        strs = s.strs;
        line_strs = s.line_strs;
        offsets = s.offsets;
        line = s.line;
        common_strs = s.common_strs;
        none_shared = s.none_shared;
        lists = s.lists;
        all = entries ∙ ap (λ (ks : List EntryName). map n.place ks) (sym s.all);
        place = s.own;
        common = s.given;
      } in
      let meant = means n g units t (around_in common number bytes raw) s.all around s.good.0 fit s.good.1 in
      let back = place_back n g common number bytes raw units meant (λ w there. s.own w.at (unit_key units w w.at there (at_key w))) in
      let sets = s.ranges (is_place_of raw) (λ w there whole. (few_places units s.stands s.small w.at (unit_key units w w.at there (at_key w)), back w there whole)) in
      record {
        raw = raw;
        says = record {
          elf = s.elf;
          mode = mode;
          whole = refl;
          partial = refl;
          forms = refl;
          spelled = subst (λ (info : List ℕ). SpellsUnits (debug_abbrev bytes) mode 0 raw 0 info) (sym s.info)
              (subst (λ (abbrevs : List ℕ). SpellsUnits abbrevs mode 0 raw 0 (sections n units).info) (sym s.abbrevs) spells);
          means = meant;
          ranges = record { sets = sets.0; spelled = sets.1 };
          lists = units_share_none n g (tables_of [] units) t (units_keys units) (around_in common number bytes raw) around (λ k there. entries_are_keys units k (subst (In k) s.all there)) units
              (λ k there. there) s.good.0 fit s.good.1;
        };
        entries = entries;
      }

  -- ---- the common file

  common_good : length (texts_bytes (texts r)) < 2 ^ 32 → length (lines_bytes (paths r)) < too_large → Each SoundUnit (common_fitted r) × UnitsSay (tells_common r) (common_fitted r)
  unfolding common_fitted
  common_good small few =
      let c = can.common in
      units_good (common_forms r) spots_same OfAny (tells_common r) (common_units r.move) common_all
      (subst NoneTwice (common_names r) (file_once (files_out r) (run_once r can.apart) (common_out r) (common_there r))) c.carried c.closed (λ k is. absurd is) (
        small,
        record {
          strs = refl;
          texts = units_texts [] (common_units r.move);
          line = refl;
          few = few;
          are_texts = paths_texts (common_units r.move) (paths_carried OfAny (common_forms r).origin (common_units r.move) c.carried);
          paths = units_paths [] (common_units r.move);
        },
      ) c.over.bases c.over.operands

  common_room : Each (UnitHasRoom n) (common_fitted r)
  unfolding common_fitted
  common_room = can.common.over.room

  pub common_back : (out : List ℕ) → HasCommon out (common_sections r) (texts r) (paths r) → FitsSections (common_sections r) → SaysPlaced r g None r.common out (common_fitted r)
  common_back out has small = said_placed (tells_common r) None r.common out (common_fitted r) (record {
    all = refl;
    good = common_good (subst (λ (w : Sources). length w.strs < 2 ^ 32) has.sources has.small) (subst (λ (w : Sources). length w.line < too_large) has.sources has.few);
    stands = common_stands;
    elf = has.elf;
    info = has.info;
    abbrevs = has.abbrevs;
    strs = ap (λ (w : Sources). w.strs) has.sources;
    line_strs = ap (λ (w : Sources). w.line_strs) has.sources;
    offsets = ap (λ (w : Sources). w.offsets) has.sources;
    line = ap (λ (w : Sources). w.line) has.sources;
    common_strs = λ at text stands. absurd (no_text at text stands);
    none_shared = can.common.over.lists;
    lists = subst (λ (w : Sources). AreRenumbered n (tells_common r) w.lists) (sym has.sources)
        (record { number = λ p. 0; are = λ l there. absurd there; patched = record { len = refl; written = λ o there. absurd (no_operands o there); others = λ b none. refl } });
    ranges = λ others good. ([], has.ranges);
    room = common_room;
    small = small;
    common_few = λ k is. absurd is;
    own = ok.common;
    given = λ k is. absurd is;
  })

  -- ---- a file

  formed_good : (file : ℕ) → In file r.files → changes r.move r.units file ≡ true → length (texts_bytes (shared r file)) < 2 ^ 32
      → Each SoundUnit (formed r file) × UnitsSay (tells r file) (formed r file)
  unfolding formed_by
  formed_good file there changed few =
      let names = fitted_names r file in
      let c = can.file file there changed in
      units_good (file_forms r file) spots_same (OfFile (sources r file)) (tells r file) (out_units r.move r.units file) (fitted_entries r file)
      (subst NoneTwice names (file_once (files_out r) (run_once r can.apart) (file_out r file) (file_there r file there))) c.carried c.closed
      (λ k common own. not_common r can.apart file there k (entries_are_keys (common_fitted r) k common) (subst (In k) (sym names) own)) (
        can.few file there,
        λ s a is. record {
          strs = ap (λ (x : Sources). x.strs) (sym is);
          line_strs = ap (λ (x : Sources). x.line_strs) (sym is);
          offsets = ap (λ (x : Sources). x.offsets) (sym is);
          line = ap (λ (x : Sources). x.line) (sym is);
          slots = ap (λ (x : Sources). x.offsets) (sym is);
        },
        record { strs = refl; few = few },
      ) c.over.bases c.over.operands

  -- where the file is pruned its units say the same of what stays
  file_good : (file : ℕ) → In file r.files → changes r.move r.units file ≡ true → length (texts_bytes (shared r file)) < 2 ^ 32 → (offsets : List ℕ) → OffsetsIf (r.input.prunes file) r file offsets
      → Each SoundUnit (fitted r file) × UnitsSay (with_texts (tells r file) (strs_if (r.input.prunes file) r file) offsets) (fitted r file)
  unfolding fitted_by uses_by
  file_good file there changed few offsets new = by (r.input.prunes file) refl new where
    good : Each SoundUnit (formed r file) × UnitsSay (tells r file) (formed r file)
    good = formed_good file there changed few

    by : (b : Bool) → r.input.prunes file ≡ b → OffsetsIf b r file offsets
        → Each SoundUnit (fitted_if b r file) × UnitsSay (with_texts (tells r file) (strs_if b r file) offsets) (fitted_if b r file)
    by true e new = units_pruned (tells r file) (formed r file) offsets (can.few file there) new (can.stay file there changed e) good.0 good.1
    by false e new = (good.0, subst (λ (w : List ℕ). UnitsSay (with_texts (tells r file) (sources r file).strs w) (formed r file)) (sym new) good.1)

  file_room : (file : ℕ) → In file r.files → changes r.move r.units file ≡ true → Each (UnitHasRoom n) (fitted r file)
  unfolding fitted_by formed_by
  file_room file there changed = by (r.input.prunes file) where
    by : (b : Bool) → Each (UnitHasRoom n) (fitted_if b r file)
    by true = renumbered_room (new_number (sources r file).strs (uses r file)) n (formed r file) (can.file file there changed).over.room
    by false = (can.file file there changed).over.room

  -- its sets of address ranges are of units after
  file_ranged : (file : ℕ) → In file r.files → (out : List ℕ) (has : HasSections r file out) (others : ℕ → Bool)
      → ((w : DwUnit EntryName) → In w (fitted r file) → (IsPartial w.kind → ⊥) → (n.place w.at < 2 ^ 32) × (others (n.place w.at) ≡ true))
      → SpellsSets others (of_units has.ranges.sets (map (λ s. n.place (name_after r file s.unit)) has.ranges.sets)) 0 (debug_aranges out)
  file_ranged file there out has others good = ranged_spell r file (can.units file there) (debug_aranges out) has.ranges others (λ u u_in whole.
      (let w = written_there r file u u_in in
      let o = good w.0 w.1 (λ partial. whole (subst IsPartial w.3 partial)) in
      subst (λ (k : EntryName). (n.place k < 2 ^ 32) × (others (n.place k) ≡ true)) w.2 o))

  with_common : (common : Option (Common Place)) (out : List ℕ) (file : ℕ) → In file r.files → changes r.move r.units file ≡ true → HasSections r file out → FitsSections (sections_of r file)
      → ((k : EntryName) → In k (all_entry_keys (common_fitted r)) → n.place k < 2 ^ 32)
      → ((k : EntryName) → In k (all_entry_keys (common_fitted r)) → (c : Common Place) × (common ≡ Some c) × In (n.place k) c.entries × (c.place (n.place k) ≡ g k))
      → length (texts_bytes (shared r file)) < 2 ^ 32 → ((at : ℕ) (text : List ℕ) → IsTextAt (texts_bytes (shared r file)) at text → (c : Common Place) × (common ≡ Some c) × IsTextAt c.strs at text)
      → SaysPlaced r g common file out (fitted r file)
  with_common common out file there changed has small few given few_texts texts_given = said_placed (with_texts (tells r file) (strs_if (r.input.prunes file) r file) (sources_of out).offsets) common
      file out (fitted r file) (record {
        all = refl;
        good = file_good file there changed few_texts (sources_of out).offsets has.offsets;
        stands = file_stands file there;
        elf = has.elf;
        info = has.info;
        abbrevs = has.abbrevs;
        strs = has.strs;
        line_strs = has.line_strs;
        offsets = refl;
        line = has.line;
        common_strs = texts_given;
        none_shared = (can.file file there changed).over.lists;
        lists = record { number = has.lists.number; are = has.lists.are; patched = has.lists.patched };
        ranges = λ others good. (_, file_ranged file there out has others good);
        room = file_room file there changed;
        small = small;
        common_few = few;
        own = ok.written file there changed;
        given = given;
      })

  -- the texts that a file shares are those of the common file
  shared_few : (common : List ℕ) → HasCommon common (common_sections r) (texts r) (paths r) → (b : Bool) → length (texts_bytes (shared_if b (texts r))) < 2 ^ 32
  unfolding texts_bytes
  shared_few common has true = subst (λ (w : Sources). length w.strs < 2 ^ 32) has.sources has.small
  shared_few common has false = omega arith

  shared_there : (common : List ℕ) → HasCommon common (common_sections r) (texts r) (paths r) → (b : Bool) (at : ℕ) (text : List ℕ) → IsTextAt (texts_bytes (shared_if b (texts r))) at text
      → IsTextAt (sources_of common).strs at text
  unfolding texts_bytes
  shared_there common has true at text stands = subst (λ (w : Sources). IsTextAt w.strs at text) (sym has.sources) stands
  shared_there common has false at text stands = absurd (no_text at text stands)

  pub file_back : (out common : List ℕ) → HasCommon common (common_sections r) (texts r) (paths r) → FitsSections (common_sections r)
      → (c : SaysPlaced r g None r.common common (common_fitted r)) → (file : ℕ) → In file r.files → changes r.move r.units file ≡ true
      → HasSections r file out → FitsSections (sections_of r file) → SaysPlaced r g (Some (given_by r.common common c.raw)) file out (fitted r file)
  file_back out common made common_fits c file there changed has small = with_common (Some (given_by r.common common c.raw)) out file there changed has small (common_small common_fits) (λ k is. (
    given_by r.common common c.raw,
    refl,
    subst (In (n.place k)) (sym c.entries) (in_map n.place k (all_entry_keys (common_fitted r)) is),
    ok.common k (entries_are_keys (common_fitted r) k is),
  )) (shared_few common made (imports_common r.move r.units file))
      (λ at text stands. (given_by r.common common c.raw, refl, shared_there common made (imports_common r.move r.units file) at text stands))

  none_common : common_units r.move ≡ [] → (k : EntryName) → In k (all_entry_keys (common_fitted r)) → ⊥
  unfolding all_entry_keys
  none_common none k is = subst (In k) (common_all ∙ ap (λ (us : List (DwUnit EntryName)). all_entry_keys us) none) is

  no_texts : common_units r.move ≡ [] → (b : Bool) → texts_bytes (shared_if b (texts r)) ≡ []
  unfolding texts_bytes units_with
  no_texts none true = ap (λ (us : List (DwUnit EntryName)). texts_bytes (texts_of [] us)) none
  no_texts none false = refl

  none_few : common_units r.move ≡ [] → (b : Bool) → length (texts_bytes (shared_if b (texts r))) < 2 ^ 32
  none_few none b = subst (λ (w : List ℕ). length w < 2 ^ 32) (sym (no_texts none b)) (omega arith)

  none_texts : common_units r.move ≡ [] → (b : Bool) (at : ℕ) (text : List ℕ) → IsTextAt (texts_bytes (shared_if b (texts r))) at text → ⊥
  none_texts none b at text stands = no_text at text (subst (λ (w : List ℕ). IsTextAt w at text) (no_texts none b) stands)

  pub alone_back : (out : List ℕ) → common_units r.move ≡ [] → (file : ℕ) → In file r.files → changes r.move r.units file ≡ true → HasSections r file out → FitsSections (sections_of r file)
      → SaysPlaced r g None file out (fitted r file)
  alone_back out none file there changed has small = with_common None out file there changed has small (λ k is. absurd (none_common none k is)) (λ k is. absurd (none_common none k is))
      (none_few none (imports_common r.move r.units file)) (λ at text stands. absurd (none_texts none (imports_common r.move r.units file) at text stands))

  -- the sets of address ranges of a file are of the units of which they were
  pub ranges_back : (common : Option (Common Place)) (out : List ℕ) (file : ℕ) → In file r.files → changes r.move r.units file ≡ true → HasSections r file out → FitsSections (sections_of r file)
      → (says : SaysPlaced r g common file out (fitted r file)) → RangesBack r file out says.raw
  ranges_back common out file there changed has small says =
      let back = place_back n g common file out says.raw (fitted r file) says.says.means (λ w w_in. ok.written file there changed w.at (unit_key (fitted r file) w w.at w_in (at_key w))) in
      record {
        sets = has.ranges.sets;
        before = has.ranges.spelled;
        after = file_ranged file there out has (is_place_of says.raw) (λ w w_in whole.
            (few_places (fitted r file) (file_stands file there) small w.at (unit_key (fitted r file) w w.at w_in (at_key w)), back w w_in whole));
      }
