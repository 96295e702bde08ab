-- Files, and a finished common file, that were read have places, and the common file is read back as it was read.
use Rattle.std.proofs.Common.{◌≡◌, ℕ, ◌+◌, List, [], ◌∷◌, ◌++◌, length, map, Some, None, refl, sym, ap, subst, ◌∙◌, inl, inr}
use Rattle.dwz_def_reading.proofs.Members.{in_map_from}
use Rattle.dwz_def_reading.proofs.OnceLemmas.{none_map}
use Rattle.dwz_def_reading.specs.Documents.{Compile, Doc, DwUnit, Kind, OfType, unit_map}
use Rattle.dwz_def_reading.specs.Entries.{Mode, RawEntry, SpellsEntry, UnitContext, root_position, of_common}
use Rattle.dwz_def_reading.specs.Files.{Limits, ReadsBy, debug_abbrev, debug_info, no_files_before, sources_of}
use Rattle.dwz_def_reading.specs.Finished.{rule_of_common, around_in}
use Rattle.dwz_def_reading.specs.Lists.{Each, In}
use Rattle.dwz_def_reading.specs.Meanings.{Around, Common, MeanUnits, MeaningContext, MeansKind, scope_of, all_places}
use Rattle.dwz_def_reading.specs.Units.{CompileUnit, PartialUnit, RawKind, RawUnit, SpellsUnit, SpellsUnits, TypeUnit, entry_count, root_tag}
use Rattle.dwz_def_reading.proofs.PlacesRise.{all_raw_keys, rise_none, units_rise}
use Rattle.dwz_def_check.proofs.ReadRefs.{all_partial, means_keys, refs_named}
use Rattle.dwz_def_images.specs.After.{ArePlaced}
use Rattle.dwz_def_taken.specs.Beside.{as_compile, offsets_doc}
use Rattle.dwz_def_tops.specs.Lists.{NoneTwice}
use Rattle.dwz_def_tops.specs.Seen.{Closed, IsPartial, Seen, all_seen, see, seen, seen_below, seen_roots}
use Rattle.dwz_def_tops.specs.Shown.{HaveMains, unit_keys, units_keys}
use Rattle.dwz_def_readback.proofs.ReadBuilt.{own}
use Rattle.dwz_def_readback.proofs.StillMeans.{units_there}
use Rattle.dwz_def_reading.proofs.MeaningUnits.{units_agree}
use Rattle.dwz_def_reading.specs.Meant.{units_meaning}
use Rattle.dwz_def_reading.proofs.CaseFacts.{ok_same}
use Rattle.dwz_def_readback.proofs.ReadPlaces.{read_from}
use Rattle.dwz_def_readback.specs.Back.{SaysUnits}
use Rattle.dwz_def_reading.specs.Places.{Place, at_file}
use Rattle.dwz_def_reading.specs.Values.{AreBytes}
use Rattle.dwz_def_over.specs.Over.{AreOverFiles, OverFiles, limits_over}
use Rattle.dwz_def_readback.specs.AllFiles.{AreRead}
use Rattle.dwz_def_readback.proofs.AllLemmas.{all_placed}
use Rattle.dwz_def_taken.specs.Laws.{ArePlacedOver}
use Rattle.dwz_def_over.proofs.ReadOver.{are_read_behind}
use Rattle.dwz_def_over.proofs.CommonAgain.{common_units_again, whole_mode}
use Rattle.dwz_def_output.specs.Written.{stored_behind}

-- ---- units of another kind

pub compile_keys : (units : List (DwUnit ℕ)) → units_keys (map as_compile units) ≡ units_keys units
unfolding units_keys unit_keys
compile_keys [] = refl
compile_keys (u ∷ units) = ap (λ (w : List ℕ). unit_keys u ++ w) (compile_keys units)

compile_roots : (units : List (DwUnit ℕ)) → seen_roots (map as_compile units) ≡ seen_roots units
unfolding seen_roots
compile_roots [] = refl
compile_roots (u ∷ units) = ap (λ (w : List (Seen ℕ)). see u.root u.below ∷ w) (compile_roots units)

compile_below : (units : List (DwUnit ℕ)) → seen_below (map as_compile units) ≡ seen_below units
unfolding seen_below
compile_below [] = refl
compile_below (u ∷ units) = ap (λ (w : List (Seen ℕ)). seen u.below ++ w) (compile_below units)

pub compile_seen : (units : List (DwUnit ℕ)) → all_seen (map as_compile units) ≡ all_seen units
compile_seen units = λ i. compile_roots units i ++ compile_below units i

-- ---- the tags of roots

raw_partial : (s : MeaningContext ℕ) (k : RawKind) (kind : Kind ℕ) → MeansKind s k kind → IsPartial kind → k ≡ PartialUnit
raw_partial s CompileUnit kind h p = absurd (subst IsPartial h p)
raw_partial s PartialUnit kind h p = refl
raw_partial s (TypeUnit signature type_offset) kind h p = absurd (subst IsPartial h.1 p)

root_is : (c : UnitContext) (before : ℕ) (e : RawEntry) (start : ℕ) (bytes : List ℕ) → SpellsEntry c (root_position before) e start bytes → e.tag ≡ c.root_tag
root_is c before e start bytes h = h.tag ∙ h.stands.root refl

unit_tag : (abbrevs : List ℕ) (mode : Mode) (before : ℕ) (u : RawUnit) (start : ℕ) (bytes : List ℕ) → SpellsUnit abbrevs mode before u start bytes → u.root.tag ≡ root_tag u.kind
unit_tag abbrevs mode before u start bytes h = root_is h.context before u.root (start + length h.header) h.is_tree.first_bytes h.is_tree.first ∙ h.is_context.same_root

tags_are : (around : Around ℕ) (abbrevs : List ℕ) (mode : Mode) (before : ℕ) (raw : List RawUnit) (start : ℕ) (bytes : List ℕ) (units : List (DwUnit ℕ)) → SpellsUnits abbrevs mode before raw start bytes
    → MeanUnits around raw units → ((v : DwUnit ℕ) → In v units → IsPartial v.kind) → Each (λ u. u.root.tag ≡ 0x3c) units
tags_are around abbrevs mode before [] start bytes [] h means partial = tt
tags_are around abbrevs mode before [] start bytes (v ∷ units) h means partial = absurd means
tags_are around abbrevs mode before (u ∷ raw) start bytes [] h means partial = absurd means
tags_are around abbrevs mode before (u ∷ raw) start bytes (v ∷ units) h means partial =
    let kind = raw_partial (scope_of around u) u.kind v.kind means.0.kind (partial v (inl refl)) in (
      means.0.root.tag ∙ unit_tag abbrevs mode before u start h.first_bytes h.first ∙ ap root_tag kind,
      tags_are around abbrevs mode (before + entry_count u) raw (start + length h.first_bytes) h.second_bytes units h.second means.1 (λ w there. partial w (inr there)),
    )

-- ---- all of it

none_common : {c : Common ℕ} → None ≡ Some c → ⊥
none_common e = cc

no_type : (signature main : ℕ) → Compile ≡ OfType signature main → ⊥
no_type signature main e = cc

module _ (number : ℕ) (l : Limits) (bytes : List ℕ) (raw : List RawUnit) (said : Doc Place) (reads : ReadsBy (rule_of_common number) l bytes raw said) where
  abbrev around : Around ℕ
  around = own (sources_of bytes) (all_places raw)

  abbrev units : List (DwUnit ℕ)
  units = (offsets_doc said).units

  -- with its offsets for places it says the same
  pub means_offsets : MeanUnits (own (sources_of bytes) (all_places raw)) raw (offsets_doc said).units
  means_offsets = units_there (λ (p : Place). p.at) None (around_in None number bytes raw) refl raw said.units reads.means

  pub said_is : said.units ≡ map (unit_map (at_file number)) (offsets_doc said).units
  said_is =
      let given = around_in None number bytes raw in
      let a = ((units_agree given raw).ok said.units).1 reads.means in
      let b = ((units_agree given raw).ok (map (unit_map (at_file number)) units)).1 (units_there (at_file number) None around refl raw units means_offsets) in
      ok_same (units_meaning given raw) said.units (map (unit_map (at_file number)) units) a b

  pub common_partial : (v : DwUnit ℕ) → In v (offsets_doc said).units → IsPartial v.kind
  common_partial = all_partial around raw units (debug_abbrev bytes) (of_common l.entries) (debug_info bytes) refl reads.spelled means_offsets

  pub common_tags : Each (λ u. u.root.tag ≡ 0x3c) (offsets_doc said).units
  common_tags = tags_are around (debug_abbrev bytes) (of_common l.entries) 0 raw 0 (debug_info bytes) units reads.spelled means_offsets common_partial

  pub offsets_keys : units_keys (offsets_doc said).units ≡ map (λ (n : ℕ). n) (all_raw_keys raw)
  offsets_keys = means_keys around raw units means_offsets

  keys_once : NoneTwice (units_keys units)
  keys_once =
      let rise = units_rise (debug_abbrev bytes) (of_common l.entries) 0 raw 0 (debug_info bytes) reads.spelled in
      subst NoneTwice (sym offsets_keys) (none_map (λ (n : ℕ). n) (λ a b e. e) (all_raw_keys raw) (rise_none 0 (all_raw_keys raw) (0 + length (debug_info bytes)) rise))

  pub common_closed : Closed (offsets_doc said).units
  common_closed = λ e a p is attr r. elim (refs_named around raw units means_offsets refl e a p is attr r) [
    | inl d ↦ d
    | inr c ↦ absurd (none_common c.2)
  ]

  mains : HaveMains (map as_compile units)
  mains = λ u is signature main e. (
      let o = in_map_from as_compile u units is in
      absurd (no_type signature main (ap (λ (w : DwUnit ℕ). w.kind) o.is ∙ e)))

  pub common_parts_placed : ArePlaced (map as_compile (offsets_doc said).units)
  common_parts_placed = record {
    apart = subst NoneTwice (sym (compile_keys units)) keys_once;
    kinds = λ u is h. (let o = in_map_from as_compile u units is in subst (λ (w : DwUnit ℕ). IsPartial w.kind) (sym o.is) h);
    closed = λ e a p is attr r. (
        let d = common_closed e a p (subst (λ (w : List (Seen ℕ)). In e w) (compile_seen units) is) attr r in
        (d.0, subst (λ (w : List (Seen ℕ)). In d.0 w) (sym (compile_seen units)) d.1, d.2));
    mains = mains;
  }

  -- it is read back as it was read
  pub common_says : SaysUnits None number bytes raw said.units
  common_says = record {
    elf = reads.elf;
    mode = whole_mode (of_common l.entries);
    whole = refl;
    partial = refl;
    forms = refl;
    spelled = common_units_again (debug_abbrev bytes) (of_common l.entries) refl refl raw 0 0 (debug_info bytes) reads.spelled;
    means = reads.means;
    ranges = reads.ranges;
    lists = reads.lists;
  }

pub over_read : (o : OverFiles) → Each AreBytes o.contents → AreOverFiles o → AreRead (stored_behind (limits_over o) o.contents o.prunes) o.said.docs
over_read o are is = are_read_behind (limits_over o) o.contents o.said.docs o.prunes is.files is.prunable are

pub placed_over : (o : OverFiles) → Each AreBytes o.contents → AreOverFiles o → ArePlacedOver o.said.docs (offsets_doc o.said.common)
placed_over o are is = record {
  each = all_placed 0 o.said.docs (λ file doc nth.
      (let r = over_read o are is file doc nth in
      let input = stored_behind (limits_over o) o.contents o.prunes in
      (read_from r.limits (input.bytes file) (input.raw file) doc r.reads r.are_bytes).placed));
  parts = common_parts_placed (length o.contents) no_files_before o.common o.raw o.said.common is.common;
  tags = common_tags (length o.contents) no_files_before o.common o.raw o.said.common is.common;
}
