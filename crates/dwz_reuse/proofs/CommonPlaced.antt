-- A finished common file that was read.
use Rattle.std.proofs.Common.{◌≡◌, ℕ, ◌+◌, List, [], ◌∷◌, ◌++◌, length, map, Some, None, refl, sym, ap, subst, ◌∙◌, inl, inr}
use Rattle.dwz_model.proofs.Members.{in_map_from}
use Rattle.dwz_model.proofs.OnceLemmas.{none_map}
use Rattle.dwz_def_reading.specs.Documents.{Compile, Doc, DwUnit, Kind, OfType}
use Rattle.dwz_def_reading.specs.Entries.{Mode, RawEntry, SpellsEntry, UnitContext, root_position}
use Rattle.dwz_def_reading.specs.Files.{Limits, ReadsBy, debug_abbrev, debug_info}
use Rattle.dwz_def_reading.specs.Finished.{rule_of_common}
use Rattle.dwz_def_reading.specs.Lists.{Each, In}
use Rattle.dwz_def_reading.specs.Meanings.{Around, Common, MeanUnits, MeaningContext, MeansKind, scope_of}
use Rattle.dwz_def_reading.specs.Rules.{ReadingRule}
use Rattle.dwz_def_reading.specs.Units.{CompileUnit, PartialUnit, RawKind, RawUnit, SpellsUnit, SpellsUnits, TypeUnit, entry_count, root_tag}
use Rattle.dwz_def_reading.proofs.FileLemmas.{file_agrees_by}
use Rattle.dwz_def_reading.proofs.PlacesRise.{all_raw_keys, rise_none, units_rise}
use Rattle.dwz_def_check.proofs.ReadRefs.{all_partial, means_keys, refs_named}
use Rattle.dwz_def_images.specs.After.{ArePlaced}
use Rattle.dwz_def_taken.specs.Beside.{as_compile}
use Rattle.dwz_def_tops.specs.Lists.{NoneTwice}
use Rattle.dwz_def_tops.specs.Seen.{Closed, IsPartial, Seen, all_seen, see, seen, seen_below, seen_roots}
use Rattle.dwz_def_tops.specs.Shown.{HaveMains, unit_keys, units_keys}
use Rattle.dwz_graph.specs.ByRule.{numbered_rule}
use Rattle.dwz_match.specs.Partial.{ArePartial}
use Rattle.dwz_reuse.specs.Placed.{SaysCommon}

-- ---- units of another kind

pub compile_keys : (units : List (DwUnit ℕ)) → units_keys (map as_compile units) ≡ units_keys units
unfolding units_keys unit_keys
compile_keys [] = refl
compile_keys (u ∷ units) = ap (λ (w : List ℕ). unit_keys u ++ w) (compile_keys units)

compile_roots : (units : List (DwUnit ℕ)) → seen_roots (map as_compile units) ≡ seen_roots units
unfolding seen_roots
compile_roots [] = refl
compile_roots (u ∷ units) = ap (λ (w : List (Seen ℕ)). see u.root u.below ∷ w) (compile_roots units)

compile_below : (units : List (DwUnit ℕ)) → seen_below (map as_compile units) ≡ seen_below units
unfolding seen_below
compile_below [] = refl
compile_below (u ∷ units) = ap (λ (w : List (Seen ℕ)). seen u.below ++ w) (compile_below units)

pub compile_seen : (units : List (DwUnit ℕ)) → all_seen (map as_compile units) ≡ all_seen units
compile_seen units = λ i. compile_roots units i ++ compile_below units i

-- ---- the tags of roots

raw_partial : (s : MeaningContext ℕ) (k : RawKind) (kind : Kind ℕ) → MeansKind s k kind → IsPartial kind → k ≡ PartialUnit
raw_partial s CompileUnit kind h p = absurd (subst IsPartial h p)
raw_partial s PartialUnit kind h p = refl
raw_partial s (TypeUnit signature type_offset) kind h p = absurd (subst IsPartial h.1 p)

root_is : (c : UnitContext) (before : ℕ) (e : RawEntry) (start : ℕ) (bytes : List ℕ) → SpellsEntry c (root_position before) e start bytes → e.tag ≡ c.root_tag
root_is c before e start bytes h = h.tag ∙ h.stands.root refl

unit_tag : (abbrevs : List ℕ) (mode : Mode) (before : ℕ) (u : RawUnit) (start : ℕ) (bytes : List ℕ) → SpellsUnit abbrevs mode before u start bytes → u.root.tag ≡ root_tag u.kind
unit_tag abbrevs mode before u start bytes h = root_is h.context before u.root (start + length h.header) h.is_tree.first_bytes h.is_tree.first ∙ h.is_context.same_root

tags_are : (around : Around ℕ) (abbrevs : List ℕ) (mode : Mode) (before : ℕ) (raw : List RawUnit) (start : ℕ) (bytes : List ℕ) (units : List (DwUnit ℕ)) → SpellsUnits abbrevs mode before raw start bytes
    → MeanUnits around raw units → ArePartial units → Each (λ u. u.root.tag ≡ 0x3c) units
tags_are around abbrevs mode before [] start bytes [] h means partial = tt
tags_are around abbrevs mode before [] start bytes (v ∷ units) h means partial = absurd means
tags_are around abbrevs mode before (u ∷ raw) start bytes [] h means partial = absurd means
tags_are around abbrevs mode before (u ∷ raw) start bytes (v ∷ units) h means partial =
    let kind = raw_partial (scope_of around u) u.kind v.kind means.0.kind (partial v (inl refl)) in (
      means.0.root.tag ∙ unit_tag abbrevs mode before u start h.first_bytes h.first ∙ ap root_tag kind,
      tags_are around abbrevs mode (before + entry_count u) raw (start + length h.first_bytes) h.second_bytes units h.second means.1 (λ w there. partial w (inr there)),
    )

-- ---- all of it

none_common : {c : Common ℕ} → None ≡ Some c → ⊥
none_common e = cc

no_type : (signature main : ℕ) → Compile ≡ OfType signature main → ⊥
no_type signature main e = cc

module _ (number : ℕ) (l : Limits) (bytes : List ℕ) (raw : List RawUnit) (common : Doc ℕ) (says : SaysCommon number l bytes raw common) where
  abbrev rule : ReadingRule ℕ
  rule = numbered_rule (rule_of_common number)

  abbrev around : Around ℕ
  around = rule.around bytes raw

  reads : ReadsBy rule l bytes raw common
  reads = ((file_agrees_by rule l bytes).ok (raw, common)).0 says

  pub partial : ArePartial common.units
  partial = all_partial around raw common.units (debug_abbrev bytes) (rule.mode l.entries) (debug_info bytes) refl reads.spelled reads.means

  pub tags : Each (λ u. u.root.tag ≡ 0x3c) common.units
  tags = tags_are around (debug_abbrev bytes) (rule.mode l.entries) 0 raw 0 (debug_info bytes) common.units reads.spelled reads.means partial

  keys_once : NoneTwice (units_keys common.units)
  keys_once =
      let rise = units_rise (debug_abbrev bytes) (rule.mode l.entries) 0 raw 0 (debug_info bytes) reads.spelled in
      subst NoneTwice (sym (means_keys around raw common.units reads.means)) (none_map (λ (n : ℕ). n) (λ a b e. e) (all_raw_keys raw) (rise_none 0 (all_raw_keys raw) (0 + length (debug_info bytes)) rise))

  closed : Closed common.units
  closed = λ e a p is attr r. elim (refs_named around raw common.units reads.means refl e a p is attr r) [
    | inl d ↦ d
    | inr c ↦ absurd (none_common c.2)
  ]

  mains : HaveMains (map as_compile common.units)
  mains = λ u is signature main e. (
      let o = in_map_from as_compile u common.units is in
      absurd (no_type signature main (ap (λ (w : DwUnit ℕ). w.kind) o.is ∙ e)))

  pub parts : ArePlaced (map as_compile common.units)
  parts = record {
    apart = subst NoneTwice (sym (compile_keys common.units)) keys_once;
    kinds = λ u is h. (let o = in_map_from as_compile u common.units is in subst (λ (w : DwUnit ℕ). IsPartial w.kind) (sym o.is) h);
    closed = λ e a p is attr r. (
        let d = closed e a p (subst (λ (w : List (Seen ℕ)). In e w) (compile_seen common.units) is) attr r in
        (d.0, subst (λ (w : List (Seen ℕ)). In d.0 w) (sym (compile_seen common.units)) d.1, d.2));
    mains = mains;
  }
