-- What the tops of a common file refer into, where they don't bind themselves, is where looks across files lead.
use Rattle.std.proofs.Common.{◌≡◌, ℕ, ◌||◌, ◌==◌, false, List, [], length, get_or, sym, ap, subst, ◌∙◌}
use Rattle.std.specs.List.{list_any}
use Rattle.dwz_model.proofs.Members.{any_false, each_of}
use Rattle.dwz_def_reading.proofs.CaseFacts.{or_left, or_right}
use Rattle.dwz_def_reading.specs.Documents.{Attr, Doc, Node}
use Rattle.dwz_def_reading.specs.Lists.{In}
use Rattle.dwz_def_reading.specs.Rows.{has}
use Rattle.dwz_def_tops.specs.Alike.{any_attr, any_in, attr_binds, binding_forms, binds_itself, entry_binds, holds_place, is_named, leaves}
use Rattle.dwz_def_tops.specs.Spots.{EntryName, FileUnit, Top, Within, tops_of, units_of}
use Rattle.dwz_def_tops.specs.Targets.{targets_of}
use Rattle.dwz_def_tops.proofs.IntoLemmas.{targets_find, targets_found}
use Rattle.dwz_def_tops.proofs.Targets.{NodeOf, RefTo, RefsOfAttr, RefsOfTop, refs_of_top, top_false}
use Rattle.dwz_def_check.specs.CrossNames.{AtPath, CrossName}
use Rattle.dwz_def_taken.specs.Beside.{look_units, own_tops, reused_of}
use Rattle.dwz_def_taken.specs.Laws.{ArePlacedOver}
use Rattle.dwz_match.specs.Bare.{AreCommonNames, ShowBare}
use Rattle.dwz_match.specs.Partial.{ArePartial}
use Rattle.dwz_match.proofs.BareLabels.{targets_same}
use Rattle.dwz_match.proofs.BareTops.{names_agree}
use Rattle.dwz_match.proofs.CommonTops.{spot_of}
use Rattle.dwz_reuse.specs.Spread.{ShowCommonTargets}
use Rattle.dwz_reuse.proofs.CommonTop.{common_top}

-- whichever top it is
abbrev Some : ℕ → Type 0
Some n = Unit {0}

module _ (units : List (FileUnit EntryName)) (t : Top) (free : binds_itself units t ≡ false) where
  kept : (s : EntryName) → leaves (tops_of units) t.unit s ≡ false → RefTo Some s
  kept (Within n path) e = tt
  kept _ e = absurd cc

  attr_kept : (e : Node EntryName) → NodeOf e t → (a : Attr EntryName) → In a e.attrs → RefsOfAttr Some a
  attr_kept e node a attr =
      let tops = tops_of units in
      let own = or_left (any_in (entry_binds tops t.unit) t) (is_named units t.number) free in
      let entry = top_false (entry_binds tops t.unit) e t node own in
      let plain = any_false (attr_binds tops t.unit) a e.attrs attr (or_right (e.tag == 0x3d) (any_attr (attr_binds tops t.unit) e) entry) in
      let rest = or_right (has a.form binding_forms) (holds_place a.value || list_any (leaves tops t.unit) a.value.refs) plain in
      let refs = or_right (holds_place a.value) (list_any (leaves tops t.unit) a.value.refs) rest in
      each_of (RefTo Some) a.value.refs (λ s ref. kept s (any_false (leaves tops t.unit) s a.value.refs ref refs))

  -- each of its references goes into a top
  pub refs_kept : RefsOfTop Some t
  refs_kept = refs_of_top Some t (λ e node. each_of (RefsOfAttr Some) e.attrs (λ a attr. attr_kept e node a attr))

pub targets_shown : (docs : List (Doc ℕ)) (common : Doc ℕ) (name : ℕ → CrossName) (labels targets : List (List ℕ)) → ArePlacedOver docs common → ArePartial common.units
    → AreCommonNames docs common name → ShowBare docs common name labels targets → ShowCommonTargets (reused_of docs common) targets
targets_shown docs common name labels targets placed partial named s = λ t i high free n. (
    let r = reused_of docs common in
    let o = common_top docs common placed partial t i high in
    let agree : (p m : ℕ) (path : List ℕ) → spot_of docs common p ≡ Within m path → name p ≡ AtPath m path = names_agree (length (units_of docs)) 0 (own_tops r) common.units partial name named in
    let are : get_or targets t.number [] ≡ targets_of t =
    ap (λ (k : ℕ). get_or targets k []) (sym o.number) ∙ s.common_targets o.k o.cross o.got
    ∙ sym (targets_same (spot_of docs common) name agree Some t o.cross o.same (refs_kept (look_units r) t free)) in (
      λ h. targets_find n t (subst (λ (w : List ℕ). In n w) are h),
      λ h. subst (λ (w : List ℕ). In n w) (sym are) (targets_found n t h),
    ))
