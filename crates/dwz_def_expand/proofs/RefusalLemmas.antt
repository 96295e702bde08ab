-- At most one refusal is the first, and where there is none each value can be copied.
use Rattle.std.proofs.Common.{◌≡◌, ℕ, Bool, List, [], ◌∷◌, None, refl, sym, ap, ◌∙◌, inl, inr, arith}
use Rattle.dwz_def_reading.specs.Fault.{Fault}
use Rattle.dwz_def_reading.specs.Refusal.{Refusal}
use Rattle.dwz_def_reading.specs.FirstOf.{OfFirst}
use Rattle.dwz_def_reading.specs.Lists.{Each}
use Rattle.dwz_def_reading.proofs.Members.{each_more}
use Rattle.dwz_def_output.specs.Changed.{changes_by}
use Rattle.dwz_def_output.specs.Refusals.{InFile, IsLargeSection, narrow_at}
use Rattle.dwz_def_output.proofs.OneRefusal.{AtMostOne, of_first_one, or_else_one}
use Rattle.dwz_def_expand.specs.Chosen.{Choice}
use Rattle.dwz_def_expand.specs.OneFile.{OneFile, said_by_file, same_place, stored_where}
use Rattle.dwz_def_expand.specs.Output.{ExpandRefusal, FirstTooNarrow, LargeRefusal, NarrowIn, NarrowInLists, SiteRefusal, Spoken, forms, in_lists, new_sections, spoken_in}
use Rattle.dwz_def_expand.specs.Refusals.{AllCopied, CanCopy, IsLost, LostFault, RowFault, Site, SiteFault, Where, no_row, not_imported, with_numbers, sites}
use Rattle.dwz_def_expand.specs.Source.{source_places}

-- ---- one at most

in_file_one : (Has : ℕ → Fault → Type 0) (file : ℕ) → AtMostOne (Has file) → AtMostOne (InFile Has file)
in_file_one Has file one p q a b = a.2 ∙ ap (λ (f : Fault). record { file = file; section = f.section; at = f.at; reason = f.reason }) (one a.0 b.0 a.1 b.1) ∙ sym b.2

site_one : {P : Type 0} (same : P → P → Bool) (units : List (List P)) (c : Choice P) (at : Where P) (s : Site P) → AtMostOne (SiteFault same units c at s)
site_one same units c at s =
    or_else_one (OfFirst (LostFault same units at s) (with_numbers 0 s.attr.value.refs)) (RowFault c at s)
    (of_first_one (LostFault same units at s) (λ r f g a b. a.1 ∙ sym b.1) (with_numbers 0 s.attr.value.refs)) (λ f g a b. a.1 ∙ sym b.1)

narrow_one : (f : OneFile) (section : ℕ) (operands : List Spoken) → AtMostOne (FirstTooNarrow f section operands)
narrow_one f section operands x y a b =
    let low = a.least b.one b.there b.narrow in
    let high = b.least a.one a.there a.narrow in
    let same : a.one.operand.at ≡ b.one.operand.at = omega (arith, low, high) in
    a.is_fault ∙ ap (narrow_at section) same ∙ sym b.is_fault

narrow_in_one : (f : OneFile) (file : ℕ) → AtMostOne (NarrowIn f file)
narrow_in_one f file = in_file_one (λ file. FirstTooNarrow f 1 (spoken_in f file)) file (narrow_one f 1 (spoken_in f file))

large_one : (f : OneFile) → AtMostOne (LargeRefusal f)
large_one f =
    let new = (changes_by (new_sections f) None).new in
    in_file_one (λ file. OfFirst IsLargeSection (changes_by (new_sections f) None).new) 0 (of_first_one IsLargeSection (λ n x y a b. a.0 ∙ sym b.0) new)

pub one_refusal : (f : OneFile) → AtMostOne (ExpandRefusal f)
one_refusal f =
    or_else_one (OfFirst (SiteRefusal f) (sites same_place (said_by_file f))) _
    (of_first_one (SiteRefusal f) (λ s. in_file_one (λ file. SiteFault same_place (source_places same_place (said_by_file f)) (forms f) (stored_where f) s) s.source.file (site_one same_place (source_places same_place (said_by_file f)) (forms f) (stored_where f) s)) (sites same_place (said_by_file f)))
    (or_else_one (NarrowIn f 0) _ (narrow_in_one f 0)
    (or_else_one (NarrowInLists f) _ (in_file_one (λ file. FirstTooNarrow f 7 (in_lists f)) 0 (narrow_one f 7 (in_lists f)))
    (or_else_one (NarrowIn f 1) (LargeRefusal f) (narrow_in_one f 1) (large_one f))))

-- ---- none

-- where none of a list has one, each has none
none_each : {X Y : Type 0} (Has : Y → X → Type 0) (ys : List Y) → ((x : X) → ¬ OfFirst Has ys x) → Each (λ y. (x : X) → ¬ Has y x) ys
none_each Has [] none = tt
none_each {X} Has (y ∷ ys) none = let here : (x : X) → ¬ Has y x = λ x h. none x (inl h) in (here, none_each Has ys (λ x h. none x (inr (here, h))))

module _ {P : Type 0} (same : P → P → Bool) (units : List (List P)) (c : Choice P) (at : Where P) (s : Site P) where
  kept_refs : (n : ℕ) (refs : List P) → Each (λ r. (f : Fault) → ¬ LostFault same units at s r f) (with_numbers n refs) → Each (λ p. ¬ IsLost same units s.unit p) refs
  unfolding with_numbers
  kept_refs n [] h = tt
  kept_refs n (p ∷ refs) h = ((λ lost. h.0 (not_imported (at.named s.source s.index n)) (lost, refl)), kept_refs _ refs h.1)

  can_copy : ((f : Fault) → ¬ SiteFault same units c at s f) → CanCopy same units c s
  can_copy none =
      let kept : (f : Fault) → ¬ OfFirst (LostFault same units at s) (with_numbers 0 s.attr.value.refs) f = λ f h. none f (inl h) in
      record {
        imported = kept_refs 0 s.attr.value.refs (none_each (LostFault same units at s) (with_numbers 0 s.attr.value.refs) kept);
        row = λ lacks. none (no_row (at.value s.source s.index)) (inr (kept, (lacks, refl)));
      }

pub all_copied : (f : OneFile) → ((q : Refusal) → ¬ ExpandRefusal f q) → AllCopied same_place (forms f) (said_by_file f)
all_copied f none =
    each_more (λ s. (q : Refusal) → ¬ SiteRefusal f s q) (CanCopy same_place (source_places same_place (said_by_file f)) (forms f)) (sites same_place (said_by_file f))
    (λ s free. can_copy same_place (source_places same_place (said_by_file f)) (forms f) (stored_where f) s (λ x h. free _ (x, h, refl)))
    (none_each (SiteRefusal f) (sites same_place (said_by_file f)) (λ q h. none q (inl h)))
