-- Each value can be copied, or there is a first that can't be, and its fault.
use Rattle.std.proofs.Common.{◌≡◌, ◌⊎◌, ℕ, suc, Bool, true, false, List, [], ◌∷◌, Option, Some, None, refl, inl, inr}
use Rattle.dwz_def_reading.specs.Fault.{Fault}
use Rattle.dwz_def_reading.specs.Refusal.{Refusal}
use Rattle.dwz_def_reading.specs.Lists.{Each}
use Rattle.dwz_def_reading.specs.Classes.{Class, OfAddress, OfBlock, OfCommonEntry, OfCommonText, OfConstant, OfExpression, OfFlag, OfIndex, OfInfoEntry, OfListIndex, OfOffset, OfSignature, OfText, OfTextBySlot, OfTextInLineStr, OfTextInStr, OfUnitEntry, Unread, class_of, names_file}
use Rattle.dwz_def_reading.specs.FirstOf.{OfFirst}
use Rattle.dwz_def_reading.specs.Places.{Place}
use Rattle.dwz_def_expand.specs.Chosen.{Choice, row_for}
use Rattle.dwz_def_expand.specs.OneFile.{OneFile, said_by_file, same_place, stored_where}
use Rattle.dwz_def_expand.specs.Output.{SiteRefusal, forms, sites_of_file, sources_by_file}
use Rattle.dwz_def_expand.specs.Refusals.{AllCopied, CanCopy, IsLost, LacksRow, LostFault, Site, SiteFault, Where, is_copied, no_row, not_imported, with_numbers}
use Rattle.dwz_def_expand.specs.Source.{unit_for}

-- ---- one value

none_or_not : {X : Type 0} (o : Option X) → (o ≡ None) ⊎ (o ≡ None → ⊥)
none_or_not None = inl refl
none_or_not (Some x) = inr (λ e. cc)

true_or_not : (b : Bool) → (b ≡ true) ⊎ (b ≡ true → ⊥)
true_or_not true = inl refl
true_or_not false = inr (λ e. cc)

constant_or_not : (k : Class) → (k ≡ OfConstant) ⊎ (k ≡ OfConstant → ⊥)
constant_or_not OfConstant = inl refl
constant_or_not OfAddress = inr (λ e. cc)
constant_or_not OfBlock = inr (λ e. cc)
constant_or_not OfFlag = inr (λ e. cc)
constant_or_not OfText = inr (λ e. cc)
constant_or_not OfTextInStr = inr (λ e. cc)
constant_or_not OfTextInLineStr = inr (λ e. cc)
constant_or_not OfTextBySlot = inr (λ e. cc)
constant_or_not OfUnitEntry = inr (λ e. cc)
constant_or_not OfInfoEntry = inr (λ e. cc)
constant_or_not OfSignature = inr (λ e. cc)
constant_or_not OfOffset = inr (λ e. cc)
constant_or_not OfExpression = inr (λ e. cc)
constant_or_not OfListIndex = inr (λ e. cc)
constant_or_not OfIndex = inr (λ e. cc)
constant_or_not OfCommonEntry = inr (λ e. cc)
constant_or_not OfCommonText = inr (λ e. cc)
constant_or_not Unread = inr (λ e. cc)

module _ {P : Type 0} (same : P → P → Bool) (units : List (List P)) (c : Choice P) (at : Where P) (s : Site P) where
  lacks_or_not : LacksRow c s ⊎ (LacksRow c s → ⊥)
  lacks_or_not =
      by (constant_or_not (class_of s.attr.form)) (true_or_not (names_file s.attr.name)) (true_or_not (is_copied (c.role s.source))) (none_or_not (row_for (c.paths s.unit) s.attr.value.plain))
    where
      by : (class_of s.attr.form ≡ OfConstant) ⊎ (class_of s.attr.form ≡ OfConstant → ⊥) → (names_file s.attr.name ≡ true) ⊎ (names_file s.attr.name ≡ true → ⊥)
          → (is_copied (c.role s.source) ≡ true) ⊎ (is_copied (c.role s.source) ≡ true → ⊥) → (row_for (c.paths s.unit) s.attr.value.plain ≡ None) ⊎ (row_for (c.paths s.unit) s.attr.value.plain ≡ None → ⊥)
          → LacksRow c s ⊎ (LacksRow c s → ⊥)
      by (inl a) (inl b) (inl d) (inl e) = inl (record { constant = a; file = b; copied = d; none = e })
      by (inr a) b d e = inr (λ l. a l.constant)
      by (inl a) (inr b) d e = inr (λ l. b l.file)
      by (inl a) (inl b) (inr d) e = inr (λ l. d l.copied)
      by (inl a) (inl b) (inl d) (inr e) = inr (λ l. e l.none)

  -- all that it names stands after, or a first doesn't
  abbrev Kept : P → Type 0
  Kept p = ¬ IsLost same units s.unit p

  abbrev FirstLost : ℕ → List P → Fault → Type 0
  FirstLost n refs = OfFirst (LostFault same units at s) (with_numbers n refs)

  refs_or_first : (n : ℕ) (refs : List P) → (Each Kept refs × ((x : Fault) → ¬ FirstLost n refs x)) ⊎ ((x : Fault) × FirstLost n refs x × ¬ Each Kept refs)
  unfolding with_numbers
  refs_or_first n [] = inl (tt, λ x h. h)
  refs_or_first n (p ∷ refs) = by (none_or_not (unit_for same units s.unit p)) (refs_or_first (suc n) refs) where
    by : (unit_for same units s.unit p ≡ None) ⊎ (unit_for same units s.unit p ≡ None → ⊥)
        → (Each Kept refs × ((x : Fault) → ¬ FirstLost (suc n) refs x)) ⊎ ((x : Fault) × FirstLost (suc n) refs x × ¬ Each Kept refs)
        → (Each Kept (p ∷ refs) × ((x : Fault) → ¬ FirstLost n (p ∷ refs) x)) ⊎ ((x : Fault) × FirstLost n (p ∷ refs) x × ¬ Each Kept (p ∷ refs))
    by (inl lost) rest = inr (not_imported (at.named s.source s.index n), inl (lost, refl), λ kept. kept.0 lost)
    by (inr kept) (inl rest) = inl ((kept, rest.0), λ x h. elim h [ inl first ↦ kept first.0 | inr later ↦ rest.1 x later.1 ])
    by (inr kept) (inr rest) = inr (rest.0, inr ((λ x h. kept h.0), rest.1), λ all. rest.2 all.1)

  site_or_fault : (CanCopy same units c s × ((x : Fault) → ¬ SiteFault same units c at s x)) ⊎ ((x : Fault) × SiteFault same units c at s x × ¬ CanCopy same units c s)
  site_or_fault = by (refs_or_first 0 s.attr.value.refs) lacks_or_not where
    by : (Each Kept s.attr.value.refs × ((x : Fault) → ¬ FirstLost 0 s.attr.value.refs x)) ⊎ ((x : Fault) × FirstLost 0 s.attr.value.refs x × ¬ Each Kept s.attr.value.refs) → LacksRow c s ⊎ (LacksRow c s → ⊥)
        → (CanCopy same units c s × ((x : Fault) → ¬ SiteFault same units c at s x)) ⊎ ((x : Fault) × SiteFault same units c at s x × ¬ CanCopy same units c s)
    by (inr first) row = inr (first.0, inl first.1, λ can. first.2 can.imported)
    by (inl kept) (inl lacks) = inr (no_row (at.value s.source s.index), inr (kept.1, (lacks, refl)), λ can. can.row lacks)
    by (inl kept) (inr row) = inl (record { imported = kept.0; row = row }, λ x h. elim h [ inl first ↦ kept.1 x first | inr last ↦ row last.1.0 ])

-- ---- all of them

module _ (f : OneFile) where
  abbrev Can : Site Place → Type 0
  Can = CanCopy same_place (sources_by_file f) (forms f)

  all_or_first : (ss : List (Site Place)) → Each Can ss ⊎ ((q : Refusal) × OfFirst (SiteRefusal f) ss q × ¬ Each Can ss)
  all_or_first [] = inl tt
  all_or_first (s ∷ ss) = by (site_or_fault same_place (sources_by_file f) (forms f) (stored_where f) s) (all_or_first ss) where
    by : (Can s × ((x : Fault) → ¬ SiteFault same_place (sources_by_file f) (forms f) (stored_where f) s x)) ⊎ ((x : Fault) × SiteFault same_place (sources_by_file f) (forms f) (stored_where f) s x × ¬ Can s)
        → Each Can ss ⊎ ((q : Refusal) × OfFirst (SiteRefusal f) ss q × ¬ Each Can ss) → Each Can (s ∷ ss) ⊎ ((q : Refusal) × OfFirst (SiteRefusal f) (s ∷ ss) q × ¬ Each Can (s ∷ ss))
    by (inr fault) rest = inr (_, inl (fault.0, fault.1, refl), λ all. fault.2 all.0)
    by (inl can) (inl rest) = inl (can.0, rest)
    by (inl can) (inr rest) = inr (rest.0, inr ((λ q h. can.1 h.0 h.1), rest.1), λ all. rest.2 all.1)

  pub copied_or_refused : AllCopied same_place (forms f) (said_by_file f) ⊎ ((q : Refusal) × OfFirst (SiteRefusal f) (sites_of_file f) q × ¬ AllCopied same_place (forms f) (said_by_file f))
  copied_or_refused = all_or_first (sites_of_file f)
