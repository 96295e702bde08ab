-- Either some refusal is the first, or none is.
use Rattle.std.proofs.Common.{◌≡◌, ◌⊎◌, ℕ, suc, ◌^◌, ◌≤◌, Bool, true, false, List, [], ◌∷◌, length, None, Option, Some, refl, subst, inl, inr, arith}
use Rattle.std.proofs.lemmas.Bool.{cases_lt}
use Rattle.dwz_def_reading.specs.Fault.{Fault}
use Rattle.dwz_def_reading.specs.Sections.{Sections}
use Rattle.dwz_def_reading.specs.Lists.{Each, In}
use Rattle.dwz_def_reading.specs.declared.elf.NewContent.{NewContent}
use Rattle.dwz_def_reading.specs.ElfLayout.{layout_fault, too_large}
use Rattle.dwz_def_reading.specs.ElfReading.{elf_of}
use Rattle.dwz_def_reading.specs.FirstOf.{OfFirst, OrElse}
use Rattle.dwz_def_reading.specs.Places.{Place}
use Rattle.dwz_def_output.specs.Changed.{changes_by}
use Rattle.dwz_def_output.specs.Refusals.{InFile, IsLargeSection, IsOver, narrow_at, too_large_at}
use Rattle.dwz_def_output.proofs.FreeLemmas.{Nothing}
use Rattle.dwz_def_expand.specs.Dropped.{without_sup}
use Rattle.dwz_def_expand.specs.OneFile.{OneFile, same_place, stored_where}
use Rattle.dwz_def_expand.specs.Output.{ExpandRefusal, FirstTooNarrow, IsTooNarrow, LargeRefusal, NarrowIn, NarrowInLists, SiteRefusal, Spoken, forms, in_lists, new_sections, number_of_operand}
use Rattle.dwz_def_expand.specs.Output.{sites_of_file, sources_by_file, spoken_in}
use Rattle.dwz_def_expand.specs.Refusals.{CanCopy, IsLost, LostFault, Site, SiteFault, with_numbers}
use Rattle.dwz_def_expand.proofs.CopiedLemmas.{copied_or_refused}
use Rattle.dwz_def_expand.specs.NewFile.{FileFault, IsLargeFile, IsUnplaced, NewRefusal, at_header, length_with}

abbrev pub Either : {X : Type 0} → (X → Type 0) → Type 0
Either {X} P = ((x : X) × P x) ⊎ Nothing P

or_else : {X : Type 0} (First Then : X → Type 0) → Either First → Either Then → Either (OrElse First Then)
or_else First Then (inl a) other = inl (a.0, inl a.1)
or_else First Then (inr free) (inl b) = inl (b.0, inr (free, b.1))
or_else First Then (inr free) (inr none) = inr (λ x is. elim is [ inl a ↦ free x a | inr b ↦ none x b.1 ])

of_first : {X Y : Type 0} (Has : Y → X → Type 0) → ((y : Y) → Either (Has y)) → (ys : List Y) → Either (OfFirst Has ys)
of_first Has one [] = inr (λ x is. is)
of_first Has one (y ∷ ys) = or_else (Has y) (OfFirst Has ys) (one y) (of_first Has one ys)

in_file : (Has : ℕ → Fault → Type 0) (file : ℕ) → Either (Has file) → Either (InFile Has file)
in_file Has file (inl a) = inl (record { file = file; section = a.0.section; at = a.0.at; reason = a.0.reason }, (a.0, a.1, refl))
in_file Has file (inr free) = inr (λ q is. free is.0 is.1)

large_is : (code size : ℕ) → Either (λ (f : Fault). (f ≡ too_large_at code) × (too_large ≤ size))
large_is code size = elim (cases_lt size too_large) [
  | inl less ↦ inr (λ f is. (let most = is.1 in absurd (omega (arith, less, most))))
  | inr large ↦ inl (too_large_at code, (refl, large))
]

-- ---- values

module _ (f : OneFile) where
  lost_none : (s : Site Place) (n : ℕ) (refs : List Place) → Each (λ p. ¬ IsLost same_place (sources_by_file f) s.unit p) refs
      → Nothing (OfFirst (LostFault same_place (sources_by_file f) (stored_where f) s) (with_numbers n refs))
  unfolding with_numbers
  lost_none s n [] kept x is = is
  lost_none s n (p ∷ refs) kept x (inl lost) = kept.0 lost.0
  lost_none s n (p ∷ refs) kept x (inr later) = lost_none s (suc n) refs kept.1 x later.1

  site_none : (s : Site Place) → CanCopy same_place (sources_by_file f) (forms f) s → Nothing (SiteFault same_place (sources_by_file f) (forms f) (stored_where f) s)
  site_none s can x (inl lost) = lost_none s 0 s.attr.value.refs can.imported x lost
  site_none s can x (inr row) = can.row row.1.0

  sites_none : (ss : List (Site Place)) → Each (CanCopy same_place (sources_by_file f) (forms f)) ss → Nothing (OfFirst (SiteRefusal f) ss)
  sites_none [] all q is = is
  sites_none (s ∷ ss) all q (inl here) = site_none s all.0 here.0 here.1
  sites_none (s ∷ ss) all q (inr later) = sites_none ss all.1 q later.1

  sites_either : Either (OfFirst (SiteRefusal f) (sites_of_file f))
  sites_either = elim (copied_or_refused f) [ inl all ↦ inr (sites_none (sites_of_file f) all) | inr first ↦ inl (first.0, first.1) ]

  -- ---- operands

  over_or_not : (uleb : Bool) (width number : ℕ) → (IsOver uleb width number → ⊥) ⊎ IsOver uleb width number
  over_or_not true width number = elim (cases_lt number (128 ^ width)) [ inl less ↦ inl (λ over. omega (arith, less, over)) | inr over ↦ inr over ]
  over_or_not false width number = elim (cases_lt number (256 ^ width)) [ inl less ↦ inl (λ over. omega (arith, less, over)) | inr over ↦ inr over ]

  -- the narrow one with the least place
  record Least (os : List Spoken) : Type 0 where
    one : Spoken
    there : In one os
    narrow : IsTooNarrow f one
    least : (o : Spoken) → In o os → IsTooNarrow f o → one.operand.at ≤ o.operand.at

  abbrev NoneNarrow : List Spoken → Type 0
  NoneNarrow os = (o : Spoken) → In o os → ¬ IsTooNarrow f o

  least_of : (os : List Spoken) → NoneNarrow os ⊎ Least os
  least_of [] = inl (λ o there. absurd there)
  least_of (o ∷ os) = by (over_or_not o.operand.uleb o.operand.width (number_of_operand f o)) (least_of os) where
    by : (IsTooNarrow f o → ⊥) ⊎ IsTooNarrow f o → NoneNarrow os ⊎ Least os → NoneNarrow (o ∷ os) ⊎ Least (o ∷ os)
    by (inl fits) (inl rest) = inl (λ p there. elim there [ inl same ↦ subst (λ (x : Spoken). ¬ IsTooNarrow f x) same fits | inr later ↦ rest p later ])
    by (inl fits) (inr l) = inr (record {
      one = l.one;
      there = inr l.there;
      narrow = l.narrow;
      least = λ p there narrow. elim there [ inl same ↦ absurd (subst (λ (x : Spoken). ¬ IsTooNarrow f x) same fits narrow) | inr later ↦ l.least p later narrow ];
    })
    by (inr over) (inl rest) = inr (record {
      one = o;
      there = inl refl;
      narrow = over;
      least = λ p there narrow. elim there [ inl same ↦ subst (λ (x : Spoken). o.operand.at ≤ x.operand.at) same (omega arith) | inr later ↦ absurd (rest p later narrow) ];
    })
    by (inr over) (inr l) = elim (cases_lt o.operand.at l.one.operand.at) [
      | inl less ↦ inr (record {
        one = o;
        there = inl refl;
        narrow = over;
        least = λ p there narrow. elim there [
          | inl same ↦ subst (λ (x : Spoken). o.operand.at ≤ x.operand.at) same (omega arith)
          | inr later ↦ (let le = l.least p later narrow in omega (arith, less, le))
        ];
      })
      | inr most ↦ inr (record {
        one = l.one;
        there = inr l.there;
        narrow = l.narrow;
        least = λ p there narrow. elim there [ inl same ↦ subst (λ (x : Spoken). l.one.operand.at ≤ x.operand.at) same most | inr later ↦ l.least p later narrow ];
      })
    ]

  narrow_either : (section : ℕ) (operands : List Spoken) → Either (FirstTooNarrow f section operands)
  narrow_either section operands = elim (least_of operands) [
    | inl none ↦ inr (λ x is. none is.one is.there is.narrow)
    | inr l ↦ inl (narrow_at section l.one.operand.at, record { one = l.one; there = l.there; narrow = l.narrow; least = l.least; is_fault = refl })
  ]

  narrow_in_either : (file : ℕ) → Either (NarrowIn f file)
  narrow_in_either file = in_file (λ file. FirstTooNarrow f 1 (spoken_in f file)) file (narrow_either 1 (spoken_in f file))

  -- ---- sections, and the file

  large_either : Either (LargeRefusal f)
  large_either =
      let new = (changes_by (new_sections f) None).new in
      in_file (λ file. OfFirst IsLargeSection (changes_by (new_sections f) None).new) 0 (of_first IsLargeSection (λ (n : NewContent). large_is n.code (length n.bytes)) new)

  inside_either : Either (ExpandRefusal f)
  inside_either =
      or_else (OfFirst (SiteRefusal f) (sites_of_file f)) _ sites_either
      (or_else (NarrowIn f 0) _ (narrow_in_either 0)
      (or_else (NarrowInLists f) _ (in_file (λ file. FirstTooNarrow f 7 (in_lists f)) 0 (narrow_either 7 (in_lists f)))
      (or_else (NarrowIn f 1) (LargeRefusal f) (narrow_in_either 1) large_either)))

unplaced_by : (input : List ℕ) (s : Sections) (found : Option Fault) → layout_fault (elf_of (without_sup input)) (changes_by s None) ≡ found → Either (IsUnplaced input s)
unplaced_by input s None e = inr (λ f is. absurd (let other = is.1 in cc))
unplaced_by input s (Some f) e = inl (at_header input f, (f, e, refl))

file_either : (input : List ℕ) (s : Sections) → Either (FileFault input s)
file_either input s = or_else (IsUnplaced input s) (IsLargeFile input s) (unplaced_by input s (layout_fault (elf_of (without_sup input)) (changes_by s None)) refl) (large_is 0 (length_with input s))

pub either : (f : OneFile) → Either (NewRefusal f)
either f =
    let bytes = f.file.bytes in
    let s = new_sections f in
    or_else (ExpandRefusal f) (InFile (λ file. FileFault bytes s) 0) (inside_either f) (in_file (λ file. FileFault bytes s) 0 (file_either bytes s))
