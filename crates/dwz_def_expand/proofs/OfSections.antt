-- What refuses a file is of a section.
use Rattle.std.proofs.Common.{◌≡◌, ℕ, ◌≤◌, Bool, true, false, List, [], ◌∷◌, ◌++◌, length, Option, Some, None, refl, sym, subst, inl, inr, lit≤}
use Rattle.dwz_def_reading.specs.Fault.{Fault}
use Rattle.dwz_def_reading.specs.Reason.TheVariants.{Layout}
use Rattle.dwz_def_reading.specs.Refusal.{Refusal}
use Rattle.dwz_def_reading.specs.Sections.{Sections}
use Rattle.dwz_def_reading.specs.declared.elf.NewContent.{NewContent}
use Rattle.dwz_def_reading.specs.declared.elf.Section.{Section}
use Rattle.dwz_def_reading.specs.declared.exprs.Operand.{Operand}
use Rattle.dwz_def_reading.specs.ElfFaults.{file_fault}
use Rattle.dwz_def_reading.specs.ElfLayout.{Changes, inside_fault, is_inside, layout_fault}
use Rattle.dwz_def_reading.specs.ElfReading.{ElfView, elf_of, fault_if, first_in}
use Rattle.dwz_def_reading.specs.FirstOf.{OfFirst, OrElse, ◌or◌}
use Rattle.dwz_def_reading.specs.Lists.{In}
use Rattle.dwz_def_reading.specs.NamedLists.{list_of_attr}
use Rattle.dwz_def_reading.specs.Places.{Place}
use Rattle.dwz_def_reading.specs.Shared.{NamedList}
use Rattle.dwz_def_output.specs.Changed.{changes_by, if_new}
use Rattle.dwz_def_output.specs.Refusals.{InFile, IsLargeSection, operands_of_attr}
use Rattle.dwz_def_expand.specs.Dropped.{without_sup}
use Rattle.dwz_def_expand.specs.OneFile.{OneFile, StoredAttr, named_in_attr, same_place, stored_attr, stored_where, where_named}
use Rattle.dwz_def_expand.specs.Output.{ExpandRefusal, FirstTooNarrow, LargeRefusal, NarrowIn, NarrowInLists, SiteRefusal, Spoken, forms, in_lists, new_sections}
use Rattle.dwz_def_expand.specs.Output.{sites_of_file, sources_by_file, spoken_in}
use Rattle.dwz_def_expand.specs.Refusals.{LostFault, RowFault, Site, SiteFault, with_numbers}
use Rattle.dwz_def_expand.specs.NewFile.{FileFault, IsLargeFile, IsUnplaced, NewRefusal}

-- what has this also has that
abbrev Gives : {X : Type 0} → (X → Type 0) → (X → Type 0) → Type 0
Gives {X} P Q = (x : X) → P x → Q x

or_else : {X : Type 0} (First Then Q : X → Type 0) → Gives First Q → Gives Then Q → Gives (OrElse First Then) Q
or_else First Then Q first other x (inl a) = first x a
or_else First Then Q first other x (inr b) = other x b.1

of_first : {X Y : Type 0} (Has : Y → X → Type 0) (Q : X → Type 0) (ys : List Y) → ((y : Y) → In y ys → Gives (Has y) Q) → Gives (OfFirst Has ys) Q
of_first Has Q [] all = λ x is. absurd is
of_first Has Q (y ∷ ys) all = or_else (Has y) (OfFirst Has ys) Q (all y (inl refl)) (of_first Has Q ys (λ z there. all z (inr there)))

abbrev OfSection : Fault → Type 0
OfSection f = f.section ≤ 9

abbrev IsOf : Refusal → Type 0
IsOf q = q.section ≤ 9

in_file : (Has : ℕ → Fault → Type 0) (file : ℕ) → Gives (Has file) OfSection → Gives (InFile Has file) IsOf
in_file Has file one q is = subst IsOf (sym is.2) (one is.0 is.1)

-- ---- new sections

of_new : (code : ℕ) (o : Option (List ℕ)) (rest : List NewContent) (n : NewContent) → code ≤ 9 → (In n rest → n.code ≤ 9) → In n (if_new code o ++ rest) → n.code ≤ 9
of_new code None rest n small others there = others there
of_new code (Some bytes) rest n small others (inl same) = subst (λ (m : NewContent). m.code ≤ 9) same small
of_new code (Some bytes) rest n small others (inr there) = others there

last_new : (code : ℕ) (o : Option (List ℕ)) (n : NewContent) → code ≤ 9 → In n (if_new code o) → n.code ≤ 9
last_new code None n small there = absurd there
last_new code (Some bytes) n small (inl same) = subst (λ (m : NewContent). m.code ≤ 9) same small
last_new code (Some bytes) n small (inr there) = absurd there

few_codes : (s : Sections) (n : NewContent) → In n (changes_by s None).new → n.code ≤ 9
few_codes s n =
    let last = if_new 8 s.aranges in
    let lists = if_new 7 s.loclists ++ last in
    let lines = if_new 6 s.line ++ lists in
    let offsets = if_new 5 s.offsets ++ lines in
    let strs = if_new 3 s.strs ++ offsets in
    let abbrevs = if_new 2 (Some s.«abbrev») ++ strs in
    of_new 1 (Some s.info) abbrevs n (lit≤ tt)
    (of_new 2 (Some s.«abbrev») strs n (lit≤ tt)
    (of_new 3 s.strs offsets n (lit≤ tt)
    (of_new 5 s.offsets lines n (lit≤ tt) (of_new 6 s.line lists n (lit≤ tt) (of_new 7 s.loclists last n (lit≤ tt) (last_new 8 s.aranges n (lit≤ tt)))))))

large : (s : Sections) → Gives (OfFirst IsLargeSection (changes_by s None).new) OfSection
large s = of_first IsLargeSection OfSection (changes_by s None).new (λ n there f is. subst OfSection (sym is.0) (few_codes s n there))

-- ---- values

named_by : (lists : List NamedList) (operands : List Operand) (number at : ℕ) → (named_in_attr lists operands number at).0 ≤ 9
named_by [] operands number at = lit≤ tt
named_by (l ∷ lists) operands number at = lit≤ tt

named_of : (o : Option StoredAttr) (number : ℕ) → (where_named o number).0 ≤ 9
named_of None number = lit≤ tt
named_of (Some v) number = named_by (list_of_attr v.scope v.attr) (operands_of_attr v.scope v.attr) number v.attr.at

module _ (f : OneFile) where
  lost : (s : Site Place) (ref : ℕ × Place) → Gives (LostFault same_place (sources_by_file f) (stored_where f) s ref) OfSection
  lost s ref x is = subst OfSection (sym is.1) (named_of (stored_attr f s.source s.index) ref.0)

  of_site : (s : Site Place) → Gives (SiteFault same_place (sources_by_file f) (forms f) (stored_where f) s) OfSection
  of_site s =
      or_else (OfFirst (LostFault same_place (sources_by_file f) (stored_where f) s) (with_numbers 0 s.attr.value.refs)) (RowFault (forms f) (stored_where f) s) OfSection
      (of_first (LostFault same_place (sources_by_file f) (stored_where f) s) OfSection (with_numbers 0 s.attr.value.refs) (λ ref there. lost s ref))
      (λ x is. subst OfSection (sym is.1) (lit≤ tt))

  narrow : (section : ℕ) (operands : List Spoken) → section ≤ 9 → Gives (FirstTooNarrow f section operands) OfSection
  narrow section operands small x is = subst OfSection (sym is.is_fault) small

  narrow_in : (file : ℕ) → Gives (NarrowIn f file) IsOf
  narrow_in file = in_file (λ file. FirstTooNarrow f 1 (spoken_in f file)) file (narrow 1 (spoken_in f file) (lit≤ tt))

  inside : Gives (ExpandRefusal f) IsOf
  inside =
      or_else (OfFirst (SiteRefusal f) (sites_of_file f)) _ IsOf
      (of_first (SiteRefusal f) IsOf (sites_of_file f)
      (λ s there. in_file (λ file. SiteFault same_place (sources_by_file f) (forms f) (stored_where f) s) s.source.file (of_site s)))
      (or_else (NarrowIn f 0) _ IsOf (narrow_in 0)
      (or_else (NarrowInLists f) _ IsOf (in_file (λ file. FirstTooNarrow f 7 (in_lists f)) 0 (narrow 7 (in_lists f) (lit≤ tt)))
      (or_else (NarrowIn f 1) (LargeRefusal f) IsOf (narrow_in 1)
      (in_file (λ file. OfFirst IsLargeSection (changes_by (new_sections f) None).new) 0 (large (new_sections f))))))

-- ---- the file

unplaced : (e : ElfView) (changes : Changes) (before sections : List Section) (f : Fault) → first_in (inside_fault e changes) before sections ≡ Some f → OfSection f
unfolding first_in inside_fault
unplaced e changes before [] f is = absurd cc
unplaced e changes before (s ∷ sections) f is = by (unplaced e changes (before ++ s ∷ []) sections f) (is_inside e changes (length before) s) is where
  by : (first_in (inside_fault e changes) (before ++ s ∷ []) sections ≡ Some f → OfSection f) → (b : Bool)
      → (fault_if b Layout s.header.at or first_in (inside_fault e changes) (before ++ s ∷ []) sections) ≡ Some f → OfSection f
  by later true e = subst OfSection (let same : file_fault Layout s.header.at ≡ f = cc in same) (lit≤ tt)
  by later false e = later e

of_file : (input : List ℕ) (s : Sections) → Gives (FileFault input s) OfSection
unfolding layout_fault
of_file input s =
    or_else (IsUnplaced input s) (IsLargeFile input s) OfSection
    (λ x u. subst OfSection (sym u.2) (unplaced (elf_of (without_sup input)) (changes_by s None) [] (elf_of (without_sup input)).sections u.0 u.1))
    (λ x l. subst OfSection (sym l.0) (lit≤ tt))

pub of_section : (f : OneFile) → Gives (NewRefusal f) IsOf
of_section f =
    let bytes = f.file.bytes in
    let s = new_sections f in
    or_else (ExpandRefusal f) (InFile (λ file. FileFault bytes s) 0) IsOf (inside f) (in_file (λ file. FileFault bytes s) 0 (of_file bytes s))
