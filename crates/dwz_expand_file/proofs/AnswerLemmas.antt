-- What is made of a file that reads, without `.debug_sup`, is the new file; and what keeps it from being made is its fault.
use Rattle.std.proofs.Common.{◌≡◌, ◌⊎◌, ℕ, zero, suc, ◌+◌, ◌-◌, ◌*◌, ◌^◌, ◌<◌, ◌≤◌, Bool, true, false, List, [], ◌∷◌, ◌++◌, length, append-nil, Option, Some, None, Err, refl, sym, ap, subst, ◌∙◌, inl, inr, arith}
use Rattle.std.specs.Prelude.{IsSome, slice_get}
use Rattle.std.proofs.lemmas.Option.{same_Some}
use Rattle.dwz_model.specs.declared.fault.Fault.{Fault}
use Rattle.dwz_model.specs.declared.fault.Reason.TheVariants.{Layout, TooLarge}
use Rattle.dwz_model.specs.declared.fault.ReadErr.{ReadErr}
use Rattle.dwz_model.specs.declared.fault.ReadErr.TheVariants.{NoMemory, Refused}
use Rattle.dwz_model.specs.declared.sections.Sections.{Sections}
use Rattle.dwz_def_reading.specs.declared.elf.NewContent.{NewContent}
use Rattle.dwz_def_reading.specs.declared.elf.Section.{Section}
use Rattle.dwz_def_reading.specs.ElfFaults.{ElfManner, file_fault, read_back}
use Rattle.dwz_def_reading.specs.ElfHeaders.{file_header}
use Rattle.dwz_def_reading.specs.ElfLayout.{Changes, inside_fault, is_inside, layout_fault, rebuilt_length, too_large}
use Rattle.dwz_def_reading.specs.ElfReading.{ElfView, elf_fault_for, elf_of, fault_if, first_in}
use Rattle.dwz_def_reading.specs.Files.{longest_file}
use Rattle.dwz_def_reading.specs.Finished.{rule_of_back}
use Rattle.dwz_def_reading.specs.FirstOf.{◌or◌}
use Rattle.dwz_def_reading.specs.Values.{AreBytes}
use Rattle.dwz_def_output.specs.Changed.{CanGive, CanGiveAll, changes_by, if_new}
use Rattle.dwz_def_output.specs.FilesAfter.{order_of}
use Rattle.dwz_def_output.specs.Rebuilt.{new_file}
use Rattle.dwz_def_output.proofs.FaultLemmas.{HasNoFault, good_fields, long_enough, names_within, no_faults}
use Rattle.dwz_def_output.proofs.Orders.{is_order, same_order}
use Rattle.dwz_def_expand.specs.Dropped.{table_place, without_sup}
use Rattle.dwz_def_expand.specs.OneFile.{FileRead, OneFile, ReadsOne, given_common, limits_behind, rule_for}
use Rattle.dwz_def_expand.specs.Output.{new_sections}
use Rattle.dwz_def_expand.specs.NewFile.{FileFault, IsUnplaced, at_header, file_with}
use Rattle.dwz_elf.specs.Reads.{GivesOrRefuses, IsWhole}
use Rattle.dwz_elf.specs.Rebuilds.{IsRebuilt, IsTooLarge, RebuildView}
use Rattle.dwz_expand_file.specs.Answers.{AnswersFile}
use Rattle.dwz_expand_file.specs.Giving.{IsThere, given}
use Rattle.dwz_expand_file.proofs.GivenLemmas.{given_all, none_for}
use Rattle.dwz_expand_file.proofs.WithoutBytes.{header_places, old_headers, reads_without, section_without, short}

-- ---- a file without a fault

module _ (input : List ℕ) (free : elf_fault_for read_back input ≡ None) where
  none : HasNoFault read_back input
  none = no_faults read_back input free

  pub is_whole : IsWhole input
  is_whole =
      let good = good_fields read_back (length input) (file_header input) none.fields in
      record { file = long_enough input none.identified; headers = good.table; named = good.names; names = names_within (length input) _ none.names }

  module _ (are : AreBytes input) (bounded : length input < 2 ^ 64) where
    big : length input < 256 ^ 8
    big = bounded

    pub place_short : table_place input < 2 ^ 64
    place_short = short input none are big

-- ---- sections that can be given are there

pub there : (input : List ℕ) (code : ℕ) (bytes : Option (List ℕ)) → CanGive input code bytes → IsThere (elf_of input) code bytes
unfolding elf_of
there input code None can = tt
there input code (Some bytes) can = subst (λ (o : Option (ℕ × ℕ)). IsSome o) (sym can.1) refl

-- what was given, from the last code to the first
pub all_given : (e : ElfView) (s : Sections) (start : RebuildView) → start.elf ≡ e → start.changes.new ≡ [] → start.changes.sup ≡ None
    → given 1 (Some s.info) (given 2 (Some s.abbrev) (given 3 s.strs (given 5 s.offsets (given 6 s.line (given 7 s.loclists (given 8 s.aranges start))))))
    ≡ record { elf = e; changes = changes_by s None }
all_given e s start elf new sup =
    let list : List NewContent → List NewContent = λ last.
    if_new 1 (Some s.info) ++ (if_new 2 (Some s.abbrev) ++ (if_new 3 s.strs ++ (if_new 5 s.offsets ++ (if_new 6 s.line ++ (if_new 7 s.loclists ++ last))))) in
    let view : ElfView → List NewContent → Option (List ℕ) → RebuildView = λ e new sup. record { elf = e; changes = record { new = list new; sup = sup } } in
    ap (λ (x : ElfView). view x (if_new 8 s.aranges ++ start.changes.new) start.changes.sup) elf
    ∙ (ap (λ (x : List NewContent). view e (if_new 8 s.aranges ++ x) start.changes.sup) new
    ∙ (ap (λ (x : List NewContent). view e x start.changes.sup) (append-nil (if_new 8 s.aranges))
    ∙ ap (λ (x : Option (List ℕ)). view e (if_new 8 s.aranges) x) sup))

-- ---- which section can't be laid out

record Inside (xs : List Section) (f : Fault) : Type 0 where
  k : ℕ
  one : Section
  got : slice_get xs k ≡ Some one
  is : f ≡ file_fault Layout one.header.at

module _ (e : ElfView) (changes : Changes) where
  inside_one : (before : List Section) (s : Section) (f : Fault) → inside_fault e changes before s ≡ Some f → f ≡ file_fault Layout s.header.at
  unfolding inside_fault
  inside_one before s f is = by (is_inside e changes (length before) s) is where
    by : (t : Bool) → fault_if t Layout s.header.at ≡ Some f → f ≡ file_fault Layout s.header.at
    by true e = sym (same_Some (file_fault Layout s.header.at) f e)
    by false e = absurd (let z : None ≡ Some f = e in cc)

  inside_from : (before xs : List Section) (f : Fault) → first_in (inside_fault e changes) before xs ≡ Some f → Inside xs f
  unfolding first_in
  inside_from before [] f is = absurd (let z : None ≡ Some f = is in cc)
  inside_from before (s ∷ xs) f is = by (inside_fault e changes before s) refl (inside_from (before ++ s ∷ []) xs f) is where
    by : (o : Option Fault) → inside_fault e changes before s ≡ o → (first_in (inside_fault e changes) (before ++ s ∷ []) xs ≡ Some f → Inside xs f)
        → (o or first_in (inside_fault e changes) (before ++ s ∷ []) xs) ≡ Some f → Inside (s ∷ xs) f
    by (Some g) was rest found =
        let same : g ≡ f = same_Some g f found in
        record { k = zero; one = s; got = refl; is = inside_one before s f (was ∙ ap Some same) }
    by None was rest found = (let r = rest found in record { k = suc r.k; one = r.one; got = r.got; is = r.is })

  inside : (f : Fault) → layout_fault e changes ≡ Some f → Inside e.sections f
  unfolding layout_fault
  inside f is = inside_from [] e.sections f is

-- ---- the new file

abbrev pub view_of : List ℕ → Changes → RebuildView
view_of bytes changes = record { elf = elf_of bytes; changes = changes }

-- with so many headers behind the file
module _ (input : List ℕ) (free : elf_fault_for read_back input ≡ None) (are : AreBytes input) (bounded : length input < 2 ^ 64) (s : Sections) where
  abbrev base : List ℕ
  base = without_sup input

  abbrev new : Changes
  new = changes_by s None

  abbrev order : List (ℕ × ℕ)
  order = order_of (elf_of base)

  abbrev clean : HasNoFault read_back input
  clean = no_faults read_back input free

  pub is_made : (out : List ℕ) → IsRebuilt (view_of base new) base out → ((x : Fault) → ¬ FileFault input s x) × (out ≡ file_with input s)
  unfolding file_with
  is_made out is =
      let same = same_order (elf_of base) is.order order is.is_order (is_order (elf_of base)) in
      let small = subst (λ (o : List (ℕ × ℕ)). rebuilt_length (elf_of base) new base o < too_large) same is.small in
      let no : (x : Fault) → ¬ FileFault input s x = λ x has. elim has [
        | inl unplaced ↦ (let z : None ≡ Some unplaced.0 = sym is.fits ∙ unplaced.1 in absurd (let w : None ≡ Some unplaced.0 = z in cc))
        | inr large ↦ (let much = large.1.1 in absurd (omega (arith, small, much)))
      ] in
      (no, is.bytes ∙ ap (λ (o : List (ℕ × ℕ)). new_file base new o) same)

  -- where a section can't be laid out, its header isn't far behind the first
  pub layout_reason : (f : Fault) → layout_fault (elf_of base) new ≡ Some f → f.reason ≡ Layout
  layout_reason f is = ap (λ (x : Fault). x.reason) (inside (elf_of base) new f is).is

  pub layout_near : (f : Fault) → layout_fault (elf_of base) new ≡ Some f → (file_header input).headers_at + (f.at - table_place input) < 2 ^ 64
  unfolding elf_of
  layout_near f is =
      let h = inside (elf_of base) new f is in
      let place = header_places input clean are bounded h.k h.one h.got in
      let at : f.at ≡ table_place input + 64 * h.k = ap (λ (x : Fault). x.at) h.is ∙ place.1 in
      let end = old_headers input clean are bounded in
      omega (arith, at, place.0, end, bounded)

  -- what keeps it from being made, at the same header of the file that was read
  refused : (f x : Fault) → (layout_fault (elf_of base) new ≡ Some f) ⊎ IsTooLarge (view_of base new) base f
      → (f.reason ≡ Layout → (file_header input).headers_at + (f.at - table_place input) < 2 ^ 64 → x ≡ at_header input f) → (f.reason ≡ TooLarge → x ≡ f) → FileFault input s x
  refused f x (inl unplaced) layout whole = inl (f, unplaced, layout (layout_reason f unplaced) (layout_near f unplaced))
  refused f x (inr is) layout whole =
      let same = same_order (elf_of base) is.order order is.is_order (is_order (elf_of base)) in
      let large = subst (λ (o : List (ℕ × ℕ)). too_large ≤ rebuilt_length (elf_of base) new base o) same is.large in
      let no : (y : Fault) → ¬ IsUnplaced input s y = λ y e. (let z : None ≡ Some e.0 = sym is.fits ∙ e.1 in absurd (let w : None ≡ Some e.0 = z in cc)) in
      inr (no, (whole (ap (λ (y : Fault). y.reason) is.fault) ∙ is.fault, large))

  pub is_refused : (f x : Fault) (began place : ℕ) → began ≡ (file_header input).headers_at → place ≡ table_place input
      → (layout_fault (elf_of base) new ≡ Some f) ⊎ IsTooLarge (view_of base new) base f
      → (f.reason ≡ Layout → began + (f.at - place) < 2 ^ 64 → x ≡ record { section = f.section; at = began + (f.at - place); reason = f.reason }) → (f.reason ≡ TooLarge → x ≡ f) → FileFault input s x
  is_refused f x began place began_is place_is why layout whole =
      let At : ℕ → Type 0 = λ at. f.reason ≡ Layout → at < 2 ^ 64 → x ≡ record { section = f.section; at = at; reason = f.reason } in
      let same : began + (f.at - place) ≡ (file_header input).headers_at + (f.at - table_place input) = λ j. began_is j + (f.at - place_is j) in
      refused f x why (subst At same layout) whole

-- a file without a fault was read
pub no_reading : {A X : Type 0} (items : A → List ℕ) (input : List ℕ) (s : Sections) (e : ReadErr) (fault : Option Fault) (value : X) → fault ≡ None
    → GivesOrRefuses {X = X} (Err e) fault value → AnswersFile items input s (Err e)
no_reading items input s (Refused f) fault value none is = absurd (let z : None ≡ Some f = sym none ∙ is in let w : None ≡ Some f = z in cc)
no_reading items input s NoMemory fault value none is = tt

-- ---- of a file that reads

back : (c : Option FileRead) → (rule_of_back (given_common c) 0).manner ≡ read_back
back None = refl
back (Some c) = refl

module _ (f : OneFile) (reads : ReadsOne f) where
  reads_back : elf_fault_for read_back f.file.bytes ≡ None
  reads_back = ap (λ (m : ElfManner). elf_fault_for m f.file.bytes) (sym (back f.common)) ∙ none_for (rule_for f 0) (limits_behind f.common) f.file.bytes f.file.raw f.file.doc reads.file

  is_short : length f.file.bytes < 2 ^ 64
  unfolding longest_file
  is_short = let fits = reads.file.size.file in omega (arith, fits)

  module _ (are : AreBytes f.file.bytes) where
    clean_file : HasNoFault read_back f.file.bytes
    clean_file = no_faults read_back f.file.bytes reads_back

    base_reads : elf_fault_for read_back (without_sup f.file.bytes) ≡ None
    base_reads = reads_without f.file.bytes clean_file are is_short

    can_give_all : CanGiveAll (without_sup f.file.bytes) (new_sections f)
    can_give_all = given_all f reads (without_sup f.file.bytes) (section_without f.file.bytes clean_file are is_short) base_reads

  module _ (input : List ℕ) (is : input ≡ f.file.bytes) where
    pub input_reads : elf_fault_for read_back input ≡ None
    input_reads = subst (λ (b : List ℕ). elf_fault_for read_back b ≡ None) (sym is) reads_back

    module _ (are : AreBytes input) (bytes : List ℕ) (is_base : bytes ≡ without_sup input) where
      own : AreBytes f.file.bytes
      own = subst AreBytes is are

      to_base : bytes ≡ without_sup f.file.bytes
      to_base = is_base ∙ ap without_sup is

      pub bytes_read : elf_fault_for read_back bytes ≡ None
      bytes_read = subst (λ (b : List ℕ). elf_fault_for read_back b ≡ None) (sym to_base) (base_reads own)

      pub can_be_given : (s : Sections) → s ≡ new_sections f → CanGiveAll bytes s
      can_be_given s is_s = subst (λ (t : Sections). CanGiveAll bytes t) (sym is_s) (subst (λ (b : List ℕ). CanGiveAll b (new_sections f)) (sym to_base) (can_give_all own))
