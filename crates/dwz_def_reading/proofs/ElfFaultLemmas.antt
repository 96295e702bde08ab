-- The first fault that is answered is the first of the rows.
use Rattle.std.proofs.Common.{◌≡◌, ◌≢◌, inl, inr, ◌↔◌, ℕ, zero, suc, ◌+◌, ◌<◌, ◌≤◌, List, [], ◌∷◌, ◌++◌, take, length, Bool, true, false, not, ◌&&◌, Option, Some, None, refl, sym, ap, subst, ◌∙◌}
use Rattle.std.proofs.Common.{arith}
use Rattle.std.specs.Prelude.{slice_get, ◌==◌, nat_lt, if◌then◌else◌}
use Rattle.std.proofs.Common.{eqb}
use Rattle.std.specs.Bool.{Decides}
use Rattle.std.specs.List.{list_any}
use Rattle.std.specs.Int.{is_power_of_two}
use Rattle.std.proofs.lemmas.Bool.Decides.{Decides-eqb, Decides-ltb, Decides-not, Decides-and, Decides-or, Decides-like}
use Rattle.std.proofs.lemmas.Bool.{ne_eqb, eq-eqb, eqb-true, eqb-false}
use Rattle.dwz_model.specs.declared.fault.Fault.{Fault}
use Rattle.dwz_model.specs.declared.fault.Reason.{Reason}
use Rattle.dwz_model.specs.declared.fault.Reason.TheVariants.{NotElf, FileType, SectionTable, Compressed, NoDebugInfo, Index}
use Rattle.dwz_def_reading.specs.declared.elf.FileHeader.{FileHeader}
use Rattle.dwz_def_reading.specs.declared.elf.Header.{Header}
use Rattle.dwz_def_reading.specs.declared.elf.Section.{Section}
use Rattle.dwz_def_reading.specs.ElfHeaders.{end_of, file_header, has_relocations, headers_end, is_compressed, is_there, program_headers_end}
use Rattle.dwz_def_reading.specs.ElfNames.{names_header, sections_in}
use Rattle.dwz_def_reading.specs.ElfFaults
use Rattle.dwz_def_reading.specs.ElfFaults.{ElfManner, file_fault, FaultRow, Either, InOrder, IsFirstOther, identification}
use Rattle.dwz_def_reading.specs.FirstOf.{OrElse}
use Rattle.dwz_def_reading.specs.ElfReading.{fault_if, first_in, first_other, wrong_byte, identification_fault, field_fault_for, names_fault, header_fault, unkept_fault_for, missing_fault, elf_fault_for}
use Rattle.dwz_def_reading.specs.FirstOf.{◌or◌}
use Rattle.dwz_def_reading.specs.ElfReading.{is_misaligned, is_misplaced, is_misnamed, is_rewritten, has_code}

-- the answered fault is the one of which First holds, and where none is answered Any holds of none
pub record IsSound (answer : Option Fault) (First Any : Fault → Type 0) : Type 0 where
  pub first : (f : Fault) → (answer ≡ Some f) ↔ First f
  pub none : answer ≡ None → (f : Fault) → ¬ Any f

alone : (answer : Option Fault) (First : Fault → Type 0) → ((f : Fault) → (answer ≡ Some f) ↔ First f) → IsSound answer First First
alone answer First first = record {
  first = first;
  none = λ is_none f holds. let is : answer ≡ Some f = (first f).1 holds in cc;
}

row_first : (test : Bool) (What : Type 0) (reason : Reason) (at : ℕ) → Decides test What → (f : Fault) → (fault_if test reason at ≡ Some f) ↔ FaultRow What reason at f
row_first true What reason at decides f = (λ (is : Some (file_fault reason at) ≡ Some f). (cc, decides.0 refl), λ (holds : FaultRow What reason at f). ap Some (sym holds.0))
row_first false What reason at decides f = (λ (is : None ≡ Some f). absurd (cc), λ (holds : FaultRow What reason at f). let no : false ≡ true = decides.1 holds.1 in absurd (cc))

pub row : (test : Bool) (What : Type 0) (reason : Reason) (at : ℕ) → Decides test What → IsSound (fault_if test reason at) (FaultRow What reason at) (FaultRow What reason at)
row test What reason at decides = alone _ _ (row_first test What reason at decides)

before_first : (one other : Option Fault) (First Then : Fault → Type 0) → ((f : Fault) → (one ≡ Some f) ↔ First f) → ((f : Fault) → (other ≡ Some f) ↔ Then f) → (f : Fault)
    → ((one or other) ≡ Some f) ↔ OrElse First Then f
before_first (Some g) other First Then one_is other_is f = (
  λ is. inl ((one_is f).0 is),
  λ holds. elim holds as (λ h. Some g ≡ Some f) [ inl h ↦ (one_is f).1 h | inr h ↦ absurd (h.0 g ((one_is g).0 refl)) ],
)
before_first None other First Then one_is other_is f = (
  λ is. inr (λ g h. let no : None ≡ Some g = (one_is g).1 h in absurd (cc), (other_is f).0 is),
  λ holds. elim holds as (λ h. other ≡ Some f) [ inl h ↦ let no : None ≡ Some f = (one_is f).1 h in absurd (cc) | inr h ↦ (other_is f).1 h.1 ],
)

either_none : (one other : Option Fault) (One Other : Fault → Type 0) → (one ≡ None → (f : Fault) → ¬ One f) → (other ≡ None → (f : Fault) → ¬ Other f) → (one or other) ≡ None → (f : Fault)
    → ¬ Either One Other f
either_none (Some g) other One Other one_is other_is is f holds = absurd (cc)
either_none None other One Other one_is other_is is f holds =
    elim holds as (λ h. ⊥) [ inl h ↦ one_is refl f h | inr h ↦ other_is is f h ]

-- the one row, and then the other
pub and_then : (one other : Option Fault) (First Any Then AnyThen : Fault → Type 0) → IsSound one First Any → IsSound other Then AnyThen
    → IsSound (one or other) (OrElse First Then) (Either Any AnyThen)
and_then one other First Any Then AnyThen is other_is = record {
  first = before_first one other First Then is.first other_is.first;
  none = either_none one other Any AnyThen is.none other_is.none;
}

-- the rows of the items of a list
pub in_order : {X : Type 0} (fault_of : List X → X → Option Fault) (First Any : List X → X → Fault → Type 0) → ((before : List X) (x : X) → IsSound (fault_of before x) (First before x) (Any before x))
    → (before xs : List X) → IsSound (first_in fault_of before xs) (InOrder OrElse First before xs) (InOrder Either Any before xs)
unfolding first_in
in_order fault_of First Any each before [] = record {
  first = λ f. (λ (is : None ≡ Some f). absurd (cc), λ no. absurd no);
  none = λ is f no. no;
}
in_order fault_of First Any each before (x ∷ xs) =
    and_then (fault_of before x) _ _ _ _ _ (each before x) (in_order fault_of First Any each (before ++ x ∷ []) xs)

-- ---- the identification

step : (w b : ℕ) (ws bs : List ℕ) (at : ℕ) → b ≡ w → IsFirstOther ws bs at → IsFirstOther (w ∷ ws) (b ∷ bs) (suc at)
step w b ws bs at same is = record {
  within = let h : at < length ws = is.within in omega arith;
  same = let h : take at bs ≡ take at ws = is.same in cc;
  other = is.other;
}

back : (w b : ℕ) (ws bs : List ℕ) (at : ℕ) → IsFirstOther (w ∷ ws) (b ∷ bs) (suc at) → (b ≡ w) × IsFirstOther ws bs at
back w b ws bs at is =
    let h : b ∷ take at bs ≡ w ∷ take at ws = is.same in (
      cc,
      record {
        within = let h : suc at < suc (length ws) = is.within in omega arith;
        same = cc;
        other = is.other;
      },
    )

Place : ℕ → List ℕ → List ℕ → ℕ → Type 0
Place k wanted bytes p = (at : ℕ) × (p ≡ k + at) × IsFirstOther wanted bytes at

at_once : (k w : ℕ) (ws bytes : List ℕ) (p : ℕ) → p ≡ k → slice_get bytes 0 ≢ Some w → Place k (w ∷ ws) bytes p
unfolding Place
at_once k w ws bytes p is other =
    (0, omega (arith, is), record { within = omega arith; same = refl; other = other })

later : (k w b : ℕ) (ws bs : List ℕ) (p : ℕ) → b ≡ w → Place (k + 1) ws bs p → Place k (w ∷ ws) (b ∷ bs) p
unfolding Place
later k w b ws bs p same (at, is, place) = (suc at, omega (arith, is), step w b ws bs at same place)

found : (k : ℕ) (wanted bytes : List ℕ) (p : ℕ) → first_other k wanted bytes ≡ Some p → Place k wanted bytes p
unfolding first_other
found k [] bytes p is = absurd (cc)
found k (w ∷ ws) [] p is = at_once k w ws [] p (cc) (λ h. absurd (cc))
found k (w ∷ ws) (b ∷ bs) p is =
    (elim (eqb b w) as (λ t. eqb b w ≡ t → (if t then first_other (k + 1) ws bs else Some k) ≡ Some p → Place k (w ∷ ws) (b ∷ bs) p) [
      | true ↦ λ same rest. later k w b ws bs p (eqb-true b w same) (found (k + 1) ws bs p rest)
      | false ↦ λ other rest. at_once k w ws (b ∷ bs) p (cc) (λ h. eqb-false b w other (cc))
    ]) refl is

again : (k : ℕ) (wanted bytes : List ℕ) (at : ℕ) → IsFirstOther wanted bytes at → first_other k wanted bytes ≡ Some (k + at)
unfolding first_other
again k [] bytes at is = absurd (omega (arith, is.within))
again k (w ∷ ws) [] zero is = ap Some (omega arith)
again k (w ∷ ws) [] (suc at) is = let h : [] ≡ w ∷ take at ws = is.same in absurd (cc)
again k (w ∷ ws) (b ∷ bs) zero is =
    let differ : eqb b w ≡ false = ne_eqb b w (λ same. is.other (ap Some same)) in
    rw differ (ap Some (omega arith))
again k (w ∷ ws) (b ∷ bs) (suc at) is =
    let parts = back w b ws bs at is in
    let same : eqb b w ≡ true = eq-eqb b w parts.0 in
    rw same (again (k + 1) ws bs at parts.1 ∙ ap Some (omega arith))

wrong_found : (bytes : List ℕ) (answer : Option ℕ) → first_other 0 identification bytes ≡ answer → (f : Fault) → wrong_byte answer ≡ Some f → ElfFaults.WrongByte bytes f
unfolding Place
wrong_found bytes None is f fault = absurd (cc)
wrong_found bytes (Some p) is f fault =
    let place = found 0 identification bytes p is in
    let same : p ≡ place.0 = omega (arith, place.1) in
    (place.0, (cc, place.2))

wrong_again : (bytes : List ℕ) (f : Fault) → ElfFaults.WrongByte bytes f → wrong_byte (first_other 0 identification bytes) ≡ Some f
wrong_again bytes f (at, rest) =
    let e : first_other 0 identification bytes ≡ Some at = again 0 identification bytes at rest.1 ∙ ap Some (omega arith) in
    rw e (ap Some (sym rest.0))

wrong_is_sound : (bytes : List ℕ) → IsSound (wrong_byte (first_other 0 identification bytes)) (ElfFaults.WrongByte bytes) (ElfFaults.WrongByte bytes)
wrong_is_sound bytes = alone _ _ (λ f. (wrong_found bytes _ refl f, wrong_again bytes f))

-- ---- tests

is_true : (b : Bool) → Decides b (b ≡ true)
is_true b = (λ h. h, λ h. h)

is_false : (b : Bool) → Decides (not b) (b ≡ false)
is_false true = (λ h. sym h, λ h. sym h)
is_false false = (λ h. refl, λ h. refl)

equal : (a b : ℕ) → Decides (a == b) (a ≡ b)
equal a b = Decides-eqb a b

unequal : (a b : ℕ) → Decides (not (a == b)) (a ≢ b)
unequal a b = Decides-not (a == b) (Decides-eqb a b)

below : (a b : ℕ) → Decides (nat_lt a b) (a < b)
below a b = Decides-ltb a b

not_below : (a b : ℕ) → Decides (not (nat_lt a b)) (b ≤ a)
not_below a b = Decides-like (not (nat_lt a b)) (λ h. omega arith) (λ h less. omega (arith, h, less)) (Decides-not (nat_lt a b) (below a b))

-- ---- the file header

pub identification_is_sound : (bytes : List ℕ) → IsSound (identification_fault bytes) (ElfFaults.IdentificationRows OrElse bytes) (ElfFaults.IdentificationRows Either bytes)
unfolding identification_fault
identification_is_sound bytes = and_then _ _ _ _ _ _ (wrong_is_sound bytes) (row _ _ NotElf (length bytes) (below (length bytes) 64))

pub field_is_sound : (m : ElfManner) (bytes : List ℕ) (file : FileHeader)
    → IsSound (field_fault_for m (length bytes) file) (ElfFaults.FieldRowsFor m OrElse bytes file) (ElfFaults.FieldRowsFor m Either bytes file)
unfolding field_fault_for
field_is_sound m bytes file =
    and_then _ _ _ _ _ _ (row _ _ FileType 16 (Decides-and _ _ (unequal file.kind 2) (unequal file.kind 3)))
    (and_then _ _ _ _ _ _ (row _ _ SectionTable 40 (equal file.headers_at 0))
    (and_then _ _ _ _ _ _ (row _ _ SectionTable 58 (unequal file.header_size 64))
    (and_then _ _ _ _ _ _ (row _ _ SectionTable 60 (Decides-or _ _ (equal file.headers 0) (below m.headers file.headers)))
    (and_then _ _ _ _ _ _ (row _ _ SectionTable 62 (Decides-or _ _ (equal file.names 0) (not_below file.names file.headers)))
    (and_then _ _ _ _ _ _ (row _ _ SectionTable 40 (below (length bytes) (headers_end file)))
    (row _ _ SectionTable 32 (Decides-and _ _ (unequal file.program_headers 0) (below (length bytes) (program_headers_end file)))))))))

pub names_is_sound : (bytes : List ℕ) (names : Header) → IsSound (names_fault (length bytes) names) (ElfFaults.NoNameTable bytes names) (ElfFaults.NoNameTable bytes names)
unfolding names_fault
names_is_sound bytes names = row _ _ SectionTable 62 (Decides-or _ _ (is_false (is_there names)) (below (length bytes) (end_of names)))

-- ---- each section header

has_bytes : (h : Header) → Decides (is_there h && nat_lt 0 h.size) (ElfFaults.HasBytes h)
has_bytes h = Decides-and _ _ (is_true (is_there h)) (below 0 h.size)

misaligned : (h : Header) → Decides (is_misaligned h) (ElfFaults.IsMisaligned h)
misaligned h = Decides-and _ _ (unequal h.align 0) (is_false (is_power_of_two h.align))

misplaced : (len : ℕ) (h : Header) → Decides (is_misplaced len h) (ElfFaults.IsMisplaced len h)
misplaced len h = Decides-and _ _ (has_bytes h) (Decides-or _ _ (below len (end_of h)) (below h.offset 64))

pub has : (code : ℕ) (sections : List Section) → Decides (list_any (has_code code) sections) (ElfFaults.Has code sections)
has code [] = (λ (is : false ≡ true). absurd (cc), λ no. absurd no)
has code (t ∷ sections) =
    Decides-or (has_code code t) _ (Decides-and _ _ (is_true (is_there t.header)) (equal t.name.code code)) (has code sections)

misnamed : (names : ℕ) (before : List Section) (s : Section) → Decides (is_misnamed names before s) (ElfFaults.IsMisnamed names before s)
misnamed names before s =
    Decides-and _ _ (unequal s.name.code 0)
    (Decides-or _ _ (Decides-and _ _ (is_true (is_there s.header)) (has s.name.code before)) (equal (length before) names))

pub header_is_sound : (len names : ℕ) (before : List Section) (s : Section)
    → IsSound (header_fault len names before s) (ElfFaults.WrongHeader len names before s) (ElfFaults.WrongHeader len names before s)
unfolding header_fault
header_is_sound len names before s =
    row _ _ SectionTable s.header.at
    (Decides-or _ _ (misaligned s.header) (Decides-or _ _ (misplaced len s.header) (Decides-or _ _ (is_false s.name.ends) (misnamed names before s))))

-- ---- sections that can't be kept, or read

Rewritten : Option Section → Type 0
Rewritten o = (t : Section) × (o ≡ Some t) × (is_there t.header ≡ true) × (t.name.code ≢ 0) × (t.name.code ≤ 8)

rewritten : (o : Option Section) → Decides (is_rewritten o) (Rewritten o)
unfolding Rewritten
rewritten None = (λ (is : false ≡ true). absurd (cc), λ (t, is, there, coded, few). absurd (cc))
rewritten (Some s) =
    Decides-like (is_rewritten (Some s)) (λ (all : ((is_there s.header ≡ true) × (s.name.code ≢ 0)) × (s.name.code < 9)). (s, refl, all.0.0, all.0.1, omega (arith, all.1)))
    (λ (t, is, there, coded, few). let same : s ≡ t = cc in subst (λ (u : Section). ((is_there u.header ≡ true) × (u.name.code ≢ 0)) × (u.name.code < 9)) (sym same)
    ((there, coded), omega (arith, few)))
    (Decides-and _ _ (Decides-and _ _ (is_true (is_there s.header)) (unequal s.name.code 0)) (below s.name.code 9))

pub kept_is_sound : (m : ElfManner) (sections : List Section) (s : Section)
    → IsSound (unkept_fault_for m sections s) (ElfFaults.KeptRowsFor m OrElse sections s) (ElfFaults.KeptRowsFor m Either sections s)
unfolding unkept_fault_for Rewritten
kept_is_sound m sections s =
    and_then _ _ _ _ _ _
    (row _ _ Index s.header.at (Decides-and _ _ (is_true (is_there s.header))
    (Decides-or _ _ (is_true (ElfFaults.is_index m.sup s)) (Decides-and _ _ (is_true (has_relocations s.header)) (rewritten (slice_get sections s.header.info))))))
    (row _ _ Compressed s.header.at (Decides-like _ (λ (all : ((is_there s.header ≡ true) × (s.name.is_debug ≡ true)) × (is_compressed s.header ≡ true)). (all.0.0, all.0.1, all.1))
    (λ all. ((all.0, all.1), all.2))
    (Decides-and _ _ (Decides-and _ _ (is_true (is_there s.header)) (is_true s.name.is_debug)) (is_true (is_compressed s.header)))))

pub missing_is_sound : (sections : List Section) → IsSound (missing_fault sections) (ElfFaults.NoDebug sections) (ElfFaults.NoDebug sections)
unfolding missing_fault
missing_is_sound sections = row _ _ NoDebugInfo 0 (Decides-or _ _ (Decides-not _ (has 1 sections)) (Decides-not _ (has 2 sections)))

-- ---- all of them

pub elf_is_sound : (m : ElfManner) (bytes : List ℕ) → IsSound (elf_fault_for m bytes) (ElfFaults.IsFirstElfFaultFor m bytes) (ElfFaults.IsElfFaultFor m bytes)
unfolding elf_fault_for
elf_is_sound m bytes =
    let file = file_header bytes in
    let sections = sections_in bytes in
    and_then _ _ _ _ _ _ (identification_is_sound bytes)
    (and_then _ _ _ _ _ _ (field_is_sound m bytes file)
    (and_then _ _ _ _ _ _ (names_is_sound bytes (names_header bytes))
    (and_then _ _ _ _ _ _ (in_order _ _ _ (header_is_sound (length bytes) file.names) [] sections)
    (and_then _ _ _ _ _ _ (in_order _ _ _ (λ before. kept_is_sound m sections) [] sections)
    (missing_is_sound sections)))))

pub test_false : (test : Bool) (reason : Reason) (at : ℕ) → fault_if test reason at ≡ None → test ≡ false
test_false true reason at e = absurd cc
test_false false reason at e = refl
