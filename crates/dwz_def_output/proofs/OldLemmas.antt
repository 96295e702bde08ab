-- What is known of each section of a file without a fault that can be laid out.
use Rattle.std.proofs.Common.{◌≡◌, ◌≢◌, inl, inr, ℕ, zero, suc, ◌+◌, ◌<◌, ◌≤◌, Bool, true, false, cond, eqb, List, [], ◌∷◌, ◌++◌, length, Option, Some, None, refl, sym, ap, ◌∙◌, arith}
use Rattle.std.specs.Prelude.{◌&&◌, ◌||◌, not, slice_get, All, Any}
use Rattle.std.specs.Option.{unwrap_or}
use Rattle.std.specs.List.{list_any}
use Rattle.std.proofs.lemmas.Bool.{and_cases, and_from, and_parts, eq-eqb, eqb-false, eqb-true, false_from_ne_true, ne_eqb, not-false, or_cases, or_left, or_parts, or_right}
use Rattle.std.proofs.lemmas.List.{length_push}
use Rattle.std.proofs.lemmas.List.Elements.{All-head, All-tail}
use Rattle.std.proofs.lemmas.Option.{slice_get_read}
use Rattle.dwz_def_reading.proofs.GroupLemmas.{chosen}
use Rattle.dwz_model.specs.declared.fault.Fault.{Fault}
use Rattle.dwz_def_reading.specs.declared.elf.NewContent.{NewContent}
use Rattle.dwz_def_reading.specs.declared.elf.Section.{Section}
use Rattle.dwz_def_reading.specs.ElfHeaders.{end_of, is_loaded, is_there, program_headers_end}
use Rattle.dwz_def_reading.specs.ElfLayout.{Changes, content_for, inside_fault, is_inside, keep_end, layout_fault, loaded_end, replacement}
use Rattle.dwz_def_reading.specs.ElfReading.{ElfView, first_in, has_code, header_fault, is_misaligned, is_misnamed, is_misplaced}
use Rattle.dwz_def_reading.proofs.ElfFaultLemmas.{test_false}
use Rattle.dwz_def_output.specs.Rebuilt.{CanBeGiven, CanChange}
use Rattle.dwz_def_output.proofs.MovedLemmas.{IsOld}
use Rattle.dwz_def_output.proofs.SectionLemmas.{or_none}

-- ---- one item of a list

-- where no item has a fault, none has one behind those before it
pub first_at : {X : Type 0} (f : List X → X → Option Fault) (before xs : List X) (k : ℕ) (x : X) → first_in f before xs ≡ None → slice_get xs k ≡ Some x
    → (b : List X) × (length b ≡ length before + k) × (f b x ≡ None)
unfolding first_in
first_at f before [] k x none is = absurd cc
first_at f before (y ∷ xs) zero x none is =
    let same : y ≡ x = cc in
    let here = (or_none (f before y) (first_in f (before ++ y ∷ []) xs) none).0 in
    (before, omega arith, ap (f before) (sym same) ∙ here)
first_at f before (y ∷ xs) (suc k) x none is =
    let rest = (or_none (f before y) (first_in f (before ++ y ∷ []) xs) none).1 in
    let found = first_at f (before ++ y ∷ []) xs k x rest is in
    (found.0, omega (arith, found.1, length_push before y), found.2)

any_at : {X : Type 0} (p : X → Bool) (xs : List X) (k : ℕ) (x : X) → slice_get xs k ≡ Some x → p x ≡ true → list_any p xs ≡ true
any_at p [] k x is passes = absurd cc
any_at p (y ∷ xs) zero x is passes = let same : y ≡ x = cc in or_left (p y) (list_any p xs) (ap p same ∙ passes)
any_at p (y ∷ xs) (suc k) x is passes = or_right (p y) (list_any p xs) (any_at p xs k x is passes)

any_front : {X : Type 0} (p : X → Bool) (xs ys : List X) → list_any p xs ≡ true → list_any p (xs ++ ys) ≡ true
any_front p [] ys any = absurd cc
any_front p (x ∷ xs) ys any =
    elim (or_cases (p x) (list_any p xs) any) [
      | inl is ↦ or_left (p x) (list_any p (xs ++ ys)) is
      | inr more ↦ or_right (p x) (list_any p (xs ++ ys)) (any_front p xs ys more)
    ]

any_last : {X : Type 0} (p : X → Bool) (xs : List X) (x : X) → p x ≡ true → list_any p (xs ++ x ∷ []) ≡ true
any_last p [] x passes = or_left (p x) false passes
any_last p (y ∷ xs) x passes = or_right (p y) (list_any p (xs ++ x ∷ [])) (any_last p xs x passes)

-- ---- no two sections have one code

not_misnamed : (len names : ℕ) (before : List Section) (s : Section) → header_fault len names before s ≡ None → is_misnamed names before s ≡ false
unfolding header_fault
not_misnamed len names before s none =
    let wrong = or_parts (is_misaligned s.header) (is_misplaced len s.header || (not s.name.ends || is_misnamed names before s)) (test_false _ _ _ none) in
    let more = or_parts (is_misplaced len s.header) (not s.name.ends || is_misnamed names before s) wrong.1 in
    (or_parts (not s.name.ends) (is_misnamed names before s) more.1).1

pub not_misplaced : (len names : ℕ) (before : List Section) (s : Section) → header_fault len names before s ≡ None → is_misplaced len s.header ≡ false
unfolding header_fault
not_misplaced len names before s none =
    let wrong = or_parts (is_misaligned s.header) (is_misplaced len s.header || (not s.name.ends || is_misnamed names before s)) (test_false _ _ _ none) in
    (or_parts (is_misplaced len s.header) (not s.name.ends || is_misnamed names before s) wrong.1).0

-- a section with a code of the sections before it
not_again : (len names code : ℕ) (before : List Section) (s : Section) → code ≢ 0 → header_fault len names before s ≡ None → list_any (has_code code) before ≡ true → has_code code s ≡ false
not_again len names code before s coded none any =
    false_from_ne_true (has_code code s) (λ has.
    let parts = and_parts (is_there s.header) (eqb s.name.code code) has in
    let is_code : s.name.code ≡ code = eqb-true s.name.code code parts.1 in
    let some : not (eqb s.name.code 0) ≡ true = ap not (ne_eqb s.name.code 0 (λ zero_code. coded (sym is_code ∙ zero_code))) in
    let twice : (is_there s.header && list_any (has_code s.name.code) before) ≡ true = and_from (is_there s.header) (list_any (has_code s.name.code) before) parts.0
    (ap (λ c. list_any (has_code c) before) is_code ∙ any) in
    let misnamed : is_misnamed names before s ≡ true = and_from (not (eqb s.name.code 0)) _ some
    (or_left (is_there s.header && list_any (has_code s.name.code) before) (eqb (length before) names) twice) in
    let fine = not_misnamed len names before s none in
    cc)

none_again : (len names code : ℕ) (before xs : List Section) (k : ℕ) (s : Section) → code ≢ 0 → first_in (header_fault len names) before xs ≡ None → list_any (has_code code) before ≡ true
    → slice_get xs k ≡ Some s → has_code code s ≡ false
unfolding first_in
none_again len names code before [] k s coded none any is = absurd cc
none_again len names code before (x ∷ xs) zero s coded none any is =
    let same : x ≡ s = cc in
    ap (has_code code) (sym same) ∙ not_again len names code before x coded (or_none (header_fault len names before x) (first_in (header_fault len names) (before ++ x ∷ []) xs) none).0 any
none_again len names code before (x ∷ xs) (suc k) s coded none any is =
    none_again len names code (before ++ x ∷ []) xs k s coded (or_none (header_fault len names before x) (first_in (header_fault len names) (before ++ x ∷ []) xs) none).1
    (any_front (has_code code) before (x ∷ []) any) is

pub only_one : (len names code : ℕ) (before xs : List Section) (j k : ℕ) (s t : Section) → code ≢ 0 → first_in (header_fault len names) before xs ≡ None → slice_get xs j ≡ Some s
    → slice_get xs k ≡ Some t → has_code code s ≡ true → has_code code t ≡ true → s ≡ t
unfolding first_in
only_one len names code before [] j k s t coded none is also has has_too = absurd cc
only_one len names code before (x ∷ xs) zero zero s t coded none is also has has_too = cc
only_one len names code before (x ∷ xs) zero (suc k) s t coded none is also has has_too =
    let same : x ≡ s = cc in
    let rest = (or_none (header_fault len names before x) (first_in (header_fault len names) (before ++ x ∷ []) xs) none).1 in
    let no_more = none_again len names code (before ++ x ∷ []) xs k t coded rest (any_last (has_code code) before x (ap (has_code code) same ∙ has)) also in
    absurd cc
only_one len names code before (x ∷ xs) (suc j) zero s t coded none is also has has_too =
    let same : x ≡ t = cc in
    let rest = (or_none (header_fault len names before x) (first_in (header_fault len names) (before ++ x ∷ []) xs) none).1 in
    let no_more = none_again len names code (before ++ x ∷ []) xs j s coded rest (any_last (has_code code) before x (ap (has_code code) same ∙ has_too)) is in
    absurd cc
only_one len names code before (x ∷ xs) (suc j) (suc k) s t coded none is also has has_too =
    only_one len names code (before ++ x ∷ []) xs j k s t coded (or_none (header_fault len names before x) (first_in (header_fault len names) (before ++ x ∷ []) xs) none).1 is also has has_too

-- ---- what is kept

pub keep_some : (e : ElfView) → 64 ≤ keep_end e
unfolding keep_end
keep_some e = omega arith

pub keep_programs : (e : ElfView) → e.file.program_headers ≢ 0 → program_headers_end e.file ≤ keep_end e
unfolding keep_end
keep_programs e some = rw (ne_eqb e.file.program_headers 0 some) (omega arith)

keep_loaded : (e : ElfView) → loaded_end e.sections ≤ keep_end e
unfolding keep_end
keep_loaded e = omega arith

loaded_within : (xs : List Section) (k : ℕ) (s : Section) → slice_get xs k ≡ Some s → is_there s.header ≡ true → is_loaded s.header ≡ true → end_of s.header ≤ loaded_end xs
loaded_within [] k s is there loaded = absurd cc
loaded_within (x ∷ xs) zero s is there loaded =
    let same : x ≡ s = cc in
    let test : (is_there x.header && is_loaded x.header) ≡ true = ap (λ (w : Section). is_there w.header && is_loaded w.header) same ∙ and_from (is_there s.header) (is_loaded s.header) there loaded in
    let end : end_of x.header ≡ end_of s.header = ap (λ (w : Section). end_of w.header) same in
    rw test (omega (arith, end))
loaded_within (x ∷ xs) (suc k) s is there loaded =
    let rest = loaded_within xs k s is there loaded in
    omega (arith, rest)

pub loaded_kept : (e : ElfView) (k : ℕ) (s : Section) → slice_get e.sections k ≡ Some s → is_there s.header ≡ true → is_loaded s.header ≡ true → end_of s.header ≤ keep_end e
loaded_kept e k s is there loaded = omega (arith, loaded_within e.sections k s is there loaded, keep_loaded e)

-- ---- what is new

-- the new content of a code is one that can be given
new_found : (P : NewContent → Type 0) (new : List NewContent) (code : ℕ) (bytes : List ℕ) → All P new → content_for new code ≡ Some bytes → (n : NewContent) × (n.code ≡ code) × (n.bytes ≡ bytes) × P n
new_found P [] code bytes all is = absurd cc
new_found P (n ∷ new) code bytes all is =
    elim (chosen (eqb n.code code) (Some n.bytes) (content_for new code) (Some bytes) is) [
      | inl p ↦ let same : n.bytes ≡ bytes = cc in (n, eqb-true n.code code p.0, same, All-head P n new all)
      | inr p ↦ new_found P new code bytes (All-tail P n new all) p.1
    ]

-- a section that has a code
given_there : (sections : List Section) (n : NewContent) → Any (CanBeGiven n) sections → (k : ℕ) × (s : Section) × (slice_get sections k ≡ Some s) × CanBeGiven n s
given_there sections n (k, s, less, is, given) = (k, s, slice_get_read sections (length sections) k s refl less (sym is), given)

pub no_content : (sections : List Section) (changes : Changes) (code : ℕ) → CanChange sections changes → list_any (has_code code) sections ≡ false → content_for changes.new code ≡ None
no_content sections changes code can none = by (content_for changes.new code) refl where
  by : (o : Option (List ℕ)) → content_for changes.new code ≡ o → o ≡ None
  by None is = refl
  by (Some bytes) is =
      let found = new_found (λ n. Any (CanBeGiven n) sections) changes.new code bytes can.given is in
      let n = found.0 in
      let there = given_there sections n found.3 in
      let s = there.1 in
      let has : has_code code s ≡ true = and_from (is_there s.header) (eqb s.name.code code) there.3.0 (eq-eqb s.name.code code (there.3.1 ∙ found.1)) in
      let any = any_at (has_code code) sections there.0 s there.2 has in
      absurd cc

-- a loaded section without bytes gets none
given_none : (len names : ℕ) (sections : List Section) (changes : Changes) (k : ℕ) (s : Section) → first_in (header_fault len names) [] sections ≡ None → CanChange sections changes
    → slice_get sections k ≡ Some s → is_there s.header ≡ true → is_loaded s.header ≡ true → s.header.size ≡ 0 → unwrap_or (replacement changes s) [] ≡ []
given_none len names sections changes k s none can is there loaded size = by (eqb s.name.code 0) refl where
  new : (o : Option (List ℕ)) → s.name.code ≢ 0 → content_for changes.new s.name.code ≡ o → unwrap_or o [] ≡ []
  new None coded found = refl
  new (Some bytes) coded found =
      let one = new_found (λ n. Any (CanBeGiven n) sections) changes.new s.name.code bytes can.given found in
      let n = one.0 in
      let other = given_there sections n one.3 in
      let t = other.1 in
      let has : has_code s.name.code s ≡ true = and_from (is_there s.header) (eqb s.name.code s.name.code) there (eq-eqb s.name.code s.name.code refl) in
      let has_too : has_code s.name.code t ≡ true = and_from (is_there t.header) (eqb t.name.code s.name.code) other.3.0 (eq-eqb t.name.code s.name.code (other.3.1 ∙ one.1)) in
      let same : s ≡ t = only_one len names s.name.code [] sections k other.0 s t coded none is other.2 has has_too in
      sym one.2 ∙ other.3.2 (ap (λ (w : Section). is_loaded w.header) (sym same) ∙ loaded) (ap (λ (w : Section). w.header.size) (sym same) ∙ size)

  by : (b : Bool) → eqb s.name.code 0 ≡ b → unwrap_or (cond b None (content_for changes.new s.name.code)) [] ≡ []
  by true code = refl
  by false code = new (content_for changes.new s.name.code) (eqb-false s.name.code 0 code) refl

pub is_old : (e : ElfView) (changes : Changes) (input : List ℕ) (names : ℕ) → ((s : Section) → slice_get e.sections e.file.names ≡ Some s → 0 < s.header.size)
    → first_in (header_fault (length input) names) [] e.sections ≡ None → layout_fault e changes ≡ None → CanChange e.sections changes → (k : ℕ) (s : Section) → slice_get e.sections k ≡ Some s
    → IsOld e changes input k s
unfolding layout_fault inside_fault
is_old e changes input names full none fits can k s is =
    let header = first_at (header_fault (length input) names) [] e.sections k s none is in
    let inside = first_at (inside_fault e changes) [] e.sections k s fits is in
    let place : length inside.0 ≡ k = omega (arith, inside.1) in
    record {
      at_index = is;
      placed = not_misplaced (length input) names header.0 s header.2;
      beside = ap (λ n. is_inside e changes n s) (sym place) ∙ test_false _ _ _ inside.2;
      loaded = loaded_kept e k s is;
      given = given_none (length input) names e.sections changes k s none can is;
      names = λ same. full s (ap (slice_get e.sections) (sym same) ∙ is);
    }

-- the name table has no code
pub names_no_code : (len names : ℕ) (sections : List Section) (s : Section) → first_in (header_fault len names) [] sections ≡ None → slice_get sections names ≡ Some s → s.name.code ≡ 0
names_no_code len names sections s none is =
    let header = first_at (header_fault len names) [] sections names s none is in
    let place : length header.0 ≡ names = omega (arith, header.1) in
    let fine = not_misnamed len names header.0 s header.2 in
    elim (and_cases (not (eqb s.name.code 0)) ((is_there s.header && list_any (has_code s.name.code) header.0) || eqb (length header.0) names) fine) [
      | inl none_coded ↦ eqb-true s.name.code 0 (not-false (eqb s.name.code 0) none_coded)
      | inr other ↦
          let parts = or_parts (is_there s.header && list_any (has_code s.name.code) header.0) (eqb (length header.0) names) other in
          let yes = eq-eqb (length header.0) names place in
          absurd cc
    ]
