-- Each section of the new file, one by one: it lies in the file, and has its new content or the old one.
use Rattle.std.proofs.Common.{◌≡◌, ◌≢◌, inl, inr, ℕ, zero, suc, ◌+◌, ◌<◌, ◌≤◌, Bool, true, false, cond, eqb, ltb, List, [], ◌++◌, length, take, drop, get_or, Option, Some, None, refl, sym, ap, subst}
use Rattle.std.proofs.Common.{◌∙◌, arith}
use Rattle.std.specs.Prelude.{◌&&◌, ◌||◌, not, slice_get, is_some}
use Rattle.std.specs.Option.{unwrap_or}
use Rattle.std.proofs.lemmas.Bool.{and_cases, and_from, and_left, and_right, cases_Bool, cases_lt, eq-eqb, le-ltb, lt-ltb, ltb-false, ne_eqb, not-false, or_from, or_parts}
use Rattle.std.proofs.lemmas.List.{append-nil}
use Rattle.dwz_def_reading.specs.declared.elf.Header.{Header}
use Rattle.dwz_def_reading.specs.declared.elf.Moved.{Moved}
use Rattle.dwz_def_reading.specs.declared.elf.Section.{Section}
use Rattle.dwz_def_reading.specs.ElfHeaders.{content, end_of, is_loaded, is_there}
use Rattle.dwz_def_reading.specs.ElfLayout.{Changes, IsOrder, added_name, content_at, is_changed, is_inside, is_moving, keep_end, moved_in, new_content, placed_from, replacement}
use Rattle.dwz_def_reading.specs.ElfReading.{ElfView, is_misplaced}
use Rattle.dwz_def_output.proofs.PieceLemmas.{has_part, same_part}
use Rattle.dwz_def_output.specs.Rebuilt.{IsCarried}
use Rattle.dwz_def_output.proofs.PlaceLemmas.{IsPlaced, moves_there, stays_there}
use Rattle.dwz_def_output.proofs.TableLemmas.{moved_to}

-- ---- what is known of a section of the old file

-- no file is without a name, so the name table has bytes
pub record IsOld (e : ElfView) (changes : Changes) (input : List ℕ) (index : ℕ) (s : Section) : Type 0 where
  pub at_index : slice_get e.sections index ≡ Some s
  pub placed : is_misplaced (length input) s.header ≡ false
  pub beside : is_inside e changes index s ≡ false
  pub loaded : is_there s.header ≡ true → is_loaded s.header ≡ true → end_of s.header ≤ keep_end e
  pub given : is_there s.header ≡ true → is_loaded s.header ≡ true → s.header.size ≡ 0 → unwrap_or (replacement changes s) [] ≡ []
  pub names : index ≡ e.file.names → 0 < s.header.size

-- what is known of the new file
pub record IsNew (e : ElfView) (changes : Changes) (input out : List ℕ) (order : List (ℕ × ℕ)) : Type 0 where
  pub some : 64 ≤ keep_end e
  pub within : keep_end e ≤ length out
  pub same : (i : ℕ) → 64 ≤ i → i < keep_end e → get_or out i 0 ≡ get_or input i 0
  pub moved : (index : ℕ) (m : Moved) → moved_in (placed_from e (content_at e changes input) (keep_end e) order) index ≡ Some m
      → IsPlaced (content_at e changes input) (keep_end e) (length out) out index m

-- a section of the new file is that of the old one, and its bytes lie in the file
pub record IsMadeAt (out wanted : List ℕ) (old new : Section) : Type 0 where
  pub carried : IsCarried out wanted old new
  pub placed : is_misplaced (length out) new.header ≡ false

-- what is added to the content of the section with an index
abbrev added_to : ElfView → Changes → ℕ → List ℕ
added_to e changes index = cond (eqb index e.file.names) (added_name changes.sup) []

-- the content in the new file is the new one, or the old one with what is added to it
content_of : (e : ElfView) (changes : Changes) (input : List ℕ) (index : ℕ) (s : Section) → slice_get e.sections index ≡ Some s
    → content_at e changes input index ≡ unwrap_or (replacement changes s) (content input s.header ++ added_to e changes index)
unfolding content_at
content_of e changes input index s is = ap (new_content e changes input index) is

-- nothing is added to a section that isn't the name table
nothing_added : (e : ElfView) (changes : Changes) (index : ℕ) → index ≢ e.file.names → added_to e changes index ≡ []
nothing_added e changes index other = rw (ne_eqb index e.file.names other) refl

-- nor to one that isn't changed
added_none : (sup : Option (List ℕ)) (b : Bool) → (is_some sup && b) ≡ false → cond b (added_name sup) [] ≡ []
added_none None true is = refl
added_none None false is = refl
added_none (Some sup) true is = absurd cc
added_none (Some sup) false is = refl

not_some : (o : Option (List ℕ)) → is_some o ≡ false → o ≡ None
not_some None is = refl
not_some (Some b) is = absurd cc

-- bytes that are kept
kept_content : (input out : List ℕ) (keep offset size : ℕ) → keep ≤ length out → ((i : ℕ) → 64 ≤ i → i < keep → get_or out i 0 ≡ get_or input i 0) → offset + size ≤ keep
    → (0 < size → (64 ≤ offset) × (offset + size ≤ length input)) → take size (drop offset out) ≡ take size (drop offset input)
kept_content input out keep offset zero within same inside placed = refl
kept_content input out keep offset (suc n) within same inside placed =
    let where_it_is = placed (omega arith) in
    same_part out input offset offset (suc n) (omega (arith, within, inside)) where_it_is.1 (λ i less. same (offset + i) (omega (arith, where_it_is.0)) (omega (arith, inside, less)))

-- where a section that is there has bytes
pub placed_bytes : (len : ℕ) (h : Header) → is_there h ≡ true → is_misplaced len h ≡ false → 0 < h.size → (64 ≤ h.offset) × (end_of h ≤ len)
placed_bytes len h there placed some =
    let first : (is_there h && ltb 0 h.size) ≡ true = and_from (is_there h) (ltb 0 h.size) there (lt-ltb 0 h.size some) in
    let rest : (ltb len (end_of h) || ltb h.offset 64) ≡ false = elim (and_cases (is_there h && ltb 0 h.size) (ltb len (end_of h) || ltb h.offset 64) placed) [
      | inl not_so ↦ absurd cc
      | inr not_so ↦ not_so
    ] in
    let parts = or_parts (ltb len (end_of h)) (ltb h.offset 64) rest in
    (ltb-false h.offset 64 parts.1, ltb-false len (end_of h) parts.0)

-- and the other way round
placed_if : (len : ℕ) (h : Header) → (0 < h.size → (64 ≤ h.offset) × (end_of h ≤ len)) → is_misplaced len h ≡ false
placed_if len h placed =
    elim (cases_lt 0 h.size) [
      | inl some ↦ and_right (is_there h && ltb 0 h.size) (ltb len (end_of h) || ltb h.offset 64)
          (or_from (ltb len (end_of h)) (ltb h.offset 64) (le-ltb len (end_of h) (placed some).1) (le-ltb h.offset 64 (placed some).0))
      | inr none ↦ and_left (is_there h && ltb 0 h.size) (ltb len (end_of h) || ltb h.offset 64) (and_right (is_there h) (ltb 0 h.size) (le-ltb 0 h.size none))
    ]

module _ (e : ElfView) (changes : Changes) (input out : List ℕ) (order : List (ℕ × ℕ)) (is_order : IsOrder e order) (new : IsNew e changes input out order) where
  Made : ℕ → ℕ → Section → Option Moved → Type 0
  Made index place s o = IsMadeAt out (content_at e changes input index) s (record { header = moved_to place o s.header; name = s.name })

  -- a section that is written again
  made_moved : (index place : ℕ) (s : Section) (m : Moved) → slice_get e.sections index ≡ Some s → IsPlaced (content_at e changes input) (keep_end e) (length out) out index m
      → Made index place s (Some m)
  unfolding Made
  made_moved index place s m is placed = record {
    carried = record {
      named = refl;
      name = refl;
      kind = refl;
      flags = refl;
      info = refl;
      align = refl;
      holds = λ there. has_part out (content_at e changes input index) m.at m.size placed.here
          placed.size;
    };
    placed = placed_if (length out) (moved_to place (Some m) s.header) (λ some. (omega (arith, placed.behind, new.some), placed.within));
  }

  -- one that isn't there
  made_absent : (index place : ℕ) (s : Section) → is_there s.header ≡ false → Made index place s None
  unfolding Made
  made_absent index place s absent = record {
    carried = record { named = refl; name = refl; kind = refl; flags = refl; info = refl; align = refl; holds = λ there. absurd cc };
    placed = and_left (is_there s.header && ltb 0 s.header.size) (ltb (length out) (end_of s.header) || ltb s.header.offset 64) (and_left (is_there s.header) (ltb 0 s.header.size) absent);
  }

  -- one that lies among the kept bytes
  made_inside : (index place : ℕ) (s : Section) → IsOld e changes input index s → is_there s.header ≡ true → s.header.offset < keep_end e → Made index place s None
  unfolding Made
  made_inside index place s old there less =
      let test : (is_changed e changes index s || ltb (keep_end e) (end_of s.header)) ≡ false =
      elim (and_cases (is_there s.header) (ltb s.header.offset (keep_end e) && (is_changed e changes index s || ltb (keep_end e) (end_of s.header))) old.beside) [
        | inl not_so ↦ absurd cc
        | inr not_so ↦ elim (and_cases (ltb s.header.offset (keep_end e)) (is_changed e changes index s || ltb (keep_end e) (end_of s.header)) not_so) [
          | inl not_below ↦ absurd (let yes = lt-ltb s.header.offset (keep_end e) less in cc)
          | inr rest ↦ rest
        ]
      ] in
      let parts = or_parts (is_changed e changes index s) (ltb (keep_end e) (end_of s.header)) test in
      let unchanged = or_parts (is_some (replacement changes s)) (is_some changes.sup && eqb index e.file.names) parts.0 in
      let none : replacement changes s ≡ None = not_some (replacement changes s) unchanged.0 in
      let same : content_at e changes input index ≡ content input s.header =
      content_of e changes input index s old.at_index
      ∙ (ap (λ o. unwrap_or o (content input s.header ++ added_to e changes index)) none
      ∙ (ap (λ (w : List ℕ). content input s.header ++ w) (added_none changes.sup (eqb index e.file.names) unchanged.1) ∙ append-nil (content input s.header))) in
      let inside : end_of s.header ≤ keep_end e = ltb-false (keep_end e) (end_of s.header) parts.1 in
      let bytes = placed_bytes (length input) s.header there old.placed in
      record {
        carried = record {
          named = refl;
          name = refl;
          kind = refl;
          flags = refl;
          info = refl;
          align = refl;
          holds = λ is. kept_content input out (keep_end e) s.header.offset s.header.size new.within
              new.same inside bytes ∙ sym same;
        };
        placed = placed_if (length out) (moved_to place None s.header) (λ some. ((bytes some).0, omega (arith, inside, new.within)));
      }

  -- a loaded one at their end has no bytes
  made_empty : (index place : ℕ) (s : Section) → IsOld e changes input index s → is_there s.header ≡ true → is_loaded s.header ≡ true → keep_end e ≤ s.header.offset → Made index place s None
  unfolding Made
  made_empty index place s old there loaded past =
      let size : s.header.size ≡ 0 = omega (arith, old.loaded there loaded, past) in
      let other : index ≢ e.file.names = λ same. let some = old.names same in omega (arith, some, size) in
      let no_bytes : (bytes : List ℕ) → content bytes s.header ≡ [] = λ bytes. ap (λ n. take n (drop s.header.offset bytes)) size in
      record {
        carried = record {
          named = refl;
          name = refl;
          kind = refl;
          flags = refl;
          info = refl;
          align = refl;
          holds = λ is. no_bytes out ∙ sym
              (content_of e changes input index s old.at_index
              ∙ (ap (λ (w : List ℕ). unwrap_or (replacement changes s) (content input s.header ++ w)) (nothing_added e changes index other)
              ∙ (ap (λ (w : List ℕ). unwrap_or (replacement changes s) (w ++ [])) (no_bytes input) ∙ old.given there loaded size)));
        };
        placed = placed_if (length out) (moved_to place None s.header) (λ some. absurd (omega (arith, some, size)));
      }

  pub made_one : (index place : ℕ) (s : Section) → IsOld e changes input index s
      → IsMadeAt out (content_at e changes input index) s (record { header = moved_to place (moved_in (placed_from e (content_at e changes input) (keep_end e) order) index) s.header; name = s.name })
  unfolding Made
  made_one index place s old = by (is_moving (keep_end e) s.header) refl where
    contents : ℕ → List ℕ
    contents = content_at e changes input

    stays : Made index place s None → is_moving (keep_end e) s.header ≡ false → Made index place s (moved_in (placed_from e contents (keep_end e) order) index)
    stays is none = subst (Made index place s) (sym (stays_there e order is_order contents (keep_end e) index s old.at_index none)) is

    by : (b : Bool) → is_moving (keep_end e) s.header ≡ b → Made index place s (moved_in (placed_from e contents (keep_end e) order) index)
    by true moves =
        let there = moves_there e order is_order contents (keep_end e) index s old.at_index moves in
        subst (Made index place s) (sym there.1) (made_moved index place s there.0 old.at_index (new.moved index there.0 there.1))
    by false none = stays here none where
      here : Made index place s None
      here = elim (cases_Bool (is_there s.header)) [
        | inr absent ↦ made_absent index place s absent
        | inl there ↦ elim (cases_lt s.header.offset (keep_end e)) [
          | inl less ↦ made_inside index place s old there less
          | inr past ↦ made_empty index place s old there (is_loaded_there there past) past
        ]
      ] where
        is_loaded_there : is_there s.header ≡ true → keep_end e ≤ s.header.offset → is_loaded s.header ≡ true
        is_loaded_there there past =
            elim (and_cases (is_there s.header) (not (is_loaded s.header) && not (ltb s.header.offset (keep_end e))) none) [
              | inl not_so ↦ absurd cc
              | inr rest ↦ elim (and_cases (not (is_loaded s.header)) (not (ltb s.header.offset (keep_end e))) rest) [
                | inl loaded ↦ not-false (is_loaded s.header) loaded
                | inr below ↦ absurd (let yes = not-false (ltb s.header.offset (keep_end e)) below in let no = le-ltb s.header.offset (keep_end e) past in cc)
              ]
            ]

-- the section of a code that isn't that of the name table holds its new content, or its old one
pub coded_content : (e : ElfView) (changes : Changes) (input : List ℕ) (index : ℕ) (s : Section) → slice_get e.sections index ≡ Some s → index ≢ e.file.names
    → content_at e changes input index ≡ unwrap_or (replacement changes s) (content input s.header)
coded_content e changes input index s is other =
    content_of e changes input index s is
    ∙ ap (unwrap_or (replacement changes s)) (ap (λ (w : List ℕ). content input s.header ++ w) (nothing_added e changes index other) ∙ append-nil (content input s.header))

-- the name table, which has no code, holds its old content, with what is added
pub names_content : (e : ElfView) (changes : Changes) (input : List ℕ) (index : ℕ) (s : Section) → slice_get e.sections index ≡ Some s → index ≡ e.file.names → s.name.code ≡ 0
    → content_at e changes input index ≡ content input s.header ++ added_name changes.sup
names_content e changes input index s is here code =
    let no_new : replacement changes s ≡ None = rw (eq-eqb s.name.code 0 code) refl in
    content_of e changes input index s is
    ∙ (ap (λ o. unwrap_or o (content input s.header ++ added_to e changes index)) no_new
    ∙ ap (λ (b : Bool). content input s.header ++ cond b (added_name changes.sup) []) (eq-eqb index e.file.names here))
