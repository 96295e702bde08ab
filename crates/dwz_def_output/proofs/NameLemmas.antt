-- Names in a name table that got longer, and which sections are `.debug_sup`.
use Rattle.dwz_def_reading.specs.ElfReading.{unkept_fault_for}
use Rattle.std.proofs.Common.{◌≡◌, ◌⊎◌, inl, inr, ℕ, zero, suc, ◌≤◌, Bool, true, false, cond, eqb, List, [], ◌∷◌, ◌++◌, length, map, drop, Option, Some, None, refl, ap, ◌∙◌, codes, arith}
use Rattle.std.specs.Prelude.{◌||◌, ◌&&◌, option_map, is_some, slice_get}
use Rattle.std.specs.List.{list_any}
use Rattle.std.specs.Str.{bytes_eq}
use Rattle.std.proofs.lemmas.Bool.{and_parts, cases_lt, eqb-true, false_from_ne_true, or_left}
use Rattle.std.proofs.lemmas.List.{drop_all, drop-append-le}
use Rattle.dwz_model.specs.declared.fault.Reason.TheVariants.{Compressed, Index}
use Rattle.dwz_def_reading.specs.declared.elf.Header.{Header}
use Rattle.dwz_def_reading.specs.declared.elf.Section.{Section}
use Rattle.dwz_def_reading.specs.ElfHeaders.{has_relocations, is_compressed, is_there}
use Rattle.dwz_def_reading.specs.ElfNames.{known_name, name_at, section_name_in, section_named}
use Rattle.dwz_def_reading.specs.ElfReading.{fault_if, first_in, has_code, is_rewritten, range_in, unkept_fault}
use Rattle.dwz_def_reading.proofs.OffsetLemmas.{drop-of}
use Rattle.dwz_def_reading.proofs.ElfFaultLemmas.{test_false}
use Rattle.dwz_def_output.proofs.SectionLemmas.{or_none}
use Rattle.dwz_def_output.proofs.TableLemmas.{SameName}

-- ---- a longer name table

longer : (bytes more : List ℕ) → is_some (section_name_in bytes) ≡ true → section_name_in (bytes ++ more) ≡ section_name_in bytes
unfolding section_name_in
longer [] more some = absurd cc
longer (b ∷ bytes) more some = by (eqb b 0) (longer bytes more) some where
  mapped : (o : Option (List ℕ)) → is_some (option_map (λ name. b ∷ name) o) ≡ true → is_some o ≡ true
  mapped None is = is
  mapped (Some name) is = refl

  by : (t : Bool) → (is_some (section_name_in bytes) ≡ true → section_name_in (bytes ++ more) ≡ section_name_in bytes)
      → is_some (cond t (Some []) (option_map (λ name. b ∷ name) (section_name_in bytes))) ≡ true
      → cond t (Some []) (option_map (λ name. b ∷ name) (section_name_in (bytes ++ more))) ≡ cond t (Some []) (option_map (λ name. b ∷ name) (section_name_in bytes))
  by true rest is = refl
  by false rest is = ap (option_map (λ name. b ∷ name)) (rest (mapped (section_name_in bytes) is))

ends_some : (o : Option (List ℕ)) → (known_name o).ends ≡ true → is_some o ≡ true
ends_some None is = absurd cc
ends_some (Some name) is = refl

no_name : (table : List ℕ) (at : ℕ) → length table ≤ at → is_some (name_at table at) ≡ true → ⊥
unfolding section_name_in
no_name table at past some = let none : drop at table ≡ [] = drop_all at table past in let not_so : is_some (name_at table at) ≡ false = ap (λ (w : List ℕ). is_some (section_name_in w)) none in
    absurd cc

-- a name that ends in the table stands in the longer one too
pub same_name : (table more : List ℕ) (h : Header) → (known_name (name_at table h.name)).ends ≡ true → SameName table (table ++ more) h
same_name table more h ends =
    let some = ends_some (name_at table h.name) ends in
    elim (cases_lt (length table) h.name) [
      | inl past ↦ absurd (no_name table h.name (omega (arith, past)) some)
      | inr within ↦ ap known_name (ap section_name_in (drop-append-le h.name table more (omega (arith, within))) ∙ longer (drop h.name table) more some)
    ]

-- the name that is added begins where the table ended
pub added_name_read : (table : List ℕ) (at : ℕ) → length table ≡ at → name_at (table ++ (codes ".debug_sup" ++ 0 ∷ [])) at ≡ Some (codes ".debug_sup")
unfolding section_name_in
added_name_read table at is = ap section_name_in (drop-of at table (codes ".debug_sup" ++ 0 ∷ []) is)

-- ---- `.debug_sup`

-- the last of the codes
abbrev code_by : (a b c d e f g h i : Bool) → ℕ
code_by a b c d e f g h i = cond a 1 (cond b 2 (cond c 3 (cond d 4 (cond e 5 (cond f 6 (cond g 7 (cond h 8 (cond i 9 0))))))))

last_code : (a b c d e f g h i : Bool) → code_by a b c d e f g h i ≡ 9 → i ≡ true
last_code true b c d e f g h i is = absurd cc
last_code false true c d e f g h i is = absurd cc
last_code false false true d e f g h i is = absurd cc
last_code false false false true e f g h i is = absurd cc
last_code false false false false true f g h i is = absurd cc
last_code false false false false false true g h i is = absurd cc
last_code false false false false false false true h i is = absurd cc
last_code false false false false false false false true i is = absurd cc
last_code false false false false false false false false true is = refl
last_code false false false false false false false false false is = absurd cc

-- it has the name of an index
sup_is_index : (o : Option (List ℕ)) → (known_name o).code ≡ 9 → (known_name o).is_index ≡ true
sup_is_index None is = absurd cc
sup_is_index (Some name) is = or_left (bytes_eq name (codes ".debug_sup")) _ (last_code _ _ _ _ _ _ _ _ (bytes_eq name (codes ".debug_sup")) is)

-- so a file that is read has none
not_sup : (all : List Section) (table : List ℕ) (h : Header) → unkept_fault all (section_named table h) ≡ None → has_code 9 (section_named table h) ≡ false
unfolding unkept_fault_for
not_sup all table h none =
    let s = section_named table h in
    let unkept = is_there s.header && (s.name.is_index || (has_relocations s.header && is_rewritten (slice_get all s.header.info))) in
    let packed = fault_if (is_there s.header && s.name.is_debug && is_compressed s.header) Compressed s.header.at in
    let here : unkept ≡ false = test_false unkept Index s.header.at (or_none (fault_if unkept Index s.header.at) packed none).0 in
    false_from_ne_true (has_code 9 s) (λ has.
    let parts = and_parts (is_there s.header) (eqb s.name.code 9) has in
    let index : s.name.is_index ≡ true = sup_is_index (name_at table h.name) (eqb-true s.name.code 9 parts.1) in
    let not_so : unkept ≡ true = rw (parts.0, index) refl in
    cc)

pub no_sup : (all : List Section) (table : List ℕ) (before : List Section) (hs : List Header) → first_in (λ b. unkept_fault all) before (map (section_named table) hs) ≡ None
    → list_any (has_code 9) (map (section_named table) hs) ≡ false
unfolding first_in
no_sup all table before [] none = refl
no_sup all table before (h ∷ hs) none =
    let parts = or_none (unkept_fault all (section_named table h)) _ none in
    let here = not_sup all table h parts.0 in
    let rest = no_sup all table (before ++ section_named table h ∷ []) hs parts.1 in
    rw (here, rest) refl

-- ---- ranges

pub no_range : (code : ℕ) (xs : List Section) → list_any (has_code code) xs ≡ false → range_in xs code ≡ None
no_range code [] none = refl
no_range code (x ∷ xs) none = by (has_code code x) none (no_range code xs) where
  by : (b : Bool) → (b || list_any (has_code code) xs) ≡ false → (list_any (has_code code) xs ≡ false → range_in xs code ≡ None) → cond b (Some (x.header.offset, x.header.size)) (range_in xs code)
      ≡ None
  by true is rest = absurd cc
  by false is rest = rest is

-- of sections behind others, where these have none, or those
pub range_behind : (code : ℕ) (xs ys : List Section) → range_in xs code ≡ None → range_in (xs ++ ys) code ≡ range_in ys code
range_behind code [] ys none = refl
range_behind code (x ∷ xs) ys none = by (has_code code x) none (range_behind code xs ys) where
  by : (b : Bool) → cond b (Some (x.header.offset, x.header.size)) (range_in xs code) ≡ None → (range_in xs code ≡ None → range_in (xs ++ ys) code ≡ range_in ys code)
      → cond b (Some (x.header.offset, x.header.size)) (range_in (xs ++ ys) code) ≡ range_in ys code
  by true is rest = absurd cc
  by false is rest = rest is

pub range_front : (code : ℕ) (xs ys : List Section) → range_in ys code ≡ None → range_in (xs ++ ys) code ≡ range_in xs code
range_front code [] ys none = none
range_front code (x ∷ xs) ys none = ap (λ (o : Option (ℕ × ℕ)). cond (has_code code x) (Some (x.header.offset, x.header.size)) o) (range_front code xs ys none)

-- ---- a section of two lists

pub in_both : (xs ys : List Section) (k : ℕ) (s : Section) → slice_get (xs ++ ys) k ≡ Some s → (slice_get xs k ≡ Some s) ⊎ ((j : ℕ) × (slice_get ys j ≡ Some s))
in_both [] ys k s is = inr (k, is)
in_both (x ∷ xs) ys zero s is = inl is
in_both (x ∷ xs) ys (suc k) s is = in_both xs ys k s is

pub in_front : (xs ys : List Section) (k : ℕ) (s : Section) → slice_get xs k ≡ Some s → slice_get (xs ++ ys) k ≡ Some s
in_front [] ys k s is = absurd cc
in_front (x ∷ xs) ys zero s is = is
in_front (x ∷ xs) ys (suc k) s is = in_front xs ys k s is

pub in_last : (xs : List Section) (s : Section) → slice_get (xs ++ s ∷ []) (length xs) ≡ Some s
in_last [] s = refl
in_last (x ∷ xs) s = in_last xs s
