-- The numbers that an entry's values have in the common file, which number files, are those of their paths.
use Rattle.std.proofs.Common.{◌≡◌, ℕ, zero, suc, ◌+◌, Bool, true, false, List, [], ◌∷◌, ◌++◌, ◌&&◌, cond, length, map, Ok, Option, Some, None, slice_get, refl, sym, ap, subst, ◌∙◌, inl, arith}
use Rattle.std.specs.List.{filter, flat_map}
use Rattle.std.specs.Option.{option_to_list}
use Rattle.std.proofs.lemmas.List.{length-append}
use Rattle.std.proofs.lemmas.List.Concat.{flat_map-cons}
use Rattle.std.proofs.lemmas.List.Sums.{length-filter}
use Rattle.dwz_def_reading.specs.Entries.{RawAttr}
use Rattle.dwz_def_reading.specs.Lists.{In}
use Rattle.dwz_def_reading.proofs.ListFacts.{get_first}
use Rattle.dwz_def_reading.specs.Documents.{Attr, Value, attr_map}
use Rattle.dwz_def_reading.specs.LineTables.{FileTable}
use Rattle.dwz_def_reading.specs.Meanings.{MeaningContext, number_of}
use Rattle.dwz_def_reading.specs.Classes.{OfConstant}
use Rattle.dwz_def_reading.specs.Classes.{Class, class_of, names_file}
use Rattle.dwz_def_reading.specs.Meant.{attr_with, meaning}
use Rattle.dwz_def_tops.specs.Spots.{EntryName}
use Rattle.dwz_unit.specs.Rows.{EntryRow}
use Rattle.dwz_graph.proofs.TopLemmas.{get_later}
use Rattle.dwz_label_entries.specs.Plain.{KnowsLine}
use Rattle.dwz_layout_numbers.specs.declared.firsts.CountsBefore.{CountsBefore}
use Rattle.dwz_layout_numbers.specs.Befores.{befores_from, behind, file_count, is_constant, is_pair_file}
use Rattle.dwz_def_encoding.specs.Placing.{file_number, has_text}
use Rattle.dwz_law_layout.specs.Knows.{files_in, numbers_by}
use Rattle.dwz_encode_common.specs.Gathered.{path_by}
use Rattle.dwz_encode_common.specs.Numbers.{number_in, number_read}
use Rattle.dwz_encode_common.specs.Paths.{path_in, path_read}
use Rattle.dwz_encode_common.proofs.FileNumbers.{number_law}
use Rattle.dwz_encode_common.proofs.ValuePaths.{path_given}

-- ---- how many an entry has

value_many : (paths : List (List ℕ)) (tables : List FileTable) (line : Option ℕ) (a : RawAttr)
    → length (number_read paths tables line a) ≡ cond (is_pair_file a.pair) 1 0
value_many paths tables line a = go (is_pair_file a.pair) where
  go : (b : Bool) → length (cond b (number_in paths (path_in tables line (number_of a.raw)) ∷ []) []) ≡ cond b 1 0
  go true = refl
  go false = refl

pub attrs_many : (paths : List (List ℕ)) (tables : List FileTable) (line : Option ℕ) (attrs : List RawAttr)
    → length (flat_map (number_read paths tables line) attrs) ≡ length (filter (λ (a : RawAttr). is_pair_file a.pair) attrs)
attrs_many paths tables line [] = refl
attrs_many paths tables line (a ∷ attrs) =
    ap (λ (w : List ℕ). length w) (flat_map-cons (number_read paths tables line) a attrs)
    ∙ length-append (number_read paths tables line a) (flat_map (number_read paths tables line) attrs)
    ∙ (λ i. value_many paths tables line a i + attrs_many paths tables line attrs i)
    ∙ go (is_pair_file a.pair)
  where
    go : (b : Bool) → cond b 1 0 + length (filter (λ (x : RawAttr). is_pair_file x.pair) attrs)
        ≡ length (cond b (a ∷ filter (λ (x : RawAttr). is_pair_file x.pair) attrs) (filter (λ (x : RawAttr). is_pair_file x.pair) attrs))
    go true = omega arith
    go false = omega arith

pub row_many : (paths : List (List ℕ)) (tables : List FileTable) (line : Option ℕ) (r : EntryRow)
    → length (flat_map (number_read paths tables line) r.entry.attrs) ≡ file_count r.entry.attrs
row_many paths tables line r = attrs_many paths tables line r.entry.attrs ∙ length-filter (λ (a : RawAttr). is_pair_file a.pair) r.entry.attrs

-- ---- so many come before it, and then its own

module _ (given : EntryRow → List ℕ) (many : (r : EntryRow) → length (given r) ≡ file_count r.entry.attrs) where
  pub record HasNumbers (rows : List EntryRow) (before : CountsBefore) (i : ℕ) (r : EntryRow) : Type 0 where
    pub b : CountsBefore
    pub is : slice_get (befores_from before rows) i ≡ Some b
    pub from : ℕ
    pub count : b.files ≡ before.files + from
    pub stand : (j m : ℕ) → slice_get (given r) j ≡ Some m → slice_get (flat_map given rows) (from + j) ≡ Some m

  pub has_numbers : (rows : List EntryRow) (before : CountsBefore) (i : ℕ) (r : EntryRow) → slice_get rows i ≡ Some r → HasNumbers rows before i r
  unfolding befores_from
  has_numbers [] before i r e = absurd cc
  has_numbers (x ∷ rows) before zero r e =
      let same : x ≡ r = cc in
      record {
        b = before;
        is = refl;
        from = 0;
        count = omega arith;
        stand = λ j m h. (
            let none : 0 + j ≡ j = omega arith in
            ap (λ (w : List ℕ). slice_get w (0 + j)) (flat_map-cons given x rows)
            ∙ ap (slice_get (given x ++ flat_map given rows)) none
            ∙ get_first (given x) (flat_map given rows) j m (ap (λ (w : EntryRow). slice_get (given w) j) same ∙ h));
      }
  has_numbers (x ∷ rows) before (suc i) r e =
      let q = has_numbers rows (behind before x) i r e in
      let own = given x in
      let wide = many x in
      let count = q.count in
      record {
        b = q.b;
        is = q.is;
        from = length own + q.from;
        count = omega arith;
        stand = λ j m h. (
            let place : length own + q.from + j ≡ length own + (q.from + j) = omega arith in
            ap (λ (w : List ℕ). slice_get w (length own + q.from + j)) (flat_map-cons given x rows)
            ∙ ap (slice_get (own ++ flat_map given rows)) place
            ∙ get_later own (flat_map given rows) (q.from + j) m (q.stand j m h));
      }

-- ---- what its values mean

abbrev pub number_meant : (paths : List (List ℕ)) → {K : Type 0} → Attr K → ℕ
number_meant paths a = file_number paths a.value.plain

abbrev pub number_said : (paths : List (List ℕ)) → Attr EntryName → List ℕ
number_said paths a = cond (numbers_by (class_of a.form) (names_file a.name)) (number_meant paths a ∷ []) []

pub numbers_meant : (paths : List (List ℕ)) (attrs : List (Attr EntryName))
    → flat_map (number_said paths) attrs ≡ map (number_meant paths) (files_in attrs)
numbers_meant paths [] = refl
numbers_meant paths (a ∷ attrs) =
    flat_map-cons (number_said paths) a attrs
    ∙ ap (λ (w : List ℕ). number_said paths a ++ w) (numbers_meant paths attrs)
    ∙ go (numbers_by (class_of a.form) (names_file a.name))
  where
    go : (b : Bool) → cond b (number_meant paths a ∷ []) [] ++ map (number_meant paths) (files_in attrs)
        ≡ map (number_meant paths) (cond b (a ∷ files_in attrs) (files_in attrs))
    go true = refl
    go false = refl

same_class : (c : Class) (n : Bool) → (is_constant c && n) ≡ numbers_by c n
same_class OfConstant n = refl
same_class _ n = refl

-- DW_AT_sibling numbers none
pub sibling_none : (paths : List (List ℕ)) (tables : List FileTable) (line : Option ℕ) (a : RawAttr) → a.pair.name ≡ 0x01
    → number_read paths tables line a ≡ []
sibling_none paths tables line a is =
    ap (λ (n : ℕ). cond (is_constant (class_of a.pair.form) && names_file n)
    (number_in paths (path_in tables line (number_of a.raw)) ∷ []) []) is
    ∙ go (is_constant (class_of a.pair.form)) where
      go : (b : Bool) → cond (b && names_file 0x01) (number_in paths (path_in tables line (number_of a.raw)) ∷ []) [] ≡ []
      go true = refl
      go false = refl

module _ (s : MeaningContext ℕ) (a : RawAttr) (v : Value ℕ) (tables : List FileTable) (line : Option ℕ) (paths : List (List ℕ))
    (there : (p : List ℕ) → In p (path_read tables line a) → has_text paths p ≡ true) where
  pub number_given : (after : ℕ → EntryName) → KnowsLine s a tables line → meaning s a ≡ Ok v
      → number_read paths tables line a ≡ number_said paths (attr_map after (attr_with a v))
  number_given after knows means =
      go (is_pair_file a.pair) refl
      ∙ ap (λ (b : Bool). cond b (file_number paths v.plain ∷ []) []) (same_class (class_of a.pair.form) (names_file a.pair.name)) where
        among : (o : Option (List ℕ)) → path_in tables line (number_of a.raw) ≡ o → is_pair_file a.pair ≡ true → (p : List ℕ) → o ≡ Some p
            → has_text paths p ≡ true
        among None e is p none = absurd cc
        among (Some q) e is p same =
            let one : q ≡ p = cc in
            let read : path_read tables line a ≡ q ∷ [] = (λ i. cond (is i) (option_to_list (e i)) []) in
            there p (subst (λ (w : List (List ℕ)). In p w) (sym read) (inl one))

        go : (b : Bool) → is_pair_file a.pair ≡ b → cond b (number_in paths (path_in tables line (number_of a.raw)) ∷ []) []
            ≡ cond b (file_number paths v.plain ∷ []) []
        go false e = refl
        go true e =
            let given = path_given s a v tables line knows means in
            let read : option_to_list (path_in tables line (number_of a.raw)) ≡ path_by v.plain =
            ap (λ (b : Bool). cond b (option_to_list (path_in tables line (number_of a.raw))) []) (sym e) ∙ given in
            ap (λ (n : ℕ). n ∷ []) (number_law paths (path_in tables line (number_of a.raw)) v.plain read
            (among (path_in tables line (number_of a.raw)) refl e))
