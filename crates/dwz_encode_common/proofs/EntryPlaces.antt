-- Where the texts of an entry are written: so many texts come before it in its file, and as many has it as have a place.
use Rattle.std.proofs.Common.{◌≡◌, ℕ, zero, suc, ◌+◌, Bool, true, false, List, [], ◌∷◌, ◌++◌, ◌&&◌, ◌==◌, not, cond, length, map, Option, Some, slice_get, refl, sym, ap, ◌∙◌, arith}
use Rattle.std.specs.List.{filter, flat_map}
use Rattle.std.proofs.lemmas.List.{length-append}
use Rattle.std.proofs.lemmas.List.Concat.{flat_map-cons}
use Rattle.std.proofs.lemmas.List.Sums.{length-filter}
use Rattle.dwz_def_reading.specs.Entries.{RawAttr}
use Rattle.dwz_def_reading.specs.Units.{RawUnit}
use Rattle.dwz_def_reading.proofs.ListFacts.{get_first}
use Rattle.dwz_def_reading.specs.Documents.{Attr}
use Rattle.dwz_def_reading.specs.Meanings.{Sources, offset_of}
use Rattle.dwz_def_reading.specs.Classes.{OfTextBySlot, OfTextInLineStr, OfTextInStr}
use Rattle.dwz_def_reading.specs.Classes.{Class, class_of}
use Rattle.dwz_unit.specs.Rows.{EntryRow}
use Rattle.dwz_graph.proofs.TopLemmas.{get_later}
use Rattle.dwz_layout_numbers.specs.declared.firsts.CountsBefore.{CountsBefore}
use Rattle.dwz_layout_numbers.specs.Befores.{befores_from, behind, is_pair_placed, text_count}
use Rattle.dwz_layout_numbers.specs.Befores as known
use Rattle.dwz_layout.specs.declared.known.EntryTable.{EntryTable}
use Rattle.dwz_layout.specs.declared.known.TextAt.{TextAt}
use Rattle.dwz_layout.specs.Known.{text_at}
use Rattle.dwz_def_encoding.specs.Writing.{text_or_empty}
use Rattle.dwz_law_layout.specs.Knows.{is_placed, texts_in}
use Rattle.dwz_encode_common.specs.Gathered.{text_by, text_said}
use Rattle.dwz_encode_common.specs.Placed.{entry_places, rows_places, written_there}
use Rattle.dwz_encode_common.specs.Shared.{placed_text}
use Rattle.dwz_encode_common.specs.Stored.{class_texts, row_texts, slots_base_at, text_read}
use Rattle.dwz_encode_common.proofs.PlacedSteps.{places-length}

-- ---- how many texts an entry has

class_many : (c : Class) (s : Sources) (base : Option ℕ) (n : ℕ) → length (class_texts c s base n) ≡ cond (known.is_placed c) 1 0
class_many OfTextInStr s base n = refl
class_many OfTextInLineStr s base n = refl
class_many OfTextBySlot s base n = refl
class_many _ s base n = refl

value_many : (s : Sources) (base : Option ℕ) (a : RawAttr) → length (text_read s base a) ≡ cond (is_pair_placed a.pair) 1 0
value_many s base a = go (a.pair.name == 0x01) where
  go : (b : Bool) → length (cond b [] (class_texts (class_of a.pair.form) s base (offset_of a)))
      ≡ cond (not b && known.is_placed (class_of a.pair.form)) 1 0
  go true = refl
  go false = class_many (class_of a.pair.form) s base (offset_of a)

attrs_many : (s : Sources) (base : Option ℕ) (attrs : List RawAttr)
    → length (flat_map (text_read s base) attrs) ≡ length (filter (λ (a : RawAttr). is_pair_placed a.pair) attrs)
attrs_many s base [] = refl
attrs_many s base (a ∷ attrs) =
    ap (λ (w : List (List ℕ)). length w) (flat_map-cons (text_read s base) a attrs)
    ∙ length-append (text_read s base a) (flat_map (text_read s base) attrs)
    ∙ (λ i. value_many s base a i + attrs_many s base attrs i)
    ∙ go (is_pair_placed a.pair)
  where
    go : (b : Bool) → cond b 1 0 + length (filter (λ (x : RawAttr). is_pair_placed x.pair) attrs)
        ≡ length (cond b (a ∷ filter (λ (x : RawAttr). is_pair_placed x.pair) attrs) (filter (λ (x : RawAttr). is_pair_placed x.pair) attrs))
    go true = omega arith
    go false = omega arith

pub row_many : (s : Sources) (raw : List RawUnit) (r : EntryRow) → length (row_texts s raw r) ≡ text_count r.entry.attrs
row_many s raw r = attrs_many s (slots_base_at raw r.unit) r.entry.attrs
    ∙ length-filter (λ (a : RawAttr). is_pair_placed a.pair) r.entry.attrs

-- ---- its places

entry_got : (c shares : Bool) (texts : List (List ℕ)) (k : EntryTable) (n first : ℕ) (said : List (List ℕ)) (j : ℕ) (t : List ℕ)
    → slice_get said j ≡ Some t
    → slice_get (entry_places c shares texts k n first said) j ≡ Some (placed_text c shares texts t (text_at k n (first + j)))
entry_got c shares texts k n first [] j t e = absurd cc
entry_got c shares texts k n first (x ∷ said) zero t e =
    let same : x ≡ t = cc in
    let place : first ≡ first + 0 = omega arith in
    (λ i. Some (placed_text c shares texts (same i) (text_at k n (place i))))
entry_got c shares texts k n first (x ∷ said) (suc j) t e =
    let place : suc first + j ≡ first + suc j = omega arith in
    entry_got c shares texts k n (suc first) said j t e ∙ ap (λ (m : ℕ). Some (placed_text c shares texts t (text_at k n m))) place

module _ (made shares : Bool) (texts : List (List ℕ)) (k : EntryTable) (n : ℕ) (said : EntryRow → List (List ℕ))
    (many : (r : EntryRow) → length (said r) ≡ text_count r.entry.attrs) where
  abbrev Place : ℕ → List ℕ → ℕ → TextAt
  Place i t m = placed_text (written_there made k n i) shares texts t (text_at k n m)

  -- so many texts come before the entry, and then its own
  pub record HasPlaces (rows : List EntryRow) (before : CountsBefore) (first number i : ℕ) (r : EntryRow) : Type 0 where
    pub b : CountsBefore
    pub is : slice_get (befores_from before rows) i ≡ Some b
    pub from : ℕ
    pub count : b.texts ≡ before.texts + from
    pub stand : (j : ℕ) (t : List ℕ) → slice_get (said r) j ≡ Some t
        → slice_get (rows_places made shares texts k n said number first rows) (from + j) ≡ Some (Place (number + i) t (first + (from + j)))

  pub has_places : (rows : List EntryRow) (before : CountsBefore) (first number i : ℕ) (r : EntryRow) → slice_get rows i ≡ Some r
      → HasPlaces rows before first number i r
  unfolding befores_from
  has_places [] before first number i r e = absurd cc
  has_places (x ∷ rows) before first number zero r e =
      let same : x ≡ r = cc in
      let own = entry_places (written_there made k n number) shares texts k n first (said x) in
      let rest = rows_places made shares texts k n said (suc number) (first + length (said x)) rows in
      let here : number ≡ number + 0 = omega arith in
      record {
        b = before;
        is = refl;
        from = 0;
        count = omega arith;
        stand = λ j t h. (
            let none : 0 + j ≡ j = omega arith in
            ap (slice_get (own ++ rest)) none
            ∙ get_first own rest j (Place number t (first + j))
            (entry_got (written_there made k n number) shares texts k n first (said x) j t (ap (λ (w : EntryRow). slice_get (said w) j) same ∙ h))
            ∙ (λ i. Some (Place (here i) t (first + sym none i))));
      }
  has_places (x ∷ rows) before first number (suc i) r e =
      let own = entry_places (written_there made k n number) shares texts k n first (said x) in
      let rest = rows_places made shares texts k n said (suc number) (first + length (said x)) rows in
      let q = has_places rows (behind before x) (first + length (said x)) (suc number) i r e in
      let wide = many x in
      let count = q.count in
      let long : length own ≡ length (said x) = places-length (written_there made k n number) shares texts k n first (said x) in
      let here : suc number + i ≡ number + suc i = omega arith in
      record {
        b = q.b;
        is = q.is;
        from = length (said x) + q.from;
        count = omega arith;
        stand = λ j t h. (
            let place : length (said x) + q.from + j ≡ length own + (q.from + j) = omega arith in
            let far : first + length (said x) + (q.from + j) ≡ first + (length (said x) + q.from + j) = omega arith in
            ap (slice_get (own ++ rest)) place
            ∙ get_later own rest (q.from + j) (Place (suc number + i) t (first + length (said x) + (q.from + j))) (q.stand j t h)
            ∙ (λ m. Some (Place (here m) t (far m))));
      }

-- ---- what its values mean

abbrev pub meant : {K : Type 0} → Attr K → List ℕ
meant a = text_or_empty a.value.plain

class_meant : {K : Type 0} (c : Class) (a : Attr K) → text_by c a ≡ cond (is_placed c) (meant a ∷ []) []
class_meant OfTextInStr a = refl
class_meant OfTextInLineStr a = refl
class_meant OfTextBySlot a = refl
class_meant _ a = refl

pub texts_meant : {K : Type 0} (attrs : List (Attr K)) → flat_map text_said attrs ≡ map meant (texts_in attrs)
texts_meant [] = refl
texts_meant {K} (a ∷ attrs) =
    flat_map-cons text_said a attrs
    ∙ (λ i. class_meant (class_of a.form) a i ++ texts_meant attrs i)
    ∙ go (is_placed (class_of a.form))
  where
    go : (b : Bool) → cond b (meant a ∷ []) [] ++ map meant (texts_in attrs) ≡ map meant (cond b (a ∷ texts_in attrs) (texts_in attrs))
    go true = refl
    go false = refl

pub placed_in : {K : Type 0} (attrs : List (Attr K)) (j : ℕ) (a : Attr K) → slice_get (texts_in attrs) j ≡ Some a
    → is_placed (class_of a.form) ≡ true
placed_in [] j a e = absurd cc
placed_in {K} (x ∷ attrs) j a e = go (λ i p. placed_in attrs i a p) (is_placed (class_of x.form)) refl j e where
  go : ((i : ℕ) → slice_get (texts_in attrs) i ≡ Some a → is_placed (class_of a.form) ≡ true) → (b : Bool)
      → is_placed (class_of x.form) ≡ b → (j : ℕ) → slice_get (cond b (x ∷ texts_in attrs) (texts_in attrs)) j ≡ Some a
      → is_placed (class_of a.form) ≡ true
  go rest true p zero e = let same : x ≡ a = cc in ap (λ (w : Attr K). is_placed (class_of w.form)) (sym same) ∙ p
  go rest true p (suc j) e = rest j e
  go rest false p j e = rest j e
