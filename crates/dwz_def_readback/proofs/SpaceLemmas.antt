-- The spaces of a partial unit hold names that were read.
use Rattle.std.proofs.Common.{◌≡◌, ℕ, ℤ, Bool, true, false, List, [], ◌∷◌, ◌++◌, ◌==◌, Option, Some, None, cond, eqb, eqb-true, refl, sym, ap, subst, ◌∙◌, arith, inl, inr}
use Rattle.dwz_def_reading.specs.Entries.{RawAttr}
use Rattle.dwz_def_reading.specs.Lists.{Each, In}
use Rattle.dwz_def_reading.specs.Trees.{End, Entry}
use Rattle.dwz_def_reading.proofs.ListFacts.{in_cases}
use Rattle.dwz_def_reading.specs.Documents.{Attr, Entries, Node, File, Sec, Text, Value, first_named, language, only, value_map}
use Rattle.dwz_def_reading.specs.Meanings.{IfSo, IsFileBy, IsLocList, MeansAs, MeaningContext, constant_value, number_of, offset_of, stmt_list}
use Rattle.dwz_def_reading.specs.Classes.{OfAddress, OfBlock, OfCommonEntry, OfCommonText, OfConstant, OfExpression, OfFlag, OfIndex, OfInfoEntry, OfListIndex}
use Rattle.dwz_def_reading.specs.Classes.{Class}
use Rattle.dwz_def_reading.specs.Classes.{OfOffset, OfSignature, OfText, OfTextBySlot, OfTextInLineStr, OfTextInStr, OfUnitEntry, Unread}
use Rattle.dwz_def_reading.specs.Classes.{class_of, names_file, names_list}
use Rattle.dwz_def_tops.specs.Lists.{Nth}
use Rattle.dwz_def_tops.specs.Spaces.{space_text, text_of_plain, text_value}
use Rattle.dwz_def_tops.proofs.Members.{each_append, each_in}
use Rattle.dwz_def_tops.specs.Spots.{ASpace, ATop, EntryName, FileUnit, Nothing, Row, SpaceName, Top, name_by, name_of, row_tops, rows_of_root, tops_of}
use Rattle.dwz_def_tops.proofs.RowLemmas.{RowIs, unit_row}
use Rattle.dwz_def_tops.proofs.Tops.{unit_of}
use Rattle.dwz_def_images.specs.Plan.{space_entry}
use Rattle.dwz_def_encoding.specs.Bases.{Bases, bases_in}
use Rattle.dwz_def_encoding.specs.Carried.{CarriedAttr, CarriedEntries, CarriedNode, CarriedUnit, From}
use Rattle.dwz_def_readback.specs.Files.{bases_at}
use Rattle.dwz_def_readback.proofs.OriginLemmas.{bases_found}

-- ---- a value that is a text names nothing

module _ {P : Type 0} (text : List ℕ) where
  no_text : (v w : Value P) → v ≡ w → text_of_plain w.plain ≡ None → text_of_plain v.plain ≡ Some text → v ≡ only (Text text)
  no_text v w e none is = absurd (let z : None ≡ Some text = sym none ∙ sym (ap (λ (x : Value P). text_of_plain x.plain) e) ∙ is in cc)

  own_text : (v : Value P) (other : List ℕ) → v ≡ only (Text other) → text_of_plain v.plain ≡ Some text → v ≡ only (Text text)
  own_text v other e is =
      let z : Some other ≡ Some text = sym (ap (λ (x : Value P). text_of_plain x.plain) e) ∙ is in
      let same : other ≡ text = cc in
      e ∙ ap (λ (w : List ℕ). only (Text w)) same

  file_text : (s : MeaningContext P) (o : Option ℕ) (number : ℤ) (v : Value P) → IsFileBy o s number v → text_of_plain v.plain ≡ Some text → v ≡ only (Text text)
  file_text s None number v h is = no_text v (only (File None)) h.1 refl is
  file_text s (Some place) number v h is = no_text v (only (File (Some h.path))) h.value refl is

  constant_text : (s : MeaningContext P) (a : RawAttr) (v : Value P) (b : Bool) → IfSo b (IsFileBy (stmt_list s) s (number_of a.raw) v) (v ≡ constant_value a) → text_of_plain v.plain ≡ Some text
      → v ≡ only (Text text)
  constant_text s a v true h is = file_text s (stmt_list s) (number_of a.raw) v h is
  constant_text s a v false h is = no_text v (constant_value a) h refl is

  offset_text : (s : MeaningContext P) (a : RawAttr) (v : Value P) (b : Bool) → IfSo b (IsLocList s (offset_of a) v) (v ≡ only (Sec (offset_of a))) → text_of_plain v.plain ≡ Some text
      → v ≡ only (Text text)
  offset_text s a v true h is = no_text v _ h.value refl is
  offset_text s a v false h is = no_text v _ h refl is

  as_text : (c : Class) (s : MeaningContext P) (a : RawAttr) (v : Value P) → MeansAs c s a v → text_of_plain v.plain ≡ Some text → v ≡ only (Text text)
  as_text OfAddress s a v h is = no_text v _ h refl is
  as_text OfBlock s a v h is = no_text v _ h refl is
  as_text OfConstant s a v h is = constant_text s a v (names_file a.pair.name) h is
  as_text OfFlag s a v h is = no_text v _ h refl is
  as_text OfText s a v h is = own_text v _ h is
  as_text OfTextInStr s a v h is = own_text v _ h.value is
  as_text OfTextInLineStr s a v h is = own_text v _ h.value is
  as_text OfTextBySlot s a v h is = own_text v _ h.text.value is
  as_text OfUnitEntry s a v h is = no_text v _ h.1 refl is
  as_text OfInfoEntry s a v h is = no_text v _ h.1 refl is
  as_text OfSignature s a v h is = no_text v _ h refl is
  as_text OfOffset s a v h is = offset_text s a v (names_list a.pair.name) h is
  as_text OfExpression s a v h is = no_text v _ h.value refl is
  as_text OfListIndex s a v h is = no_text v _ h.list.value refl is
  as_text OfIndex s a v h is = no_text v _ h refl is
  as_text OfCommonEntry s a v h is = no_text v _ h.2.1 refl is
  as_text OfCommonText s a v h is = own_text v _ h.2.value is
  as_text Unread s a v h is = absurd h

module _ (from : From) (origin : Bases) where
  text_only : (a : Attr EntryName) (text : List ℕ) → CarriedAttr from origin a → text_of_plain a.value.plain ≡ Some text → a.value ≡ only (Text text)
  text_only a text (inl came) is =
      let w = came.was_read in
      let same : a.value ≡ value_map w.name w.read.value = ap (λ (b : Attr EntryName). b.value) w.same in
      let read = as_text text (class_of w.old.pair.form) w.scope w.old w.read.value w.means.value (sym (ap (λ (v : Value EntryName). text_of_plain v.plain) same) ∙ is) in
      same ∙ ap (λ (v : Value ℕ). value_map w.name v) read
  text_only a text (inr (inl i)) is = no_text text a.value _ i.value refl is
  text_only a text (inr (inr l)) is = no_text text a.value _ l.value refl is

  -- the name of a space, as it is stored there, is carried
  abbrev pub NameCarried : SpaceName → Type 0
  NameCarried s = CarriedAttr {K = EntryName} from origin (record { name = 0x03; form = s.form; raw = s.raw; value = only (Text s.text) })

  pub first_in : (name : ℕ) (attrs : List (Attr EntryName)) (a : Attr EntryName) → first_named name attrs ≡ Some a → In a attrs × (a.name ≡ name)
  unfolding first_named
  first_in name [] a e = absurd cc
  first_in name (b ∷ attrs) a e = by (λ r. first_in name attrs a r) (eqb b.name name) refl e where
    by : (first_named name attrs ≡ Some a → In a attrs × (a.name ≡ name)) → (t : Bool) → eqb b.name name ≡ t → cond t (Some b) (first_named name attrs) ≡ Some a → In a (b ∷ attrs) × (a.name ≡ name)
    by rest true t e = (let same : b ≡ a = cc in (inl same, ap (λ (x : Attr EntryName). x.name) (sym same) ∙ eqb-true b.name name t))
    by rest false t e = (let o = rest e in (inr o.0, o.1))

  named_space : (e : Node EntryName) (text : List ℕ) → space_text e ≡ Some text → text_value (first_named 0x03 e.attrs) ≡ Some text
  unfolding space_text
  named_space e text is = by (e.tag == 0x39) is where
    by : (b : Bool) → (elim b as (λ _. Option (List ℕ)) [ true ↦ text_value (first_named 0x03 e.attrs) | false ↦ None ]) ≡ Some text → text_value (first_named 0x03 e.attrs) ≡ Some text
    by true h = h
    by false h = absurd cc

  space_name : (e : Node EntryName) (text : List ℕ) → space_text e ≡ Some text → CarriedNode from origin e → NameCarried (name_of text e)
  space_name e text is carried = by (first_named 0x03 e.attrs) refl (named_space e text is) where
    by : (o : Option (Attr EntryName)) → first_named 0x03 e.attrs ≡ o → text_value o ≡ Some text → NameCarried (name_by text o)
    by None f t = absurd cc
    by (Some a) f t =
        let o = first_in 0x03 e.attrs a f in
        let c : CarriedAttr from origin a = each_in (CarriedAttr from origin) a e.attrs carried.attrs o.0 in
        let value : a.value ≡ only (Text text) = text_only a text c t in
        subst (λ (n : ℕ). CarriedAttr {K = EntryName} from origin (record { name = n; form = a.form; raw = a.raw; value = only (Text text) })) o.1
        (subst (λ (v : Value EntryName). CarriedAttr {K = EntryName} from origin (record { name = a.name; form = a.form; raw = a.raw; value = v })) value c)

  module _ (file unit : ℕ) (tongue : Option ℤ) where
    row_names : (spaces : List SpaceName) (n : ℕ) (row : Row) (f : Entries EntryName) → RowIs file unit tongue spaces n row f → Each NameCarried spaces → CarriedEntries from origin f → (t : Top)
        → In t (row_tops row) → Each NameCarried t.spaces
    unfolding row_tops
    row_names spaces n Nothing f h names carried t is = absurd is
    row_names spaces n (ATop u row) (Entry e f g) h names carried t (inl x) = subst (λ (w : Top). Each NameCarried w.spaces) (h.1 ∙ x) names
    row_names spaces n (ATop u row) (Entry e f g) h names carried t (inr r) = row_names spaces _ row g h.2 names carried.2 t r
    row_names spaces n (ASpace d inner row) (Entry e f g) h names carried t is = elim (in_cases t (row_tops inner) (row_tops row) is) [
      | inl a ↦ row_names (spaces ++ name_of h.0 e ∷ []) n inner f h.3 (each_append NameCarried spaces (name_of h.0 e ∷ []) names (space_name e h.0 h.1 carried.0, tt)) carried.1 t a
      | inr b ↦ row_names spaces _ row g h.4 names carried.2 t b
    ]
    row_names spaces n (ATop u row) End h names carried t is = absurd h
    row_names spaces n (ASpace d inner row) End h names carried t is = absurd h

-- the names of the spaces that a top stands in
pub top_names : (from : From) (units : List (FileUnit EntryName)) (t : Top) → In t (tops_of units)
    → ((i : ℕ) (u : FileUnit EntryName) → Nth 0 units i u → u.file ≡ t.file → CarriedUnit from (bases_in u.unit) u.unit)
    → (s : SpaceName) → In s t.spaces → NameCarried from (bases_at units t.unit) s
top_names from units t there are s is =
    let o = unit_of units t there in
    let r = unit_row units t.unit o.unit o.nth o.compile in
    let origin = bases_in o.unit.unit in
    let names = row_names from origin o.unit.file t.unit (language o.unit.unit) [] r.first (rows_of_root units t.unit) o.unit.unit.below r.is tt (are t.unit o.unit o.nth (sym o.file_is)).below t
    o.in_row in
    subst (λ (b : Bases). NameCarried from b s) (sym (bases_found units 0 t.unit t.unit o.unit o.nth (omega arith))) (each_in (NameCarried from origin) s t.spaces names is)

pub space_carried : (from : From) (origin : Bases) (part chain depth : ℕ) (s : SpaceName) → NameCarried from origin s → CarriedNode from origin (space_entry part chain depth s)
space_carried from origin part chain depth s is = record { some_tag = omega arith; tag_fits = omega arith; attrs = (is, tt) }
