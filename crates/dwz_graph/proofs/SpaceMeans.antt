-- An entry is stored as a space just where it means one.
use Rattle.std.proofs.Common.{◌≡◌, ℕ, ℤ, Bool, true, false, List, [], ◌∷◌, Option, Some, None, Ok, ◌==◌, cond, refl, sym, ap, subst, ◌∙◌, eqb-true}
use Rattle.std.specs.Option.{is_some}
use Rattle.dwz_def_reading.specs.Entries.{RawAttr, RawEntry}
use Rattle.dwz_def_reading.specs.Documents.{Attr, Node, Value, first_named}
use Rattle.dwz_def_reading.specs.Meanings.{IfSo, IsFileBy, IsLocList, MeanAttrs, MeansAs, MeansNode}
use Rattle.dwz_def_reading.specs.Classes.{OfAddress, OfBlock, OfCommonEntry, OfCommonText, OfConstant, OfExpression, OfFlag, OfIndex}
use Rattle.dwz_def_reading.specs.Classes.{Class}
use Rattle.dwz_def_reading.specs.Meanings.{MeaningContext, constant_value}
use Rattle.dwz_def_reading.specs.Classes.{OfInfoEntry, OfListIndex, OfOffset, OfSignature, OfText, OfTextBySlot, OfTextInLineStr, OfTextInStr, OfUnitEntry, Unread}
use Rattle.dwz_def_reading.specs.Classes.{class_of}
use Rattle.dwz_def_reading.specs.Meanings.{first_raw, number_of, offset_of, stmt_list, without_siblings}
use Rattle.dwz_def_reading.specs.Classes.{names_file, names_list}
use Rattle.dwz_def_reading.specs.Meant.{node_meaning}
use Rattle.dwz_def_reading.specs.Documents.{Sec, Text, only}
use Rattle.dwz_def_reading.proofs.MeaningUnits.{node_agrees}
use Rattle.dwz_def_tops.specs.Spaces.{space_text, text_of_plain, text_value}
use Rattle.dwz_graph.specs.Spaces.{has_text, is_text, stored_space}
use Rattle.dwz_graph.specs.Steps.{is_space}

abbrev has_plain : Value ℕ → Bool
has_plain v = is_some (text_of_plain v.plain)

of_value : (v w : Value ℕ) → v ≡ w → has_plain w ≡ has_plain v
of_value v w e = ap has_plain (sym e)

of_file : (s : MeaningContext ℕ) (o : Option ℕ) (number : ℤ) (v : Value ℕ) → IsFileBy o s number v → false ≡ has_plain v
of_file s None number v h = of_value v _ h.1
of_file s (Some place) number v h = of_value v _ h.value

of_constant : (s : MeaningContext ℕ) (a : RawAttr) (v : Value ℕ) (b : Bool) → IfSo b (IsFileBy (stmt_list s) s (number_of a.raw) v) (v ≡ constant_value a) → false ≡ has_plain v
of_constant s a v true h = of_file s (stmt_list s) (number_of a.raw) v h
of_constant s a v false h = of_value v _ h

of_offset : (s : MeaningContext ℕ) (a : RawAttr) (v : Value ℕ) (b : Bool) → IfSo b (IsLocList s (offset_of a) v) (v ≡ only (Sec (offset_of a))) → false ≡ has_plain v
of_offset s a v true h = of_value v _ h.value
of_offset s a v false h = of_value v _ h

-- a value is a text just where its class says so
of_class : (c : Class) (s : MeaningContext ℕ) (a : RawAttr) (v : Value ℕ) → MeansAs c s a v → is_text c ≡ has_plain v
of_class OfAddress s a v h = of_value v _ h
of_class OfBlock s a v h = of_value v _ h
of_class OfConstant s a v h = of_constant s a v (names_file a.pair.name) h
of_class OfFlag s a v h = of_value v _ h
of_class OfText s a v h = of_value v _ h
of_class OfTextInStr s a v h = of_value v _ h.value
of_class OfTextInLineStr s a v h = of_value v _ h.value
of_class OfTextBySlot s a v h = of_value v _ h.text.value
of_class OfUnitEntry s a v h = of_value v _ h.1
of_class OfInfoEntry s a v h = of_value v _ h.1
of_class OfSignature s a v h = of_value v _ h
of_class OfOffset s a v h = of_offset s a v (names_list a.pair.name) h
of_class OfExpression s a v h = of_value v _ h.value
of_class OfListIndex s a v h = of_value v _ h.list.value
of_class OfIndex s a v h = of_value v _ h
of_class OfCommonEntry s a v h = of_value v _ h.2.1
of_class OfCommonText s a v h = of_value v _ h.2.value
of_class Unread s a v h = absurd h

abbrev named_text : List (Attr ℕ) → Bool
named_text attrs = is_some (text_value (first_named 0x03 attrs))

first_text : (s : MeaningContext ℕ) (raw : List RawAttr) (attrs : List (Attr ℕ)) → MeanAttrs s (without_siblings raw) attrs → has_text (first_raw 0x03 raw) ≡ named_text attrs
unfolding first_raw first_named without_siblings
first_text s [] [] h = refl
first_text s [] (b ∷ attrs) h = absurd h
first_text s (a ∷ raw) attrs h = go (first_text s raw) (a.pair.name == 0x01) refl attrs h where
  named : (b : Attr ℕ) (others : List (Attr ℕ)) → b.name ≡ a.pair.name → is_text (class_of a.pair.form) ≡ has_plain b.value → has_text (first_raw 0x03 raw) ≡ named_text others → (t : Bool)
      → has_text (cond t (Some a) (first_raw 0x03 raw)) ≡ is_some (text_value (cond t (Some b) (first_named 0x03 others)))
  named b others same text rest true = text
  named b others same text rest false = rest

  go : ((attrs : List (Attr ℕ)) → MeanAttrs s (without_siblings raw) attrs → has_text (first_raw 0x03 raw) ≡ named_text attrs) → (t : Bool) → (a.pair.name == 0x01) ≡ t
      → (attrs : List (Attr ℕ)) → MeanAttrs s (cond t (without_siblings raw) (a ∷ without_siblings raw)) attrs → has_text (cond (a.pair.name == 0x03) (Some a) (first_raw 0x03 raw)) ≡ named_text attrs
  go rest true e attrs h =
      let other : (a.pair.name == 0x03) ≡ false = ap (λ (n : ℕ). n == 0x03) (eqb-true a.pair.name 0x01 e) in
      ap (λ (b : Bool). has_text (cond b (Some a) (first_raw 0x03 raw))) other ∙ rest attrs h
  go rest false e [] h = absurd h
  go rest false e (b ∷ attrs) h =
      let same = h.0.name in
      named b attrs same (of_class (class_of a.pair.form) s a b.value h.0.value) (rest attrs h.1) (a.pair.name == 0x03)
      ∙ ap (λ (n : ℕ). is_some (text_value (cond (n == 0x03) (Some b) (first_named 0x03 attrs)))) (sym same)

pub space_means : (s : MeaningContext ℕ) (e : RawEntry) (d : Node ℕ) → MeansNode s e d → stored_space e ≡ is_space d
unfolding stored_space space_text
space_means s e d h = by (e.tag == 0x39) ∙ ap (λ (n : ℕ). is_some (elim (n == 0x39) as (λ _. Option (List ℕ)) [ true ↦ text_value (first_named 0x03 d.attrs) | false ↦ None ])) (sym h.tag) where
  by : (b : Bool) → (elim b as (λ _. Bool) [ true ↦ has_text (first_raw 0x03 e.attrs) | false ↦ false ])
      ≡ is_some (elim b as (λ _. Option (List ℕ)) [ true ↦ text_value (first_named 0x03 d.attrs) | false ↦ None ])
  by true = first_text s e.attrs d.attrs h.attrs
  by false = refl

-- ---- the name of a space

-- the first DW_AT_name as it is stored, and what it means
pub record IsNamed (s : MeaningContext ℕ) (raw : List RawAttr) (b : Attr ℕ) : Type 0 where
  pub attr : RawAttr
  pub first : first_raw 0x03 raw ≡ Some attr
  pub means : MeansAs (class_of attr.pair.form) s attr b.value

first_pair : (s : MeaningContext ℕ) (raw : List RawAttr) (attrs : List (Attr ℕ)) (b : Attr ℕ) → MeanAttrs s (without_siblings raw) attrs → first_named 0x03 attrs ≡ Some b → IsNamed s raw b
unfolding first_raw first_named without_siblings
first_pair s [] [] b h e = absurd cc
first_pair s [] (d ∷ attrs) b h e = absurd h
first_pair s (a ∷ raw) attrs b h e = go (λ attrs h e. first_pair s raw attrs b h e) (a.pair.name == 0x01) refl attrs h e where
  later : (n : ℕ) → a.pair.name ≡ n → (n == 0x03) ≡ false → IsNamed s raw b → IsNamed s (a ∷ raw) b
  later n is other r = record { attr = r.attr; first = ap (λ (t : Bool). cond t (Some a) (first_raw 0x03 raw)) (ap (λ (m : ℕ). m == 0x03) is ∙ other) ∙ r.first; means = r.means }

  named : (d : Attr ℕ) (others : List (Attr ℕ)) → d.name ≡ a.pair.name → MeansAs (class_of a.pair.form) s a d.value → (first_named 0x03 others ≡ Some b → IsNamed s raw b) → (t : Bool)
      → (a.pair.name == 0x03) ≡ t → cond t (Some d) (first_named 0x03 others) ≡ Some b → IsNamed s (a ∷ raw) b
  named d others same means rest true q e =
      let one : d ≡ b = cc in
      record { attr = a; first = ap (λ (t : Bool). cond t (Some a) (first_raw 0x03 raw)) q; means = subst (λ (w : Attr ℕ). MeansAs (class_of a.pair.form) s a w.value) one means }
  named d others same means rest false q e = later a.pair.name refl q (rest e)

  go : ((attrs : List (Attr ℕ)) → MeanAttrs s (without_siblings raw) attrs → first_named 0x03 attrs ≡ Some b → IsNamed s raw b) → (t : Bool) → (a.pair.name == 0x01) ≡ t
      → (attrs : List (Attr ℕ)) → MeanAttrs s (cond t (without_siblings raw) (a ∷ without_siblings raw)) attrs → first_named 0x03 attrs ≡ Some b → IsNamed s (a ∷ raw) b
  go rest true q attrs h e = later 0x01 (eqb-true a.pair.name 0x01 q) refl (rest attrs h e)
  go rest false q [] h e = absurd h
  go rest false q (d ∷ attrs) h e =
      let same = h.0.name in
      named d attrs same h.0.value (rest attrs h.1) (a.pair.name == 0x03) refl (ap (λ (n : ℕ). cond (n == 0x03) (Some d) (first_named 0x03 attrs)) (sym same) ∙ e)

-- the attribute that names a space
pub record IsSpaceName (text : List ℕ) (e : Node ℕ) : Type 0 where
  pub attr : Attr ℕ
  pub first : first_named 0x03 e.attrs ≡ Some attr
  pub is : text_of_plain attr.value.plain ≡ Some text

named_by : (d : Node ℕ) (text : List ℕ) → space_text d ≡ Some text → IsSpaceName text d
unfolding space_text
named_by d text e = by (d.tag == 0x39) (first_named 0x03 d.attrs) refl e where
  by : (t : Bool) (o : Option (Attr ℕ)) → first_named 0x03 d.attrs ≡ o → (elim t as (λ _. Option (List ℕ)) [ true ↦ text_value o | false ↦ None ]) ≡ Some text → IsSpaceName text d
  by true None q e = absurd cc
  by true (Some a) q e = record { attr = a; first = q; is = e }
  by false o q e = absurd cc

-- the name of a space is a value that is stored
pub record HasName (s : MeaningContext ℕ) (e : RawEntry) (text : List ℕ) : Type 0 where
  pub attr : RawAttr
  pub value : Value ℕ
  pub first : first_raw 0x03 e.attrs ≡ Some attr
  pub means : MeansAs (class_of attr.pair.form) s attr value
  pub is : text_of_plain value.plain ≡ Some text

pub has_name : (s : MeaningContext ℕ) (e : RawEntry) (d : Node ℕ) (text : List ℕ) → node_meaning s e ≡ Ok d → space_text d ≡ Some text → HasName s e text
has_name s e d text means is =
    let h = ((node_agrees s e).ok d).0 means in
    let n = named_by d text is in
    let a = first_pair s e.attrs d.attrs n.attr h.attrs n.first in
    record { attr = a.attr; value = n.attr.value; first = a.first; means = a.means; is = n.is }

-- ---- the text of a value

-- what is answered for a class of texts
pub text_is : (v : Value ℕ) (other text : List ℕ) → v ≡ only (Text other) → text_of_plain v.plain ≡ Some text → other ≡ text
text_is v other text e is = let z : Some other ≡ Some text = sym (ap (λ (w : Value ℕ). text_of_plain w.plain) e) ∙ is in cc
