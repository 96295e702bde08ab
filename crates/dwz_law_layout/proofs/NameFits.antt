-- What is written of the name of a space of a chain is what the definition of forms says.
use Rattle.std.proofs.Common.{◌≡◌, ℕ, Bool, true, false, List, [], ◌∷◌, map, pos, Ok, Option, Some, None, slice_get, refl, sym, ap, subst, ◌∙◌, cond, eqb, eqb-true}
use Rattle.std.specs.Option.{option_map_or}
use Rattle.std.proofs.lemmas.Bool.{eqb-false}
use Rattle.dwz_def_reading.specs.Reading.{◌>>=◌}
use Rattle.dwz_def_reading.specs.Entries.{RawAttr}
use Rattle.dwz_def_reading.specs.Values.{Bytes, Number}
use Rattle.dwz_def_reading.proofs.PartLemmas.{bind_ok}
use Rattle.dwz_def_reading.specs.Documents.{Attr, File, Node, Sec, Text, Value, first_named, only}
use Rattle.dwz_def_reading.specs.Meanings.{IfSo, IsFileBy, IsLocList, MeansAs}
use Rattle.dwz_def_reading.specs.Classes.{OfAddress, OfBlock, OfCommonEntry, OfCommonText, OfConstant, OfExpression, OfFlag, OfIndex, OfInfoEntry, OfListIndex}
use Rattle.dwz_def_reading.specs.Classes.{Class}
use Rattle.dwz_def_reading.specs.Meanings.{MeaningContext, bytes_of}
use Rattle.dwz_def_reading.specs.Classes.{OfOffset, OfSignature, OfText, OfTextBySlot, OfTextInLineStr, OfTextInStr, OfUnitEntry, Unread}
use Rattle.dwz_def_reading.specs.Classes.{class_of}
use Rattle.dwz_def_reading.specs.Meant.{attr_with, attrs_meaning}
use Rattle.dwz_def_reading.specs.Meanings.{constant_value, number_of, offset_of, scope_of, stmt_list, without_siblings}
use Rattle.dwz_def_reading.specs.Classes.{names_file, names_list}
use Rattle.dwz_def_reading.specs.Meant.{meaning, with_attr}
use Rattle.dwz_def_reading.proofs.MeaningLemmas.{value_agrees}
use Rattle.dwz_def_tops.specs.Spots.{EntryName, name_by as name_by_of, name_of}
use Rattle.dwz_graph.proofs.StepLemmas.{skipped, taken}
use Rattle.dwz_graph.proofs.TreeLemmas.{node_attrs}
use Rattle.dwz_def_reading.specs.Lists.{Each}
use Rattle.dwz_def_tops.specs.Spaces.{space_text, text_of_plain, text_value}
use Rattle.dwz_unit.specs.Rows.{EntryRow}
use Rattle.dwz_def_encoding.specs.Carried.{IsStored}
use Rattle.dwz_def_encoding.specs.Placing.{CommonUnit, NewUnit, OldUnit, UnitForms, UnitRole, as_line_text, as_slot}
use Rattle.dwz_def_encoding.proofs.StoredClasses.{stores_bytes}
use Rattle.dwz_layout.specs.declared.known.EntryTable.{EntryTable}
use Rattle.dwz_layout.specs.declared.known.Row.{Row}
use Rattle.dwz_layout.specs.declared.known.SpaceRow.{SpaceRow}
use Rattle.dwz_layout.specs.declared.known.TextAt.{TextAt}
use Rattle.dwz_layout.specs.declared.ways.Rewrite.{Rewrite}
use Rattle.dwz_layout.specs.declared.ways.Rewrite.TheVariants.{AsText}
use Rattle.dwz_layout.specs.Attributes.{OutAttr, name_attrs, name_by, space_attrs}
use Rattle.dwz_layout.specs.Entries.{row}
use Rattle.dwz_layout.specs.Known.{row_at, text_held}
use Rattle.dwz_layout.specs.Ways.{rewrite_of}
use Rattle.dwz_encode.specs.Shown.{HeldAttr, Keys, attr_held, held_of}
use Rattle.dwz_law_layout.specs.Knows.{FileRead, IsRead, IsText, KnowsFile, NewNumbers, given_attr, name_attr}
use Rattle.dwz_law_layout.proofs.FormWays.{is_file, is_read, line_way, slot_way, way_of_class}
use Rattle.dwz_law_layout.proofs.StoredLemmas.{raw_bytes, raw_number}
use Rattle.dwz_law_layout.proofs.ValueFits.{read_held, text_given}
use Rattle.dwz_law_layout.proofs.FormFits.{as_value, text_in_form}

-- ---- a value that is a text

module _ (keys : Keys EntryName) (ft : UnitForms EntryName) (rn : NewNumbers) (h : UnitRole) (fit_is : ft.holder ≡ h) (t : TextAt) (text : List ℕ) (s : MeaningContext ℕ) (a : RawAttr) (stored : IsStored a)
    (v :
    Value ℕ)
    (named : a.pair.name ≡ 0x03) (is : text_of_plain v.plain ≡ Some text) where
  -- the attribute as a chain has it
  abbrev b : Attr EntryName
  b = record { name = 0x03; form = a.pair.form; raw = number_of a.raw; value = only (Text text) }

  abbrev Fits : Type 0
  Fits = attr_held keys (name_by t a (rewrite_of h a.pair)) ≡ held_of (given_attr ft rn b)

  no_text : (w : Value ℕ) → v ≡ w → text_of_plain w.plain ≡ None → Fits
  no_text w e none = absurd (let z : None ≡ Some text = sym none ∙ sym (ap (λ (x : Value ℕ). text_of_plain x.plain) e) ∙ is in cc)

  own_text : (other : List ℕ) → v ≡ only (Text other) → other ≡ text
  own_text other e = (let z : Some other ≡ Some text = sym (ap (λ (x : Value ℕ). text_of_plain x.plain) e) ∙ is in cc)

  other_name : a.pair.name ≡ 0x01 → ⊥
  other_name e = (let z : 0x03 ≡ 0x01 = sym named ∙ e in cc)

  as_text_fits : IsText ft rn b t → rewrite_of h a.pair ≡ AsText → Fits
  as_text_fits told way =
      let there : rewrite_of ft.holder a.pair ≡ AsText = ap (λ (g : UnitRole). rewrite_of g a.pair) fit_is ∙ way in
      let same : rewrite_of ft.holder (record { name = 0x03; form = a.pair.form; constant = pos 0 }) ≡ AsText = ap (λ (n : ℕ). rewrite_of ft.holder (record {
        name = n;
        form = a.pair.form;
        constant = pos 0;
      })) (sym named) ∙ there in
      ap (λ (w : Rewrite). attr_held keys (name_by t a w)) way ∙ text_in_form t b ∙ text_given ft rn b t (told same)

  number_is : (c : Class) → class_of a.pair.form ≡ c → stores_bytes c ≡ false → is_read c ≡ true → as_value (Number b.raw) ≡ as_value a.raw
  number_is c e isnt some = ap as_value (sym (raw_number a stored c e isnt some))

  line_fits : class_of a.pair.form ≡ OfTextInLineStr → IsText ft rn b t → (g : UnitRole) → h ≡ g → Fits
  line_fits e told OldUnit at =
      ap (λ (w : Rewrite). attr_held keys (name_by t a w)) (way_of_class h a.pair OfTextInLineStr other_name e refl (ap (λ (z : UnitRole). is_file (line_way z)) at) ∙ ap line_way at)
      ∙ read_held keys ft rn a stored b OfTextInLineStr (sym named) refl refl e refl (ap (λ (z : UnitRole). as_line_text z ft b) (fit_is ∙ at)) (number_is OfTextInLineStr e refl refl)
  line_fits e told NewUnit at =
      ap (λ (w : Rewrite). attr_held keys (name_by t a w)) (way_of_class h a.pair OfTextInLineStr other_name e refl (ap (λ (z : UnitRole). is_file (line_way z)) at) ∙ ap line_way at)
      ∙ read_held keys ft rn a stored b OfTextInLineStr (sym named) refl refl e refl (ap (λ (z : UnitRole). as_line_text z ft b) (fit_is ∙ at)) (number_is OfTextInLineStr e refl refl)
  line_fits e told CommonUnit at = as_text_fits told (way_of_class h a.pair OfTextInLineStr other_name e refl (ap (λ (z : UnitRole). is_file (line_way z)) at) ∙ ap line_way at)

  slot_name_fits : class_of a.pair.form ≡ OfTextBySlot → IsText ft rn b t → (g : UnitRole) → h ≡ g → Fits
  slot_name_fits e told OldUnit at =
      ap (λ (w : Rewrite). attr_held keys (name_by t a w)) (way_of_class h a.pair OfTextBySlot other_name e refl (ap (λ (z : UnitRole). is_file (slot_way z)) at) ∙ ap slot_way at)
      ∙ read_held keys ft rn a stored b OfTextBySlot (sym named) refl refl e refl (ap (λ (z : UnitRole). as_slot z ft b) (fit_is ∙ at)) (number_is OfTextBySlot e refl refl)
  slot_name_fits e told NewUnit at = as_text_fits told (way_of_class h a.pair OfTextBySlot other_name e refl (ap (λ (z : UnitRole). is_file (slot_way z)) at) ∙ ap slot_way at)
  slot_name_fits e told CommonUnit at = as_text_fits told (way_of_class h a.pair OfTextBySlot other_name e refl (ap (λ (z : UnitRole). is_file (slot_way z)) at) ∙ ap slot_way at)

  of_file : (line : Option ℕ) → IsFileBy line s (number_of a.raw) v → Fits
  of_file None m = no_text (only (File None)) m.1 refl
  of_file (Some place) m = no_text (only (File (Some m.path))) m.value refl

  of_number : (n : Bool) → IfSo n (IsFileBy (stmt_list s) s (number_of a.raw) v) (v ≡ constant_value a) → Fits
  of_number true m = of_file (stmt_list s) m
  of_number false m = no_text (constant_value a) m refl

  of_offset : (n : Bool) → IfSo n (IsLocList s (offset_of a) v) (v ≡ only (Sec (offset_of a))) → Fits
  of_offset true m = no_text _ m.value refl
  of_offset false m = no_text _ m refl

  name_step : IsText ft rn b t → (c : Class) → class_of a.pair.form ≡ c → MeansAs c s a v → s.around.common ≡ None → Fits
  name_step told OfAddress e m alone = no_text _ m refl
  name_step told OfBlock e m alone = no_text _ m refl
  name_step told OfConstant e m alone = of_number (names_file a.pair.name) m
  name_step told OfFlag e m alone = no_text _ m refl
  name_step told OfText e m alone =
      let bytes : text ≡ bytes_of a.raw = sym (own_text (bytes_of a.raw) m) in
      ap (λ (w : Rewrite). attr_held keys (name_by t a w)) (way_of_class h a.pair OfText other_name e refl refl)
      ∙ read_held keys ft rn a stored b OfText (sym named) refl refl e refl refl (ap (λ (w : List ℕ). as_value (Bytes w)) bytes ∙ ap as_value (sym (raw_bytes a stored OfText e refl refl)))
  name_step told OfTextInStr e m alone = as_text_fits told (way_of_class h a.pair OfTextInStr other_name e refl refl)
  name_step told OfTextInLineStr e m alone = line_fits e told h refl
  name_step told OfTextBySlot e m alone = slot_name_fits e told h refl
  name_step told OfUnitEntry e m alone = no_text _ m.1 refl
  name_step told OfInfoEntry e m alone = no_text _ m.1 refl
  name_step told OfSignature e m alone = no_text _ m refl
  name_step told OfOffset e m alone = of_offset (names_list a.pair.name) m
  name_step told OfExpression e m alone = no_text _ m.value refl
  name_step told OfListIndex e m alone = no_text _ m.list.value refl
  name_step told OfIndex e m alone = no_text _ m refl
  name_step told OfCommonEntry e m alone = absurd (let isnt : Some m.0 ≡ None = sym m.1 ∙ alone in cc)
  name_step told OfCommonText e m alone = absurd (let isnt : Some m.0 ≡ None = sym m.1 ∙ alone in cc)
  name_step told Unread e m alone = absurd m

-- ---- the first name among values

-- the value that is written of a space, and what it means
pub record NamedBy (h : UnitRole) (t : TextAt) (s : MeaningContext ℕ) (attrs : List RawAttr) (b : Attr ℕ) : Type 0 where
  pub a : RawAttr
  pub v : Value ℕ
  pub stored : IsStored a
  pub named : a.pair.name ≡ 0x03
  pub means : meaning s a ≡ Ok v
  pub is : attr_with a v ≡ b
  pub out : name_attrs h t attrs ≡ name_by t a (rewrite_of h a.pair) ∷ []

module _ (h : UnitRole) (t : TextAt) (s : MeaningContext ℕ) where
  abbrev pub by_test : Bool → RawAttr → List RawAttr → List OutAttr
  by_test test a attrs = cond test (name_by t a (rewrite_of h a.pair) ∷ []) (name_attrs h t attrs)

  first_out : (a : RawAttr) (attrs : List RawAttr) → name_attrs h t (a ∷ attrs) ≡ by_test (eqb a.pair.name 0x03) a attrs
  unfolding name_attrs
  first_out a attrs = refl

  abbrev pub Finds : List RawAttr → Type 0
  Finds attrs = (ds : List (Attr ℕ)) (b : Attr ℕ) → attrs_meaning s (without_siblings attrs) ≡ Ok ds → Each IsStored (without_siblings attrs) → first_named 0x03 ds ≡ Some b → NamedBy h t s attrs b

  passed : (a : RawAttr) (attrs : List RawAttr) (b : Attr ℕ) → eqb a.pair.name 0x03 ≡ false → NamedBy h t s attrs b → NamedBy h t s (a ∷ attrs) b
  passed a attrs b isnt n = record {
    a = n.a;
    v = n.v;
    stored = n.stored;
    named = n.named;
    means = n.means;
    is = n.is;
    out = first_out a attrs ∙ ap (λ (test : Bool). by_test test a attrs) isnt ∙ n.out;
  }

  none_found : Finds []
  unfolding attrs_meaning without_siblings first_named
  none_found ds b means stored found = (let e : [] ≡ ds = cc in absurd (let z : None ≡ Some b = ap (first_named 0x03) e ∙ found in cc))

  one_found : (a : RawAttr) (attrs : List RawAttr) → (a.pair.name ≡ 0x01 → ⊥) → Finds attrs → (ds : List (Attr ℕ)) (b : Attr ℕ) → attrs_meaning s (a ∷ without_siblings attrs) ≡ Ok ds → IsStored a
      → Each IsStored (without_siblings attrs) → first_named 0x03 ds ≡ Some b
      → NamedBy h t s (a ∷ attrs) b
  unfolding attrs_meaning first_named
  one_found a attrs other rest ds b means stored others found =
      let x = bind_ok (meaning s a) (λ v. attrs_meaning s (without_siblings attrs) >>= with_attr a v) ds means in
      let y = bind_ok (attrs_meaning s (without_siblings attrs)) (with_attr a x.0) ds x.2 in
      let z : attr_with a x.0 ∷ y.0 ≡ ds = cc in
      go x.0 y.0 x.1 (rest y.0 b y.1 others) (eqb a.pair.name 0x03) refl (ap (first_named 0x03) z ∙ found) where
        go : (v : Value ℕ) (left : List (Attr ℕ)) → meaning s a ≡ Ok v → (first_named 0x03 left ≡ Some b → NamedBy h t s attrs b) → (test : Bool) → eqb a.pair.name 0x03 ≡ test
            → cond test (Some (attr_with a v)) (first_named 0x03 left) ≡ Some b → NamedBy h t s (a ∷ attrs) b
        go v left m more true e f = record {
          a = a;
          v = v;
          stored = stored;
          named = eqb-true a.pair.name 0x03 e;
          means = m;
          is = (let w : attr_with a v ≡ b = cc in w);
          out = first_out a attrs ∙ ap (λ (test : Bool). by_test test a attrs) e;
        }
        go v left m more false e f = passed a attrs b e (more f)

  pub found_by : (attrs : List RawAttr) → Finds attrs
  found_by [] = none_found
  found_by (a ∷ attrs) = λ ds b means stored found. go (found_by attrs) ds b means stored found (eqb a.pair.name 0x01) refl where
    go : Finds attrs → (ds : List (Attr ℕ)) (b : Attr ℕ) → attrs_meaning s (without_siblings (a ∷ attrs)) ≡ Ok ds → Each IsStored (without_siblings (a ∷ attrs)) → first_named 0x03 ds ≡ Some b
        → (test : Bool) → eqb a.pair.name 0x01 ≡ test → NamedBy h t s (a ∷ attrs) b
    go rest ds b means stored found true e =
        let one = eqb-true a.pair.name 0x01 e in
        let skip = skipped a attrs one in
        let isnt : eqb a.pair.name 0x03 ≡ false = ap (λ (n : ℕ). eqb n 0x03) one in
        passed a attrs b isnt (rest ds b (ap (attrs_meaning s) (sym skip) ∙ means) (subst (Each IsStored) skip stored) found)
    go rest ds b means stored found false e =
        let other : a.pair.name ≡ 0x01 → ⊥ = eqb-false a.pair.name 0x01 e in
        let take = taken a attrs other in
        let both = subst (Each IsStored) take stored in
        one_found a attrs other rest ds b (ap (attrs_meaning s) (sym take) ∙ means) both.0 both.1 found

-- ---- a space

-- the first name of a space, which is a text
pub record HasName (d : Node ℕ) (text : List ℕ) : Type 0 where
  pub b : Attr ℕ
  pub found : first_named 0x03 d.attrs ≡ Some b
  pub is : text_of_plain b.value.plain ≡ Some text

pub has_name : (d : Node ℕ) (text : List ℕ) → space_text d ≡ Some text → HasName d text
unfolding space_text
has_name d text e = go (eqb d.tag 0x39) e where
  at : (o : Option (Attr ℕ)) → first_named 0x03 d.attrs ≡ o → text_value o ≡ Some text → HasName d text
  at None f z = absurd (let w : None ≡ Some text = z in cc)
  at (Some b) f z = record { b = b; found = f; is = z }

  go : (t : Bool) → (elim t as (λ _. Option (List ℕ)) [ true ↦ text_value (first_named 0x03 d.attrs) | false ↦ None ]) ≡ Some text → HasName d text
  go true z = at (first_named 0x03 d.attrs) refl z
  go false z = absurd (let w : None ≡ Some text = z in cc)

pub space_fits : (keys : Keys EntryName) (k : EntryTable) (f : FileRead) (ft : UnitForms EntryName) (rn : NewNumbers) (h : UnitRole) → ft.holder ≡ h
    → (file : KnowsFile k f) (space : SpaceRow) (i : ℕ) (x : EntryRow) (d : Node ℕ) (text : List ℕ) → space.row ≡ row f.number i → IsRead f i x d → space_text d ≡ Some text
    → IsText ft rn (name_attr (name_of text d)) (text_held h space)
    → map (attr_held keys) (space_attrs k h space) ≡ held_of (given_attr ft rn (name_attr (name_of text d))) ∷ []
space_fits keys k f ft rn h fit_is file space i x d text at read is told =
    let s = scope_of f.around read.unit in
    let n = has_name d text is in
    let by = found_by h (text_held h space) s x.entry.attrs d.attrs n.b (node_attrs s x.entry d read.means).0 (file.stored i x read.found) n.found in
    let there : row_at k space.row ≡ Some x = ap (λ (r : Row). row_at k r) at ∙ ap (λ (w : List EntryRow). slice_get w i) file.rows ∙ read.found in
    let same : name_attr (name_of text d) ≡ record { name = 0x03; form = by.a.pair.form; raw = number_of by.a.raw; value = only (Text text) } =
    ap (λ (o : Option (Attr ℕ)). name_attr (name_by_of text o)) n.found
    ∙ ap (λ (b : Attr ℕ). let c : Attr EntryName = record { name = 0x03; form = b.form; raw = b.raw; value = only (Text text) } in c)
    (sym by.is) in
    let own : text_of_plain by.v.plain ≡ Some text = ap (λ (b : Attr ℕ). text_of_plain b.value.plain) by.is ∙ n.is in
    let one = name_step keys ft rn h fit_is (text_held h space) text s by.a by.stored by.v by.named own (subst (λ (b : Attr EntryName). IsText ft rn b (text_held h space)) same told)
    (class_of by.a.pair.form) refl (((value_agrees s by.a).ok by.v).0 by.means) file.alone in
    ap (λ (o : Option EntryRow). map (attr_held keys) (option_map_or (λ (r : EntryRow). name_attrs h (text_held h space) r.entry.attrs) o [])) there
    ∙ ap (map (attr_held keys)) by.out
    ∙ ap (λ (y : HeldAttr EntryName). y ∷ []) (one ∙ ap (λ (b : Attr EntryName). held_of (given_attr ft rn b)) (sym same))
