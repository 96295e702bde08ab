-- What is written of a value is what the definition of forms says: class by class, with what is named behind it.
use Rattle.std.proofs.Common.{◌≡◌, ℕ, ◌+◌, Bool, true, false, List, [], ◌∷◌, ◌++◌, length, map, Ok, Option, Some, None, pos, refl, sym, ap, subst, ◌∙◌, cond, eqb, eqb-true, arith}
use Rattle.std.proofs.lemmas.List.{length-map}
use Rattle.dwz_def_reading.specs.Spelling.{reach}
use Rattle.dwz_def_reading.specs.Entries.{RawAttr}
use Rattle.dwz_def_reading.specs.Values.{Bytes, Number}
use Rattle.dwz_def_reading.specs.declared.exprs.Operand.{Operand}
use Rattle.dwz_def_reading.specs.Documents.{Attr, Sec, Value, attr_map, only, ref}
use Rattle.dwz_def_reading.specs.Exprs.{parts_of}
use Rattle.dwz_def_reading.specs.Meanings.{IfSo, IsExpression, IsFileBy, IsLocList, MeansAs}
use Rattle.dwz_def_reading.specs.Classes.{OfAddress, OfBlock, OfCommonEntry, OfCommonText, OfConstant, OfExpression, OfFlag, OfIndex}
use Rattle.dwz_def_reading.specs.Classes.{Class}
use Rattle.dwz_def_reading.specs.Meanings.{MeaningContext, bytes_of}
use Rattle.dwz_def_reading.specs.Classes.{OfInfoEntry, OfListIndex, OfOffset, OfSignature, OfText, OfTextBySlot, OfTextInLineStr, OfTextInStr, OfUnitEntry, Unread}
use Rattle.dwz_def_reading.specs.Classes.{class_in}
use Rattle.dwz_def_reading.specs.Meant.{attr_with, meaning}
use Rattle.dwz_def_reading.specs.Meanings.{block_begins, constant_value, expr_context, number_of, offset_of, stmt_list, target_of, targets}
use Rattle.dwz_def_reading.specs.Classes.{class_of, class_rows, names_file, names_list}
use Rattle.dwz_def_reading.proofs.MeaningLemmas.{value_agrees}
use Rattle.dwz_def_reading.specs.Pair.{Pair}
use Rattle.dwz_def_tops.specs.Spots.{EntryName}
use Rattle.dwz_graph.specs.Named.{value_refs}
use Rattle.dwz_def_encoding.specs.Carried.{IsStored}
use Rattle.dwz_def_encoding.specs.Placing.{Chosen, CommonUnit, UnitForms, UnitRole, InCommon, InFile, InUnit, NewUnit, OldUnit, Reach, as_constant, as_reference, as_file, as_read, as_line_text, as_slot}
use Rattle.dwz_def_encoding.specs.Placing.{file_number}
use Rattle.dwz_def_encoding.specs.Placing.{fit_as, fit_attr, has_key, reach_by, reach_of, ref_form, with_form}
use Rattle.dwz_def_encoding.specs.Writing.{block_in, pair_of, text_or_empty}
use Rattle.dwz_def_encoding.proofs.StoredClasses.{expression_form, stores_bytes}
use Rattle.dwz_layout.specs.declared.known.ValueCounts.{ValueCounts}
use Rattle.dwz_layout.specs.declared.known.EntryTable.{EntryTable}
use Rattle.dwz_layout.specs.declared.known.TextAt.{TextAt}
use Rattle.dwz_layout.specs.declared.ways.Rewrite.{Rewrite}
use Rattle.dwz_layout.specs.declared.ways.Rewrite.TheVariants.{AsEntry, AsExpression, AsFile, AsRead, AsText, KeepsText}
use Rattle.dwz_layout.specs.Attributes.{WritingContext, after, after_by, expr_parts, form_to, operand_count, out_attr, out_by, parts_or, plain_pair, read_attr, references_from}
use Rattle.dwz_layout.specs.Known.{file_at, owner_of, reference_at, text_at}
use Rattle.dwz_layout.specs.Ways.{if_file, rewrite_of}
use Rattle.dwz_layout.proofs.PartLemmas.{count_from}
use Rattle.dwz_encode.specs.Shown.{HeldAttr, Key, Keys, Parts, Value as ValueHeld, attr_held, held_as, held_of}
use Rattle.dwz_law_layout.specs.Knows.{EachFrom, FileRead, IsNamed, IsReached, IsText, NewNumbers, chosen_of, given_attr, is_placed, numbers_by, renumbered_if, text_chosen}
use Rattle.dwz_law_layout.proofs.FormWays.{is_file, is_read, line_way, number_way, slot_way, way_is, way_of_class}
use Rattle.dwz_law_layout.proofs.StoredLemmas.{raw_bytes, raw_number, same_pair}
use Rattle.dwz_law_layout.proofs.WeakerLemmas.{read_any}
use Rattle.dwz_law_layout.proofs.FormFits.{as_value, entry_held, expr_held_is, file_held, text_in_form}

-- ---- new numbers of texts

str_class : class_of 0x0e ≡ OfTextInStr
unfolding class_rows class_in
str_class = refl

abbrev pub is_str : Class → Bool
is_str OfTextInStr = true
is_str _ = false

-- the form of another class isn't DW_FORM_strp
other_form : (form : ℕ) (c : Class) → class_of form ≡ c → is_str c ≡ false → eqb form 0x0e ≡ false
other_form form c e other = go (eqb form 0x0e) refl where
  go : (t : Bool) → eqb form 0x0e ≡ t → t ≡ false
  go false t = refl
  go true t =
      absurd (let same : class_of form ≡ OfTextInStr = ap class_of (eqb-true form 0x0e t) ∙ str_class in let yes : is_str c ≡ true = ap is_str (sym e ∙ same) in let z : true ≡ false = sym yes
      ∙ other in cc)

-- what has another form stays
stays : (rn : NewNumbers) (x : Attr EntryName) → eqb x.form 0x0e ≡ false → renumbered_if rn x ≡ x
stays None x other = refl
stays (Some number) x other = ap (λ (t : Bool). cond t (with_form x (record { form = 0x0e; raw = pos (number (reach x.raw)) })) x) other

-- only the form and the number change
given_form : (ft : UnitForms EntryName) (rn : NewNumbers) (b : Attr EntryName) → given_attr ft rn b ≡ with_form b (chosen_of (given_attr ft rn b))
given_form ft None b = refl
given_form ft (Some number) b = go (eqb (fit_attr ft b).form 0x0e) where
  go : (t : Bool) → cond t (with_form (fit_attr ft b) (record { form = 0x0e; raw = pos (number (reach (fit_attr ft b).raw)) })) (fit_attr ft b)
      ≡ with_form b (chosen_of (cond t (with_form (fit_attr ft b) (record { form = 0x0e; raw = pos (number (reach (fit_attr ft b).raw)) })) (fit_attr ft b)))
  go true = refl
  go false = refl

pub text_given : (ft : UnitForms EntryName) (rn : NewNumbers) (b : Attr EntryName) (t : TextAt) → text_chosen t ≡ chosen_of (given_attr ft rn b)
    → held_of (with_form b (text_chosen t)) ≡ held_of (given_attr ft rn b)
text_given ft rn b t e = ap (λ (ch : Chosen). held_of (with_form b ch)) e ∙ ap (λ (x : Attr EntryName). held_of x) (sym (given_form ft rn b))

-- a value with another form than that of a text
pub other_given : (ft : UnitForms EntryName) (rn : NewNumbers) (b : Attr EntryName) (ch : Chosen) → ch ≡ fit_as (class_of b.form) ft b → eqb ch.form 0x0e ≡ false
    → held_of (with_form b ch) ≡ held_of (given_attr ft rn b)
other_given ft rn b ch e other =
    ap (λ (c : Chosen). held_of (with_form b c)) e ∙ ap (λ (x : Attr EntryName). held_of x) (sym (stays rn (fit_attr ft b) (sym (ap (λ (c : Chosen). eqb c.form 0x0e) e) ∙ other)))

pub reference_form : (r : Reach) → eqb (ref_form r) 0x0e ≡ false
reference_form InUnit = refl
reference_form InFile = refl
reference_form InCommon = refl

-- a value that is written as it was read
pub read_held : (keys : Keys EntryName) (ft : UnitForms EntryName) (rn : NewNumbers) (a : RawAttr) (stored : IsStored a) (b : Attr EntryName) (c : Class) → b.name ≡ a.pair.name → b.form ≡ a.pair.form
    → b.raw ≡ number_of a.raw → class_of a.pair.form ≡ c → is_str c ≡ false → fit_as c ft b ≡ as_read b → held_as c b ≡ ValueHeld a.raw
    → attr_held keys (read_attr a) ≡ held_of (given_attr ft rn b)
read_held keys ft rn a stored b c name form raw e other chosen kept =
    let same : held_as (class_of b.form) b ≡ ValueHeld a.raw = ap (λ (d : Class). held_as d b) (ap class_of form ∙ e) ∙ kept in
    let as_it_was : fit_as (class_of b.form) ft b ≡ as_read b = ap (λ (d : Class). fit_as d ft b) (ap class_of form ∙ e) ∙ chosen in
    let pair : a.pair ≡ pair_of b =
    same_pair a stored ∙ (λ i. let p : Pair = record { name = sym name i; form = sym form i; constant = cond (eqb (sym form i) 0x21) (sym raw i) (pos 0) } in p) in
    (λ i. let x : HeldAttr EntryName = record { pair = pair i; held = sym same i } in x)
    ∙ other_given ft rn b (as_read b) (sym as_it_was) (other_form b.form c (ap class_of form ∙ e) other)

-- ---- one value

-- what is known of references, texts and numbers of files from some on
pub record IsKnown (keys : Keys EntryName) (k : EntryTable) (f : FileRead) (here : ℕ) (ft : UnitForms EntryName) (rn : NewNumbers) (next : ValueCounts) (refs : List ℕ) (ts fs : List (Attr EntryName)) :
    Type 0 where
  pub references : EachFrom (λ n p. IsNamed keys k f n (f.after p)) next.reference refs
  pub owners : EachFrom (λ n p. IsReached keys k here ft (reference_at k f.number n)) next.reference refs
  pub texts : EachFrom (λ n a. IsText ft rn a (text_at k f.number n)) next.text ts
  pub files : ft.holder ≡ CommonUnit → EachFrom (λ n a. file_at k f.number n ≡ file_number ft.paths a.value.plain) next.file fs

from_split : {X : Type 0} (P : ℕ → X → Type 0) (n : ℕ) (xs ys : List X) → EachFrom P n (xs ++ ys) → EachFrom P (n + length xs) ys
from_split {X} P n [] ys h = subst (λ (m : ℕ). EachFrom P m ys) (let e : n ≡ n + 0 = omega arith in e) h
from_split {X} P n (x ∷ xs) ys h = (let e : n + 1 + length xs ≡ n + length (x ∷ xs) = omega arith in subst (λ (m : ℕ). EachFrom P m ys) e (from_split P (n + 1) xs ys h.1))

from_first : {X : Type 0} (P : ℕ → X → Type 0) (n : ℕ) (xs ys : List X) → EachFrom P n (xs ++ ys) → EachFrom P n xs
from_first P n [] ys h = tt
from_first P n (x ∷ xs) ys h = (h.0, from_first P (n + 1) xs ys h.1)

module _ (keys : Keys EntryName) (k : EntryTable) (f : FileRead) (here : WritingContext) (ft : UnitForms EntryName) (rn : NewNumbers) (h : UnitRole) (here_is : here.holder ≡ h) (fit_is : ft.holder ≡ h)
  where
    -- the references from a number on have these names
    refs_named : (n : ℕ) (ps : List ℕ) → EachFrom (λ m p. IsNamed keys k f m (f.after p)) n ps → map keys.row (references_from k f.number n (length ps)) ≡ map f.after ps
    unfolding references_from
    refs_named n [] all = refl
    refs_named n (p ∷ ps) all = (λ i. all.0 i ∷ refs_named (n + 1) ps all.1 i)

    module _ (s : MeaningContext ℕ) (alone : s.around.common ≡ None) (a : RawAttr) (v : Value ℕ) (stored : IsStored a) (next : ValueCounts) where
      abbrev b : Attr EntryName
      b = attr_map f.after (attr_with a v)

      abbrev IsFitted : Type 0
      IsFitted = map (attr_held keys) (out_attr k f.number here next a) ≡ held_of (given_attr ft rn b) ∷ []

      -- what is written is fitted, and the rest is known from there on
      pub record Done (refs : List ℕ) (texts files : List (Attr EntryName)) : Type 0 where
        pub fitted : IsFitted
        pub rest : IsKnown keys k f here.unit ft rn (after here next a) refs texts files

      out_is : (w : Rewrite) → rewrite_of here.holder a.pair ≡ w → out_attr k f.number here next a ≡ out_by k f.number here.unit next a w
      out_is w e = ap (out_by k f.number here.unit next a) e

      after_is : (w : Rewrite) → rewrite_of here.holder a.pair ≡ w → after here next a ≡ after_by next a w
      after_is w e = ap (after_by next a) e

      way_here : (w : Rewrite) → rewrite_of h a.pair ≡ w → rewrite_of here.holder a.pair ≡ w
      way_here w e = ap (λ (g : UnitRole). rewrite_of g a.pair) here_is ∙ e

      rest_at : (w : Rewrite) → rewrite_of here.holder a.pair ≡ w → (refs : List ℕ) (texts files : List (Attr EntryName)) → IsKnown keys k f here.unit ft rn (after_by next a w) refs texts files
          → IsKnown keys k f here.unit ft rn (after here next a) refs texts files
      rest_at w e refs texts files known = subst (λ (g : ValueCounts). IsKnown keys k f here.unit ft rn g refs texts files) (sym (after_is w e)) known

      -- a value that is written as it was read
      read_fitted : (c : Class) → class_of a.pair.form ≡ c → is_str c ≡ false → out_attr k f.number here next a ≡ read_attr a ∷ [] → fit_as c ft b ≡ as_read b → held_as c b ≡ ValueHeld a.raw → IsFitted
      read_fitted c e other out chosen kept = ap (map (attr_held keys)) out ∙ ap (λ (x : HeldAttr EntryName). x ∷ []) (read_held keys ft rn a stored b c refl refl refl e other chosen kept)

      no_refs_left : (refs : List ℕ) (texts files : List (Attr EntryName)) → value_refs v ≡ [] → IsKnown keys k f here.unit ft rn next (value_refs v ++ refs) texts files
          → IsKnown keys k f here.unit ft rn next refs texts files
      no_refs_left refs texts files none known = subst (λ (w : List ℕ). IsKnown keys k f here.unit ft rn next (w ++ refs) texts files) none known

      number_kept : (c : Class) → class_of a.pair.form ≡ c → stores_bytes c ≡ false → is_read c ≡ true → as_value (Number b.raw) ≡ ValueHeld a.raw
      number_kept c e isnt some = ap as_value (sym (raw_number a stored c e isnt some))

      -- ---- neither a text, nor a file, nor an entry
      plain_done : (c : Class) → class_of a.pair.form ≡ c → is_str c ≡ false → rewrite_of h a.pair ≡ AsRead → fit_as c ft b ≡ as_read b → held_as c b ≡ ValueHeld a.raw → value_refs v ≡ []
          → (refs : List ℕ) (texts files : List (Attr EntryName))
          → IsKnown keys k f here.unit ft rn next (value_refs v ++ refs) texts files → Done refs texts files
      plain_done c e other way chosen kept none refs texts files known =
          let w = way_here AsRead way in
          record {
            fitted = read_fitted c e other (out_is AsRead w) chosen kept;
            rest = rest_at AsRead w refs texts files (no_refs_left refs texts files none known);
          }

      -- ---- texts
      text_kept : (c : Class) → class_of a.pair.form ≡ c → is_str c ≡ false → rewrite_of h a.pair ≡ KeepsText → fit_as c ft b ≡ as_read b → held_as c b ≡ ValueHeld a.raw → value_refs v ≡ []
          → (refs : List ℕ) (texts files : List (Attr EntryName))
          → IsKnown keys k f here.unit ft rn next (value_refs v ++ refs) (b ∷ texts) files → Done refs texts files
      text_kept c e other way chosen kept none refs texts files known =
          let w = way_here KeepsText way in
          let left = no_refs_left refs (b ∷ texts) files none known in
          record {
            fitted = read_fitted c e other (out_is KeepsText w) chosen kept;
            rest = rest_at KeepsText w refs texts files (record { references = left.references; owners = left.owners; texts = left.texts.1; files = left.files });
          }

      -- the way of the name and form alone
      plain_way : rewrite_of ft.holder (plain_pair a.pair.name a.pair.form) ≡ rewrite_of h a.pair
      plain_way = ap (λ (g : UnitRole). rewrite_of g a.pair) fit_is

      text_done : rewrite_of h a.pair ≡ AsText → value_refs v ≡ [] → (refs : List ℕ) (texts files : List (Attr EntryName)) → IsKnown keys k f here.unit ft rn next (value_refs v
          ++ refs) (b ∷ texts) files
          → Done refs texts files
      text_done way none refs texts files known =
          let w = way_here AsText way in
          let left = no_refs_left refs (b ∷ texts) files none known in
          let t = text_at k f.number next.text in
          record {
            fitted =
                ap (map (attr_held keys)) (out_is AsText w)
                ∙ ap (λ (x : HeldAttr EntryName). x ∷ []) (text_in_form t b ∙ text_given ft rn b t (left.texts.0 (plain_way ∙ way)));
            rest = rest_at AsText w refs texts files (record { references = left.references; owners = left.owners; texts = left.texts.1; files = left.files });
          }

      -- ---- numbers of files in the common file
      file_done : class_of a.pair.form ≡ OfConstant → names_file a.pair.name ≡ true → h ≡ CommonUnit → rewrite_of h a.pair ≡ AsFile → value_refs v ≡ []
          → (refs : List ℕ) (texts files : List (Attr EntryName))
          → IsKnown keys k f here.unit ft rn next (value_refs v ++ refs) texts (b ∷ files) → Done refs texts files
      file_done e named common way none refs texts files known =
          let w = way_here AsFile way in
          let left = no_refs_left refs texts (b ∷ files) none known in
          let there = left.files (fit_is ∙ common) in
          let form : record { form = 0x0f; raw = pos (file_number ft.paths b.value.plain) } ≡ fit_as (class_of a.pair.form) ft b =
          (λ i. as_file (sym (fit_is ∙ common) i) ft b) ∙ (λ i. as_constant (sym named i) ft b) ∙ ap (λ (d : Class). fit_as d ft b) (sym e) in
          record {
            fitted =
                ap (map (attr_held keys)) (out_is AsFile w)
                ∙ ap (λ (n : ℕ). let x : HeldAttr EntryName = record { pair = plain_pair a.pair.name 0x0f; held = ValueHeld (Number (pos n)) } in x ∷ []) there.0
                ∙ ap (λ (x : HeldAttr EntryName). x ∷ []) (file_held (file_number ft.paths b.value.plain) b
                ∙ other_given ft rn b (record { form = 0x0f; raw = pos (file_number ft.paths b.value.plain) }) form refl);
            rest = rest_at AsFile w refs texts files (record { references = left.references; owners = left.owners; texts = left.texts; files = λ c. (left.files c).1 });
          }

      -- ---- references
      entry_done : (c : Class) → class_of a.pair.form ≡ c → fit_as c ft b ≡ as_reference ft b → rewrite_of h a.pair ≡ AsEntry → (p : ℕ) → v ≡ ref p
          → (refs : List ℕ) (texts files : List (Attr EntryName))
          → IsKnown keys k f here.unit ft rn next (value_refs v ++ refs) texts files → Done refs texts files
      entry_done c e chosen way p value refs texts files known =
          let w = way_here AsEntry way in
          let left = subst (λ (rs : List ℕ). IsKnown keys k f here.unit ft rn next (rs ++ refs) texts files) (ap value_refs value) known in
          let number = reference_at k f.number next.reference in
          let named : keys.row number ≡ f.after p = left.references.0 in
          let reached = left.owners.0 in
          let refs_are : b.value.refs ≡ f.after p ∷ [] = ap (λ (u : Value ℕ). map f.after u.refs) value in
          let way_to = reach_by (has_key ft.same (f.after p) ft.own) (has_key ft.same (f.after p) ft.keys) in
          let form : form_to k here.unit (owner_of k number) ≡ ref_form way_to =
          (λ i. ref_form (reach_by (sym reached.own i) (sym reached.file i))) ∙ ap (λ (x : EntryName). ref_form (reach_by (has_key ft.same x ft.own) (has_key ft.same x ft.keys))) named in
          let fitted_form : record { form = ref_form way_to; raw = b.raw } ≡ fit_as (class_of a.pair.form) ft b =
          ap (λ (rs : List EntryName). let ch : Chosen = record { form = ref_form (reach_of ft rs); raw = b.raw } in ch) (sym refs_are) ∙ sym chosen ∙ ap (λ (d : Class). fit_as d ft b) (sym e) in
          record {
            fitted =
                ap (map (attr_held keys)) (out_is AsEntry w)
                ∙ (λ i. let x : HeldAttr EntryName = record { pair = plain_pair a.pair.name (form i); held = Key (named i) } in x ∷ [])
                ∙ ap (λ (x : HeldAttr EntryName). x ∷ []) (entry_held way_to b (f.after p) refs_are
                ∙ other_given ft rn b (record { form = ref_form way_to; raw = b.raw }) fitted_form (reference_form way_to));
            rest = rest_at AsEntry w refs texts files (record { references = left.references.1; owners = left.owners.1; texts = left.texts; files = left.files });
          }

      -- ---- expressions
      expr_done : class_of a.pair.form ≡ OfExpression → IsExpression s a v → rewrite_of h a.pair ≡ AsExpression → (refs : List ℕ) (texts files : List (Attr EntryName))
          → IsKnown keys k f here.unit ft rn next (value_refs v ++ refs) texts files → Done refs texts files
      expr_done e m way refs texts files known =
          let w = way_here AsExpression way in
          let ex = m.expression in
          let parts : expr_parts a ≡ parts_of ex = ap (parts_or (bytes_of a.raw)) (read_any (expr_context s 1) 1 ex (block_begins a) (bytes_of a.raw) m.spelled) in
          let refs_are : v.refs ≡ targets s ex.operands = ap (λ (u : Value ℕ). u.refs) m.value in
          let named : value_refs v ≡ v.refs = ap value_refs m.value ∙ sym refs_are in
          let count : operand_count (expr_parts a) ≡ length v.refs =
          ap operand_count parts ∙ count_from ex.at ex.bytes ex.operands ∙ sym (ap (λ (rs : List ℕ). length rs) refs_are ∙ length-map ex.operands (λ (o : Operand). s.around.place (target_of s o))) in
          let left = subst (λ (rs : List ℕ). IsKnown keys k f here.unit ft rn next (rs ++ refs) texts files) named known in
          let names : map keys.row (references_from k f.number next.reference (operand_count (expr_parts a))) ≡ map f.after v.refs =
          ap (λ (n : ℕ). map keys.row (references_from k f.number next.reference n)) count ∙ refs_named next.reference v.refs (from_first (λ m p. IsNamed keys k f m (f.after p)) next.reference v.refs
          refs left.references) in
          let sum : next.reference + length v.refs ≡ next.reference + operand_count (expr_parts a) = ap (λ (n : ℕ). next.reference + n) (sym count) in
          record {
            fitted =
                ap (map (attr_held keys)) (out_is AsExpression w)
                ∙ (λ i. let x : HeldAttr EntryName = record { pair = plain_pair a.pair.name 0x18; held = Parts (parts i) (names i) } in x ∷ [])
                ∙ ap (λ (x : HeldAttr EntryName). x ∷ []) (expr_held_is b (parts_of ex) (expression_form a.pair.form e) (ap (λ (u : Value ℕ). u.plain) m.value)
                ∙ other_given ft rn b (as_read b) (sym (ap (λ (d : Class). fit_as d ft b) e)) (other_form b.form OfExpression e refl));
            rest = rest_at AsExpression w refs texts files (record {
              references = subst (λ (n : ℕ). EachFrom (λ m p. IsNamed keys k f m (f.after p)) n refs) sum (from_split (λ m p. IsNamed keys k f m (f.after p)) next.reference v.refs refs left.references);
              owners = subst (λ (n : ℕ). EachFrom (λ m p. IsReached keys k here.unit ft (reference_at k f.number m)) n refs) sum (from_split (λ m p. IsReached keys k here.unit ft (reference_at k
                  f.number m)) next.reference v.refs refs left.owners);
              texts = left.texts;
              files = left.files;
            });
          }

      -- ---- class by class
      none_of_list : (place : ℕ) → IsLocList s place v → value_refs v ≡ []
      none_of_list place m = ap value_refs m.value

      none_of_offset : (t : Bool) → IfSo t (IsLocList s (offset_of a) v) (v ≡ only (Sec (offset_of a))) → value_refs v ≡ []
      none_of_offset true m = none_of_list (offset_of a) m
      none_of_offset false m = ap value_refs m

      none_of_file : (line : Option ℕ) → IsFileBy line s (number_of a.raw) v → value_refs v ≡ []
      none_of_file None m = ap value_refs m.1
      none_of_file (Some place) m = ap value_refs m.value

      not_common : {A : Type 0} → (h ≡ CommonUnit → ⊥) → ft.holder ≡ CommonUnit → A
      not_common other c = absurd (other (sym fit_is ∙ c))

      module _ (other : a.pair.name ≡ 0x01 → ⊥) (refs : List ℕ) (texts files : List (Attr EntryName)) where
        abbrev Left : List (Attr EntryName) → List (Attr EntryName) → Type 0
        Left ts fs = IsKnown keys k f here.unit ft rn next (value_refs v ++ refs) ts fs

        -- a number
        read_number : (g : UnitRole) → if_file false (number_way g) ≡ AsRead
        read_number OldUnit = refl
        read_number NewUnit = refl
        read_number CommonUnit = refl

        constant_step : class_of a.pair.form ≡ OfConstant → (t : Bool) → names_file a.pair.name ≡ t → IfSo t (IsFileBy (stmt_list s) s (number_of a.raw) v) (v ≡ constant_value a)
            → Left texts (cond t (b ∷ files) files) → Done refs texts files
        constant_step e false n m known =
            plain_done OfConstant e refl (way_is h a.pair OfConstant other e refl ∙ ap (λ (t : Bool). if_file t (number_way h)) n
            ∙ read_number h) (ap (λ (t : Bool). as_constant t ft b) n) (number_kept OfConstant e refl refl) (ap value_refs m) refs texts files known
        constant_step e true n m known = go h refl where
          none : value_refs v ≡ []
          none = none_of_file (stmt_list s) m

          way : rewrite_of h a.pair ≡ number_way h
          way = way_is h a.pair OfConstant other e refl ∙ ap (λ (t : Bool). if_file t (number_way h)) n

          as_it_was : (h ≡ CommonUnit → ⊥) → number_way h ≡ AsRead → as_file h ft b ≡ as_read b → Done refs texts files
          as_it_was isnt w chosen =
              plain_done OfConstant e refl (way ∙ w) (ap (λ (t : Bool). as_constant t ft b) n ∙ ap (λ (g : UnitRole). as_file g ft b) fit_is
              ∙ chosen) (number_kept OfConstant e refl refl) none refs texts files
              (record { references = known.references; owners = known.owners; texts = known.texts; files = λ c. not_common isnt c })

          go : (g : UnitRole) → h ≡ g → Done refs texts files
          go OldUnit is = as_it_was (λ c. let isnt : OldUnit ≡ CommonUnit = sym is ∙ c in cc) (ap number_way is) (ap (λ (g : UnitRole). as_file g ft b) is)
          go NewUnit is = as_it_was (λ c. let isnt : NewUnit ≡ CommonUnit = sym is ∙ c in cc) (ap number_way is) (ap (λ (g : UnitRole). as_file g ft b) is)
          go CommonUnit is = file_done e n is (way ∙ ap number_way is) none refs texts files known

        -- a text of `.debug_line_str`
        line_step : class_of a.pair.form ≡ OfTextInLineStr → value_refs v ≡ [] → Left (b ∷ texts) files → (g : UnitRole) → h ≡ g → Done refs texts files
        line_step e none known OldUnit is =
            text_kept OfTextInLineStr e refl (way_of_class h a.pair OfTextInLineStr other e refl (ap (λ (z : UnitRole). is_file (line_way z)) is)
            ∙ ap line_way is) (ap (λ (z : UnitRole). as_line_text z ft b) (fit_is ∙ is)) (number_kept OfTextInLineStr e refl refl) none refs texts files known
        line_step e none known NewUnit is =
            text_kept OfTextInLineStr e refl (way_of_class h a.pair OfTextInLineStr other e refl (ap (λ (z : UnitRole). is_file (line_way z)) is)
            ∙ ap line_way is) (ap (λ (z : UnitRole). as_line_text z ft b) (fit_is ∙ is)) (number_kept OfTextInLineStr e refl refl) none refs texts files known
        line_step e none known CommonUnit is = text_done (way_of_class h a.pair OfTextInLineStr other e refl (ap (λ (z : UnitRole). is_file (line_way z)) is)
            ∙ ap line_way is) none refs texts files known

        -- a text by its slot
        slot_step : class_of a.pair.form ≡ OfTextBySlot → value_refs v ≡ [] → Left (b ∷ texts) files → (g : UnitRole) → h ≡ g → Done refs texts files
        slot_step e none known OldUnit is =
            text_kept OfTextBySlot e refl (way_of_class h a.pair OfTextBySlot other e refl (ap (λ (z : UnitRole). is_file (slot_way z)) is)
            ∙ ap slot_way is) (ap (λ (z : UnitRole). as_slot z ft b) (fit_is ∙ is)) (number_kept OfTextBySlot e refl refl) none refs texts files known
        slot_step e none known NewUnit is = text_done (way_of_class h a.pair OfTextBySlot other e refl (ap (λ (z : UnitRole). is_file (slot_way z)) is) ∙ ap slot_way is) none refs texts files known
        slot_step e none known CommonUnit is = text_done (way_of_class h a.pair OfTextBySlot other e refl (ap (λ (z : UnitRole). is_file (slot_way z)) is) ∙ ap slot_way is) none refs texts files known

        step : (c : Class) → class_of a.pair.form ≡ c → MeansAs c s a v → Left (cond (is_placed c) (b ∷ texts) texts) (cond (numbers_by c (names_file a.pair.name)) (b ∷ files) files)
            → Done refs texts files
        step OfAddress e m known = plain_done OfAddress e refl (way_of_class h a.pair OfAddress other e refl refl) refl (number_kept OfAddress e refl refl) (ap value_refs m) refs texts files known
        step OfBlock e m known =
            plain_done OfBlock e refl (way_of_class h a.pair OfBlock other e refl refl) refl (ap (λ (u : Value ℕ). as_value (Bytes (block_in u.plain))) m
            ∙ ap as_value (sym (raw_bytes a stored OfBlock e refl refl))) (ap value_refs m) refs texts files known
        step OfConstant e m known = constant_step e (names_file a.pair.name) refl m known
        step OfFlag e m known = plain_done OfFlag e refl (way_of_class h a.pair OfFlag other e refl refl) refl (number_kept OfFlag e refl refl) (ap value_refs m) refs texts files known
        step OfText e m known =
            plain_done OfText e refl (way_of_class h a.pair OfText other e refl refl) refl (ap (λ (u : Value ℕ). as_value (Bytes (text_or_empty u.plain))) m
            ∙ ap as_value (sym (raw_bytes a stored OfText e refl refl))) (ap value_refs m) refs texts files known
        step OfTextInStr e m known = text_done (way_of_class h a.pair OfTextInStr other e refl refl) (ap value_refs m.value) refs texts files known
        step OfTextInLineStr e m known = line_step e (ap value_refs m.value) known h refl
        step OfTextBySlot e m known = slot_step e (ap value_refs m.text.value) known h refl
        step OfUnitEntry e m known = entry_done OfUnitEntry e refl (way_of_class h a.pair OfUnitEntry other e refl refl) (s.around.place (s.unit + offset_of a)) m.1 refs texts files known
        step OfInfoEntry e m known = entry_done OfInfoEntry e refl (way_of_class h a.pair OfInfoEntry other e refl refl) (s.around.place (offset_of a)) m.1 refs texts files known
        step OfSignature e m known = plain_done OfSignature e refl (way_of_class h a.pair OfSignature other e refl refl) refl (number_kept OfSignature e refl refl)
            (ap value_refs m) refs texts files known
        step OfOffset e m known = plain_done OfOffset e refl (way_of_class h a.pair OfOffset other e refl refl) refl (number_kept OfOffset e refl refl)
            (none_of_offset (names_list a.pair.name) m) refs texts files known
        step OfExpression e m known = expr_done e m (way_of_class h a.pair OfExpression other e refl refl) refs texts files known
        step OfListIndex e m known =
            plain_done OfListIndex e refl (way_of_class h a.pair OfListIndex other e refl refl) refl (number_kept OfListIndex e refl refl)
            (none_of_list (m.base + m.offset) m.list) refs texts files known
        step OfIndex e m known = plain_done OfIndex e refl (way_of_class h a.pair OfIndex other e refl refl) refl (number_kept OfIndex e refl refl) (ap value_refs m) refs texts files known
        step OfCommonEntry e m known = absurd (let isnt : Some m.0 ≡ None = sym m.1 ∙ alone in cc)
        step OfCommonText e m known = absurd (let isnt : Some m.0 ≡ None = sym m.1 ∙ alone in cc)
        step Unread e m known = absurd m

        pub value_fits : meaning s a ≡ Ok v → Left (cond (is_placed (class_of a.pair.form)) (b ∷ texts) texts) (cond (numbers_by (class_of a.pair.form) (names_file a.pair.name)) (b ∷ files) files)
            → Done refs texts files
        value_fits means known = step (class_of a.pair.form) refl (((value_agrees s a).ok v).0 means) known
