-- What DW_AT_import names, as it is stored and in documents.
use Rattle.std.proofs.Common.{◌≡◌, ℕ, ◌+◌, ◌<◌, ◌^◌, ◌==◌, ◌&&◌, ◌||◌, Bool, true, false, List, [], ◌∷◌, ◌++◌, Option, Some, None, refl, sym, ap, ◌∙◌, inl, inr, arith, eq-eqb}
use Rattle.std.proofs.Common.{eqb-true, if◌then◌else◌}
use Rattle.std.specs.List.{flat_map, list_any}
use Rattle.std.proofs.lemmas.Bool.{cases_Bool, false≢true}
use Rattle.dwz_codes.specs.Rows.{has}
use Rattle.dwz_model.specs.Lists.{In}
use Rattle.dwz_def_reading.specs.Classes.{Class, OfAddress, OfBlock, OfCommonEntry, OfCommonText, OfConstant, OfExpression, OfFlag, OfIndex, OfInfoEntry, OfListIndex, OfOffset, OfSignature, OfText}
use Rattle.dwz_def_reading.specs.Classes.{OfTextBySlot, OfTextInLineStr, OfTextInStr, OfUnitEntry, Unread}
use Rattle.dwz_def_reading.specs.Classes.{class_of, names_file, names_list}
use Rattle.dwz_def_reading.specs.Documents.{Attr, Node, Plain, Sec, Value, only, ref}
use Rattle.dwz_def_reading.specs.Documents as document
use Rattle.dwz_def_reading.specs.Entries.{RawAttr, RawEntry}
use Rattle.dwz_def_reading.specs.Meanings.{Common, IfSo, IsFileBy, IsLocList, MeanAttrs, MeaningContext, MeansAs, MeansAttr, MeansNode}
use Rattle.dwz_def_reading.specs.Meanings.{constant_value, number_of, offset_of, stmt_list, without_siblings}
use Rattle.dwz_def_expand.specs.Source.{is_entry, is_import, is_import_attr}
use Rattle.dwz_graph.specs.Surroundings.{behind_own}
use Rattle.dwz_imports.specs.Imports.{same}
use Rattle.dwz_imports.specs.Stored.{common_named, common_place, own_named, own_place}
use Rattle.dwz_imports.proofs.Grouped.{has_append, not_equal}

-- ---- numbers among others

has_one : (n m : ℕ) → has n (m ∷ []) ≡ (m == n)
unfolding has
has_one n m = by (m == n) where
  by : (b : Bool) → (if b then true else false) ≡ b
  by true = refl
  by false = refl

has_none : (n : ℕ) → has n [] ≡ false
unfolding has
has_none n = refl

-- ---- values that are no entry

no_entry : (p : ℕ) (plain : Plain) (address : Bool) → is_entry same p plain [] address ≡ false
no_entry p document.Ref address = refl
no_entry p (document.Num w n) address = refl
no_entry p (document.Flag b) address = refl
no_entry p (document.Block b) address = refl
no_entry p (document.Text t) address = refl
no_entry p (document.File o) address = refl
no_entry p (document.Sig s) address = refl
no_entry p (document.Addr n) address = refl
no_entry p (document.Index n) address = refl
no_entry p (document.Sec n) address = refl
no_entry p (document.Expr x) address = refl
no_entry p (document.Loc x) address = refl

-- the value is the entry at that place
abbrev pub names : ℕ → Value ℕ → Bool
names p v = is_entry same p v.plain v.refs v.address

module _ (s : MeaningContext ℕ) (a : RawAttr) (v : Value ℕ) where
  abbrev Never : Type 0
  Never = (p : ℕ) → names p v ≡ false

  other : (plain : Plain) → v ≡ only plain → Never
  other plain is p = ap (names p) is ∙ no_entry p plain false

  of_file : (o : Option ℕ) → IsFileBy o s (number_of a.raw) v → Never
  of_file None m = other _ m.1
  of_file (Some place) m = other _ m.value

  constant : (file : Bool) → IfSo file (IsFileBy (stmt_list s) s (number_of a.raw) v) (v ≡ constant_value a) → Never
  constant true m = of_file (stmt_list s) m
  constant false m = other _ m

  list : (place : ℕ) → IsLocList s place v → Never
  list place m p = ap (names p) m.value

  offset : (named : Bool) → IfSo named (IsLocList s (offset_of a) v) (v ≡ only (Sec (offset_of a))) → Never
  offset true m = list (offset_of a) m
  offset false m = other _ m

  -- places of the unit and of the file are below 2^32, and those of the common file stand for numbers from there on
  module _ (place : s.around.place ≡ (λ n. n)) (common : (c : Common ℕ) → s.around.common ≡ Some c → c.place ≡ behind_own) (own_low : (n : ℕ) → In n s.own → n < 2 ^ 32)
      (all_low : (n : ℕ) → In n s.around.all → n < 2 ^ 32) where
    pub record Named (c : Class) : Type 0 where
      pub own : (r : ℕ) → r < 2 ^ 32 → names r v ≡ has r (own_place c s.unit (offset_of a))
      pub beside : (r : ℕ) → names (behind_own r) v ≡ has r (common_place c (offset_of a))

    never : (c : Class) → own_place c s.unit (offset_of a) ≡ [] → common_place c (offset_of a) ≡ [] → Never → Named c
    never c one two other_value = record {
      own = λ r l. other_value r ∙ sym (ap (has r) one ∙ has_none r);
      beside = λ r. other_value (behind_own r) ∙ sym (ap (has r) two ∙ has_none r);
    }

    is_ref : (q p : ℕ) → v ≡ ref q → names p v ≡ (q == p)
    is_ref q p e = ap (names p) e

    own_entry : (c : Class) (q : ℕ) → own_place c s.unit (offset_of a) ≡ q ∷ [] → common_place c (offset_of a) ≡ [] → q < 2 ^ 32 → v ≡ ref (s.around.place q) → Named c
    own_entry c q one two low e =
        let is : v ≡ ref q = e ∙ ap (λ (f : ℕ → ℕ). ref (f q)) place in
        record {
          own = λ r l. is_ref q r is ∙ sym (ap (has r) one ∙ has_one r q);
          beside = λ r. is_ref q (behind_own r) is ∙ not_equal q (behind_own r) (λ x. omega (arith, x, low)) ∙ sym (ap (has r) two ∙ has_none r);
        }

    shifted : (q r : ℕ) → (behind_own q == behind_own r) ≡ (q == r)
    shifted q r = elim (cases_Bool (q == r)) [
      | inl e ↦ eq-eqb (behind_own q) (behind_own r) (ap behind_own (eqb-true q r e)) ∙ sym e
      | inr f ↦ not_equal (behind_own q) (behind_own r) (λ x. false≢true (sym f ∙ eq-eqb q r (omega (arith, x)))) ∙ sym f
    ]

    common_entry : (q : ℕ) (c : Common ℕ) → s.around.common ≡ Some c → q ≡ offset_of a → v ≡ ref (c.place q) → Named OfCommonEntry
    common_entry q c there at e =
        let is : v ≡ ref (behind_own q) = e ∙ ap (λ (f : ℕ → ℕ). ref (f q)) (common c there) in
        record {
          own = λ r l. is_ref (behind_own q) r is ∙ not_equal (behind_own q) r (λ x. omega (arith, x, l)) ∙ sym (has_none r);
          beside = λ r. is_ref (behind_own q) (behind_own r) is ∙ shifted q r ∙ ap (λ (k : ℕ). k == r) at ∙ sym (has_one r (offset_of a));
        }

    kinds : (c : Class) → MeansAs c s a v → Named c
    kinds OfAddress m = never OfAddress refl refl (other _ m)
    kinds OfBlock m = never OfBlock refl refl (other _ m)
    kinds OfConstant m = never OfConstant refl refl (constant (names_file a.pair.name) m)
    kinds OfFlag m = never OfFlag refl refl (other _ m)
    kinds OfText m = never OfText refl refl (other _ m)
    kinds OfTextInStr m = never OfTextInStr refl refl (other _ m.value)
    kinds OfTextInLineStr m = never OfTextInLineStr refl refl (other _ m.value)
    kinds OfTextBySlot m = never OfTextBySlot refl refl (other _ m.text.value)
    kinds OfUnitEntry m = own_entry OfUnitEntry (s.unit + offset_of a) refl refl (own_low (s.unit + offset_of a) m.0) m.1
    kinds OfInfoEntry m = own_entry OfInfoEntry (offset_of a) refl refl (all_low (offset_of a) m.0) m.1
    kinds OfSignature m = never OfSignature refl refl (other _ m)
    kinds OfOffset m = never OfOffset refl refl (offset (names_list a.pair.name) m)
    kinds OfExpression m = never OfExpression refl refl (λ p. ap (names p) m.value)
    kinds OfListIndex m = never OfListIndex refl refl (list _ m.list)
    kinds OfIndex m = never OfIndex refl refl (other _ m)
    kinds OfCommonEntry m = common_entry (offset_of a) m.0 m.1 refl m.2.1
    kinds OfCommonText m = never OfCommonText refl refl (other _ m.2.value)
    kinds Unread m = absurd m

-- ---- attributes of an entry

module _ (s : MeaningContext ℕ) (place : s.around.place ≡ (λ n. n)) (common : (c : Common ℕ) → s.around.common ≡ Some c → c.place ≡ behind_own) (own_low : (n : ℕ) → In n s.own → n < 2 ^ 32)
    (all_low : (n : ℕ) → In n s.around.all → n < 2 ^ 32) where
  abbrev own_all : List RawAttr → List ℕ
  own_all attrs = flat_map (own_named s.unit) attrs

  abbrev common_all : List RawAttr → List ℕ
  common_all attrs = flat_map common_named attrs

  pub record AreNamed (attrs : List RawAttr) (bs : List (Attr ℕ)) : Type 0 where
    pub own : (r : ℕ) → r < 2 ^ 32 → list_any (is_import_attr same r) bs ≡ has r (own_all attrs)
    pub beside : (r : ℕ) → list_any (is_import_attr same (behind_own r)) bs ≡ has r (common_all attrs)

  if_named : (b : Bool) (r : ℕ) (xs : List ℕ) (t : Bool) → t ≡ has r xs → (b && t) ≡ has r (if b then xs else [])
  if_named true r xs t e = e
  if_named false r xs t e = sym (has_none r)

  none_named : (b c : Bool) (xs : List ℕ) → (b ≡ true → c ≡ false) → b ≡ true → (if c then xs else []) ≡ []
  none_named b true xs h e = absurd (false≢true (sym (h e)))
  none_named b false xs h e = refl

  one_attr : (a : RawAttr) (b : Attr ℕ) → MeansAttr s a b → AreNamed (a ∷ []) (b ∷ [])
  one_attr a b m =
      let k = kinds s a b.value place common own_low all_low (class_of a.pair.form) m.value in
      record {
        own = λ r l. or_none (is_import_attr same r b)
            ∙ ap (λ (n : ℕ). (n == 0x18) && names r b.value) m.name
            ∙ if_named (a.pair.name == 0x18) r (own_place (class_of a.pair.form) s.unit (offset_of a)) (names r b.value) (k.own r l)
            ∙ ap (has r) (sym (nil (own_named s.unit a)));
        beside = λ r. or_none (is_import_attr same (behind_own r) b)
            ∙ ap (λ (n : ℕ). (n == 0x18) && names (behind_own r) b.value) m.name
            ∙ if_named (a.pair.name == 0x18) r (common_place (class_of a.pair.form) (offset_of a)) (names (behind_own r) b.value) (k.beside r)
            ∙ ap (has r) (sym (nil (common_named a)));
      }
    where
      or_none : (b : Bool) → (b || false) ≡ b
      or_none true = refl
      or_none false = refl

      nil : (xs : List ℕ) → xs ++ [] ≡ xs
      nil [] = refl
      nil (x ∷ xs) = ap (λ (w : List ℕ). x ∷ w) (nil xs)

  both : (a : RawAttr) (attrs : List RawAttr) (b : Attr ℕ) (bs : List (Attr ℕ)) → AreNamed (a ∷ []) (b ∷ []) → AreNamed attrs bs → AreNamed (a ∷ attrs) (b ∷ bs)
  both a attrs b bs h k = record {
    own = λ r l. join (is_import_attr same r b) (list_any (is_import_attr same r) bs) (own_named s.unit a) (own_all attrs) r (h.own r l) (k.own r l);
    beside = λ r. join (is_import_attr same (behind_own r) b) (list_any (is_import_attr same (behind_own r)) bs) (common_named a) (common_all attrs) r (h.beside r) (k.beside r);
  } where
    or_none : (b : Bool) → (b || false) ≡ b
    or_none true = refl
    or_none false = refl

    nil : (xs : List ℕ) → xs ++ [] ≡ xs
    nil [] = refl
    nil (x ∷ xs) = ap (λ (w : List ℕ). x ∷ w) (nil xs)

    join : (x y : Bool) (xs ys : List ℕ) (r : ℕ) → (x || false) ≡ has r (xs ++ []) → y ≡ has r ys → (x || y) ≡ has r (xs ++ ys)
    join x y xs ys r e f = (λ i. (sym (or_none x) ∙ e ∙ ap (has r) (nil xs)) i || f i) ∙ sym (has_append r xs ys)

  pub attrs_named : (attrs : List RawAttr) (bs : List (Attr ℕ)) → MeanAttrs s (without_siblings attrs) bs → AreNamed attrs bs
  unfolding without_siblings has
  attrs_named [] [] m = record { own = λ r l. refl; beside = λ r. refl }
  attrs_named [] (b ∷ bs) m = absurd m
  attrs_named (a ∷ attrs) bs m = by (a.pair.name == 0x01) refl m (λ cs n. attrs_named attrs cs n) where
    left : (bs : List (Attr ℕ)) → MeanAttrs s (a ∷ without_siblings attrs) bs → ((cs : List (Attr ℕ)) → MeanAttrs s (without_siblings attrs) cs → AreNamed attrs cs) → AreNamed (a ∷ attrs) bs
    left [] n more = absurd n
    left (b ∷ cs) n more = both a attrs b cs (one_attr a b n.0) (more cs n.1)

    by : (t : Bool) → (a.pair.name == 0x01) ≡ t → MeanAttrs s (if t then without_siblings attrs else a ∷ without_siblings attrs) bs
        → ((cs : List (Attr ℕ)) → MeanAttrs s (without_siblings attrs) cs → AreNamed attrs cs) → AreNamed (a ∷ attrs) bs
    by true e n more =
        let o = more bs n in
        let unnamed : (a.pair.name == 0x18) ≡ false = not_equal a.pair.name 0x18 (λ x. (let one = eqb-true a.pair.name 0x01 e in omega (arith, x, one))) in
        record {
          own = λ r l. o.own r l ∙ ap (λ (t : Bool). has r ((if t then own_place (class_of a.pair.form) s.unit (offset_of a) else []) ++ own_all attrs)) (sym unnamed);
          beside = λ r. o.beside r ∙ ap (λ (t : Bool). has r ((if t then common_place (class_of a.pair.form) (offset_of a) else []) ++ common_all attrs)) (sym unnamed);
        }
    by false e n more = left bs n (λ cs k. more cs k)

  -- an entry
  pub own_import : (e : RawEntry) (d : Node ℕ) → MeansNode s e d → (r : ℕ) → r < 2 ^ 32 → is_import same r d ≡ ((e.tag == 0x3d) && has r (own_all e.attrs))
  own_import e d m r l = (λ i. (m.tag i == 0x3d) && (attrs_named e.attrs d.attrs m.attrs).own r l i)

  pub common_import : (e : RawEntry) (d : Node ℕ) → MeansNode s e d → (r : ℕ) → is_import same (behind_own r) d ≡ ((e.tag == 0x3d) && has r (common_all e.attrs))
  common_import e d m r = (λ i. (m.tag i == 0x3d) && (attrs_named e.attrs d.attrs m.attrs).beside r i)
