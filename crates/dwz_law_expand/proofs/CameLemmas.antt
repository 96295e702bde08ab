-- A value that leads to no supplementary file was read in its unit, as a value of a file by itself.
use Rattle.std.proofs.Common.{◌≡◌, ℕ, ℤ, Bool, true, false, List, [], ◌∷◌, map, Option, Some, None, refl, sym, ap, subst, ◌∙◌}
use Rattle.dwz_def_reading.specs.Forms.{form_rows}
use Rattle.dwz_def_reading.specs.Rows.{shape_of}
use Rattle.dwz_def_reading.specs.Shape.{Shape}
use Rattle.dwz_def_reading.specs.Lists.{Each}
use Rattle.dwz_def_reading.specs.Classes.{Class, OfAddress, OfBlock, OfCommonEntry, OfCommonText, OfConstant, OfExpression, OfFlag, OfIndex, OfInfoEntry, OfListIndex, OfOffset, OfSignature, OfText, OfTextBySlot, OfTextInLineStr, OfTextInStr, OfUnitEntry, Unread, class_of, names_file, names_list}
use Rattle.dwz_def_reading.specs.Documents.{Attr, Plain, Sec, Value, attr_map, only}
use Rattle.dwz_def_reading.specs.Entries.{RawAttr, RawEntry}
use Rattle.dwz_def_reading.specs.Meanings.{Common, IfSo, IsFileBy, IsLocList, MeaningContext, MeansAs, constant_value, number_of, offset_of, stmt_list, target_of, targets}
use Rattle.dwz_def_reading.specs.Places.{Place, at_file}
use Rattle.dwz_def_reading.specs.Shared.{operands_of}
use Rattle.dwz_def_reading.specs.Values.{SpellsShape, constant_of, written_rows}
use Rattle.dwz_def_reading.specs.declared.exprs.Operand.{Operand}
use Rattle.dwz_def_encoding.specs.Bases.{bases_of}
use Rattle.dwz_def_encoding.specs.Carried.{CameFrom, IsBuiltAs, IsStored, OfFile}
use Rattle.dwz_def_encoding.specs.Meant.{WasRead}
use Rattle.dwz_def_readback.proofs.StillMeans.{GivesStill, as_there, there}
use Rattle.dwz_def_expand.proofs.AloneLemmas.{same_shape}
use Rattle.dwz_def_expand.proofs.ChosenLemmas.{kept_form}
use Rattle.dwz_law_expand.proofs.FoundLemmas.{AttrSaid}

-- ---- in numbers

abbrev pub number_in : Place → ℕ
number_in p = p.at

abbrev pub in_numbers : Option (Common Place) → Option (Common ℕ)
in_numbers None = None
in_numbers (Some c) = Some (record { entries = c.entries; place = λ n. (c.place n).at; strs = c.strs })

pub gives_numbers : (o : Option (Common Place)) → GivesStill number_in o (in_numbers o)
gives_numbers None c e = absurd cc
gives_numbers (Some x) c e =
    let same : x ≡ c = cc in (
      record { entries = x.entries; place = λ n. (x.place n).at; strs = x.strs },
      refl,
      record { entries = ap (λ (w : Common Place). w.entries) same; place = λ n. ap (λ (w : Common Place). (w.place n).at) same; strs = ap (λ (w : Common Place). w.strs) same },
    )

-- ---- the places that a value names are of its file

abbrev pub IsOwn : ℕ → Place → Type 0
IsOwn number p = p ≡ at_file number p.at

module _ (number : ℕ) (s : MeaningContext Place) (place : s.around.place ≡ at_file number) where
  own_one : (n : ℕ) → IsOwn number (s.around.place n)
  own_one n = (let e : s.around.place n ≡ at_file number n = ap (λ (g : ℕ → Place). g n) place in e ∙ ap (λ (p : Place). at_file number p.at) (sym e))

  own_targets : (os : List Operand) → Each (IsOwn number) (targets s os)
  own_targets [] = tt
  own_targets (o ∷ os) = (own_one (target_of s o), own_targets os)

  abbrev Own : Value Place → Type 0
  Own v = Each (IsOwn number) v.refs

  of_none : (p : Plain) (v : Value Place) → v ≡ only p → Own v
  of_none p v e = subst Own (sym e) tt

  of_list : (place : ℕ) (v : Value Place) → IsLocList s place v → Own v
  of_list place v h = subst Own (sym h.value) (own_targets (operands_of h.list.exprs))

  own_refs : (k : Class) (a : RawAttr) (v : Value Place) → (k ≡ OfCommonEntry → ⊥) → MeansAs k s a v → Own v
  own_refs OfAddress a v other h = of_none _ v h
  own_refs OfBlock a v other h = of_none _ v h
  own_refs OfConstant a v other h = by (names_file a.pair.name) h where
    file : (o : Option ℕ) (z : ℤ) → IsFileBy o s z v → Own v
    file None z h = of_none _ v h.1
    file (Some place) z h = of_none _ v h.value

    by : (b : Bool) → IfSo b (IsFileBy (stmt_list s) s (number_of a.raw) v) (v ≡ constant_value a) → Own v
    by true h = file (stmt_list s) (number_of a.raw) h
    by false h = of_none _ v h
  own_refs OfFlag a v other h = of_none _ v h
  own_refs OfText a v other h = of_none _ v h
  own_refs OfTextInStr a v other h = of_none _ v h.value
  own_refs OfTextInLineStr a v other h = of_none _ v h.value
  own_refs OfTextBySlot a v other h = of_none _ v h.text.value
  own_refs OfUnitEntry a v other h = subst Own (sym h.1) (own_one _, tt)
  own_refs OfInfoEntry a v other h = subst Own (sym h.1) (own_one _, tt)
  own_refs OfSignature a v other h = of_none _ v h
  own_refs OfOffset a v other h = by (names_list a.pair.name) h where
    by : (b : Bool) → IfSo b (IsLocList s (offset_of a) v) (v ≡ only (Sec (offset_of a))) → Own v
    by true h = of_list (offset_of a) v h
    by false h = of_none _ v h
  own_refs OfExpression a v other h = subst Own (sym h.value) (own_targets h.expression.operands)
  own_refs OfListIndex a v other h = of_list _ v h.list
  own_refs OfIndex a v other h = of_none _ v h
  own_refs OfCommonEntry a v other h = absurd (other refl)
  own_refs OfCommonText a v other h = of_none _ v h.2.value
  own_refs Unread a v other h = absurd h

-- ---- so it was read

module _ {K : Type 0} (number : ℕ) (s : MeaningContext Place) (place : s.around.place ≡ at_file number) (May : ℕ → Type 0) (e : RawEntry) (i : ℕ) (a : Attr Place) (x : AttrSaid s May e i a) (g : Place → K) where
  abbrev pub numbers : MeaningContext ℕ
  numbers = there number_in (in_numbers s.around.common) s (gives_numbers s.around.common)

  named : (refs : List Place) → Each (IsOwn number) refs → map g refs ≡ map (λ n. g (at_file number n)) (map number_in refs)
  named [] h = refl
  named (p ∷ refs) h = ap (λ (q : Place). g q ∷ map g refs) h.0 ∙ ap (λ (w : List K). g (at_file number p.at) ∷ w) (named refs h.1)

  module _ (k : Class) (class : class_of a.form ≡ k) (not_entry : k ≡ OfCommonEntry → ⊥) (not_text : k ≡ OfCommonText → ⊥) where
    class_old : class_of x.old.pair.form ≡ k
    class_old = ap class_of (sym x.means.form) ∙ class

    value_old : MeansAs k s x.old a.value
    value_old = subst (λ (c : Class). MeansAs c s x.old a.value) class_old x.means.value

    abbrev read : Attr ℕ
    read = attr_map number_in a

    was_read : WasRead (attr_map g a)
    was_read = record {
      scope = numbers;
      old = x.old;
      read = read;
      means = record {
        name = x.means.name;
        form = x.means.form;
        raw = x.means.raw;
        value = as_there number_in (in_numbers s.around.common) s (gives_numbers s.around.common) (class_of x.old.pair.form) x.old a.value x.means.value;
      };
      name = λ n. g (at_file number n);
      same = ap (λ (w : List K). record { name = a.name; form = a.form; raw = a.raw; value = record { plain = a.value.plain; refs = w; address = a.value.address } })
          (named a.value.refs (own_refs number s place k x.old a.value not_entry value_old));
    }

    stored : IsStored x.old
    stored =
        let o = kept_form k a.form class not_entry not_text in
        let form : a.form ≡ x.old.pair.form = x.means.form in
        let shape : shape_of form_rows x.old.pair.form ≡ shape_of written_rows x.old.pair.form = subst (λ (n : ℕ). shape_of form_rows n ≡ shape_of written_rows n) form (same_shape a.form o.0 o.1) in
        record {
          pair_bytes = x.held.pair_bytes;
          pair = x.held.pair;
          no_sibling = x.no_sibling;
          bytes = x.held.bytes;
          are_bytes = x.held.are_bytes;
          spelled = subst (λ (w : Shape). SpellsShape w (constant_of x.old.pair) x.held.bytes x.old.raw) (sym shape) x.held.spelled;
        }

    is_built : (c : Class) → (c ≡ OfCommonText → ⊥) → MeansAs c s x.old a.value → IsBuiltAs c
    is_built OfCommonText not_ h = absurd (not_ refl)
    is_built Unread not_ h = absurd h
    is_built _ not_ h = tt

    pub came : CameFrom (OfFile s.around.sources) (bases_of s) (attr_map g a)
    unfolding was_read
    came = record { was_read = was_read; file = refl; unit = refl; stored = stored; built = subst IsBuiltAs (sym class) (is_built k not_text value_old) }
