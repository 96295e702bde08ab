-- Values that are no expressions name nothing, so those behind an entry's last expression mark no top.
use Rattle.std.proofs.Common.{◌≡◌, ℕ, zero, suc, ◌+◌, ◌<◌, ◌≤◌, Bool, true, false, List, [], ◌∷◌, Option, Some, None, Ok, drop, get_or, length, map, take, slice_get, if◌then◌else◌}
use Rattle.std.proofs.Common.{refl, sym, ap, subst, ◌∙◌, arith, inl, ⊎_elim}
use Rattle.std.proofs.lemmas.Bool.{eqb-false, eqb-true, false≢true, or_cases}
use Rattle.std.proofs.lemmas.List.{get_or-take, length-take}
use Rattle.std.specs.Prelude.{◌||◌, ◌==◌, IsOk, count_by, is_some}
use Rattle.std.specs.List.{list_any}
use Rattle.dwz_def_tops.specs.Alike.{any_attr}
use Rattle.dwz_def_tops.specs.Spots.{EntryName}
use Rattle.dwz_def_reading.specs.Input.{Input}
use Rattle.dwz_def_reading.specs.Entries.{RawAttr}
use Rattle.dwz_def_reading.specs.Units.{RawUnit}
use Rattle.dwz_def_reading.specs.Values.{Raw, value_at, written_rows}
use Rattle.dwz_graph.specs.Rows.{AreAttrsMeant, IsEntryMeant}
use Rattle.dwz_graph.proofs.StepLemmas.{entry, no_value, sibling, value}
use Rattle.dwz_def_reading.specs.Documents.{Attr, Node, Value, attr_map, node_map}
use Rattle.dwz_def_reading.specs.Meanings.{MeaningContext}
use Rattle.dwz_def_reading.specs.Classes.{class_of}
use Rattle.dwz_def_reading.specs.Meant.{attr_with, meaning}
use Rattle.dwz_model.specs.declared.place.Pair.{Pair}
use Rattle.dwz_graph.specs.Named.{value_refs}
use Rattle.dwz_graph.proofs.ValueSteps.{next_read, no_pair}
use Rattle.dwz_unit.specs.Known.{pairs_of}
use Rattle.dwz_unit.specs.Named.{named_count, names_entry}
use Rattle.dwz_unit.specs.Rows.{EntryRow}
use Rattle.dwz_unit.specs.Values.{Reads}
use Rattle.dwz_unit.proofs.ReadsLemmas.{reads_count, reads_next}
use Rattle.dwz_move.specs.Bound.{is_expression}
use Rattle.dwz_move.specs.Marked.{MarksIf, expression_names, expression_pins, in_expression}
use Rattle.dwz_move.specs.Values.{is_entry}
use Rattle.dwz_move.proofs.MarkLemmas.{marks_nothing}
use Rattle.dwz_move.proofs.MarkSteps.{MarkLeft, Test, said}
use Rattle.dwz_move.proofs.NameMarks.{no_names, no_pins, value_kinds}

-- none of these is an expression
abbrev pub AreOthers : List RawAttr → Type 0
AreOthers [] = Unit {0}
AreOthers (a ∷ values) = (is_expression (class_of a.pair.form) ≡ false) × AreOthers values

-- the test says nothing of what is no expression
abbrev pub OfExpressions : Test → Type 0
OfExpressions test = (s : MeaningContext ℕ) (a : RawAttr) (v : Value ℕ) (name : ℕ → EntryName) (n : ℕ) → in_expression v.plain ≡ false → test n (attr_map name (attr_with a v)) ≡ true → ⊥

pub names_expressions : OfExpressions expression_names
names_expressions s a v name n e = no_names s a v name e n

pub pins_expressions : OfExpressions expression_pins
pins_expressions s a v name n e = no_pins s a v name e n

no_expression : (s : MeaningContext ℕ) (a : RawAttr) (v : Value ℕ) → meaning s a ≡ Ok v → is_expression (class_of a.pair.form) ≡ false → in_expression v.plain ≡ false
no_expression s a v e is = by (is_entry (class_of a.pair.form)) refl where
  by : (b : Bool) → is_entry (class_of a.pair.form) ≡ b → in_expression v.plain ≡ false
  by true entry = ((value_kinds s a v e).0 entry).0
  by false entry = ((value_kinds s a v e).1 entry is).0

others_say_nothing : (test : Test) → OfExpressions test → (raw : List RawUnit) (s : MeaningContext ℕ) (name : ℕ → EntryName) (n : ℕ)
    → (values : List RawAttr) (numbers : List ℕ) (attrs : List (Attr ℕ)) → AreOthers values → AreAttrsMeant raw s numbers values attrs → said test name attrs n ≡ true → ⊥
others_say_nothing test of raw s name n [] numbers attrs others m e =
    false≢true (sym (ap (λ (as' : List (Attr ℕ)). said test name as' n) (no_value raw s numbers attrs m)) ∙ e)
others_say_nothing test of raw s name n (a ∷ values) numbers attrs others m e =
    by (a.pair.name == 0x01) refl (λ numbers attrs m e. others_say_nothing test of raw s name n values numbers attrs others.1 m e)
  where
    by : (b : Bool) → (a.pair.name == 0x01) ≡ b → ((numbers : List ℕ) (attrs : List (Attr ℕ)) → AreAttrsMeant raw s numbers values attrs → said test name attrs n ≡ true → ⊥) → ⊥
    by true is later = later numbers attrs (sibling raw s numbers a values attrs (eqb-true a.pair.name 0x01 is) m) e
    by false is later =
        let x = value raw s numbers a values attrs (eqb-false a.pair.name 0x01 is) m in
        let own = test n (attr_map name (attr_with a x.value)) in
        let split : said test name attrs n ≡ (own || said test name x.left n) = ap (λ (as' : List (Attr ℕ)). said test name as' n) x.parts in
        ⊎_elim
        (λ o. of s a x.value name n (no_expression s a x.value x.means others.0) o)
        (λ o. later (drop (length (value_refs x.value)) numbers) x.left x.rest o)
        (or_cases own (said test name x.left n) (sym split ∙ e))

-- ---- by the forms alone

abbrev OtherPairs : List Pair → Type 0
OtherPairs [] = Unit {0}
OtherPairs (p ∷ pairs) = (is_expression (class_of p.form) ≡ false) × OtherPairs pairs

-- from a number on no pair is of an expression
abbrev pub OthersFrom : ℕ → List Pair → Type 0
OthersFrom j pairs = (k : ℕ) (p : Pair) → j ≤ k → slice_get pairs k ≡ Some p → is_expression (class_of p.form) ≡ false

other_pairs : (pairs : List Pair) (j : ℕ) → OthersFrom j pairs → OtherPairs (drop j pairs)
other_pairs [] zero h = tt
other_pairs [] (suc j) h = tt
other_pairs (p ∷ pairs) zero h = (h 0 p (omega arith) refl, other_pairs pairs zero (λ k q l e. h (suc k) q (omega arith) e))
other_pairs (p ∷ pairs) (suc j) h = other_pairs pairs j (λ k q l e. h (suc k) q (omega arith) e)

others_read : (entry : ℕ) (pairs : List Pair) (at : Input) (values : List RawAttr) → OtherPairs pairs → Reads entry pairs at values → AreOthers values
others_read entry [] at [] o r = tt
others_read entry [] at (a ∷ values) o r = absurd (let count = reads_count entry [] at (a ∷ values) r in omega arith)
others_read entry (p ∷ pairs) at [] o r = tt
others_read entry (p ∷ pairs) at (a ∷ values) o r =
    let x = reads_next entry (p ∷ pairs) 0 no_pair at (a ∷ values) (omega arith) r in
    let first : RawAttr = record { at = at.at; end = x.place.at; pair = p; raw = x.raw } in
    let is : Some a ≡ Some first = x.is in
    let same : a ≡ first = cc in
    (subst (λ (w : RawAttr). is_expression (class_of w.pair.form) ≡ false) (sym same) o.0, others_read entry pairs x.place values o.1 x.rest)

-- where forms tell how many entries they name
abbrev pub expression_in : List Pair → Bool
expression_in pairs = list_any (λ p. is_expression (class_of p.form)) pairs

pub without_expressions : (pairs : List Pair) → is_some (named_count pairs) ≡ true → expression_in pairs ≡ false
without_expressions pairs e = by (expression_in pairs) refl where
  by : (b : Bool) → expression_in pairs ≡ b → expression_in pairs ≡ false
  by false is = is
  by true is = absurd (false≢true (sym (ap (λ (b : Bool). is_some (if b then None else Some (count_by names_entry pairs))) is) ∙ e))

pub forms_tell : (pairs : List Pair) (count : ℕ) → named_count pairs ≡ Some count → (expression_in pairs ≡ false) × (count_by names_entry pairs ≡ count)
forms_tell pairs count e = by (expression_in pairs) refl where
  made : Bool → Option ℕ
  made b = if b then None else Some (count_by names_entry pairs)

  by : (b : Bool) → expression_in pairs ≡ b → (expression_in pairs ≡ false) × (count_by names_entry pairs ≡ count)
  by false is = (is, (let told : Some (count_by names_entry pairs) ≡ Some count = ap made (sym is) ∙ e in cc))
  by true is = (let never : None ≡ Some count = ap made (sym is) ∙ e in absurd cc)

pub others_by_forms : (values : List RawAttr) → expression_in (map (λ (a : RawAttr). a.pair) values) ≡ false → AreOthers values
others_by_forms [] e = tt
others_by_forms (a ∷ values) e =
    let own = is_expression (class_of a.pair.form) in
    let rest = expression_in (map (λ (w : RawAttr). w.pair) values) in
    (neither own rest e, others_by_forms values (neither_else own rest e))
  where
    neither : (x y : Bool) → (x || y) ≡ false → x ≡ false
    neither false y h = refl
    neither true y h = h

    neither_else : (x y : Bool) → (x || y) ≡ false → y ≡ false
    neither_else false y h = h
    neither_else true y h = absurd (false≢true (sym h))

pub mark_nothing : (test : Test) → OfExpressions test → (raw : List RawUnit) (s : MeaningContext ℕ) (name : ℕ → EntryName) (numbers : List ℕ) (i : ℕ) (row : EntryRow) (d : Node ℕ) (old : List Bool)
    → is_some (named_count (pairs_of row.entry)) ≡ true → IsEntryMeant raw s i numbers row d → MarksIf (λ n. any_attr (test n) (node_map name d) ≡ true) old old
mark_nothing test of raw s name numbers i row d old e m =
    let others = others_by_forms row.entry.attrs (without_expressions (pairs_of row.entry) e) in
    marks_nothing (λ n. any_attr (test n) (node_map name d) ≡ true) old (λ n said. others_say_nothing test of raw s name n row.entry.attrs numbers d.attrs others (entry raw s i numbers row d m) said)

-- ---- the pairs in front of these

-- An entry's values from that number on are left to be read. These pairs are the first of the entry's, and no other is of an expression.
pub record ReadsFront (entry : ℕ) (front : List Pair) (j : ℕ) (at : Input) (values : List RawAttr) : Type 0 where
  pub pairs : List Pair
  pub front_is : front ≡ take (length front) pairs
  pub others : OthersFrom (length front) pairs
  pub reads : Reads entry (drop j pairs) at (drop j values)

pub record NextInFront (entry : ℕ) (front : List Pair) (j : ℕ) (pair : Pair) (at place : Input) (raw : Raw) (values : List RawAttr) : Type 0 where
  pub is : slice_get values j ≡ Some (record { at = at.at; end = place.at; pair = pair; raw = raw })
  pub rest : ReadsFront entry front (j + 1) place values

module _ (entry : ℕ) (front : List Pair) (j : ℕ) (at : Input) (values : List RawAttr) (h : ReadsFront entry front j at values) where
  module _ (lt : j < length front) where
    here : get_or front j no_pair ≡ get_or h.pairs j no_pair
    here = ap (λ (w : List Pair). get_or w j no_pair) h.front_is ∙ get_or-take (length front) h.pairs j no_pair lt

    within : j < length h.pairs
    within = (let few = length-take (length front) h.pairs in let same : length front ≡ length (take (length front) h.pairs) = ap (λ (w : List Pair). length w) h.front_is in omega arith)

    pub value_in_front : IsOk (value_at written_rows (get_or front j no_pair) at)
    value_in_front =
        let x = reads_next entry h.pairs j no_pair at values within h.reads in
        subst IsOk (sym (ap (λ (p : Pair). value_at written_rows p at) here ∙ x.value)) refl

    pub next_in_front : (place : Input) (raw : Raw) → value_at written_rows (get_or front j no_pair) at ≡ Ok (raw, place) → NextInFront entry front j (get_or front j no_pair) at place raw values
    next_in_front place raw value =
        let x = next_read entry h.pairs j no_pair at place raw values within h.reads (ap (λ (p : Pair). value_at written_rows p at) (sym here) ∙ value) in
        record {
          is = subst (λ (p : Pair). slice_get values j ≡ Some (record { at = at.at; end = place.at; pair = p; raw = raw })) (sym here) x.is;
          rest = record { pairs = h.pairs; front_is = h.front_is; others = h.others; reads = x.rest };
        }

  -- behind these nothing is marked
  pub mark_others : (test : Test) → OfExpressions test → (raw : List RawUnit) (s : MeaningContext ℕ) (name : ℕ → EntryName) (into : List (Option ℕ)) (old now : List Bool) (all : ℕ → Bool)
      → length front ≤ j → MarkLeft test raw s name (drop j values) into old now all → MarksIf (λ t. all t ≡ true) old now
  mark_others test of raw s name into old now all le m =
      let none = others_read entry (drop j h.pairs) at (drop j values) (other_pairs h.pairs j (λ k p l e. h.others k p (omega arith) e)) h.reads in
      record {
        len = m.len;
        each = λ t l. (
          λ x. (m.each t l).0 (inl x),
          λ x. ⊎_elim (λ o. o) (λ o. absurd (others_say_nothing test of raw s name t (drop j values) m.numbers m.attrs none m.meant o)) ((m.each t l).1 x),
        );
      }
