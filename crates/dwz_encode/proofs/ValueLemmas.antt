-- What is appended of the values of an entry, by the way of each.
use Rattle.std.proofs.Common.{◌≡◌, ℕ, ◌+◌, ◌-◌, ◌<◌, ◌≤◌, List, [], ◌∷◌, ◌++◌, get_or, length, slice_index, Some, None, Result, Ok, Err, refl, sym, ap, subst, ◌∙◌, append_assoc, append-nil}
use Rattle.std.specs.Prelude.{IfOk, OnOk}
use Rattle.dwz_bytes.specs.Input.{Input}
use Rattle.dwz_bytes.specs.Spelling.{le_bytes, uleb}
use Rattle.dwz_def_reading.specs.Entries.{RawAttr}
use Rattle.dwz_def_reading.specs.Values.{Raw, value_at, value_bytes, written_rows}
use Rattle.dwz_model.specs.declared.fault.Fault.{Fault}
use Rattle.dwz_model.specs.declared.place.Pair.{Pair}
use Rattle.dwz_def_reading.specs.declared.exprs.Operand.{Operand}
use Rattle.dwz_def_reading.specs.Documents.{Part}
use Rattle.dwz_def_reading.specs.Exprs.{any_operands, expr_at, parts_from}
use Rattle.dwz_def_reading.specs.Meanings.{bytes_of}
use Rattle.dwz_def_reading.specs.Patching.{filled}
use Rattle.dwz_def_encoding.specs.Placing.{reach_by}
use Rattle.dwz_layout.specs.declared.known.ValueCounts.{ValueCounts}
use Rattle.dwz_layout.specs.declared.known.EntryTable.{EntryTable}
use Rattle.dwz_layout.specs.declared.known.Row.{Row}
use Rattle.dwz_layout.specs.declared.known.TextAt.{TextAt}
use Rattle.dwz_layout.specs.declared.walk.Origin.TheVariants.{Read}
use Rattle.dwz_layout.specs.declared.ways.Rewrite.{Rewrite}
use Rattle.dwz_layout.specs.Attributes.{Numbers, OfEntry, OutAttr, WritingContext, after, attrs_of, counted, entry_attr, expr_attr, expr_parts, file_attr, form_to, import_attr, line_attrs}
use Rattle.dwz_layout.specs.Attributes.{operand_count}
use Rattle.dwz_layout.specs.Attributes.{operand_numbers, out_attr, out_by, parts_or, raw_of, read_attr, references_from, stored_all, stored_of, text_attr, text_offset, value_read}
use Rattle.dwz_layout.specs.Known.{HasValues, firsts_of, owner_of, row_at}
use Rattle.dwz_layout.specs.Stored.{values_bytes}
use Rattle.dwz_layout.specs.Ways.{rewrite_of}
use Rattle.dwz_layout.proofs.LeftLemmas.{LeftOf, left_end, left_next, left_start, left_value, no_attrs, no_values, one_value, values_more}
use Rattle.dwz_layout.proofs.NumberLemmas.{line_bytes, number_bytes, ref_bytes, text_bytes}
use Rattle.dwz_layout.proofs.PartLemmas.{expr_len}
use Rattle.dwz_layout.proofs.SizeLemmas.{expr_bytes_are}

-- what is appended to bytes
abbrev pub Put : Numbers → List ℕ → List ℕ → List OutAttr → Type 0
Put n old new attrs = new ≡ old ++ values_bytes (stored_all n attrs)

pub put_none : (n : Numbers) (old : List ℕ) → Put n old old []
put_none n old = sym (append-nil old) ∙ ap (λ (w : List ℕ). old ++ w) (sym no_values)

pub put_one : (n : Numbers) (a : OutAttr) (old new bytes : List ℕ) → new ≡ old ++ bytes → bytes ≡ value_bytes a.pair.form (raw_of n a.pair.form a.content) → Put n old new (a ∷ [])
put_one n a old new bytes is same = is ∙ ap (λ (w : List ℕ). old ++ w) (same ∙ sym (one_value (stored_of n a)))

pub put_read : (n : Numbers) (a : RawAttr) (old new : List ℕ) → new ≡ old ++ value_bytes a.pair.form a.raw → Put n old new (read_attr a ∷ [])
put_read n a old new is = put_one n (read_attr a) old new (value_bytes a.pair.form a.raw) is refl

pub put_text : (n : Numbers) (name : ℕ) (text : TextAt) (old new : List ℕ) → new ≡ old ++ le_bytes 4 (text_offset text) → Put n old new (text_attr name text ∷ [])
put_text n name text old new is = put_one n (text_attr name text) old new (le_bytes 4 (text_offset text)) is (sym (text_bytes text))

pub put_file : (n : Numbers) (name number : ℕ) (old new : List ℕ) → new ≡ old ++ uleb number → Put n old new (file_attr name number ∷ [])
put_file n name number old new is = put_one n (file_attr name number) old new (uleb number) is (sym (number_bytes number))

pub put_line : (n : Numbers) (line : ℕ) (old new : List ℕ) → new ≡ old ++ le_bytes 4 line → Put n old new (line_attrs (Some line))
put_line n line old new is = is ∙ ap (λ (w : List ℕ). old ++ w) (sym (line_bytes line) ∙ sym (one_value _))

pub put_number_of : (n : Numbers) (k : EntryTable) (here name number named : ℕ) → number ≡ named → (old new : List ℕ)
    → (let form = form_to k here (owner_of k number) in new ≡ old ++ value_bytes form (raw_of n form (OfEntry number))) → Put n old new (entry_attr k here name named ∷ [])
put_number_of n k here name number named same old new is = (let form = form_to k here (owner_of k number) in put_one n (entry_attr k here name number) old new
    (value_bytes form (raw_of n form (OfEntry number))) is refl) ∙ ap (λ (m : ℕ). old ++ values_bytes (stored_all n (entry_attr k here name m ∷ []))) same

pub put_expr : (n : Numbers) (k : EntryTable) (file name next : ℕ) (a : RawAttr) (bytes : List ℕ) → bytes ≡ bytes_of a.raw → (os given : List Operand) → given ≡ os
    → parts_from (a.end - length bytes) bytes os ≡ parts_or bytes (expr_at (any_operands 1) (record { at = a.end - length bytes; rest = bytes })) → (old new : List ℕ)
    → new ≡ old ++ (uleb (length bytes) ++ filled (parts_from (a.end - length bytes) bytes given)
    (operand_numbers n (parts_from (a.end - length bytes) bytes given) (references_from k file next (operand_count (parts_from (a.end - length bytes) bytes given)))))
    → Put n old new (expr_attr k file name next (expr_parts a) ∷ [])
put_expr n k file name next a bytes same os given there read old new is =
    let parts : parts_from (a.end - length bytes) bytes given ≡ expr_parts a = ap (parts_from (a.end - length bytes) bytes) there ∙ read
    ∙ ap (λ (w : List ℕ). parts_or w (expr_at (any_operands 1) (record { at = a.end - length w; rest = w }))) same in
    let shown : List Part → List ℕ = λ (p : List Part). filled p (operand_numbers n p (references_from k file next (operand_count p))) in
    let out = shown (expr_parts a) in
    let len : length bytes ≡ length out = ap (λ (w : List ℕ). length w) same ∙ sym (expr_len k file next n a) in
    put_one n (expr_attr k file name next (expr_parts a)) old new (uleb (length bytes) ++ shown (parts_from (a.end - length bytes) bytes given)) is
    ((λ i. uleb (len i) ++ shown (parts i)) ∙ sym (expr_bytes_are out))

-- ---- numbers of entries and roots

pub entry_bytes : (n : Numbers) (k : EntryTable) (here target owner form place count : ℕ) → owner ≡ owner_of k target → form ≡ form_to k here owner → place ≡ slice_index n.places target
    → count ≡ counted n form place
    → le_bytes 4 count ≡ value_bytes (form_to k here (owner_of k target)) (raw_of n (form_to k here (owner_of k target)) (OfEntry target))
entry_bytes n k here target owner form place count owned formed placed is =
    let same : form ≡ form_to k here (owner_of k target) = formed ∙ ap (form_to k here) owned in
    let number : count ≡ counted n (form_to k here (owner_of k target)) (slice_index n.places target) = is ∙ (λ i. counted n (same i) (placed i)) in
    ap (le_bytes 4) number ∙ sym (ref_bytes (reach_by _ _) _)

pub root_bytes : (n : Numbers) (k : EntryTable) (here unit form place count : ℕ) → form ≡ form_to k here unit → place ≡ slice_index n.roots unit → count ≡ counted n form place
    → le_bytes 4 count ≡ values_bytes (stored_all n (import_attr k here unit ∷ []))
root_bytes n k here unit form place count formed placed is =
    let number : count ≡ counted n (form_to k here unit) (slice_index n.roots unit) = is ∙ (λ i. counted n (formed i) (placed i)) in
    ap (le_bytes 4) number ∙ sym (ref_bytes (reach_by _ _) _) ∙ sym (one_value (stored_of n (import_attr k here unit)))

pub put_changed : {T E : Type 0} (r : Result T E) (old new bytes other : List ℕ) → bytes ≡ other → OnOk r (new ≡ old ++ bytes) → OnOk r (new ≡ old ++ other)
put_changed (Ok x) old new bytes other same is = is ∙ ap (λ (w : List ℕ). old ++ w) same
put_changed (Err e) old new bytes other same is = tt

pub put_empty : (n : Numbers) (old out : List ℕ) (attrs : List OutAttr) → out ≡ old → attrs ≡ [] → Put n old out attrs
put_empty n old out attrs same none = same ∙ put_none n old ∙ ap (λ (w : List OutAttr). old ++ values_bytes (stored_all n w)) (sym none)

pub put_there : {T E : Type 0} (r : Result T E) (n : Numbers) (old out new : List ℕ) (one other : List OutAttr) → out ≡ old → one ≡ other → OnOk r (Put n out new one) → OnOk r (Put n old new other)
put_there (Ok x) n old out new one other same alike put = put ∙ (λ i. same i ++ values_bytes (stored_all n (alike i)))
put_there (Err e) n old out new one other same alike put = tt

pub put_mapped : {T E P Q : Type 0} (r : Result T E) → (P → Q) → OnOk r P → OnOk r Q
put_mapped (Ok x) go p = go p
put_mapped (Err e) go p = tt

-- ---- by the way of a value

pub put_by : (n : Numbers) (k : EntryTable) (file : ℕ) (here : WritingContext) (next : ValueCounts) (a : RawAttr) (way : Rewrite) → way ≡ rewrite_of here.holder a.pair → (old new : List ℕ)
    → Put n old new (out_by k file here.unit next a way) → Put n old new (out_attr k file here next a)
put_by n k file here next a way is old new put = put ∙ ap (λ (w : Rewrite). old ++ values_bytes (stored_all n (out_by k file here.unit next a w))) is

pub put_ok : {T E : Type 0} (r : Result T E) (n : Numbers) (old new bytes : List ℕ) (attrs : List OutAttr) → OnOk r (new ≡ old ++ bytes) → (new ≡ old ++ bytes → Put n old new attrs)
    → OnOk r (new ≡ old ++ values_bytes (stored_all n attrs))
put_ok (Ok x) n old new bytes attrs is go = go is
put_ok (Err e) n old new bytes attrs is go = tt

pub put_same : {T E : Type 0} (r : Result T E) (n : Numbers) (old new : List ℕ) (one other : List OutAttr) → one ≡ other → OnOk r (Put n old new one) → OnOk r (Put n old new other)
put_same (Ok x) n old new one other same put = put ∙ ap (λ (attrs : List OutAttr). old ++ values_bytes (stored_all n attrs)) same
put_same (Err e) n old new one other same put = tt

-- ---- the values of an entry, one after the other

pub record PutSoFar (n : Numbers) (k : EntryTable) (here : WritingContext) (r : Row) (pairs : List Pair) (j : ℕ) (at : Input) (next : ValueCounts) (old out : List ℕ) : Type 0 where
  pub done : List OutAttr
  pub left : LeftOf k here r pairs j at next done
  pub put : Put n old out done

module _ (n : Numbers) (k : EntryTable) (here : WritingContext) (r : Row) (pairs : List Pair) (old : List ℕ) where
  pub so_far_none : (at : Input) → HasValues k r pairs at → PutSoFar n k here r pairs 0 at (firsts_of k r) old old
  so_far_none at has = record { done = []; left = left_start k here r pairs at has; put = put_none n old }

  -- what the value that is read at a place added, behind which is another one
  abbrev pub PutNext : Result (Raw × Input) Fault → Pair → Input → ValueCounts → List ℕ → ValueCounts → List ℕ → Type 0
  PutNext read pair place next out new more =
      (IfOk read (λ x. place ≡ x.1))
      × (IfOk read (λ x. new ≡ after here next (value_read x.1.at pair x.0)))
      × (IfOk read (λ x. Put n out more (out_attr k r.file here next (value_read x.1.at pair x.0))))

  pub so_far_more : (j : ℕ) (d : Pair) (at place : Input) (next : ValueCounts) (out : List ℕ) → PutSoFar n k here r pairs j at next old out → j < length pairs
      → (new : ValueCounts) (more : List ℕ) → PutNext (value_at written_rows (get_or pairs j d) at) (get_or pairs j d) place next out new more
      → PutSoFar n k here r pairs (j + 1) place new old more
  so_far_more j d at place next out m lt new more put =
      let pair = get_or pairs j d in
      let v = left_value k here r pairs j d at next m.done m.left lt in
      let attrs = out_attr k r.file here next (value_read v.place.at pair v.raw) in
      let x = subst (λ (read : Result (Raw × Input) Fault). PutNext read pair place next out new more) v.value put in
      let left = left_next k here r pairs j d at next m.done m.left lt v.place v.raw v.value in
      record {
        done = m.done ++ attrs;
        left =
            subst (λ (i : Input). LeftOf k here r pairs (j + 1) i new (m.done ++ attrs)) (sym x.0)
            (subst (λ (f : ValueCounts). LeftOf k here r pairs (j + 1) v.place f (m.done ++ attrs)) (sym x.1) left);
        put =
            x.2
            ∙ ap (λ (w : List ℕ). w ++ values_bytes (stored_all n attrs)) m.put
            ∙ append_assoc old (values_bytes (stored_all n m.done)) (values_bytes (stored_all n attrs))
            ∙ ap (λ (w : List ℕ). old ++ w) (sym (values_more n m.done attrs));
      }

  pub so_far_end : (j : ℕ) (at : Input) (next : ValueCounts) (out : List ℕ) → PutSoFar n k here r pairs j at next old out → length pairs ≤ j → Put n old out (attrs_of k here (Read r))
  so_far_end j at next out m le = m.put ∙ ap (λ (attrs : List OutAttr). old ++ values_bytes (stored_all n attrs)) (sym (left_end k here r pairs j at next m.done m.left le))

  pub put_nothing : row_at k r ≡ None → Put n old old (attrs_of k here (Read r))
  put_nothing none = put_none n old ∙ ap (λ (attrs : List OutAttr). old ++ values_bytes (stored_all n attrs)) (sym (no_attrs k here r pairs none))
