-- A loop over the values of an entry: what is done and what is left are all its attributes.
use Rattle.std.proofs.Common.{◌≡◌, ℕ, ◌+◌, ◌<◌, ◌≤◌, List, [], ◌∷◌, ◌++◌, drop, get_or, length, Option, Some, None, slice_get, Result, Ok, refl, sym, ap, subst, ◌∙◌, append_assoc, append-nil, arith}
use Rattle.std.specs.Prelude.{IfOk, IsOk}
use Rattle.std.specs.Option.{option_map_or}
use Rattle.std.proofs.lemmas.List.{drop_all, length-append, map-append}
use Rattle.dwz_def_reading.specs.Input.{Input}
use Rattle.dwz_def_reading.specs.Entries.{RawAttr}
use Rattle.dwz_def_reading.specs.Values.{Raw, value_at, value_bytes, written_rows}
use Rattle.dwz_def_reading.proofs.PartLemmas.{same_input, same_value}
use Rattle.dwz_def_reading.proofs.ListFacts.{drop_here}
use Rattle.dwz_model.specs.declared.fault.Fault.{Fault}
use Rattle.dwz_model.specs.declared.place.Pair.{Pair}
use Rattle.dwz_unit.specs.Rows.{EntryRow}
use Rattle.dwz_unit.specs.Values.{Reads}
use Rattle.dwz_unit.proofs.ReadsLemmas.{Next, reads_count, reads_next}
use Rattle.dwz_layout.specs.declared.known.ValueCounts.{ValueCounts}
use Rattle.dwz_layout.specs.declared.known.EntryTable.{EntryTable}
use Rattle.dwz_layout.specs.declared.known.Row.{Row}
use Rattle.dwz_layout.specs.declared.walk.Origin.TheVariants.{Read}
use Rattle.dwz_layout.specs.Attributes.{Numbers, OutAttr, WritingContext, after, attrs_of, out_attr, out_attrs, row_attrs, stored_all, stored_of, value_read}
use Rattle.dwz_layout.specs.Known.{HasValues, firsts_of, row_at}
use Rattle.dwz_layout.specs.Stored.{StoredAttr, pairs_of, values_bytes}

-- ---- what is stored of lists of attributes

pub stored_more : (n : Numbers) (xs ys : List OutAttr) → stored_all n (xs ++ ys) ≡ stored_all n xs ++ stored_all n ys
stored_more n xs ys = map-append (stored_of n) xs ys

pub pairs_more : (n : Numbers) (xs ys : List OutAttr) → pairs_of (stored_all n (xs ++ ys)) ≡ pairs_of (stored_all n xs) ++ pairs_of (stored_all n ys)
pairs_more n xs ys = ap pairs_of (stored_more n xs ys) ∙ map-append (λ (a : StoredAttr). a.pair) (stored_all n xs) (stored_all n ys)

bytes_more : (xs ys : List StoredAttr) → values_bytes (xs ++ ys) ≡ values_bytes xs ++ values_bytes ys
unfolding values_bytes
bytes_more [] ys = refl
bytes_more (x ∷ xs) ys = ap (λ (w : List ℕ). value_bytes x.pair.form x.raw ++ w) (bytes_more xs ys) ∙ sym (append_assoc (value_bytes x.pair.form x.raw) (values_bytes xs) (values_bytes ys))

pub values_more : (n : Numbers) (xs ys : List OutAttr) → values_bytes (stored_all n (xs ++ ys)) ≡ values_bytes (stored_all n xs) ++ values_bytes (stored_all n ys)
values_more n xs ys = ap values_bytes (stored_more n xs ys) ∙ bytes_more (stored_all n xs) (stored_all n ys)

pub length_more : (n : Numbers) (xs ys : List OutAttr) → length (values_bytes (stored_all n (xs ++ ys))) ≡ length (values_bytes (stored_all n xs)) + length (values_bytes (stored_all n ys))
length_more n xs ys = ap (λ (w : List ℕ). length w) (values_more n xs ys) ∙ length-append (values_bytes (stored_all n xs)) (values_bytes (stored_all n ys))

pub no_values : values_bytes [] ≡ []
unfolding values_bytes
no_values = refl

pub one_value : (x : StoredAttr) → values_bytes (x ∷ []) ≡ value_bytes x.pair.form x.raw
unfolding values_bytes
one_value x = append-nil (value_bytes x.pair.form x.raw)

-- ---- values that are read

-- what holds of a value that ends there holds of the one that is read
pub if_read : (r : Result (Raw × Input) Fault) (raw : Raw) (place : Input) (end : ℕ) → r ≡ Ok (raw, place) → end ≡ place.at → (P : ℕ → Raw → Type 0) → P end raw → IfOk r (λ x. P x.1.at x.0)
if_read r raw place end read same P p = subst (λ (q : Result (Raw × Input) Fault). IfOk q (λ x. P x.1.at x.0)) (sym read) (subst (λ (e : ℕ). P e raw) same p)

-- ---- what is left of an entry

pub record LeftOf (k : EntryTable) (here : WritingContext) (r : Row) (pairs : List Pair) (j : ℕ) (at : Input) (next : ValueCounts) (done : List OutAttr) : Type 0 where
  pub entry : EntryRow
  pub is : row_at k r ≡ Some entry
  pub reads : Reads entry.entry.at (drop j pairs) at (drop j entry.entry.attrs)
  pub count : length entry.entry.attrs ≡ length pairs
  pub all : attrs_of k here (Read r) ≡ done ++ out_attrs k r.file here next (drop j entry.entry.attrs)

module _ (k : EntryTable) (here : WritingContext) (r : Row) (pairs : List Pair) where
  pub left_start : (at : Input) → HasValues k r pairs at → LeftOf k here r pairs 0 at (firsts_of k r) []
  left_start at has = record {
    entry = has.entry;
    is = has.is;
    reads = has.reads;
    count = reads_count has.entry.entry.at pairs at has.entry.entry.attrs has.reads;
    all = ap (λ (o : Option EntryRow). option_map_or (row_attrs k here (Read r)) o []) has.is;
  }

  module _ (j : ℕ) (d : Pair) (at : Input) (next : ValueCounts) (done : List OutAttr) (left : LeftOf k here r pairs j at next done) (lt : j < length pairs) where
    pub left_value : Next left.entry.entry.at pairs j (get_or pairs j d) at left.entry.entry.attrs
    left_value = reads_next left.entry.entry.at pairs j d at left.entry.entry.attrs lt left.reads

    pub left_readable : IsOk (value_at written_rows (get_or pairs j d) at)
    left_readable = subst IsOk (sym left_value.value) refl

    pub left_next : (place : Input) (raw : Raw) → value_at written_rows (get_or pairs j d) at ≡ Ok (raw, place)
        → LeftOf k here r pairs (j + 1) place (after here next (value_read place.at (get_or pairs j d) raw)) (done ++ out_attr k r.file here next (value_read place.at (get_or pairs j d) raw))
    unfolding out_attrs
    left_next place raw value =
        let pair = get_or pairs j d in
        let attrs = left.entry.entry.attrs in
        let x = left_value in
        let same_raw = same_value x.raw raw x.place place (value_at written_rows pair at) x.value value in
        let same_place = same_input x.raw raw x.place place (value_at written_rows pair at) x.value value in
        let a : RawAttr = record { at = at.at; end = place.at; pair = pair; raw = raw } in
        let there : slice_get attrs j ≡ Some a = x.is ∙ (λ i. let b : RawAttr = record { at = at.at; end = (same_place i).at; pair = pair; raw = same_raw i } in Some b) in
        let rest = out_attrs k r.file here (after here next a) (drop (j + 1) attrs) in
        record {
          entry = left.entry;
          is = left.is;
          reads = subst (λ (i : Input). Reads left.entry.entry.at (drop (j + 1) pairs) i (drop (j + 1) attrs)) same_place x.rest;
          count = left.count;
          all =
              left.all
              ∙ ap (λ (w : List RawAttr). done ++ out_attrs k r.file here next w) (drop_here attrs j a there)
              ∙ sym (append_assoc done (out_attr k r.file here next a) rest);
        }

  pub left_end : (j : ℕ) (at : Input) (next : ValueCounts) (done : List OutAttr) → LeftOf k here r pairs j at next done → length pairs ≤ j → attrs_of k here (Read r) ≡ done
  unfolding out_attrs
  left_end j at next done left le =
      left.all
      ∙ ap (λ (w : List RawAttr). done ++ out_attrs k r.file here next w) (drop_all j left.entry.entry.attrs (omega (arith, le, left.count)))
      ∙ append-nil done

  pub no_attrs : row_at k r ≡ None → attrs_of k here (Read r) ≡ []
  no_attrs none = ap (λ (o : Option EntryRow). option_map_or (row_attrs k here (Read r)) o []) none
