-- The numbers of spaces are set one after the other.
use Rattle.std.proofs.Common.{◌≡◌, ℕ, zero, suc, ◌+◌, ◌<◌, ◌≤◌, Bool, false, List, [], ◌∷◌, ◌++◌, length, get_or, map, take, Option, Some, None, slice_get, slice_set, refl, sym, ap, ◌∙◌, inl, inr}
use Rattle.std.proofs.Common.{arith, get_or-set_other, get_or-set_same}
use Rattle.std.specs.Prelude.{replicate}
use Rattle.std.proofs.lemmas.Bool.Decides.{eqb_tells}
use Rattle.std.proofs.lemmas.List.{append-nil, length-append, length-set, map-append, replicate-append-replicate, take_more}
use Rattle.std.proofs.lemmas.List.Concat.{flat_map-append}
use Rattle.dwz_def_reading.specs.Lists.{In}
use Rattle.dwz_def_reading.proofs.ListFacts.{got_below}
use Rattle.dwz_graph.specs.declared.index.SpaceEntry.{SpaceEntry}
use Rattle.dwz_graph.specs.Index.{Index}
use Rattle.dwz_graph.specs.ListOperand.{ListOperand}
use Rattle.dwz_move.specs.Marked.{Marks, if_asked}
use Rattle.dwz_move_files.proofs.MarkSteps.{in_more, marks_none, marks_then, set_both}
use Rattle.dwz_layout_order.specs.Lists.{all_spaces}
use Rattle.dwz_layout_order.proofs.SpaceSteps.{spaces_more}
use Rattle.dwz_layout_input.specs.Places.{AreNone, AreSpaceNumbers, IsSpaceNumber, list_spaces, number_at}

-- ---- none yet

pub none_at : (count entry : ℕ) → number_at (replicate count None) entry ≡ None
none_at zero entry = refl
none_at (suc count) zero = refl
none_at (suc count) (suc entry) = none_at count entry

pub none_many : (count : ℕ) → length (replicate {A = Option ℕ} count None) ≡ count
none_many zero = refl
none_many (suc count) = ap suc (none_many count)

pub none_more : (now new : List (Option ℕ)) (k : ℕ) → now ≡ replicate k None → new ≡ now ++ None ∷ [] → new ≡ replicate (k + 1) None
none_more now new k e f = f ∙ ap (λ (w : List (Option ℕ)). w ++ None ∷ []) e ∙ replicate-append-replicate k 1 None

-- ---- the first k spaces have theirs

pub record SetUpTo (first : ℕ) (spaces : List SpaceEntry) (k : ℕ) (numbers : List (Option ℕ)) : Type 0 where
  pub each : (entry n : ℕ) → number_at numbers entry ≡ Some n → IsSpaceNumber first spaces entry n
  pub all : (j : ℕ) (x : SpaceEntry) → j < k → slice_get spaces j ≡ Some x → x.entry < length numbers → (n : ℕ) × (number_at numbers x.entry ≡ Some n)

pub set_first : (first : ℕ) (spaces : List SpaceEntry) (numbers : List (Option ℕ)) → AreNone numbers → SetUpTo first spaces 0 numbers
set_first first spaces numbers none = record {
  each = λ entry n e. absurd (let f = sym (none entry) ∙ e in cc);
  all = λ j x lt. absurd (omega arith);
}

module _ (first : ℕ) (spaces : List SpaceEntry) (k : ℕ) (numbers : List (Option ℕ)) (x : SpaceEntry) (got : slice_get spaces k ≡ Some x) (h : SetUpTo first spaces k numbers) where
  same_space : (j : ℕ) (y : SpaceEntry) → j ≡ k → slice_get spaces j ≡ Some y → y ≡ x
  same_space j y e f = (let both : Some y ≡ Some x = sym f ∙ ap (slice_get spaces) e ∙ got in cc)

  -- where there is no such entry nothing is set
  pub set_none : length numbers ≤ x.entry → SetUpTo first spaces (k + 1) numbers
  set_none le = record {
    each = h.each;
    all = λ j y lt f low. elim (eqb_tells j k) [
      | inl p ↦ absurd (let o = ap (λ (w : SpaceEntry). w.entry) (same_space j y p.1 f) in omega arith)
      | inr p ↦ (let differ = p.1 in h.all j y (omega arith) f low)
    ];
  }

  pub set_more : (n : ℕ) → n ≡ first + k → x.entry < length numbers → SetUpTo first spaces (k + 1) (slice_set numbers x.entry (Some n))
  set_more n is low = record {
    each = λ entry m e. elim (eqb_tells entry x.entry) [
      | inl p ↦ (let both : Some n ≡ Some m = sym here ∙ ap (number_at (slice_set numbers x.entry (Some n))) (sym p.1) ∙ e in let same : n ≡ m =
          cc in record { j = k; x = x; there = got; is_entry = sym p.1; number = sym same ∙ is })
      | inr p ↦ h.each entry m (sym (other entry p.1) ∙ e)
    ];
    all = λ j y lt f less. elim (eqb_tells y.entry x.entry) [
      | inl p ↦ (n, ap (number_at (slice_set numbers x.entry (Some n))) p.1 ∙ here)
      | inr p ↦ (
          let long = length-set numbers x.entry (Some n) in
          let apart : j ≡ k → ⊥ = λ q. p.1 (ap (λ (w : SpaceEntry). w.entry) (same_space j y q f)) in
          let r = h.all j y (omega (arith, apart, lt)) f (omega arith) in
          (r.0, other y.entry p.1 ∙ r.1))
    ];
  }
    where
      here : number_at (slice_set numbers x.entry (Some n)) x.entry ≡ Some n
      here = rw get_or-set_same refl

      other : (entry : ℕ) → (entry ≡ x.entry → ⊥) → number_at (slice_set numbers x.entry (Some n)) entry ≡ number_at numbers entry
      other entry ne = rw get_or-set_other refl

pub set_last : (first : ℕ) (spaces : List SpaceEntry) (k : ℕ) (numbers : List (Option ℕ)) → length spaces ≤ k → SetUpTo first spaces k numbers → AreSpaceNumbers first spaces numbers
set_last first spaces k numbers le h = record {
  each = h.each;
  all = λ j x e low. (let lt = got_below spaces j x e in h.all j x (omega arith) e low);
}

-- ---- references

pub refs_more : (numbers : List (Option ℕ)) (refs : List ℕ) (k : ℕ) (now new : List (Option ℕ)) (o : Option ℕ) → k < length refs → now ≡ map (number_at numbers) (take k refs)
    → o ≡ number_at numbers (get_or refs k 0) → new ≡ now ++ o ∷ [] → new ≡ map (number_at numbers) (take (k + 1) refs)
refs_more numbers refs k now new o lt e f g =
    g ∙ (λ i. e i ++ f i ∷ [])
    ∙ sym (map-append (number_at numbers) (take k refs) (get_or refs k 0 ∷ []))
    ∙ ap (map (number_at numbers)) (sym (take_more refs k 0 lt))

-- ---- operands of location lists

pub lists_first : (numbers : List (Option ℕ)) (rows : List ListOperand) (flags : List Bool) → Marks (list_spaces numbers (take 0 rows)) flags flags
lists_first numbers rows flags = marks_none (λ n. In (Some n) (list_spaces numbers (take 0 rows))) (λ n h. h) flags

pub lists_next : (numbers : List (Option ℕ)) (rows : List ListOperand) (k : ℕ) (d : ListOperand) → k < length rows → (o : Option ℕ) → o ≡ number_at numbers (get_or rows k d).entry
    → (old now new : List Bool)
    → Marks (list_spaces numbers (take k rows)) old now → Marks (if_asked (get_or rows k d).uleb o) now new → Marks (list_spaces numbers (take (k + 1) rows)) old new
lists_next numbers rows k d lt o e old now new a b =
    let row = get_or rows k d in
    let asked = λ (r : ListOperand). if_asked r.uleb (number_at numbers r.entry) in
    let more : list_spaces numbers (take (k + 1) rows) ≡ list_spaces numbers (take k rows) ++ if_asked row.uleb o =
    ap (list_spaces numbers) (take_more rows k d lt) ∙ flat_map-append asked (take k rows) (row ∷ []) ∙ ap (λ (w : List (Option ℕ)). list_spaces numbers (take k rows) ++ w)
    (append-nil (asked row) ∙ ap (if_asked row.uleb) (sym e)) in
    marks_then (λ n. In (Some n) (list_spaces numbers (take k rows))) (λ n. In (Some n) (if_asked row.uleb o)) (λ n. In (Some n) (list_spaces numbers (take (k + 1) rows))) old now new a b
    (λ n. in_more (Some n) (list_spaces numbers (take k rows)) (if_asked row.uleb o) (list_spaces numbers (take (k + 1) rows)) more)

-- ---- flags

pub flags_more : (xs : List Index) (k : ℕ) (x : Index) (spaces : List SpaceEntry) (now new : List Bool) → k < length xs → x ≡ get_or xs k x → spaces ≡ x.spaces
    → now ≡ replicate (length (all_spaces (take k xs))) false
    → new ≡ now ++ replicate (length spaces) false → new ≡ replicate (length (all_spaces (take (k + 1) xs))) false
flags_more xs k x spaces now new lt is own e f =
    let sum = ap (λ (w : List SpaceEntry). length w) (spaces_more xs k x lt is) ∙ length-append (all_spaces (take k xs)) x.spaces in
    f ∙ (λ i. e i ++ replicate (length (own i)) false) ∙ set_both (length (all_spaces (take k xs))) (length x.spaces) ∙ ap (λ (n : ℕ). replicate n false) (sym sum)
