-- What is gathered of files by themselves is put together, one behind the other.
use Rattle.std.proofs.Common.{◌≡◌, ℕ, suc, ◌+◌, ◌-◌, ◌<◌, Bool, List, [], ◌∷◌, ◌++◌, length, Option, Some, None, Result, Ok, Err, slice_get, sym, ap, subst, ◌∙◌, ⊎_elim, arith}
use Rattle.std.specs.Prelude.{IfOk, IfSome, OnOk, is_ok, slice_index_or, if◌then◌else◌}
use Rattle.std.proofs.lemmas.Bool.{cases_lt}
use Rattle.std.proofs.lemmas.List.{length-append}
use Rattle.dwz_def_reading.proofs.ListFacts.{got_below}
use Rattle.dwz_groups.specs.declared.tops.TopRow.{TopRow}
use Rattle.dwz_graph.specs.declared.index.Starts.{Starts}
use Rattle.dwz_graph.specs.Index.{Index}
use Rattle.dwz_graph.proofs.TopLemmas.{get_cases}
use Rattle.dwz_def_reading.specs.Documents.{Doc}
use Rattle.dwz_graph.specs.Across.{starts_at}
use Rattle.dwz_move_files.proofs.MarkSteps.{starts_zero}
use Rattle.dwz_move_files.specs.declared.draft.Draft.{Draft}
use Rattle.dwz_move_files.specs.Drafts.{AreParts, IsDraft, IsFileDraft}
use Rattle.dwz_move_files.proofs.PairLemmas.{pairs_append}

-- ---- two parts

in_front : {X : Type 0} (xs ys : List X) (k : ℕ) (z : X) → k < length xs → slice_get (xs ++ ys) k ≡ Some z → slice_get xs k ≡ Some z
in_front xs ys k z lt e = ⊎_elim (λ a. a) (λ b. absurd (let at = b.1 in omega arith)) (get_cases xs ys k z e)

in_back : {X : Type 0} (xs ys : List X) (k j : ℕ) (z : X) → k ≡ length xs + j → slice_get (xs ++ ys) k ≡ Some z → slice_get ys j ≡ Some z
in_back xs ys k j z at e = ⊎_elim
    (λ a. absurd (let lt = got_below xs k z a in omega arith))
    (λ b. (let same : b.0 ≡ j = (let here = b.1 in omega arith) in subst (λ (i : ℕ). slice_get ys i ≡ Some z) same b.2))
    (get_cases xs ys k z e)

pub put_behind : (docs : List (Doc ℕ)) (first middle count more : ℕ) (a b all : Draft) → first + count ≡ middle → IsDraft docs first count a → IsDraft docs middle more b
    → all.rows.items ≡ a.rows.items ++ b.rows.items → all.binds.items ≡ a.binds.items ++ b.binds.items → all.pairs.items ≡ a.pairs.items ++ b.pairs.items → IsDraft docs first (count + more) all
put_behind docs first middle count more a b all sum d e rows binds pairs =
    let d_rows = d.rows_len in
    let d_binds = d.binds_len in
    let d_targets = d.targets_len in
    let at : first + length d.targets ≡ middle = omega arith in
    record {
      targets = d.targets ++ e.targets;
      rows_len = ap (λ (w : List TopRow). length w) rows ∙ length-append a.rows.items b.rows.items ∙ (λ i. d.rows_len i + e.rows_len i);
      binds_len = ap (λ (w : List Bool). length w) binds ∙ length-append a.binds.items b.binds.items ∙ (λ i. d.binds_len i + e.binds_len i);
      targets_len = length-append d.targets e.targets ∙ (λ i. d.targets_len i + e.targets_len i);
      pairs_are = pairs ∙ (λ i. d.pairs_are i ++ e.pairs_are i) ∙ sym (pairs_append first middle d.targets e.targets at);
      each = λ k n t row c ts is there p q r.
          let row_there : slice_get (a.rows.items ++ b.rows.items) k ≡ Some row = sym (ap (λ (w : List TopRow). slice_get w k) rows) ∙ p in
          let bind_there : slice_get (a.binds.items ++ b.binds.items) k ≡ Some c = sym (ap (λ (w : List Bool). slice_get w k) binds) ∙ q in
          ⊎_elim
          (λ lt. d.each k n t row c ts is there
          (in_front a.rows.items b.rows.items k row (omega arith) row_there)
          (in_front a.binds.items b.binds.items k c (omega arith) bind_there)
          (in_front d.targets e.targets k ts (omega arith) r))
          (λ ge. e.each (k - count) n t row c ts (omega arith) there
          (in_back a.rows.items b.rows.items k (k - count) row (omega arith) row_there)
          (in_back a.binds.items b.binds.items k (k - count) c (omega arith) bind_there)
          (in_back d.targets e.targets k (k - count) ts (omega arith) r))
          (cases_lt k count);
    }

-- where the last list could be put behind
pub on_appended : {X E : Type 0} (r : Result (Unit {0}) E) (xs ys zs : List X) (G : Type 0) → zs ≡ (if is_ok r then xs ++ ys else xs) → (zs ≡ xs ++ ys → G) → OnOk r G
on_appended (Ok u) xs ys zs G e f = f e
on_appended (Err x) xs ys zs G e f = tt

-- what holds holds of whatever is answered
pub always : {T E Q : Type 0} (r : Result T E) → Q → IfOk r (λ x. Q)
always (Ok x) q = q
always (Err e) q = tt

-- ---- parts

-- So many tops are put together, and what is left are the parts of those behind them, up to that number.
pub record PartsLeft (docs : List (Doc ℕ)) (to : ℕ) (left : List (Option Draft)) (draft : Draft) : Type 0 where
  pub count : ℕ
  pub is : IsDraft docs 0 count draft
  pub are : AreParts docs count to left

module _ (docs : List (Doc ℕ)) (to : ℕ) where
  pub parts_begin : (parts : List (Option Draft)) (draft : Draft) → AreParts docs 0 to parts → IsDraft docs 0 0 draft → PartsLeft docs to parts draft
  parts_begin parts draft are d = record { count = 0; is = d; are = are }

  pub parts_more : (part : Draft) (left : List (Option Draft)) (old new : Draft)
      → ((count more : ℕ) → IsDraft docs 0 count old → IsDraft docs count more part → IsDraft docs 0 (count + more) new)
      → PartsLeft docs to (Some part ∷ left) old → PartsLeft docs to left new
  parts_more part left old new put h = record { count = h.count + h.are.0; is = put h.count h.are.0 h.is h.are.1; are = h.are.2 }

  pub parts_end : (draft : Draft) → PartsLeft docs to [] draft → IsDraft docs 0 to draft
  parts_end draft h = subst (λ (n : ℕ). IsDraft docs 0 n draft) h.are h.is

-- ---- the parts of files

module _ (docs : List (Doc ℕ)) (indexes : List Index) where
  each_part : (parts : List (Option Draft)) (k end : ℕ) → k + length parts ≡ end → ((i n : ℕ) → i < length parts → k + i ≡ n → IfSome (slice_index_or parts i None) (IsFileDraft docs indexes n))
      → AreParts docs (starts_at docs indexes k).top (starts_at docs indexes end).top parts
  each_part [] k end many h = (let same : k ≡ end = omega arith in ap (λ (n : ℕ). (starts_at docs indexes n).top) same)
  each_part (None ∷ parts) k end many h = tt
  each_part (Some part ∷ parts) k end many h =
      let here = h 0 k (omega arith) (omega arith) in
      let rest = each_part parts (k + 1) end (omega arith) (λ i n lt e. h (suc i) n (omega arith) (omega arith)) in
      (here.count, here.is, subst (λ (n : ℕ). AreParts docs n (starts_at docs indexes end).top parts) (sym here.to) rest)

  -- those of all files
  pub file_parts : (parts : List (Option Draft)) (all : ℕ) → (starts_at docs indexes (length parts)).top ≡ all
      → ((i n : ℕ) → i < length parts → 0 + i ≡ n → IfSome (slice_index_or parts i None) (IsFileDraft docs indexes n)) → AreParts docs 0 all parts
  file_parts parts all ends h =
      let zero : (starts_at docs indexes 0).top ≡ 0 = ap (λ (s : Starts). s.top) (starts_zero docs indexes) in
      subst (λ (n : ℕ). AreParts docs n all parts) zero
      (subst (λ (n : ℕ). AreParts docs (starts_at docs indexes 0).top n parts) ends (each_part parts 0 (length parts) (omega arith) h))
