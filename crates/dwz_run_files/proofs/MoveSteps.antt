-- Texts move file by file, and the names of spaces one by one.
use Rattle.std.proofs.Common.{◌≡◌, ℕ, suc, ◌+◌, List, [], ◌∷◌, ◌++◌, length, map, Option, None, refl, sym, ap, subst, ◌∙◌, arith}
use Rattle.std.proofs.lemmas.List.{append-nil, append_assoc}
use Rattle.dwz_layout.specs.declared.known.FileRows.{FileRows}
use Rattle.dwz_layout.specs.declared.known.TextAt.{TextAt}
use Rattle.dwz_encode_texts.specs.declared.pruning.PrunedFile.{PrunedFile}
use Rattle.dwz_run_files.specs.Moved.{RowMoved, RowsMoved, moved_if, pruned_at}

none_moved : (texts : List TextAt) → map (moved_if None) texts ≡ texts
none_moved [] = refl
none_moved (t ∷ texts) = ap (λ (w : List TextAt). t ∷ w) (none_moved texts)

-- a file of whose texts all stay has them where they were
pub stay : (pruned : List (Option PrunedFile)) (file : ℕ) (texts : List TextAt) → pruned_at pruned file ≡ None
    → texts ≡ map (moved_if (pruned_at pruned file)) texts
stay pruned file texts all = sym (ap (λ (o : Option PrunedFile). map (moved_if o) texts) all ∙ none_moved texts)

-- so many files have moved, and once those that are left have, all have
pub record Moving (pruned : List (Option PrunedFile)) (all : List FileRows) (n : ℕ) (left done : List FileRows) : Type 0 where
  pub many : n + length left ≡ length all
  pub so : (rest : List FileRows) → RowsMoved pruned n left rest → RowsMoved pruned 0 all (done ++ rest)

pub moving_first : (pruned : List (Option PrunedFile)) (all left done : List FileRows) → left ≡ all → done ≡ []
    → Moving pruned all 0 left done
moving_first pruned all left done whole none =
    let same : length left ≡ length all = ap (λ (w : List FileRows). length w) whole in
    record {
      many = omega arith;
      so = λ rest h.
          subst (λ (w : List FileRows). RowsMoved pruned 0 all (w ++ rest)) (sym none)
          (subst (λ (w : List FileRows). RowsMoved pruned 0 w rest) whole h);
    }

pub moving_next : (pruned : List (Option PrunedFile)) (all : List FileRows) (n : ℕ) (left more old new : List FileRows)
    → (row moved : FileRows) → left ≡ row ∷ more → RowMoved (pruned_at pruned n) row moved → new ≡ old ++ moved ∷ [] → Moving pruned all n left old
    → Moving pruned all (n + 1) more new
moving_next pruned all n left more old new row moved first is put h =
    let long : length left ≡ suc (length more) = ap (λ (w : List FileRows). length w) first in
    let many = h.many in
    let one : n + 1 ≡ suc n = omega arith in
    record {
      many = omega arith;
      so = λ rest later. (
          let both : RowsMoved pruned n (row ∷ more) (moved ∷ rest) = (is, subst (λ (m : ℕ). RowsMoved pruned m more rest) one later) in
          subst (λ (w : List FileRows). RowsMoved pruned 0 all w) (sym (ap (λ (w : List FileRows). w ++ rest) put
          ∙ append_assoc old (moved ∷ []) rest))
          (h.so (moved ∷ rest) (subst (λ (w : List FileRows). RowsMoved pruned n w (moved ∷ rest)) (sym first) both)));
    }

pub moving_end : (pruned : List (Option PrunedFile)) (all : List FileRows) (n : ℕ) (left done : List FileRows) → length left ≡ 0
    → Moving pruned all n left done → RowsMoved pruned 0 all done
moving_end pruned all n [] done none h = subst (λ (w : List FileRows). RowsMoved pruned 0 all w) (append-nil done) (h.so [] tt)
moving_end pruned all n (r ∷ left) done none h = absurd (omega arith)
