-- A look as deep as there are tops decides the looks of every depth.
use Rattle.std.proofs.Common.{◌≡◌, ℕ, suc, ◌+◌, ◌-◌, ◌≤◌, List, length, subst, arith}
use Rattle.dwz_def_reading.specs.Lists.{In}
use Rattle.dwz_def_tops.specs.Alike.{Look}
use Rattle.dwz_def_tops.specs.Deciding.{look_test}
use Rattle.dwz_def_tops.specs.Spots.{Top}
use Rattle.dwz_def_tops.proofs.AlikeCounts.{Finer, IsEquivalence, classes, classes_most, classes_same, settles}
use Rattle.dwz_def_tops.proofs.AlikeLooks.{AreClosed, look_decides, look_down, look_joins, look_less, look_on, look_self, look_turns}
use Rattle.dwz_def_tops.proofs.AlikeTops.{Gives}
use Rattle.dwz_def_tops.proofs.TopNumbers.{Numbered}

module _ (tops : List Top) (numbered : Numbered 0 tops) (xs : List ℕ) (closed : AreClosed tops (λ n. In n xs)) where
  look_equivalence : (k : ℕ) → IsEquivalence (look_test tops k) xs
  look_equivalence k =
      let d = look_decides tops numbered (λ n. In n xs) closed k in record {
        self = λ x i. (d x x i i).1 (look_self tops numbered (λ n. In n xs) closed k x i);
        turns = λ x y i j e. (d y x j i).1 (look_turns tops k x y ((d x y i j).0 e));
        joins = λ x y z i j l e f. (d x z i l).1 (look_joins tops numbered (λ n. In n xs) closed k x y z j ((d x y i j).0 e) ((d y z j l).0 f));
      }

  look_finer : (k : ℕ) → Finer (look_test tops (suc k)) (look_test tops k) xs
  look_finer k x y i j e =
      (look_decides tops numbered (λ n. In n xs) closed k x y i j).1
      (look_less tops numbered (λ n. In n xs) closed k x y i j ((look_decides tops numbered (λ n. In n xs) closed (suc k) x y i j).0 e))

  -- looks of some depth find no more equal than those of the next
  look_rests : (j : ℕ) × (j ≤ length xs) × Gives (λ n. In n xs) (Look tops j) (Look tops (suc j))
  look_rests =
      let r = settles (λ k. classes (look_test tops k) xs) (length xs) (λ k. classes_most (look_test tops k) xs) in
      let j = r.0 in
      let same = classes_same (look_test tops (suc j)) (look_test tops j) xs (look_finer j) (look_equivalence (suc j)) (look_equivalence j) r.2 in (
        j,
        r.1,
        λ m n u v h. (look_decides tops numbered (λ i. In i xs) closed (suc j) m n u v).0 (same m n u v ((look_decides tops numbered (λ i. In i xs) closed j m n u v).1 h)),
      )

  -- a look of a depth that is no less than their number
  pub look_every : (d : ℕ) → length xs ≤ d → (m n : ℕ) → In m xs → In n xs → Look tops d m n → (k : ℕ) → Look tops k m n
  look_every d deep m n u v h k =
      let r = look_rests in
      let j = r.0 in
      let low : j ≤ length xs = r.1 in
      let first : d ≡ (d - j) + j = omega arith in
      let at_rest : Look tops j m n = look_down tops numbered (λ i. In i xs) closed (d - j) j m n u v (subst (λ (i : ℕ). Look tops i m n) first h) in
      let on : Look tops (k + j) m n = look_on tops numbered (λ i. In i xs) closed k j r.2 m n u v at_rest in
      let turned : k + j ≡ j + k = omega arith in
      look_down tops numbered (λ i. In i xs) closed j k m n u v (subst (λ (i : ℕ). Look tops i m n) turned on)
