-- Parts of lists of numbers, and how many numbers are less than one.
use Rattle.std.proofs.Common.{◌≡◌, ℕ, suc, ◌+◌, ◌==◌, cond, arith, ◌-◌, ◌≤◌, List, ◌++◌, take, drop, sym, ap, ◌∙◌, take-append-drop, length, length-drop}
use Rattle.std.specs.Prelude.{nat_lt, slice_range}
use Rattle.std.proofs.lemmas.List.{drop-append-le, drop-drop, take-append-le}
use Rattle.std.proofs.Math.Seq.{drop-append_seam, take-length}

pub one_more : (m k : ℕ) → cond (nat_lt m (suc k)) 1 0 ≡ cond (nat_lt m k) 1 0 + cond (m == k) 1 0
one_more m k = grind arith

pub split-drop : (ns : List ℕ) (start e : ℕ) → start ≤ e → slice_range ns start e ++ drop e ns ≡ drop start ns
split-drop ns start e l =
    let rest : drop e ns ≡ drop (e - start) (drop start ns) = (let s : e ≡ start + (e - start) = omega arith in ap (λ k. drop k ns) s ∙ sym (drop-drop (e - start) start ns)) in
    ap (λ (xs : List ℕ). take (e - start) (drop start ns) ++ xs) rest ∙ take-append-drop (e - start) (drop start ns)

pub range-more : (ts us : List ℕ) (i j : ℕ) → j ≤ length ts → i ≤ j → slice_range (ts ++ us) i j ≡ slice_range ts i j
range-more ts us i j l m = ap (take (j - i)) (drop-append-le i ts us (omega arith)) ∙ take-append-le (j - i) (drop i ts) us (omega (arith, length-drop i ts))

pub range-last : (ts us : List ℕ) → slice_range (ts ++ us) (length ts) (length ts + length us) ≡ us
range-last ts us = ap (take (length ts + length us - length ts)) (drop-append_seam ts us)
    ∙ (let e : length ts + length us - length ts ≡ length us = omega arith in ap (λ n. take n us) e ∙ take-length us)

pub range_grown : (xs ys : List ℕ) (from to : ℕ) → from ≤ to → to ≤ length xs → slice_range (xs ++ ys) from to ≡ slice_range xs from to
range_grown xs ys from to low high =
    ap (take (to - from)) (drop-append-le from xs ys (omega arith)) ∙ take-append-le (to - from) (drop from xs) ys (omega (arith, length-drop from xs, low, high))
