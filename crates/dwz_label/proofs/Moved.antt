-- Labels behind labels: the ends of those behind move by how many bytes stand before them.
use Rattle.std.proofs.Common.{◌≡◌, ℕ, ◌+◌, ◌-◌, List, [], ◌∷◌, ◌++◌, length, map, take, sym, ap, subst, ◌∙◌, arith, length-append}
use Rattle.std.specs.Prelude.{slice_range}
use Rattle.std.proofs.Math.Seq.{drop-append-add, take-length}
use Rattle.dwz_model.proofs.PartFacts.{range-more}
use Rattle.dwz_groups.specs.Parts.{parts_of, Rise}
use Rattle.dwz_groups.proofs.PartLemmas.{Parted, Rise-least}

-- ends behind so many bytes
abbrev pub moved : ℕ → List ℕ → List ℕ
moved n es = map (λ (e : ℕ). n + e) es

range_moved : (bs ws : List ℕ) (k e : ℕ) → slice_range (bs ++ ws) (length bs + k) (length bs + e) ≡ slice_range ws k e
range_moved bs ws k e =
    let many : length bs + e - (length bs + k) ≡ e - k = omega arith in
    λ i. take (many i) (drop-append-add bs ws k i)

parts_moved : (bs ws : List ℕ) (k : ℕ) (fs : List ℕ) → parts_of (length bs + k) (moved (length bs) fs) (bs ++ ws) ≡ parts_of k fs ws
parts_moved bs ws k [] = λ i. []
parts_moved bs ws k (f ∷ fs) = λ i. range_moved bs ws k f i ∷ parts_moved bs ws f fs i

rise_moved : (n k : ℕ) (fs : List ℕ) (m : ℕ) → Rise k fs m → Rise (n + k) (moved n fs) (n + m)
rise_moved n k [] m r = ap (λ (x : ℕ). n + x) r
rise_moved n k (f ∷ fs) m r = (let l = r.0 in omega arith, rise_moved n f fs m r.1)

rise_behind : (start : ℕ) (es : List ℕ) (n : ℕ) (fs : List ℕ) (m : ℕ) → Rise start es n → Rise 0 fs m → Rise start (es ++ moved n fs) (n + m)
rise_behind start [] n fs m r s =
    let here : n + 0 ≡ start = omega (arith, r) in
    subst (λ (k : ℕ). Rise k (moved n fs) (n + m)) here (rise_moved n 0 fs m s)
rise_behind start (e ∷ es) n fs m r s = (r.0, rise_behind e es n fs m r.1 s)

parts_behind : (start : ℕ) (es bs fs ws : List ℕ) → Rise start es (length bs)
    → parts_of start (es ++ moved (length bs) fs) (bs ++ ws) ≡ parts_of start es bs ++ parts_of 0 fs ws
parts_behind start [] bs fs ws r =
    let here : start ≡ length bs + 0 = omega (arith, r) in
    ap (λ (k : ℕ). parts_of k (moved (length bs) fs) (bs ++ ws)) here ∙ parts_moved bs ws 0 fs
parts_behind start (e ∷ es) bs fs ws r = λ i. range-more bs ws start e (Rise-least e es (length bs) r.1) r.0 i ∷ parts_behind e es bs fs ws r.1 i

-- labels, and those behind them
pub all_behind : (es bs fs ws ends bytes : List ℕ) (start count : ℕ) (more : List ℕ) → Rise 0 es (length bs) → Rise 0 fs (length ws)
    → start ≡ length bs → more ≡ fs → count ≡ length more → ends ≡ es ++ moved start (take count more) → bytes ≡ bs ++ ws
    → Parted (parts_of 0 es bs ++ parts_of 0 fs ws) ends bytes
all_behind es bs fs ws ends bytes start count more r s at is many ends_are bytes_are =
    let far : count ≡ length fs = many ∙ ap (λ (xs : List ℕ). length xs) is in
    let whole : moved start (take count more) ≡ moved (length bs) fs = (λ i. moved (at i) (take (far i) (is i))) ∙ ap (moved (length bs)) (take-length fs) in
    let all : ends ≡ es ++ moved (length bs) fs = ends_are ∙ ap (λ (xs : List ℕ). es ++ xs) whole in
    let len : length bs + length ws ≡ length bytes = sym (ap (λ (xs : List ℕ). length xs) bytes_are ∙ length-append bs ws) in
    record {
      rise = subst (λ (xs : List ℕ). Rise 0 xs (length bytes)) (sym all) (subst (λ (n : ℕ). Rise 0 (es ++ moved (length bs) fs) n) len (rise_behind 0 es (length bs) fs (length ws) r s));
      parts = (λ i. parts_of 0 (all i) (bytes_are i)) ∙ parts_behind 0 es bs fs ws r;
    }
