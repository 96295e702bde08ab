-- The test of alike tops decides.
use Rattle.std.proofs.Common.{◌≡◌, ◌⊎◌, ℕ, suc, ◌≤◌, Bool, true, false, List, [], ◌∷◌, length, Option, Some, None, Decides, refl, sym, ap, subst, ◌∙◌, inl, inr, ⊎_elim, arith}
use Rattle.std.proofs.lemmas.Bool.{false≢true}
use Rattle.std.proofs.lemmas.Bool.Decides.{Decides-at, Decides-eqb, Decides-like}
use Rattle.dwz_def_reading.specs.Lists.{In}
use Rattle.dwz_def_tops.specs.Alike.{Alike, Apart, InScope, IsAlike, Look, Movable, TopScope, Together}
use Rattle.dwz_def_tops.specs.Deciding.{alike_test, alike_tops, in_scope, is_movable, look_test, on_tops, top_in}
use Rattle.dwz_def_tops.specs.Spots.{EntryName, FileUnit, Top, tops_of}
use Rattle.dwz_def_tops.proofs.AlikeBound.{movable_closed, movable_decides}
use Rattle.dwz_def_tops.proofs.AlikeDepth.{look_every}
use Rattle.dwz_def_tops.proofs.AlikeLooks.{AreClosed, look_decides, look_joins, look_self, look_turns}
use Rattle.dwz_def_tops.proofs.AlikeTests.{Decides-any, Decides-both}
use Rattle.dwz_def_tops.proofs.TopNumbers.{found, finds, tops_numbers}

-- ---- the numbers of movable tops

with_number : Bool → ℕ → List ℕ → List ℕ
with_number true n ns = n ∷ ns
with_number false n ns = ns

number_in : (b : Bool) (n : ℕ) (ns : List ℕ) → b ≡ true → In n (with_number b n ns)
unfolding with_number
number_in true n ns e = inl refl
number_in false n ns e = absurd (false≢true e)

number_on : (b : Bool) (n m : ℕ) (ns : List ℕ) → In m ns → In m (with_number b n ns)
unfolding with_number
number_on true n m ns i = inr i
number_on false n m ns i = i

number_cases : (b : Bool) (n m : ℕ) (ns : List ℕ) → In m (with_number b n ns) → ((b ≡ true) × (n ≡ m)) ⊎ In m ns
unfolding with_number
number_cases true n m ns (inl e) = inl (refl, e)
number_cases true n m ns (inr i) = inr i
number_cases false n m ns i = inr i

number_length : (b : Bool) (n : ℕ) (ns : List ℕ) → length (with_number b n ns) ≤ suc (length ns)
unfolding with_number
number_length true n ns = omega arith
number_length false n ns = omega arith

movables : List (FileUnit EntryName) → List Top → List ℕ
movables units [] = []
movables units (t ∷ tops) = with_number (is_movable units t) t.number (movables units tops)

movables_in : (units : List (FileUnit EntryName)) (tops : List Top) (t : Top) → In t tops → is_movable units t ≡ true → In t.number (movables units tops)
unfolding movables
movables_in units [] t i e = absurd i
movables_in units (x ∷ tops) t (inl same) e =
    subst (λ (n : ℕ). In n (with_number (is_movable units x) x.number (movables units tops))) (ap (λ (y : Top). y.number) same)
    (number_in (is_movable units x) x.number (movables units tops) (ap (is_movable units) same ∙ e))
movables_in units (x ∷ tops) t (inr i) e = number_on (is_movable units x) x.number t.number (movables units tops) (movables_in units tops t i e)

movables_from : (units : List (FileUnit EntryName)) (tops : List Top) (n : ℕ) → In n (movables units tops) → (t : Top) × In t tops × (t.number ≡ n) × (is_movable units t ≡ true)
unfolding movables
movables_from units [] n i = absurd i
movables_from units (x ∷ tops) n i = ⊎_elim
    (λ (h : (is_movable units x ≡ true) × (x.number ≡ n)). (x, inl refl, h.1, h.0))
    (λ (j : In n (movables units tops)). let r = movables_from units tops n j in (r.0, inr r.1, r.2, r.3))
    (number_cases (is_movable units x) x.number n (movables units tops) i)

movables_length : (units : List (FileUnit EntryName)) (tops : List Top) → length (movables units tops) ≤ length tops
unfolding movables
movables_length units [] = omega arith
movables_length units (x ∷ tops) = let first = number_length (is_movable units x) x.number (movables units tops) in let rest = movables_length units tops in omega arith

movable_in : (units : List (FileUnit EntryName)) (n : ℕ) → Movable units n → In n (movables units (tops_of units))
movable_in units n m =
    let here : Movable units m.top.number = subst (λ (i : ℕ). Movable units i) (sym m.number) m in
    subst (λ (i : ℕ). In i (movables units (tops_of units))) m.number (movables_in units (tops_of units) m.top m.is_top ((movable_decides units m.top m.is_top).1 here))

in_movable : (units : List (FileUnit EntryName)) (n : ℕ) → In n (movables units (tops_of units)) → Movable units n
in_movable units n i =
    let r = movables_from units (tops_of units) n i in
    subst (λ (j : ℕ). Movable units j) r.2 ((movable_decides units r.0 r.1).0 r.3)

-- ---- looks at movable tops

movable_same : (units : List (FileUnit EntryName)) → AreClosed (tops_of units) (Movable units)
movable_same units = movable_closed units (Movable units) (λ n m. m) (λ n m. m)

-- a look as deep as there are tops decides the looks of every depth
pub every_look : (units : List (FileUnit EntryName)) (m n : ℕ) → Movable units m → Movable units n → Look (tops_of units) (length (tops_of units)) m n → (k : ℕ) → Look (tops_of units) k m n
every_look units m n u v h k =
    let tops = tops_of units in
    let xs = movables units tops in
    look_every tops (tops_numbers units) xs (movable_closed units (λ i. In i xs) (movable_in units) (in_movable units)) (length tops) (movables_length units tops) m n (movable_in units m u)
    (movable_in units n v) h k

-- the test of looks of each depth is true of movable tops exactly where the look finds them equal
pub look_tells : (units : List (FileUnit EntryName)) (k m n : ℕ) → Movable units m → Movable units n → Decides (look_test (tops_of units) k m n) (Look (tops_of units) k m n)
look_tells units k = look_decides (tops_of units) (tops_numbers units) (Movable units) (movable_same units) k

-- ---- alike

pub alike_self : (units : List (FileUnit EntryName)) (n : ℕ) → Movable units n → Alike units n n
alike_self units n m = record { first = m; second = m; equal = λ k. look_self (tops_of units) (tops_numbers units) (Movable units) (movable_same units) k n m }

pub alike_turns : (units : List (FileUnit EntryName)) (m n : ℕ) → Alike units m n → Alike units n m
alike_turns units m n a = record { first = a.second; second = a.first; equal = λ k. look_turns (tops_of units) k m n (a.equal k) }

pub alike_joins : (units : List (FileUnit EntryName)) (l m n : ℕ) → Alike units l m → Alike units m n → Alike units l n
alike_joins units l m n a b = record {
  first = a.first;
  second = b.second;
  equal = λ k. look_joins (tops_of units) (tops_numbers units) (Movable units) (movable_same units) k l m n a.second (a.equal k) (b.equal k);
}

-- ---- the test

scope_decides : (scope : TopScope) (a b : Top) → Decides (in_scope scope a b) (InScope scope a b)
scope_decides Together a b = Decides-any tt
scope_decides Apart a b = Decides-eqb a.file b.file

tops_decide : (scope : TopScope) (units : List (FileUnit EntryName)) (a b : Top) → In a (tops_of units) → In b (tops_of units)
    → Decides (alike_tops scope units a b) (InScope scope a b × Alike units a.number b.number)
tops_decide scope units a b i j =
    let tops = tops_of units in
    let n = length tops in
    let look = look_test tops n a.number b.number in
    Decides-like _
    (λ p. (p.0, record { first = p.1.1.0; second = p.1.1.1; equal = every_look units a.number b.number p.1.1.0 p.1.1.1 ((look_tells units n a.number b.number p.1.1.0 p.1.1.1).0 p.1.0) }))
    (λ p. (p.0, ((look_tells units n a.number b.number p.1.first p.1.second).1 (p.1.equal n), (p.1.first, p.1.second))))
    (Decides-both (in_scope scope a b) _ (scope_decides scope a b)
    (Decides-both {P = look ≡ true} look _ (λ e. e, λ e. e)
    (Decides-both (is_movable units a) (is_movable units b) (movable_decides units a i) (movable_decides units b j))))

test_at : (scope : TopScope) (units : List (FileUnit EntryName)) (a b : Top) → In a (tops_of units) → In b (tops_of units) → alike_test scope units a.number b.number ≡ alike_tops scope units a b
unfolding alike_test
test_at scope units a b i j =
    let tops = tops_of units in
    ap (λ o. on_tops (alike_tops scope units) o (top_in tops b.number)) (finds 0 tops a (tops_numbers units) i) ∙ ap (λ o. on_tops (alike_tops scope units) (Some a) o)
    (finds 0 tops b (tops_numbers units) j)

pub test_decides : (scope : TopScope) (units : List (FileUnit EntryName)) (a b : Top) → In a (tops_of units) → In b (tops_of units)
    → Decides (alike_test scope units a.number b.number) (InScope scope a b × Alike units a.number b.number)
test_decides scope units a b i j = Decides-at _ (alike_tops scope units a b) (test_at scope units a b i j) (tops_decide scope units a b i j)

both_there : (test : Top → Top → Bool) (o p : Option Top) → on_tops test o p ≡ true → (a b : Top) × (o ≡ Some a) × (p ≡ Some b)
both_there test (Some a) (Some b) e = (a, b, refl, refl)
both_there test (Some a) None e = absurd (false≢true e)
both_there test None p e = absurd (false≢true e)

-- what the test finds alike are tops
tops_there : (scope : TopScope) (units : List (FileUnit EntryName)) (m n : ℕ) → alike_test scope units m n ≡ true → (a b : Top) × (top_in (tops_of units) m ≡ Some a)
    × (top_in (tops_of units) n ≡ Some b)
unfolding alike_test
tops_there scope units m n e = both_there (alike_tops scope units) (top_in (tops_of units) m) (top_in (tops_of units) n) e

pub alike_decides : (scope : TopScope) (units : List (FileUnit EntryName)) → IsAlike scope units (alike_test scope units)
alike_decides scope units = record {
  decides = λ m n e. (
      let r = tops_there scope units m n e in
      let x = found (tops_of units) m r.0 r.2 in
      let y = found (tops_of units) n r.1 r.3 in
      let here : alike_test scope units r.0.number r.1.number ≡ true = ap (λ (i : ℕ). alike_test scope units i r.1.number) x.1 ∙ ap (λ (i : ℕ). alike_test scope units m i) y.1 ∙ e in
      let is = ((test_decides scope units r.0 r.1 x.0 y.0).0 here).1 in
      subst (λ (i : ℕ). Alike units m i) y.1 (subst (λ (i : ℕ). Alike units i r.1.number) x.1 is));
  scoped = λ a b i j e. ((test_decides scope units a b i j).0 e).0;
  decided = λ a b i j s l. (test_decides scope units a b i j).1 (s, l);
}
