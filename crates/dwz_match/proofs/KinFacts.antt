-- The first of each kin, one top after the other.
use Rattle.std.proofs.Common.{◌≡◌, ◌⊎◌, ◌≢◌, ℕ, ◌+◌, ◌-◌, ◌<◌, ◌≤◌, List, [], ◌∷◌, ◌++◌, Option, Some, None, IfSome, length, get_or, sym, ap, subst, ◌∙◌, inl, inr, ⊎_elim, arith}
use Rattle.std.specs.List.{range_with_len}
use Rattle.std.specs.Prelude.{◌==◌, true, false}
use Rattle.std.proofs.Math.ListN.{get_or-append, set}
use Rattle.std.proofs.Math.Seq.{get_or-append_right}
use Rattle.std.proofs.lemmas.List.{length-append}
use Rattle.std.proofs.lemmas.List.FromFn.{get_or-range_with_len, length-range_with_len}
use Rattle.std.proofs.lemmas.List.{get_or-set_other, get_or-set_same}
use Rattle.std.proofs.lemmas.Bool.Decides.{eqb_tells}
use Rattle.dwz_model.specs.Lists.{In}
use Rattle.dwz_model.proofs.ListFacts.{got_index_or}
use Rattle.dwz_model.proofs.Members.{in_nth, nth_below, nth_get}
use Rattle.dwz_match.specs.Kin.{AreKinBy, IsFirst, IsFirstKin, IsSeen, Rise, SeenIn}

-- a number is another one, or isn't
pub same_or : (m n : ℕ) → (m ≡ n) ⊎ (m ≢ n)
same_or m n = ⊎_elim (λ (r : ((m == n) ≡ true) × (m ≡ n)). inl r.1) (λ (r : ((m == n) ≡ false) × (m ≢ n)). inr r.1) (eqb_tells m n)

abbrev pub seen_at : List (Option ℕ) → ℕ → Option ℕ
seen_at firsts k = get_or firsts k None

module _ (least files : List ℕ) (same : length files ≡ length least) (rise : Rise files) where
  pub first_kin : (n m : ℕ) (o : Option ℕ) → n < length least → SeenIn least files n (get_or least n 0) o → IsFirst files o n m → IsFirstKin least files n m
  first_kin n m None l none e = record {
    there = omega (arith, e);
    kin = record { class = ap (λ (k : ℕ). get_or least k 0) e; file = ap (λ (k : ℕ). get_or files k 0) e };
    first = λ k low h. ⊎_elim (λ (before : k < n). absurd (none k before h.class)) (λ (after : n ≤ k). omega (arith, e, after)) (grind arith);
  }
  first_kin n m (Some j) l seen is = ⊎_elim
      (λ (e : get_or files j 0 ≡ get_or files n 0).
      let is_j : m ≡ j = is.0 e in
      let before = seen.there in
      record {
        there = omega (arith, is_j, before);
        kin = record { class = ap (λ (k : ℕ). get_or least k 0) is_j ∙ seen.class_is; file = ap (λ (k : ℕ). get_or files k 0) is_j ∙ e };
        first = λ k low h. ⊎_elim
            (λ (early : k < n). let o = seen.first k early h.class (h.file ∙ sym e) in omega (arith, o, is_j))
            (λ (late : n ≤ k). omega (arith, late, is_j, before))
            (grind arith);
      })
      (λ (d : get_or files j 0 ≢ get_or files n 0).
      let is_n : m ≡ n = is.1 d in
      let before = seen.there in
      record {
        there = omega (arith, is_n);
        kin = record { class = ap (λ (k : ℕ). get_or least k 0) is_n; file = ap (λ (k : ℕ). get_or files k 0) is_n };
        first = λ k low h. ⊎_elim
            (λ (early : k < n).
            let a = seen.last k early h.class in
            let b = rise j n (omega (arith, before)) (omega (arith, l, same)) in
            let f = h.file in
            let z : get_or files j 0 ≡ get_or files n 0 = omega (arith, a, b, f) in
            absurd (d z))
            (λ (late : n ≤ k). omega (arith, late, is_n))
            (grind arith);
      })
      (same_or (get_or files j 0) (get_or files n 0))

  seen_here : (n m : ℕ) → n < length least → IsFirstKin least files n m → IsSeen least files (n + 1) (get_or least n 0) m
  seen_here n m l is = record {
    there = (let h = is.there in omega (arith, h));
    class_is = is.kin.class;
    last = λ k low e. (let h = rise k n (omega (arith, low)) (omega (arith, l, same)) in let f = is.kin.file in omega (arith, h, f));
    first = λ k low e f. is.first k (omega (arith, low, l)) (record { class = e; file = f ∙ is.kin.file });
  }

  seen_other : (n c : ℕ) (o : Option ℕ) → (get_or least n 0 ≡ c → ⊥) → SeenIn least files n c o → SeenIn least files (n + 1) c o
  seen_other n c None d none = λ k low e. ⊎_elim (λ (before : k < n). none k before e) (λ (here : k ≡ n). d (ap (λ (w : ℕ). get_or least w 0) (sym here) ∙ e)) (grind arith)
  seen_other n c (Some m) d seen = record {
    there = (let h = seen.there in omega (arith, h));
    class_is = seen.class_is;
    last = λ k low e. ⊎_elim (λ (before : k < n). seen.last k before e) (λ (here : k ≡ n). absurd (d (ap (λ (w : ℕ). get_or least w 0) (sym here) ∙ e))) (grind arith);
    first = λ k low e f. ⊎_elim (λ (before : k < n). seen.first k before e f) (λ (here : k ≡ n). absurd (d (ap (λ (w : ℕ). get_or least w 0) (sym here) ∙ e))) (grind arith);
  }

  pub seen_next : (n m : ℕ) (firsts : List (Option ℕ)) → n < length least → get_or least n 0 < length firsts → IsFirstKin least files n m → ((k : ℕ) → SeenIn least files n k (seen_at firsts k))
      → (k : ℕ) → SeenIn least files (n + 1) k (seen_at (set firsts (get_or least n 0) (Some m)) k)
  seen_next n m firsts l low is h k = ⊎_elim
      (λ (e : get_or least n 0 ≡ k).
      subst (λ (c : ℕ). SeenIn least files (n + 1) c (seen_at (set firsts (get_or least n 0) (Some m)) c)) e
      (subst (λ (o : Option ℕ). SeenIn least files (n + 1) (get_or least n 0) o) (sym (get_or-set_same firsts (get_or least n 0) (Some m) None low)) (seen_here n m l is)))
      (λ (d : get_or least n 0 ≢ k).
      subst (λ (o : Option ℕ). SeenIn least files (n + 1) k o) (sym (get_or-set_other firsts (get_or least n 0) k (Some m) None (λ e. d (sym e)))) (seen_other n k (seen_at firsts k) d (h k)))
      (same_or (get_or least n 0) k)

-- none is seen yet
pub none_seen : (least files : List ℕ) (firsts : List (Option ℕ)) (k : ℕ) → seen_at firsts k ≡ None → SeenIn least files 0 k (seen_at firsts k)
none_seen least files firsts k e = subst (λ (o : Option ℕ). SeenIn least files 0 k o) (sym e) (λ j low same. omega (arith, low))

-- ---- those behind

pub kin_done : (least files xs : List ℕ) (count : ℕ) → length least ≤ count → length xs ≡ length least → ((n : ℕ) → n < length least → IsFirstKin least files n (get_or xs n 0))
    → AreKinBy least files count (xs ++ range_with_len (length least) (count - length least))
kin_done least files xs count most len own =
    let rest : List ℕ = range_with_len (length least) (count - length least) in
    record {
      len = length-append xs rest ∙ (let l = length-range_with_len (length least) (count - length least) in omega (arith, l, len, most));
      own = λ n l. subst (λ (m : ℕ). IsFirstKin least files n m) (sym (get_or-append xs rest 0 n (omega (arith, l, len)))) (own n l);
      behind = λ n low l.
          get_or-append_right xs rest n 0 (omega (arith, low, len)) ∙ get_or-range_with_len (length least) (count - length least) (n - length xs) 0 (omega (arith, low, l, len))
          ∙ (let e : length least + (n - length xs) ≡ n = omega (arith, low, len) in e);
    }

-- ---- one top more

abbrev pub AreKinSoFar : List ℕ → List ℕ → ℕ → List ℕ → Type 0
AreKinSoFar least files n kin = (k : ℕ) → k < n → IsFirstKin least files k (get_or kin k 0)

pub kin_next : (least files : List ℕ) (n m : ℕ) (kin : List ℕ) → length kin ≡ n → IsFirstKin least files n m → AreKinSoFar least files n kin → AreKinSoFar least files (n + 1) (kin ++ m ∷ [])
kin_next least files n m kin len is h k l = ⊎_elim
    (λ (before : k < n). subst (λ (w : ℕ). IsFirstKin least files k w) (sym (get_or-append kin (m ∷ []) 0 k (omega (arith, before, len)))) (h k before))
    (λ (here : k ≡ n).
    let at : get_or (kin ++ m ∷ []) k 0 ≡ m = get_or-append_right kin (m ∷ []) k 0 (omega (arith, here, len)) ∙ (let z : k - length kin ≡ 0 = omega (arith, here, len) in ap (λ (w : ℕ). get_or (m ∷ []) w 0) z) in
    subst (λ (w : ℕ). IsFirstKin least files k w) (sym at) (subst (λ (w : ℕ). IsFirstKin least files w m) (sym here) is))
    (grind (arith, l))

-- what was seen is a top
pub seen_low : (least files : List ℕ) (n k : ℕ) (o : Option ℕ) → n < length files → SeenIn least files n k o → IfSome o (λ m. m < length files)
seen_low least files n k None l h = tt
seen_low least files n k (Some m) l h = (let t = h.there in omega (arith, t, l))

-- each of these numbers is that of a top
pub kin_below : (least files : List ℕ) (count : ℕ) (kin : List ℕ) → length least ≤ count → AreKinBy least files count kin → (k : ℕ) → In k kin → k < count
kin_below least files count kin room are k i =
    let at = in_nth 0 kin k i in
    let n : ℕ = at.number in
    let low = nth_below 0 kin n k at.nth in
    let len = are.len in
    let is : get_or kin n 0 ≡ k = got_index_or kin n k 0 (nth_get 0 kin n n k at.nth (omega arith)) in
    ⊎_elim
    (λ (own : n < length least). let first = (are.own n own).there in omega (arith, first, is, own, room))
    (λ (behind : length least ≤ n). let itself = are.behind n behind (omega (arith, low, len)) in omega (arith, itself, is, low, len))
    (grind arith)
