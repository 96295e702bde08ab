-- Operands in order, of which each is kept once; and lists and slots, one after the other.
use Rattle.std.proofs.Common.{◌≡◌, ℕ, zero, suc, ◌+◌, ◌<◌, ◌≤◌, Bool, true, false, List, [], ◌∷◌, ◌++◌, length, map, get_or, take, Option, Some, None, slice_get, refl, sym, ap, subst, ◌∙◌, inl, inr}
use Rattle.std.proofs.Common.{arith}
use Rattle.std.proofs.Common.{eqb}
use Rattle.std.proofs.lemmas.Bool.{and_from, cases_lt, eq-eqb, eqb-true, false≢true}
use Rattle.std.proofs.lemmas.List.{append-nil, append_assoc, map-append, take_all}
use Rattle.std.proofs.lemmas.Option.{get_or_from_slice_get, slice_get-get_or}
use Rattle.dwz_def_reading.specs.Lists.{In}
use Rattle.dwz_def_reading.proofs.ListFacts.{got_below, got_in as at_in, in_cases, in_left, in_right}
use Rattle.dwz_def_reading.proofs.AbbrevLemmas.{and_true}
use Rattle.dwz_def_reading.specs.Shared.{OneOf, same_base, same_truth}
use Rattle.dwz_model.specs.declared.place.Base.{Base}
use Rattle.dwz_model.specs.declared.place.Base.TheVariants.{Unit as FromUnit, Info as FromInfo}
use Rattle.dwz_graph_resolve.specs.declared.operands.ListOperand.{ListOperand}
use Rattle.dwz_graph_resolve.specs.Apart.{AreWide, FindsApart, FindsForeign, HasClash, HasForeign, IsCause, IsLesser, Overlaps, Rise, Rows, Same, Test, Tested, owns_place}
use Rattle.dwz_graph_resolve.specs.Apart.{repeats_last, same_operand}
use Rattle.dwz_unit.proofs.RowsFound.{take_here}
use Rattle.dwz_graph_resolve.proofs.ApartLemmas.{in_at, in_take, rows_lower, rows_push}

-- ---- operands in order, of which each is kept once

abbrev pub LastIs : List ListOperand → Option ListOperand → ℕ → Type 0
LastIs kept None end = end ≡ 0
LastIs kept (Some p) end = In p kept × (end ≡ p.at + p.width)

pub record Passed (xs kept : List ListOperand) (last : Option ListOperand) (end : ℕ) : Type 0 where
  pub rows : Rows 0 kept end
  pub from : (r : ListOperand) → In r kept → In r xs
  pub all : (o : ListOperand) → In o xs → OneOf kept (λ r. Same r o)
  pub last_is : LastIs kept last end

pub passed_none : (kept : List ListOperand) → kept ≡ [] → Passed [] kept None 0
passed_none kept e = record {
  rows = subst (λ (w : List ListOperand). Rows 0 w 0) (sym e) (omega arith);
  from = λ r is. subst (λ (w : List ListOperand). In r w) e is;
  all = λ o is. absurd is;
  last_is = refl;
}

-- ---- the same operand

same_truths : (a b : Bool) → same_truth a b ≡ true → a ≡ b
same_truths true true e = refl
same_truths true false e = absurd (false≢true e)
same_truths false true e = absurd (false≢true e)
same_truths false false e = refl

same_bases : (a b : Base) → same_base a b ≡ true → a ≡ b
same_bases FromUnit FromUnit e = refl
same_bases FromUnit FromInfo e = absurd (false≢true e)
same_bases FromInfo FromUnit e = absurd (false≢true e)
same_bases FromInfo FromInfo e = refl

pub same_true : (o p : ListOperand) → same_operand o p ≡ true → Same o p
same_true o p e =
    let a = and_true (eqb o.unit p.unit) _ e in
    let b = and_true (eqb o.at p.at) _ a.1 in
    let d = and_true (eqb o.width p.width) _ b.1 in
    let f = and_true (same_truth o.uleb p.uleb) (same_base o.base p.base) d.1 in
    record { unit = eqb-true o.unit p.unit a.0; at = eqb-true o.at p.at b.0; width = eqb-true o.width p.width d.0; uleb = same_truths o.uleb p.uleb f.0; base = same_bases o.base p.base f.1 }

truth_self : (a : Bool) → same_truth a a ≡ true
truth_self true = refl
truth_self false = refl

base_self : (a : Base) → same_base a a ≡ true
base_self FromUnit = refl
base_self FromInfo = refl

same_tells : (o p : ListOperand) → Same o p → same_operand o p ≡ true
same_tells o p s =
    and_from (eqb o.unit p.unit) _ (eq-eqb o.unit p.unit s.unit)
    (and_from (eqb o.at p.at) _ (eq-eqb o.at p.at s.at)
    (and_from (eqb o.width p.width) _ (eq-eqb o.width p.width s.width)
    (and_from (same_truth o.uleb p.uleb) _ (subst (λ (b : Bool). same_truth o.uleb b ≡ true) s.uleb (truth_self o.uleb))
    (subst (λ (b : Base). same_base o.base b ≡ true) s.base (base_self o.base)))))

pub same_false : (o p : ListOperand) → same_operand o p ≡ false → Same o p → ⊥
same_false o p e s = false≢true (sym e ∙ same_tells o p s)

pub same_sym : (o p : ListOperand) → Same o p → Same p o
same_sym o p s = record { unit = sym s.unit; at = sym s.at; width = sym s.width; uleb = sym s.uleb; base = sym s.base }

pub same_trans : (o p q : ListOperand) → Same o p → Same p q → Same o q
same_trans o p q s t = record { unit = s.unit ∙ t.unit; at = s.at ∙ t.at; width = s.width ∙ t.width; uleb = s.uleb ∙ t.uleb; base = s.base ∙ t.base }

same_self : (o : ListOperand) → Same o o
same_self o = record { unit = refl; at = refl; width = refl; uleb = refl; base = refl }

-- ---- one operand more

all_more : (xs kept : List ListOperand) (o : ListOperand) → ((p : ListOperand) → In p xs → OneOf kept (λ r. Same r p)) → OneOf kept (λ r. Same r o) → (p : ListOperand) → In p (xs ++ o ∷ [])
    → OneOf kept (λ r. Same r p)
all_more xs kept o h one p is = elim (in_cases p xs (o ∷ []) is) [
  | inl l ↦ h p l
  | inr r ↦ elim r [ inl e ↦ subst (λ (w : ListOperand). OneOf kept (λ r. Same r w)) e one | inr never ↦ absurd never ]
]

pub passed_same : (xs kept : List ListOperand) (last : Option ListOperand) (end : ℕ) (o : ListOperand) → repeats_last last o ≡ true → Passed xs kept last end → Passed (xs ++ o ∷ []) kept last end
passed_same xs kept None end o e h = absurd (false≢true e)
passed_same xs kept (Some p) end o e h = record {
  rows = h.rows;
  from = λ r is. in_left r xs (o ∷ []) (h.from r is);
  all = all_more xs kept o h.all (p, h.last_is.0, same_true p o e);
  last_is = h.last_is;
}

pub passed_one : (xs kept new : List ListOperand) (last : Option ListOperand) (end : ℕ) (o : ListOperand) → new ≡ kept ++ o ∷ [] → end ≤ o.at → 0 < o.width → Passed xs kept last end
    → Passed (xs ++ o ∷ []) new (Some o) (o.at + o.width)
passed_one xs kept new last end o e le some h = subst (λ (w : List ListOperand). Passed (xs ++ o ∷ []) w (Some o) (o.at + o.width)) (sym e) (record {
  rows = rows_push kept 0 end o h.rows le some;
  from = λ r is. elim (in_cases r kept (o ∷ []) is) [ inl l ↦ in_left r xs (o ∷ []) (h.from r l) | inr k ↦ in_right r xs (o ∷ []) k ];
  all = all_more xs (kept ++ o ∷ []) o (λ p is. let r = h.all p is in (r.0, in_left r.0 kept (o ∷ []) r.1, r.2)) (o, in_right o kept (o ∷ []) (inl refl), same_self o);
  last_is = (in_right o kept (o ∷ []) (inl refl), refl);
})

-- ---- the end of the pass

pub passed_all : (xs kept : List ListOperand) (last : Option ListOperand) (end k : ℕ) → length xs ≤ k → Passed (take k xs) kept last end → FindsApart xs kept None
passed_all xs kept last end k le h =
    let all = take_all k xs le in
    record {
      top = end;
      rows = h.rows;
      from = λ r is. in_take r xs k (h.from r is);
      all = λ o is before. h.all o (subst (λ (w : List ListOperand). In o w) (sym all) is);
      clash_is = tt;
    }

-- what begins before the k-th is among the first k
among_first : (xs : List ListOperand) (k : ℕ) (o p : ListOperand) → Rise xs → slice_get xs k ≡ Some o → In p xs → p.at < o.at → In p (take k xs)
among_first xs k o p rise e is lt =
    let i = in_at xs p is in
    elim (cases_lt i.0 k) [
      | inl less ↦ in_first xs i.0 k p i.2 less
      | inr ge ↦
          let within = i.1 in
          let up = rise k i.0 o ge within in
          let a = get_or_from_slice_get xs k o o e in
          let b = get_or_from_slice_get xs i.0 p o i.2 in
          let low = ap (λ (w : ListOperand). w.at) a in
          let high = ap (λ (w : ListOperand). w.at) b in
          absurd (omega arith)
    ] where
      in_first : (xs : List ListOperand) (i k : ℕ) (p : ListOperand) → slice_get xs i ≡ Some p → i < k → In p (take k xs)
      in_first [] i k p e l = absurd cc
      in_first (x ∷ xs) i zero p e l = absurd (omega arith)
      in_first (x ∷ xs) zero (suc k) p e l = inl (let same : x ≡ p = cc in same)
      in_first (x ∷ xs) (suc i) (suc k) p e l = inr (in_first xs i k p e (omega arith))

before_or_at : (xs : List ListOperand) (k : ℕ) (o p : ListOperand) → Rise xs → slice_get xs k ≡ Some o → In p (take k xs) → p.at ≤ o.at
before_or_at xs k o p rise e is =
    let i = index_of xs k p is in
    let lt = i.1 in
    let within = got_below xs k o e in
    let up = rise i.0 k o (omega arith) within in
    let a = get_or_from_slice_get xs k o o e in
    let b = get_or_from_slice_get xs i.0 p o i.2 in
    let high = ap (λ (w : ListOperand). w.at) a in
    let low = ap (λ (w : ListOperand). w.at) b in
    omega arith where
      index_of : (xs : List ListOperand) (k : ℕ) (p : ListOperand) → In p (take k xs) → (i : ℕ) × (i < k) × (slice_get xs i ≡ Some p)
      index_of [] zero p is = absurd is
      index_of [] (suc k) p is = absurd is
      index_of (x ∷ xs) zero p is = absurd is
      index_of (x ∷ xs) (suc k) p (inl e) = (0, omega arith, ap (λ (w : ListOperand). Some w) e)
      index_of (x ∷ xs) (suc k) p (inr later) = let r = index_of xs k p later in let lt = r.1 in (suc r.0, omega arith, r.2)

pub clash_found : (xs kept : List ListOperand) (last : Option ListOperand) (end k : ℕ) (o : ListOperand) → Rise xs → slice_get xs k ≡ Some o → repeats_last last o ≡ false → o.at < end
    → Passed (take k xs) kept last end → FindsApart xs kept (Some o.at)
clash_found xs kept None end k o rise e other lt h = absurd (let none = h.last_is in omega arith)
clash_found xs kept (Some p) end k o rise e other lt h =
    let is = h.from p h.last_is.0 in
    let end_is = h.last_is.1 in
    record {
      top = end;
      rows = h.rows;
      from = λ r there. in_take r xs k (h.from r there);
      all = λ q there before. h.all q (among_first xs k o q rise e there before);
      clash_is = record {
        first = p;
        second = o;
        is_first = in_take p xs k is;
        is_second = at_in xs k o e;
        at = refl;
        order = before_or_at xs k o p rise e is;
        reach = omega arith;
        differ = same_false p o other;
      };
    }

-- ---- the same, by the index of the loop

pub step_same : (xs kept : List ListOperand) (last : Option ListOperand) (end k : ℕ) (d : ListOperand) → k < length xs → repeats_last last (get_or xs k d) ≡ true → Passed (take k xs) kept last end
    → Passed (take (k + 1) xs) kept last end
step_same xs kept last end k d lt e h =
    subst (λ (w : List ListOperand). Passed w kept last end) (sym (take_here xs k (get_or xs k d) (slice_get-get_or xs k d lt))) (passed_same (take k xs) kept last end (get_or xs k d) e h)

pub step_one : (xs kept new : List ListOperand) (last : Option ListOperand) (end k : ℕ) (d : ListOperand) → k < length xs → new ≡ kept ++ get_or xs k d ∷ [] → end ≤ (get_or xs k d).at → AreWide xs
    → Passed (take k xs) kept last end → Passed (take (k + 1) xs) new (Some (get_or xs k d)) ((get_or xs k d).at + (get_or xs k d).width)
step_one xs kept new last end k d lt e le wide h =
    let o = get_or xs k d in
    subst (λ (w : List ListOperand). Passed w new (Some o) (o.at + o.width)) (sym (take_here xs k o (slice_get-get_or xs k d lt)))
    (passed_one (take k xs) kept new last end o e le (wide o (at_in xs k o (slice_get-get_or xs k d lt))) h)

pub step_clash : (xs kept : List ListOperand) (last : Option ListOperand) (end k : ℕ) (d : ListOperand) → k < length xs → Rise xs → repeats_last last (get_or xs k d) ≡ false → (get_or xs k d).at < end
    → Passed (take k xs) kept last end → FindsApart xs kept (Some (get_or xs k d).at)
step_clash xs kept last end k d lt rise other less h = clash_found xs kept last end k (get_or xs k d) rise (slice_get-get_or xs k d lt) other less h

-- ---- lists and slots, one after the other

tested_none : (xs kept : List ListOperand) (clash : Option ℕ) → HasClash xs clash → Tested xs kept clash [] clash
tested_none xs kept None h = record { none = λ t is. absurd is; under = λ n b. b; cause = tt }
tested_none xs kept (Some place) h = record { none = λ t is. absurd is; under = λ n b. b; cause = inl h }

cause_more : (xs kept : List ListOperand) (tests : List Test) (t : Test) (place : Option ℕ) → IsCause xs kept tests place → IsCause xs kept (tests ++ t ∷ []) place
cause_more xs kept tests t None c = tt
cause_more xs kept tests t (Some place) (inl clash) = inl clash
cause_more xs kept tests t (Some place) (inr h) = inr (h.0, in_left h.0 tests (t ∷ []) h.1, h.2)

cause_here : (xs kept : List ListOperand) (tests : List Test) (t : Test) (place : Option ℕ) → HasForeign kept t place → IsCause xs kept (tests ++ t ∷ []) place
cause_here xs kept tests t None h = tt
cause_here xs kept tests t (Some place) h = inr (t, in_right t tests (t ∷ []) (inl refl), h)

pub tested_more : (xs kept : List ListOperand) (clash : Option ℕ) (tests : List Test) (t : Test) (place other least : Option ℕ) → Tested xs kept clash tests place → FindsForeign kept t other
    → IsLesser place other least → Tested xs kept clash (tests ++ t ∷ []) least
tested_more xs kept clash tests t place other least h f l = record {
  none = λ s is r there before over. elim (in_cases s tests (t ∷ []) is) [
    | inl a ↦ h.none s a r there (l.first r.at before) over
    | inr b ↦ elim b [
      | inl e ↦ subst (λ (w : Test). owns_place w r.at ≡ true) e (f.none r there (l.second r.at before) (subst (λ (w : Test). Overlaps r w) (sym e) over))
      | inr never ↦ absurd never
    ]
  ];
  under = λ n before. h.under n (l.first n before);
  cause = elim l.one [
    | inl e ↦ subst (λ (w : Option ℕ). IsCause xs kept (tests ++ t ∷ []) w) (sym e) (cause_more xs kept tests t place h.cause)
    | inr e ↦ subst (λ (w : Option ℕ). IsCause xs kept (tests ++ t ∷ []) w) (sym e) (cause_here xs kept tests t other f.some)
  ];
}

-- tests that are made of items, so many of them
pub tested_begin : {X : Type 0} (make : X → Test) (xs kept : List ListOperand) (clash place : Option ℕ) (tests : List Test) (items : List X) → Tested xs kept clash tests place
    → Tested xs kept clash (tests ++ map make (take 0 items)) place
tested_begin make xs kept clash place tests items h = subst (λ (w : List Test). Tested xs kept clash w place) (sym (append-nil tests)) h

pub tested_start : {X : Type 0} (make : X → Test) (xs kept : List ListOperand) (clash : Option ℕ) (items : List X) → HasClash xs clash → Tested xs kept clash (map make (take 0 items)) clash
tested_start make xs kept clash items h = tested_none xs kept clash h

one_more : {X : Type 0} (make : X → Test) (tests : List Test) (items : List X) (k : ℕ) (x : X) → slice_get items k ≡ Some x
    → tests ++ map make (take (k + 1) items) ≡ (tests ++ map make (take k items)) ++ make x ∷ []
one_more make tests items k x e =
    ap (λ (w : List _). tests ++ map make w) (take_here items k x e)
    ∙ ap (λ (w : List Test). tests ++ w) (map-append make (take k items) (x ∷ []))
    ∙ sym (append_assoc tests (map make (take k items)) (make x ∷ []))

pub tested_next : {X : Type 0} (make : X → Test) (xs kept : List ListOperand) (clash : Option ℕ) (tests : List Test) (items : List X) (k : ℕ) (x : X) (place other least : Option ℕ)
    → slice_get items k ≡ Some x
    → Tested xs kept clash (tests ++ map make (take k items)) place → FindsForeign kept (make x) other → IsLesser place other least
    → Tested xs kept clash (tests ++ map make (take (k + 1) items)) least
tested_next make xs kept clash tests items k x place other least e h f l =
    subst (λ (w : List Test). Tested xs kept clash w least) (sym (one_more make tests items k x e)) (tested_more xs kept clash (tests ++ map make (take k items)) (make x) place other least h f l)

pub tested_end : {X : Type 0} (make : X → Test) (xs kept : List ListOperand) (clash place : Option ℕ) (tests : List Test) (items all : List X) (k : ℕ) → items ≡ all → length items ≤ k
    → Tested xs kept clash (tests ++ map make (take k items)) place → Tested xs kept clash (tests ++ map make all) place
tested_end make xs kept clash place tests items all k same le h =
    subst (λ (w : List _). Tested xs kept clash (tests ++ map make w) place) (take_all k items le ∙ same) h

-- where nothing was tested before
pub tested_first : {X : Type 0} (make : X → Test) (xs kept : List ListOperand) (clash : Option ℕ) (items : List X) (k : ℕ) (x : X) (place other least : Option ℕ) → slice_get items k ≡ Some x
    → Tested xs kept clash (map make (take k items)) place → FindsForeign kept (make x) other → IsLesser place other least → Tested xs kept clash (map make (take (k + 1) items)) least
tested_first make xs kept clash items k x place other least e h f l = tested_next make xs kept clash [] items k x place other least e h f l

pub tested_last : {X : Type 0} (make : X → Test) (xs kept : List ListOperand) (clash place : Option ℕ) (items all : List X) (k : ℕ) → items ≡ all → length items ≤ k
    → Tested xs kept clash (map make (take k items)) place → Tested xs kept clash (map make all) place
tested_last make xs kept clash place items all k same le h = tested_end make xs kept clash place [] items all k same le h

pub got_in : {X : Type 0} (items all : List X) (k : ℕ) (d : X) → items ≡ all → k < length items → In (get_or items k d) all
got_in {X} items all k d same lt = subst (λ (w : List X). In (get_or items k d) w) same (at_in items k (get_or items k d) (slice_get-get_or items k d lt))

pub rows_from_none : (rows : List ListOperand) (from to : ℕ) → Rows from rows to → Rows 0 rows to
rows_from_none rows from to h = rows_lower rows from 0 to (omega arith) h
