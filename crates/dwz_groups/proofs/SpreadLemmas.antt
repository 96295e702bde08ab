-- Marks that spread.
use Rattle.std.proofs.Common.{◌≡◌, ◌⊎◌, ℕ, zero, suc, ◌+◌, ◌<◌, ◌≤◌, Bool, true, false, List, [], ◌∷◌, ◌++◌, length, get_or, take, refl, sym, ap, subst, ◌∙◌, inl, inr, ⊎_elim, arith, length-append}
use Rattle.std.proofs.Math.ListN.{set, length-set}
use Rattle.std.proofs.Math.Seq.{take-suc}
use Rattle.std.proofs.lemmas.Bool.{false≢true}
use Rattle.dwz_model.specs.Lists.{In}
use Rattle.dwz_groups.specs.Spreading.{IsMarked, IsSpread, Leads, Marks, sources_of, unmarked}

-- ---- members

pub in_left : (n : ℕ) (xs ys : List ℕ) → In n xs → In n (xs ++ ys)
in_left n [] ys i = absurd i
in_left n (x ∷ xs) ys (inl e) = inl e
in_left n (x ∷ xs) ys (inr i) = inr (in_left n xs ys i)

pub in_right : (n : ℕ) (xs ys : List ℕ) → In n ys → In n (xs ++ ys)
in_right n [] ys i = i
in_right n (x ∷ xs) ys i = inr (in_right n xs ys i)

pub in_cases : (n : ℕ) (xs ys : List ℕ) → In n (xs ++ ys) → In n xs ⊎ In n ys
in_cases n [] ys i = inr i
in_cases n (x ∷ xs) ys (inl e) = inl (inl e)
in_cases n (x ∷ xs) ys (inr i) = ⊎_elim (λ j. inl (inr j)) (λ j. inr j) (in_cases n xs ys i)

in_one : (n x : ℕ) → In n (x ∷ []) → x ≡ n
in_one n x (inl e) = e
in_one n x (inr i) = absurd i

-- one more of the list
in_more : (list : List ℕ) (i n : ℕ) → i < length list → In n (take (suc i) list) → In n (take i list) ⊎ (get_or list i 0 ≡ n)
in_more list i n l h = ⊎_elim (λ j. inl j) (λ j. inr (in_one n (get_or list i 0) j)) (in_cases n (take i list) (get_or list i 0 ∷ []) (subst (λ (xs : List ℕ). In n xs) (take-suc list i 0 l) h))

more_in : (list : List ℕ) (i n : ℕ) → i < length list → In n (take i list) ⊎ (get_or list i 0 ≡ n) → In n (take (suc i) list)
more_in list i n l h = subst (λ (xs : List ℕ). In n xs) (sym (take-suc list i 0 l)) (⊎_elim (λ j. in_left n (take i list) _ j) (λ e. in_right n (take i list) (get_or list i 0 ∷ []) (inl e)) h)

-- ---- one mark more

marked_inside : (marks : List Bool) (n : ℕ) → IsMarked marks n → n < length marks
marked_inside [] n e = absurd (false≢true e)
marked_inside (b ∷ marks) zero e = omega arith
marked_inside (b ∷ marks) (suc n) e = let l = marked_inside marks n e in omega arith

unmarked_set : (marks : List Bool) (x : ℕ) → x < length marks → get_or marks x false ≡ false → suc (unmarked (set marks x true)) ≡ unmarked marks
unmarked_set [] x l e = absurd (omega arith)
unmarked_set (true ∷ marks) zero l e = absurd (false≢true (sym e))
unmarked_set (false ∷ marks) zero l e = omega arith
unmarked_set (true ∷ marks) (suc x) l e = unmarked_set marks x (omega arith) e
unmarked_set (false ∷ marks) (suc x) l e = let r = unmarked_set marks x (omega arith) e in omega arith

pub set_cases : (marks : List Bool) (x n : ℕ) → x < length marks → IsMarked (set marks x true) n → IsMarked marks n ⊎ (x ≡ n)
set_cases [] x n l h = absurd (omega arith)
set_cases (b ∷ marks) zero zero l h = inr refl
set_cases (b ∷ marks) zero (suc n) l h = inl h
set_cases (b ∷ marks) (suc x) zero l h = inl h
set_cases (b ∷ marks) (suc x) (suc n) l h = ⊎_elim (λ j. inl j) (λ e. inr (ap suc e)) (set_cases marks x n (omega arith) h)

pub set_kept : (marks : List Bool) (x n : ℕ) → IsMarked marks n → IsMarked (set marks x true) n
set_kept [] x n h = absurd (false≢true h)
set_kept (b ∷ marks) zero zero h = refl
set_kept (b ∷ marks) zero (suc n) h = h
set_kept (b ∷ marks) (suc x) zero h = h
set_kept (b ∷ marks) (suc x) (suc n) h = set_kept marks x n h

pub set_here : (marks : List Bool) (x : ℕ) → x < length marks → IsMarked (set marks x true) x
set_here [] x l = absurd (omega arith)
set_here (b ∷ marks) zero l = refl
set_here (b ∷ marks) (suc x) l = set_here marks x (omega arith)

pub marks_none : (list : List ℕ) (old : List Bool) (work : List ℕ) → Marks (take 0 list) old work old work
marks_none list old work = record { len = refl; kept = λ n h. h; listed = λ n i. absurd i; only = λ n h. inl h; queued = λ n i. i; from = λ n i. inl i; count = refl }

pub marks_skip : (list : List ℕ) (i : ℕ) (old : List Bool) (work : List ℕ) (new : List Bool) (more : List ℕ) → i < length list → IsMarked new (get_or list i 0) → Marks (take i list) old work new more
    → Marks (take (suc i) list) old work new more
marks_skip list i old work new more l here m = record {
  len = m.len;
  kept = m.kept;
  listed = λ n h. ⊎_elim (m.listed n) (λ (e : get_or list i 0 ≡ n). subst (λ (k : ℕ). IsMarked new k) e here) (in_more list i n l h);
  only = λ n h. ⊎_elim (λ o. inl o) (λ (r : In n (take i list) × In n more). inr (more_in list i n l (inl r.0), r.1)) (m.only n h);
  queued = m.queued;
  from = λ n h. ⊎_elim (λ o. inl o) (λ r. inr (more_in list i n l (inl r))) (m.from n h);
  count = m.count;
}

pub marks_add : (list : List ℕ) (i : ℕ) (old : List Bool) (work : List ℕ) (new : List Bool) (more : List ℕ) → i < length list → get_or list i 0 < length old
    → get_or new (get_or list i 0) false ≡ false
    → Marks (take i list) old work new more → Marks (take (suc i) list) old work (set new (get_or list i 0) true) (more ++ get_or list i 0 ∷ [])
marks_add list i old work new more l low free m =
    let x = get_or list i 0 in
    let len = m.len in
    let low' : x < length new = omega arith in record {
      len = length-set new x true ∙ m.len;
      kept = λ n h. set_kept new x n (m.kept n h);
      listed = λ n h. ⊎_elim (λ j. set_kept new x n (m.listed n j)) (λ (e : x ≡ n). subst (λ (k : ℕ). IsMarked (set new x true) k) e (set_here new x low')) (in_more list i n l h);
      only = λ n h. ⊎_elim
          (λ (j : IsMarked new n). ⊎_elim (λ o. inl o) (λ (r : In n (take i list) × In n more). inr (more_in list i n l (inl r.0), in_left n more (x ∷ []) r.1)) (m.only n j))
          (λ (e : x ≡ n). inr (more_in list i n l (inr e), in_right n more (x ∷ []) (inl e)))
          (set_cases new x n low' h);
      queued = λ n h. in_left n more (x ∷ []) (m.queued n h);
      from = λ n h. ⊎_elim
          (λ (j : In n more). ⊎_elim (λ o. inl o) (λ r. inr (more_in list i n l (inl r))) (m.from n j))
          (λ j. inr (more_in list i n l (inr (in_one n x j))))
          (in_cases n more (x ∷ []) h);
      count = (let c = m.count in let s = unmarked_set new x low' free in let a = length-append more (x ∷ []) in omega arith);
    }

-- ---- until nothing is left to do

pub record Spreading (sources : List (List ℕ)) (old marks : List Bool) (work : List ℕ) : Type 0 where
  pub len : length marks ≡ length old
  pub sound : (n : ℕ) → IsMarked marks n → (k : ℕ) × Leads sources old k n
  pub seeded : (n : ℕ) → IsMarked old n → IsMarked marks n
  pub marked : (n : ℕ) → In n work → IsMarked marks n
  pub closed : (m n : ℕ) → IsMarked marks m → In n (sources_of sources m) → IsMarked marks n ⊎ In m work

pub spreading_init : (sources : List (List ℕ)) (old : List Bool) (work : List ℕ) → ((n : ℕ) → (In n work → IsMarked old n) × (IsMarked old n → In n work)) → Spreading sources old old work
spreading_init sources old work w = record {
  len = refl;
  sound = λ n h. (0, h);
  seeded = λ n h. h;
  marked = λ n i. (w n).0 i;
  closed = λ m n h i. inr ((w m).1 h);
}

pub spreading_step : (sources : List (List ℕ)) (old marks : List Bool) (work left : List ℕ) (m : ℕ) (new : List Bool) (more : List ℕ) → work ≡ left ++ m ∷ [] → Spreading sources old marks work
    → Marks (sources_of sources m) marks left new more → Spreading sources old new more
spreading_step sources old marks work left m new more e s t =
    let here : IsMarked marks m = s.marked m (subst (λ (xs : List ℕ). In m xs) (sym e) (in_right m left (m ∷ []) (inl refl))) in
    let leads = s.sound m here in record {
      len = t.len ∙ s.len;
      sound = λ n h. ⊎_elim (s.sound n) (λ (r : In n (sources_of sources m) × In n more). (suc leads.0, inr (m, r.0, leads.1))) (t.only n h);
      seeded = λ n h. t.kept n (s.seeded n h);
      marked = λ n i. ⊎_elim (λ j. t.kept n (s.marked n (subst (λ (xs : List ℕ). In n xs) (sym e) (in_left n left (m ∷ []) j)))) (t.listed n) (t.from n i);
      closed = λ p n h i. ⊎_elim
          (λ (o : IsMarked marks p). ⊎_elim
          (λ (j : IsMarked marks n). inl (t.kept n j))
          (λ (j : In p work). ⊎_elim
          (λ (k : In p left). inr (t.queued p k))
          (λ (k : In p (m ∷ [])). inl (t.listed n (subst (λ (q : ℕ). In n (sources_of sources q)) (sym (in_one p m k)) i)))
          (in_cases p left (m ∷ []) (subst (λ (xs : List ℕ). In p xs) e j)))
          (s.closed p n o i))
          (λ (r : In p (sources_of sources m) × In p more). inr r.1)
          (t.only p h);
    }

leads_marked : (sources : List (List ℕ)) (old marks : List Bool) → Spreading sources old marks [] → (k n : ℕ) → Leads sources old k n → IsMarked marks n
leads_marked sources old marks s zero n h = s.seeded n h
leads_marked sources old marks s (suc k) n (inl h) = leads_marked sources old marks s k n h
leads_marked sources old marks s (suc k) n (inr h) = ⊎_elim (λ j. j) (λ j. absurd j) (s.closed h.0 n (leads_marked sources old marks s k h.0 h.2) h.1)

pub spreading_done : (sources : List (List ℕ)) (old marks : List Bool) → Spreading sources old marks [] → IsSpread sources old marks
spreading_done sources old marks s = record { len = s.len; each = λ n. (s.sound n, λ h. leads_marked sources old marks s h.0 n h.1) }

-- what is marked, as far as it was looked at
pub found_more : (marks : List Bool) (i : ℕ) (work : List ℕ) → i < length marks → IsMarked marks i → ((n : ℕ) → (In n work → IsMarked marks n × (n < i)) × (IsMarked marks n × (n < i) → In n work))
    → (n : ℕ) → (In n (work ++ i ∷ []) → IsMarked marks n × (n < i + 1)) × (IsMarked marks n × (n < i + 1) → In n (work ++ i ∷ []))
found_more marks i work l here h n = (
  λ j. ⊎_elim
      (λ (k : In n work). let r = (h n).0 k in let low = r.1 in (r.0, omega arith))
      (λ (k : In n (i ∷ [])). let e = in_one n i k in (subst (λ (m : ℕ). IsMarked marks m) e here, omega arith))
      (in_cases n work (i ∷ []) j),
  λ r. ⊎_elim
      (λ (low : n < i). in_left n work (i ∷ []) ((h n).1 (r.0, low)))
      (λ (e : i ≡ n). in_right n work (i ∷ []) (inl e))
      (let low = r.1 in grind arith),
)

pub found_skip : (marks : List Bool) (i : ℕ) (work : List ℕ) → get_or marks i false ≡ false → ((n : ℕ) → (In n work → IsMarked marks n × (n < i)) × (IsMarked marks n × (n < i) → In n work)) → (n : ℕ)
    → (In n work → IsMarked marks n × (n < i + 1)) × (IsMarked marks n × (n < i + 1) → In n work)
found_skip marks i work free h n = (
  λ j. let r = (h n).0 j in let low = r.1 in (r.0, omega arith),
  λ r. ⊎_elim
      (λ (low : n < i). (h n).1 (r.0, low))
      (λ (e : i ≡ n). absurd (false≢true (sym free ∙ ap (λ (m : ℕ). get_or marks m false) e ∙ r.0)))
      (let low = r.1 in grind arith),
)

pub found_all : (marks : List Bool) (work : List ℕ) (i : ℕ) → length marks ≤ i → ((n : ℕ) → (In n work → IsMarked marks n × (n < i)) × (IsMarked marks n × (n < i) → In n work)) → (n : ℕ)
    → (In n work → IsMarked marks n) × (IsMarked marks n → In n work)
found_all marks work i l h n = (λ j. ((h n).0 j).0, λ j. (h n).1 (j, let low = marked_inside marks n j in omega arith))

pub work_inside : (sources : List (List ℕ)) (old marks : List Bool) (work left : List ℕ) (m : ℕ) → work ≡ left ++ m ∷ [] → Spreading sources old marks work → m < length old
work_inside sources old marks work left m e s =
    let here : IsMarked marks m = s.marked m (subst (λ (xs : List ℕ). In m xs) (sym e) (in_right m left (m ∷ []) (inl refl))) in
    let low = marked_inside marks m here in
    let len = s.len in
    omega arith
