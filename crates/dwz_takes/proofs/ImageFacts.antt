-- The least top of each class, and what is given to tops.
use Rattle.std.proofs.Common.{◌≡◌, ◌⊎◌, ◌≢◌, ℕ, zero, suc, ◌+◌, ◌<◌, ◌≤◌, ◌==◌, true, false, List, [], ◌∷◌, ◌++◌, Option, Some, None, MatchOption, length, get_or, take, replicate, refl, sym, ap, subst, ◌∙◌, inl, inr, ⊎_elim, arith}
use Rattle.std.proofs.Math.ListN.{set}
use Rattle.std.proofs.lemmas.List.{append-nil, append_assoc, get_or-set_other, get_or-set_same}
use Rattle.std.proofs.lemmas.Bool.Decides.{eqb_tells}
use Rattle.std.specs.List.{flat_map}
use Rattle.dwz_model.specs.Lists.{In}
use Rattle.dwz_model.proofs.ListFacts.{in_cases, in_left, in_right}
use Rattle.dwz_groups.proofs.MarkLemmas.{inside_at}
use Rattle.dwz_takes.specs.declared.rows.Rows.{Rows}
use Rattle.dwz_takes.specs.Images.{AreApart, AreImages, AreImagesOf, AreLeast, AreNone, ArePut, IsImageOf, IsLeastIn, IsLesser, StandsFor, choice_at}
use Rattle.dwz_takes.specs.Takes.{AreTaken, class_of, list_at}
use Rattle.dwz_takes.proofs.MarkFacts.{in_more, more_in}
use Rattle.dwz_takes.proofs.MissFacts.{takes_fits}

in_one : (n x : ℕ) → In n (x ∷ []) → x ≡ n
in_one n x (inl e) = e
in_one n x (inr i) = absurd i

-- a number is another one, or isn't
pub same_or : (m n : ℕ) → (m ≡ n) ⊎ (m ≢ n)
same_or m n = ⊎_elim (λ (r : ((m == n) ≡ true) × (m ≡ n)). inl r.1) (λ (r : ((m == n) ≡ false) × (m ≢ n)). inr r.1) (eqb_tells m n)

-- ---- one top more

least_here : (classes seen : List ℕ) (x n : ℕ) (first : Option ℕ) → MatchOption first ((c : ℕ) → In c seen → get_or classes c 0 ≡ get_or classes x 0 → ⊥) (IsLeastIn classes seen (get_or classes x 0))
    → IsLesser first x n → IsLeastIn classes (seen ++ x ∷ []) (get_or classes x 0) n
least_here classes seen x n None lacks e = record {
  there = in_right n seen (x ∷ []) (inl (sym e));
  alike = ap (λ (m : ℕ). get_or classes m 0) e;
  least = λ c i s. ⊎_elim (λ (j : In c seen). absurd (lacks c j s)) (λ (j : In c (x ∷ [])). let o = in_one c x j in omega (arith, e, o)) (in_cases c seen (x ∷ []) i);
}
least_here classes seen x n (Some m) h l = record {
  there = ⊎_elim (λ (e : n ≡ m). in_left n seen (x ∷ []) (subst (λ (y : ℕ). In y seen) (sym e) h.there)) (λ (e : n ≡ x). in_right n seen (x ∷ []) (inl (sym e))) l.2;
  alike = ⊎_elim (λ (e : n ≡ m). ap (λ (y : ℕ). get_or classes y 0) e ∙ h.alike) (λ (e : n ≡ x). ap (λ (y : ℕ). get_or classes y 0) e) l.2;
  least = λ c i s. ⊎_elim (λ (j : In c seen). let o = h.least c j s in let k = l.0 in omega (arith, o, k)) (λ (j : In c (x ∷ [])). let o = in_one c x j in let k = l.1 in omega (arith, o, k)) (in_cases c seen (x ∷ []) i);
}

least_other : (classes seen : List ℕ) (x k : ℕ) (first : Option ℕ) → (get_or classes x 0 ≡ k → ⊥) → MatchOption first ((c : ℕ) → In c seen → get_or classes c 0 ≡ k → ⊥) (IsLeastIn classes seen k)
    → MatchOption first ((c : ℕ) → In c (seen ++ x ∷ []) → get_or classes c 0 ≡ k → ⊥) (IsLeastIn classes (seen ++ x ∷ []) k)
least_other classes seen x k None other lacks = λ c i s. ⊎_elim (λ (j : In c seen). lacks c j s) (λ (j : In c (x ∷ [])). other (ap (λ (y : ℕ). get_or classes y 0) (in_one c x j) ∙ s)) (in_cases c seen (x ∷ []) i)
least_other classes seen x k (Some m) other h = record {
  there = in_left m seen (x ∷ []) h.there;
  alike = h.alike;
  least = λ c i s. ⊎_elim (λ (j : In c seen). h.least c j s) (λ (j : In c (x ∷ [])). absurd (other (ap (λ (y : ℕ). get_or classes y 0) (in_one c x j) ∙ s))) (in_cases c seen (x ∷ []) i);
}

pub see_one : (classes seen : List ℕ) (firsts : List (Option ℕ)) (x n : ℕ) → get_or classes x 0 < length firsts → IsLesser (choice_at firsts (get_or classes x 0)) x n → AreLeast classes seen firsts
    → AreLeast classes (seen ++ x ∷ []) (set firsts (get_or classes x 0) (Some n))
see_one classes seen firsts x n low lesser h k = ⊎_elim
    (λ (e : k ≡ get_or classes x 0).
    subst (λ (m : ℕ). MatchOption (choice_at (set firsts (get_or classes x 0) (Some n)) m) ((c : ℕ) → In c (seen ++ x ∷ []) → get_or classes c 0 ≡ m → ⊥) (IsLeastIn classes (seen ++ x ∷ []) m)) (sym e)
    (subst (λ (o : Option ℕ). MatchOption o ((c : ℕ) → In c (seen ++ x ∷ []) → get_or classes c 0 ≡ get_or classes x 0 → ⊥) (IsLeastIn classes (seen ++ x ∷ []) (get_or classes x 0)))
    (sym (get_or-set_same firsts (get_or classes x 0) (Some n) None low)) (least_here classes seen x n (choice_at firsts (get_or classes x 0)) (h (get_or classes x 0)) lesser)))
    (λ (d : k ≢ get_or classes x 0).
    subst (λ (o : Option ℕ). MatchOption o ((c : ℕ) → In c (seen ++ x ∷ []) → get_or classes c 0 ≡ k → ⊥) (IsLeastIn classes (seen ++ x ∷ []) k)) (sym (get_or-set_other firsts (get_or classes x 0) k (Some n) None d))
    (least_other classes seen x k (choice_at firsts k) (λ e. d (sym e)) (h k)))
    (same_or k (get_or classes x 0))

-- ---- what is given to tops

pub put_none : (classes : List ℕ) (firsts old : List (Option ℕ)) → ArePut classes [] firsts old old
put_none classes firsts old = record { put = λ t i. absurd i; kept = λ t i. refl }

pub put_one : (classes tops : List ℕ) (i : ℕ) (firsts old new : List (Option ℕ)) → i < length tops → get_or tops i 0 < length new → ArePut classes (take i tops) firsts old new
    → ArePut classes (take (i + 1) tops) firsts old (set new (get_or tops i 0) (choice_at firsts (get_or classes (get_or tops i 0) 0)))
put_one classes tops i firsts old new l low h =
    let x = get_or tops i 0 in
    let v = choice_at firsts (get_or classes x 0) in record {
      put = λ t is. ⊎_elim
          (λ (e : t ≡ x). subst (λ (m : ℕ). choice_at (set new x v) m ≡ choice_at firsts (get_or classes m 0)) (sym e) (get_or-set_same new x v None low))
          (λ (d : t ≢ x). get_or-set_other new x t v None d ∙ h.put t (⊎_elim (λ j. j) (λ (e : x ≡ t). absurd (d (sym e))) (in_more tops i t l is)))
          (same_or t x);
      kept = λ t out. get_or-set_other new x t v None (λ e. out (more_in tops i t l (inr (sym e)))) ∙ h.kept t (λ j. out (more_in tops i t l (inl j)));
    }

-- ---- what is forgotten

-- what is left is what was there, and of none of these classes
abbrev pub AreLeftOf : List ℕ → List ℕ → List (Option ℕ) → List (Option ℕ) → Type 0
AreLeftOf classes tops old new = (k : ℕ) → (choice_at new k ≡ None) ⊎ ((choice_at new k ≡ choice_at old k) × ((t : ℕ) → In t tops → get_or classes t 0 ≡ k → ⊥))

pub left_none : (classes : List ℕ) (old : List (Option ℕ)) → AreLeftOf classes [] old old
left_none classes old k = inr (refl, λ t i e. i)

pub forget_one : (classes tops : List ℕ) (i : ℕ) (old new : List (Option ℕ)) → i < length tops → get_or classes (get_or tops i 0) 0 < length new → AreLeftOf classes (take i tops) old new
    → AreLeftOf classes (take (i + 1) tops) old (set new (get_or classes (get_or tops i 0) 0) None)
forget_one classes tops i old new l low h k = let x = get_or classes (get_or tops i 0) 0 in ⊎_elim
    (λ (e : k ≡ x). inl (subst (λ (m : ℕ). choice_at (set new x None) m ≡ None) (sym e) (get_or-set_same new x None None low)))
    (λ (d : k ≢ x). let same = get_or-set_other new x k None None d in ⊎_elim
    (λ (e : choice_at new k ≡ None). inl (same ∙ e))
    (λ (r : (choice_at new k ≡ choice_at old k) × ((t : ℕ) → In t (take i tops) → get_or classes t 0 ≡ k → ⊥)).
    inr (same ∙ r.0, λ t is s. ⊎_elim (λ j. r.1 t j s) (λ (e : get_or tops i 0 ≡ t). d (sym s ∙ ap (λ (m : ℕ). get_or classes m 0) (sym e))) (in_more tops i t l is)))
    (h k))
    (same_or k x)

pub forget_all : (classes tops : List ℕ) (old new : List (Option ℕ)) → ((k : ℕ) → ((t : ℕ) → In t tops → get_or classes t 0 ≡ k → ⊥) → choice_at old k ≡ None) → AreLeftOf classes tops old new → AreNone new
forget_all classes tops old new only h k = ⊎_elim (λ e. e) (λ (r : (choice_at new k ≡ choice_at old k) × ((t : ℕ) → In t tops → get_or classes t 0 ≡ k → ⊥)). r.0 ∙ only k r.1) (h k)

-- ---- the tops of partial units

pub in_parts : (lists : List (List ℕ)) (parts : List ℕ) (c : ℕ) → In c (flat_map (list_at lists) parts) → (p : ℕ) × In p parts × In c (list_at lists p)
in_parts lists [] c i = absurd i
in_parts lists (p ∷ parts) c i = ⊎_elim (λ j. (p, inl refl, j)) (λ j. let r = in_parts lists parts c j in (r.0, inr r.1, r.2)) (in_cases c (list_at lists p) (flat_map (list_at lists) parts) i)

pub parts_in : (lists : List (List ℕ)) (parts : List ℕ) (p c : ℕ) → In p parts → In c (list_at lists p) → In c (flat_map (list_at lists) parts)
parts_in lists [] p c i j = absurd i
parts_in lists (q ∷ parts) p c (inl e) j = in_left c (list_at lists q) (flat_map (list_at lists) parts) (subst (λ (m : ℕ). In c (list_at lists m)) (sym e) j)
parts_in lists (q ∷ parts) p c (inr i) j = in_right c (list_at lists q) (flat_map (list_at lists) parts) (parts_in lists parts p c i j)

pub parts_next : (lists : List (List ℕ)) (parts : List ℕ) (i : ℕ) → i < length parts → flat_map (list_at lists) (take i parts) ++ list_at lists (get_or parts i 0) ≡ flat_map (list_at lists) (take (i + 1) parts)
parts_next lists [] i l = absurd (omega arith)
parts_next lists (p ∷ parts) zero l = sym (append-nil (list_at lists p))
parts_next lists (p ∷ parts) (suc i) l = append_assoc (list_at lists p) (flat_map (list_at lists) (take i parts)) (list_at lists (get_or parts i 0)) ∙ ap (λ (ts : List ℕ). list_at lists p ++ ts) (parts_next lists parts i (omega arith))
    ∙ (let e : suc (i + 1) ≡ suc i + 1 = omega arith in ap (λ (n : ℕ). flat_map (list_at lists) (take n (p ∷ parts))) e)

-- the least of those that a unit takes are the images
pub images_by : (rows : Rows) (u k : ℕ) (parts : List ℕ) (first : Option ℕ) → AreTaken rows u parts
    → MatchOption first ((c : ℕ) → In c (flat_map (list_at rows.part_tops) parts) → class_of rows c ≡ k → ⊥) (IsLeastIn rows.classes (flat_map (list_at rows.part_tops) parts) k)
    → MatchOption first ((c : ℕ) → StandsFor rows u k c → ⊥) (IsImageOf rows u k)
images_by rows u k parts None taken lacks = λ c s. lacks c (parts_in rows.part_tops parts s.part c ((taken.each s.part).1 s.takes) s.there) s.alike
images_by rows u k parts (Some n) taken h =
    let r = in_parts rows.part_tops parts n h.there in record {
      stands = record { part = r.0; takes = (taken.each r.0).0 r.1; there = r.2; alike = h.alike };
      least = λ c s. h.least c (parts_in rows.part_tops parts s.part c ((taken.each s.part).1 s.takes) s.there) s.alike;
    }

-- no class is seen but those of the unit's tops
pub seen_none : (rows : Rows) (u k : ℕ) (parts : List ℕ) (first : Option ℕ) → AreTaken rows u parts
    → MatchOption first ((c : ℕ) → In c (flat_map (list_at rows.part_tops) parts) → class_of rows c ≡ k → ⊥) (IsLeastIn rows.classes (flat_map (list_at rows.part_tops) parts) k)
    → ((t : ℕ) → In t (list_at rows.unit_tops u) → class_of rows t ≡ k → ⊥) → first ≡ None
seen_none rows u k parts None taken h out = refl
seen_none rows u k parts (Some n) taken h out =
    let r = in_parts rows.part_tops parts n h.there in
    let has = (takes_fits rows u r.0 ((taken.each r.0).0 r.1)).tops n r.2 in
    absurd (out has.0 has.1 (has.2 ∙ h.alike))

-- ---- unit after unit

pub record AreImagesTo (rows : Rows) (unit : ℕ) (images firsts : List (Option ℕ)) : Type 0 where
  pub len : length images ≡ length rows.classes
  pub firsts_len : length firsts ≡ length rows.classes
  pub firsts_none : AreNone firsts
  pub each : (u : ℕ) → u < unit → AreImagesOf rows u images
  pub none : (t : ℕ) → ((u : ℕ) → u < unit → In t (list_at rows.unit_tops u) → ⊥) → choice_at images t ≡ None

pub none_new : (n : ℕ) → AreNone (replicate n None)
none_new zero k = refl
none_new (suc n) zero = refl
none_new (suc n) (suc k) = none_new n k

pub images_step : (rows : Rows) (unit : ℕ) (images firsts images' firsts' : List (Option ℕ)) → AreApart rows → AreImagesTo rows unit images firsts → length images' ≡ length images → length firsts' ≡ length firsts
    → AreNone firsts' → AreImagesOf rows unit images' → ((t : ℕ) → (In t (list_at rows.unit_tops unit) → ⊥) → choice_at images' t ≡ choice_at images t) → AreImagesTo rows (unit + 1) images' firsts'
images_step rows unit images firsts images' firsts' apart h il fl none own kept = record {
  len = il ∙ h.len;
  firsts_len = fl ∙ h.firsts_len;
  firsts_none = none;
  each = λ u l t i. ⊎_elim
      (λ (low : u < unit).
      let out : In t (list_at rows.unit_tops unit) → ⊥ = λ j. let e = apart u unit t i j in omega arith in
      subst (λ (o : Option ℕ). MatchOption o ((c : ℕ) → StandsFor rows u (class_of rows t) c → ⊥) (IsImageOf rows u (class_of rows t))) (sym (kept t out)) (h.each u low t i))
      (λ (e : unit ≡ u). subst (λ (m : ℕ). MatchOption (choice_at images' t) ((c : ℕ) → StandsFor rows m (class_of rows t) c → ⊥) (IsImageOf rows m (class_of rows t))) e
      (own t (subst (λ (m : ℕ). In t (list_at rows.unit_tops m)) (sym e) i)))
      (let P : Type 0 = (u < unit) ⊎ (unit ≡ u) in let r : P = grind arith in r);
  none = λ t out. kept t (λ i. out unit (omega arith) i) ∙ h.none t (λ u l i. out u (omega arith) i);
}

pub images_all : (rows : Rows) (unit : ℕ) (images firsts : List (Option ℕ)) → length rows.unit_tops ≤ unit → AreImagesTo rows unit images firsts → AreImages rows images
images_all rows unit images firsts l h = record {
  len = h.len;
  each = λ u t i. h.each u (let low = inside_at rows.unit_tops u t i in omega arith) t i;
  none = λ t out. h.none t (λ u low i. out u i);
}
