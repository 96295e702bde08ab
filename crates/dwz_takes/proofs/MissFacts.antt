-- What a unit misses.
use Rattle.std.proofs.Common.{◌≡◌, ◌⊎◌, ℕ, zero, suc, ◌+◌, ◌<◌, Bool, true, false, List, [], ◌∷◌, ◌++◌, length, get_or, take, refl, sym, ap, subst, ◌∙◌, inl, inr, ⊎_elim, arith, length-append}
use Rattle.std.proofs.Math.ListN.{set, length-set}
use Rattle.std.proofs.lemmas.Bool.{false≢true}
use Rattle.dwz_model.specs.Lists.{In}
use Rattle.dwz_model.proofs.ListFacts.{in_at, in_cases, in_left, in_right}
use Rattle.dwz_groups.specs.Spreading.{IsMarked}
use Rattle.dwz_groups.proofs.MarkLemmas.{inside_at}
use Rattle.dwz_takes.specs.declared.rows.Rows.{Rows}
use Rattle.dwz_takes.specs.Steps.{AreFits, AreTakenMarks, AreTurned, Drops, IsDropping, marked}
use Rattle.dwz_takes.specs.Takes.{FitsAlong, FitsIn, TakesPart, list_at}
use Rattle.dwz_takes.proofs.MarkFacts.{in_more, more_in, unset_from, unset_kept}

-- ---- chains

pub takes_fits : (rows : Rows) (u p : ℕ) → TakesPart rows u p → FitsIn rows u p
unfolding FitsAlong
takes_fits rows u p h = h 0

-- what is taken refers to what is taken
pub takes_next : (rows : Rows) (u p q : ℕ) → TakesPart rows u p → In q (list_at rows.part_targets p) → TakesPart rows u q
unfolding FitsAlong
takes_next rows u p q h i k = (h (suc k)).1 q i

-- what fits and refers to just what is kept up is taken
pub kept_up : (rows : Rows) (u : ℕ) (P : ℕ → Type 0) → ((p : ℕ) → P p → FitsIn rows u p) → ((p q : ℕ) → P p → In q (list_at rows.part_targets p) → P q) → (p : ℕ) → P p → TakesPart rows u p
unfolding FitsAlong
kept_up rows u P fits refers p h zero = fits p h
kept_up rows u P fits refers p h (suc k) = (kept_up rows u P fits refers p h k, λ q i. kept_up rows u P fits refers q (refers p q h i) k)

-- ---- marks taken off

pub marked_inside : (flags : List Bool) (n : ℕ) → IsMarked flags n → n < length flags
marked_inside [] n e = absurd (false≢true e)
marked_inside (b ∷ flags) zero e = omega arith
marked_inside (b ∷ flags) (suc n) e = let l = marked_inside flags n e in omega arith

marked_unset : (flags : List Bool) (x : ℕ) → IsMarked flags x → suc (marked (set flags x false)) ≡ marked flags
unfolding marked
marked_unset [] x e = absurd (false≢true e)
marked_unset (true ∷ flags) zero e = refl
marked_unset (false ∷ flags) zero e = absurd (false≢true e)
marked_unset (true ∷ flags) (suc x) e = ap suc (marked_unset flags x e)
marked_unset (false ∷ flags) (suc x) e = marked_unset flags x e

in_one : (n x : ℕ) → In n (x ∷ []) → x ≡ n
in_one n x (inl e) = e
in_one n x (inr i) = absurd i

pub drops_none : (old : List Bool) (work : List ℕ) → Drops [] old work old work
drops_none old work = record { len = refl; only = λ n h. (h, λ i. i); kept = λ n h. inl h; queued = λ n i. i; from = λ n i. inl i; count = refl }

pub drops_skip : (list : List ℕ) (i : ℕ) (old : List Bool) (work : List ℕ) (new : List Bool) (more : List ℕ) → i < length list → get_or new (get_or list i 0) false ≡ false → Drops (take i list) old work new more
    → Drops (take (i + 1) list) old work new more
drops_skip list i old work new more l free d = record {
  len = d.len;
  only = λ n h. let r = d.only n h in (r.0, λ is. ⊎_elim r.1 (λ (e : get_or list i 0 ≡ n). false≢true (sym free ∙ subst (λ (m : ℕ). IsMarked new m) (sym e) h)) (in_more list i n l is));
  kept = λ n h. ⊎_elim (λ o. inl o) (λ (r : In n (take i list) × In n more). inr (more_in list i n l (inl r.0), r.1)) (d.kept n h);
  queued = d.queued;
  from = λ n h. ⊎_elim (λ o. inl o) (λ j. inr (more_in list i n l (inl j))) (d.from n h);
  count = d.count;
}

pub drops_one : (list : List ℕ) (i : ℕ) (old : List Bool) (work : List ℕ) (new : List Bool) (more : List ℕ) → i < length list → IsMarked new (get_or list i 0) → Drops (take i list) old work new more
    → Drops (take (i + 1) list) old work (set new (get_or list i 0) false) (more ++ get_or list i 0 ∷ [])
drops_one list i old work new more l here d = let x = get_or list i 0 in record {
  len = length-set new x false ∙ d.len;
  only = λ n h.
      let r = unset_from new x n (marked_inside new x here) h in
      let s = d.only n r.0 in
      (s.0, λ is. ⊎_elim s.1 r.1 (in_more list i n l is));
  kept = λ n h. ⊎_elim
      (λ (j : IsMarked new n). ⊎_elim (λ o. inl o) (λ (e : x ≡ n). inr (more_in list i n l (inr e), in_right n more (x ∷ []) (inl e))) (unset_kept new x n j))
      (λ (r : In n (take i list) × In n more). inr (more_in list i n l (inl r.0), in_left n more (x ∷ []) r.1))
      (d.kept n h);
  queued = λ n h. in_left n more (x ∷ []) (d.queued n h);
  from = λ n h. ⊎_elim
      (λ (j : In n more). ⊎_elim (λ o. inl o) (λ r. inr (more_in list i n l (inl r))) (d.from n j))
      (λ (j : In n (x ∷ [])). inr (more_in list i n l (inr (in_one n x j))))
      (in_cases n more (x ∷ []) h);
  count = (let c = d.count in let s = marked_unset new x here in let a = length-append more (x ∷ []) in omega arith);
}

-- ---- at first: each of the list so far that is still marked refers to what is marked, or left to do

pub record IsDroppingOf (rows : Rows) (u : ℕ) (seen : List ℕ) (flags : List Bool) (work : List ℕ) : Type 0 where
  pub fits : (p : ℕ) → IsMarked flags p → FitsIn rows u p
  pub kept : (p : ℕ) → TakesPart rows u p → IsMarked flags p
  pub missed : (p : ℕ) → In p work → TakesPart rows u p → ⊥
  pub closed : (p q : ℕ) → In p seen → IsMarked flags p → In q (list_at rows.part_targets p) → IsMarked flags q ⊎ In q work

pub record AreDropped (rows : Rows) (fits seen : List ℕ) (old new : List Bool) (work : List ℕ) : Type 0 where
  pub len : length new ≡ length old
  pub only : (p : ℕ) → IsMarked new p → IsMarked old p
  pub listed : (p : ℕ) → In p work → In p fits
  pub drops : (u : ℕ) → AreFits rows u fits old → IsDroppingOf rows u seen new work

pub dropped_init : (rows : Rows) (fits : List ℕ) (flags : List Bool) → AreDropped rows fits [] flags flags []
dropped_init rows fits flags = record {
  len = refl;
  only = λ p h. h;
  listed = λ p i. absurd i;
  drops = λ u f. record {
    fits = λ p h. (f.each p).0 ((f.marked p).0 h);
    kept = λ p t. (f.marked p).1 ((f.each p).1 (takes_fits rows u p t));
    missed = λ p i t. i;
    closed = λ p q i h r. absurd i;
  };
}

pub dropped_skip : (rows : Rows) (fits : List ℕ) (i : ℕ) (old new : List Bool) (work : List ℕ) → i < length fits
    → ((q : ℕ) → In q (list_at rows.part_targets (get_or fits i 0)) → IsMarked new q) → AreDropped rows fits (take i fits) old new work → AreDropped rows fits (take (i + 1) fits) old new work
dropped_skip rows fits i old new work l all d = record {
  len = d.len;
  only = d.only;
  listed = d.listed;
  drops = λ u f. let s = d.drops u f in record {
    fits = s.fits;
    kept = s.kept;
    missed = s.missed;
    closed = λ p q is h r. ⊎_elim
        (λ (j : In p (take i fits)). s.closed p q j h r)
        (λ (e : get_or fits i 0 ≡ p). inl (all q (subst (λ (m : ℕ). In q (list_at rows.part_targets m)) (sym e) r)))
        (in_more fits i p l is);
  };
}

pub dropped_one : (rows : Rows) (fits : List ℕ) (i : ℕ) (old new : List Bool) (work : List ℕ) → i < length fits → get_or fits i 0 < length new
    → (((q : ℕ) → In q (list_at rows.part_targets (get_or fits i 0)) → IsMarked new q) → ⊥) → AreDropped rows fits (take i fits) old new work
    → AreDropped rows fits (take (i + 1) fits) old (set new (get_or fits i 0) false) (work ++ get_or fits i 0 ∷ [])
dropped_one rows fits i old new work l low lacks d = let x = get_or fits i 0 in record {
  len = length-set new x false ∙ d.len;
  only = λ p h. d.only p (unset_from new x p low h).0;
  listed = λ p is. ⊎_elim (λ j. d.listed p j) (λ (j : In p (x ∷ [])). subst (λ (m : ℕ). In m fits) (in_one p x j) (in_at fits i l)) (in_cases p work (x ∷ []) is);
  drops = λ u f.
      let s = d.drops u f in
      let misses : TakesPart rows u x → ⊥ = λ t. lacks (λ q r. s.kept q (takes_next rows u x q t r)) in record {
        fits = λ p h. s.fits p (unset_from new x p low h).0;
        kept = λ p t. ⊎_elim (λ j. j) (λ (e : x ≡ p). absurd (misses (λ k. subst (λ (m : ℕ). FitsAlong rows k u m) (sym e) (t k)))) (unset_kept new x p (s.kept p t));
        missed = λ p is t. ⊎_elim
            (λ (j : In p work). s.missed p j t)
            (λ (j : In p (x ∷ [])). misses (λ k. subst (λ (m : ℕ). FitsAlong rows k u m) (sym (in_one p x j)) (t k)))
            (in_cases p work (x ∷ []) is);
        closed = λ p q is h r.
            let g = unset_from new x p low h in ⊎_elim
            (λ (j : In p (take i fits)). ⊎_elim
            (λ (m : IsMarked new q). ⊎_elim (λ o. inl o) (λ (e : x ≡ q). inr (in_right q work (x ∷ []) (inl e))) (unset_kept new x q m))
            (λ m. inr (in_left q work (x ∷ []) m))
            (s.closed p q j g.0 r))
            (λ (e : x ≡ p). absurd (g.1 e))
            (in_more fits i p l is);
      };
}

pub dropped_all : (rows : Rows) (u : ℕ) (fits : List ℕ) (old new : List Bool) (work : List ℕ) → AreDropped rows fits fits old new work → AreFits rows u fits old → IsDropping rows u new work
dropped_all rows u fits old new work d f = let s = d.drops u f in record {
  fits = s.fits;
  kept = s.kept;
  missed = s.missed;
  closed = λ p q h r. s.closed p q ((f.each p).1 (s.fits p h)) h r;
}

-- ---- then until nothing is left to do

pub record IsMissing (rows : Rows) (fits : List ℕ) (old new : List Bool) (work : List ℕ) : Type 0 where
  pub len : length new ≡ length old
  pub only : (p : ℕ) → IsMarked new p → IsMarked old p
  pub low : (p : ℕ) → In p work → p < length rows.part_tops
  pub drops : (u : ℕ) → AreFits rows u fits old → IsDropping rows u new work

pub sources_below : (rows : Rows) (sources : List (List ℕ)) (x p : ℕ) → length rows.part_targets ≡ length rows.part_tops → AreTurned (length rows.part_tops) rows.part_targets sources
    → In p (list_at sources x) → p < length rows.part_tops
sources_below rows sources x p len t i = let low = inside_at rows.part_targets p x ((t.each x p).0 i) in omega arith

pub missing_step : (rows : Rows) (fits : List ℕ) (sources : List (List ℕ)) (old flags new : List Bool) (work left more : List ℕ) (x : ℕ) → AreTurned (length rows.part_tops) rows.part_targets sources
    → ((p : ℕ) → In p (list_at sources x) → p < length rows.part_tops)
    → work ≡ left ++ x ∷ [] → IsMissing rows fits old flags work → Drops (list_at sources x) flags left new more → IsMissing rows fits old new more
missing_step rows fits sources old flags new work left more x t below e m d = record {
  len = d.len ∙ m.len;
  only = λ p h. m.only p (d.only p h).0;
  low = λ p i. ⊎_elim (λ (j : In p left). m.low p (subst (λ (xs : List ℕ). In p xs) (sym e) (in_left p left (x ∷ []) j))) (below p) (d.from p i);
  drops = λ u f.
      let s = m.drops u f in
      let gone : TakesPart rows u x → ⊥ = s.missed x (subst (λ (xs : List ℕ). In x xs) (sym e) (in_right x left (x ∷ []) (inl refl))) in
      let misses : (p : ℕ) → In p (list_at sources x) → TakesPart rows u p → ⊥ = λ p i h. gone (takes_next rows u p x h ((t.each x p).0 i)) in record {
        fits = λ p h. s.fits p (d.only p h).0;
        kept = λ p h. ⊎_elim (λ j. j) (λ (i : In p (list_at sources x) × In p more). absurd (misses p i.0 h)) (d.kept p (s.kept p h));
        missed = λ p i h. ⊎_elim (λ (j : In p left). s.missed p (subst (λ (xs : List ℕ). In p xs) (sym e) (in_left p left (x ∷ []) j)) h) (λ (j : In p (list_at sources x)). misses p j h) (d.from p i);
        closed = λ p q h r. ⊎_elim
            (λ (j : IsMarked flags q). ⊎_elim (λ o. inl o) (λ (i : In q (list_at sources x) × In q more). inr i.1) (d.kept q j))
            (λ (j : In q work). ⊎_elim
            (λ (k : In q left). inr (d.queued q k))
            (λ (k : In q (x ∷ [])). absurd ((d.only p h).1 ((t.each x p).1 (subst (λ (y : ℕ). In y (list_at rows.part_targets p)) (sym (in_one q x k)) r))))
            (in_cases q left (x ∷ []) (subst (λ (xs : List ℕ). In q xs) e j)))
            (s.closed p q (d.only p h).0 r);
      };
}

pub missing_done : (rows : Rows) (u : ℕ) (fits : List ℕ) (old new : List Bool) → IsMissing rows fits old new [] → AreFits rows u fits old → AreTakenMarks rows u new
missing_done rows u fits old new m f p = let s = m.drops u f in (
  kept_up rows u (λ q. IsMarked new q) s.fits (λ q r h i. ⊎_elim (λ j. j) (λ j. absurd j) (s.closed q r h i)) p,
  s.kept p,
)
