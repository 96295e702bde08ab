-- What rows and kin show is what is fixed.
use Rattle.std.proofs.Common.{◌≡◌, ◌⊎◌, ℕ, ◌==◌, true, false, List, [], ◌∷◌, length, get_or, Option, Some, None, refl, sym, ap, subst, ◌∙◌, inl, inr, ⊎_elim, arith}
use Rattle.std.specs.Prelude.{MatchOption}
use Rattle.std.specs.Option.{is_some}
use Rattle.std.proofs.lemmas.Bool.{cases_Bool, eqb-true, false≢true}
use Rattle.std.proofs.lemmas.Bool.{eq-eqb}
use Rattle.dwz_def_reading.specs.Documents.{Doc}
use Rattle.dwz_def_reading.specs.Lists.{In}
use Rattle.dwz_def_tops.specs.Spots.{Top, tops_of}
use Rattle.dwz_def_tops.proofs.TopNumbers.{number_below, one_top, top_at, tops_numbers}
use Rattle.dwz_def_taken.specs.declared.fixed.Fixed.{Fixed}
use Rattle.dwz_def_taken.specs.Beside.{Reused, reused_of, together}
use Rattle.dwz_def_taken.specs.Laws.{ArePlacedOver, IsReused}
use Rattle.dwz_def_taken.specs.Takes.{IsFixed, IsImage, IsTaken}
use Rattle.dwz_def_taken.proofs.LookTops.{own_together, part_unit_from, together_cases}
use Rattle.dwz_def_taken.proofs.MovableAcross.{across_law}
use Rattle.dwz_def_taken.proofs.NamesOver.{named_over}
use Rattle.dwz_def_taken.proofs.PlaceLemmas.{whole}
use Rattle.dwz_law_taken.specs.Shown.{ShowKin}
use Rattle.dwz_law_taken.proofs.KinFacts.{blocked_shown}
use Rattle.dwz_law_taken.proofs.ShownFacts.{image_shown, taken_shown, takes_shown}
use Rattle.dwz_takes.specs.declared.rows.Rows.{Rows}
use Rattle.dwz_takes.specs.Blocked.{AreBlocked, AreKin}
use Rattle.dwz_takes.specs.Images.{AreImages, IsImageOf, StandsFor, choice_at}
use Rattle.dwz_takes.specs.Takes.{AreBelow, AreTakes, class_of, list_at}
use Rattle.dwz_match.specs.MatchRows.{AreKinRows, ShowMatch}

-- a number is in a list, or isn't
pub in_or_not : (n : ℕ) (ns : List ℕ) → In n ns ⊎ (In n ns → ⊥)
in_or_not n [] = inr (λ i. i)
in_or_not n (m ∷ ns) = ⊎_elim
    (λ (e : (m == n) ≡ true). inl (inl (eqb-true m n e)))
    (λ (e : (m == n) ≡ false). ⊎_elim
    (λ (i : In n ns). inl (inr i))
    (λ (no : In n ns → ⊥). inr (λ (o : (m ≡ n) ⊎ In n ns). ⊎_elim (λ (p : m ≡ n). false≢true (sym e ∙ eq-eqb m n p)) no o))
    (in_or_not n ns))
    (cases_Bool (m == n))

-- what is given of kin is enough where images are
pub are_kin : (rows : Rows) (kin : List ℕ) (targets : List (List ℕ)) (images : List (Option ℕ)) → AreKinRows (length rows.classes) kin targets → AreImages rows images → AreKin kin images targets
are_kin rows kin targets images k are = record {
  few = (let few = k.few in let len = k.len in omega (arith, few, len));
  numbers = λ n i. (let l = k.numbers n i in let len = k.len in omega (arith, l, len));
  images_len = are.len ∙ sym k.len;
  targets_len = k.targets_len ∙ sym k.len;
  below = subst (λ (n : ℕ). AreBelow n targets) (sym k.len) k.below;
}

module _ (docs : List (Doc ℕ)) (common : Doc ℕ) (name : ℕ → List (List ℕ)) (rows : Rows) (kin : List ℕ) (targets : List (List ℕ))
    (placed : ArePlacedOver docs common) (m : ShowMatch (reused_of docs common) name rows kin targets) where
  abbrev r : Reused
  r = reused_of docs common

  re : IsReused r
  re = named_over docs common placed

  one_of_all : (a b : Top) → In a (tops_of (together r)) → In b (tops_of (together r)) → a.number ≡ b.number → a ≡ b
  one_of_all a b i j e = one_top 0 (tops_of (together r)) a b (tops_numbers (together r)) i j e

  -- a top that is taken is one of the files
  taken_own : (t : Top) → In t (tops_of (together r)) → IsTaken r t → In t (tops_of r.units)
  taken_own t i h = ⊎_elim
      (λ (own : In t (tops_of r.units)). own)
      (λ part. let takes = h.1.takes.unit in let later = part_unit_from r (whole r re) t part in absurd (omega arith))
      (together_cases r (whole r re) t i)

  -- and the rows have it
  taken_here : (t : Top) → In t (tops_of (together r)) → IsTaken r t → In t.number (list_at rows.unit_tops t.unit)
  taken_here t i h = m.shown.alike_tops t (taken_own t i h) h.0.number h.1.alike

  -- a top that the rows have is in its unit's list
  listed_here : (u : ℕ) (t : Top) → In t (tops_of (together r)) → In t.number (list_at rows.unit_tops u) → In t.number (list_at rows.unit_tops t.unit)
  listed_here u t i l =
      let o = m.shown.unit_tops u t.number l in
      let same : o.0 ≡ t = one_of_all o.0 t (own_together r (whole r re) o.0 o.1.0) i o.1.2 in
      let at : u ≡ t.unit = sym o.1.1 ∙ ap (λ (w : Top). w.unit) same in
      subst (λ (v : ℕ). In t.number (list_at rows.unit_tops v)) at l

  module _ (images : List (Option ℕ)) (are : AreImages rows images) where
    -- what is told of a top by what its class has
    told : (t : Top) (o : Option ℕ) → In t.number (list_at rows.unit_tops t.unit)
        → MatchOption o ((c : ℕ) → StandsFor rows t.unit (class_of rows t.number) c → ⊥) (IsImageOf rows t.unit (class_of rows t.number)) → MatchOption o (IsTaken r t → ⊥) (IsImage r t)
    told t None here h = λ taken. let o = (taken_shown r name rows m.shown t here).0 taken in h o.0 o.1
    told t (Some n) here h = image_shown r name rows m.shown t here n h

    none_told : (t : Top) (o : Option ℕ) → o ≡ None → (IsTaken r t → ⊥) → MatchOption o (IsTaken r t → ⊥) (IsImage r t)
    none_told t None e left = left
    none_told t (Some n) e left = absurd cc

    pub images_are : (t : Top) → In t (tops_of (together r)) → MatchOption (choice_at images t.number) (IsTaken r t → ⊥) (IsImage r t)
    images_are t i = ⊎_elim
        (λ (here : In t.number (list_at rows.unit_tops t.unit)). told t (choice_at images t.number) here (are.each t.unit t.number here))
        (λ (no : In t.number (list_at rows.unit_tops t.unit) → ⊥). none_told t (choice_at images t.number) (are.none t.number (λ u l. no (listed_here u t i l))) (λ h. no (taken_here t i h)))
        (in_or_not t.number (list_at rows.unit_tops t.unit))

    some_taken : (t : Top) (o : Option ℕ) → MatchOption o (IsTaken r t → ⊥) (IsImage r t) → is_some o ≡ true → IsTaken r t
    some_taken t None h e = absurd (false≢true e)
    some_taken t (Some n) h e = (h.top, h.taken)

    taken_some : (t : Top) (o : Option ℕ) → MatchOption o (IsTaken r t → ⊥) (IsImage r t) → IsTaken r t → is_some o ≡ true
    taken_some t None h k = absurd (h k)
    taken_some t (Some n) h k = refl

    pub kin_shown : AreKinRows (length rows.classes) kin targets → ShowKin r kin images targets
    kin_shown k = record {
      there = λ t own. (
          let l = number_below 0 (tops_of (together r)) t (tops_numbers (together r)) (own_together r (whole r re) t own) in
          let same = m.tops in
          let len = k.len in
          omega (arith, l, same, len));
      same = m.same.same;
      alike = m.same.alike;
      taken = λ t own. (let i = own_together r (whole r re) t own in
          (λ e. some_taken t (choice_at images t.number) (images_are t i) e, λ h. taken_some t (choice_at images t.number) (images_are t i) h));
      movable = λ t own h. (across_law docs common placed t own).0 h.1.alike.alike.first;
      others = λ n a low low' e some. (
          let top = top_at 0 (tops_of (together r)) a (tops_numbers (together r)) (omega arith) (let same = m.tops in let len = k.len in omega arith) in
          let number : top.0.number ≡ a = top.2 in
          let some' : is_some (choice_at images top.0.number) ≡ true = ap (λ (x : ℕ). is_some (choice_at images x)) number ∙ some in
          let taken : IsTaken r top.0 = some_taken top.0 (choice_at images top.0.number) (images_are top.0 top.1) some' in
          let own : In top.0 (tops_of r.units) = taken_own top.0 top.1 taken in
          let e' : get_or kin n 0 ≡ get_or kin top.0.number 0 = sym e ∙ ap (λ (x : ℕ). get_or kin x 0) (sym number) in
          let b = m.same.same top.0 own n low e' in
          (b.0, b.1, b.2));
      refers = m.refers;
    }

    pub fixed_is : AreKinRows (length rows.classes) kin targets → (fixed : Fixed) → fixed.images ≡ images → AreTakes rows fixed.takes → AreBlocked kin images targets fixed.blocked → IsFixed r fixed
    fixed_is k fixed same takes blocked = record {
      units = takes.len ∙ m.units;
      takes = takes_shown r name rows m.shown fixed.takes takes;
      rising = takes.rising;
      tops = ap (λ (w : List (Option ℕ)). length w) same ∙ are.len ∙ m.tops;
      images = λ t i. subst (λ (w : List (Option ℕ)). MatchOption (choice_at w t.number) (IsTaken r t → ⊥) (IsImage r t)) (sym same) (images_are t i);
      flags = blocked.len ∙ k.len ∙ m.tops;
      blocked = λ t i. blocked_shown r kin images targets (kin_shown k) fixed.blocked blocked t.number;
    }
