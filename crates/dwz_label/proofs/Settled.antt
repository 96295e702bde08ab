-- Of those that are settled the least with the label is known; the others have all of their label among them, and are put in order.
use Rattle.std.proofs.Common.{◌≡◌, ℕ, ◌<◌, All, Bool, false, Equal, List, length, sym, ap, subst, ◌∙◌, ⊎_elim, arith, true≢false, nat_cmp, refl, Bor}
use Rattle.std.specs.Prelude.{slice_index, slice_index_or}
use Rattle.std.specs.Cmp.Lexicographic.{slice_cmp}
use Rattle.std.proofs.lemmas.Cmp.{nat_list_cmp_total, tied_itself}
use Rattle.dwz_nodes.specs.Looks.{IsLeastBelow}
use Rattle.dwz_nodes.proofs.Orders.{bytes_equal}
use Rattle.dwz_label.specs.declared.slots.Slots.{Slots}
use Rattle.dwz_label.specs.Keyed.{AreKeyed, AreLeastPut, AreOneKey, Order}
use Rattle.dwz_label.specs.Shown.{AreFirstEquals, nth_label}
use Rattle.dwz_label.specs.Slots.{AreSlotted, HaveOneLabel, HoldOthers, IsCrowded, IsFree, IsSettled, home_of}
use Rattle.dwz_label.proofs.Choices.{by_if}
use Rattle.dwz_label.proofs.Rows.{passed_same, picked_least, rows_inside, rows_one}

abbrev pub by_bytes : Order (Bor (List ℕ))
by_bytes a b = slice_cmp nat_cmp a.now b.now

bytes_tied : (xs ys : List ℕ) → xs ≡ ys → slice_cmp nat_cmp xs ys ≡ Equal
bytes_tied xs ys e = subst (λ (zs : List ℕ). slice_cmp nat_cmp xs zs ≡ Equal) e (tied_itself nat_list_cmp_total xs)

module _ (labels : List (List ℕ)) (movable : List Bool) (many : length movable ≡ length labels) (s : Slots)
    (are : AreSlotted labels movable (length labels) s) where
  abbrev IsPicked : ℕ → Type 0
  IsPicked n = IsFree movable n × IsCrowded labels s.size s.slots.items n

  abbrev IsKey : ℕ → Bor (List ℕ) → Type 0
  IsKey n key = key.now ≡ nth_label labels n

  label_tied : (m n : ℕ) (x y : Bor (List ℕ)) → IsKey m x → IsKey n y → HaveOneLabel labels m n → by_bytes x y ≡ Equal
  label_tied m n x y p q e = bytes_tied x.now y.now (p ∙ e ∙ sym q)

  label_same : (m n : ℕ) (x y : Bor (List ℕ)) → IsKey m x → IsKey n y → by_bytes x y ≡ Equal → HaveOneLabel labels m n
  label_same m n x y p q e = sym p ∙ bytes_equal x.now y.now e ∙ q

  -- what is settled isn't crowded
  not_both : (n : ℕ) → IsSettled labels s.size s.slots.items s.firsts.items n → IsCrowded labels s.size s.slots.items n → ⊥
  not_both n o crowded =
      let place = o.found.place in
      let taken : slice_index s.slots.items o.at < length labels = subst (λ (m : ℕ). m < length labels) (sym o.first) o.taken in
      (crowded o.found.steps o.found.few).other (ap (λ (m : ℕ). nth_label labels (slice_index s.slots.items m)) (sym place) ∙ o.found.here taken)

  rows : AreKeyed IsPicked IsKey (length labels) s.rest.items
  rows = record {
    inside = λ r c. (let o = are.rest r c in (o.below, (o.free, o.crowded), o.key));
    all = λ n l p. ⊎_elim (λ o. absurd (not_both n o p.1)) (λ r. r) (are.each n l p.0);
  }

  pub rest_inside : length s.firsts.items ≡ length labels → All (λ r. r.number < length s.firsts.items) s.rest.items
  rest_inside len = rows_inside IsPicked IsKey (HaveOneLabel labels) by_bytes label_tied (length labels) s.rest.items rows s.firsts.items len

  pub rest_one : AreOneKey by_bytes s.rest.items
  rest_one = rows_one IsPicked IsKey (HaveOneLabel labels) by_bytes label_tied (length labels) s.rest.items rows (λ n. refl)

  -- what has the label of a crowded one is crowded
  crowded_too : (n m : ℕ) → HaveOneLabel labels n m → IsCrowded labels s.size s.slots.items n → IsCrowded labels s.size s.slots.items m
  crowded_too n m same h = subst (λ (label : List ℕ). HoldOthers labels s.slots.items label (home_of s.size label) 16) same h

  module _ (firsts : List ℕ) (put : AreLeastPut by_bytes s.rest.items s.firsts.items firsts) where
    stays : (n : ℕ) → (IsPicked n → ⊥) → slice_index firsts n ≡ slice_index s.firsts.items n
    stays = passed_same IsPicked IsKey (HaveOneLabel labels) by_bytes label_tied (length labels) s.rest.items rows label_same s.firsts.items firsts put

    abbrev IsFirst : ℕ → ℕ → Type 0
    IsFirst n m = IsLeastBelow (length labels) (λ c. IsFree movable c × HaveOneLabel labels n c) m

    settled_first : (n : ℕ) → IsSettled labels s.size s.slots.items s.firsts.items n → IsFirst n (slice_index firsts n)
    settled_first n o =
        let m = slice_index s.slots.items o.at in
        let taken : m < length labels = subst (λ (i : ℕ). i < length labels) (sym o.first) o.taken in
        let h = are.least o.at o.inside taken in
        let same : HaveOneLabel labels n m = sym (o.found.here taken) in
        subst (λ (i : ℕ). IsFirst n i) (o.first ∙ sym (stays n (λ p. not_both n o p.1)))
        (record { inside = h.inside; is = (h.is.0, same); least = λ c l p. h.least c l (p.0, sym same ∙ p.1) })

    rest_first : (n : ℕ) → n < length labels → IsPicked n → IsFirst n (slice_index firsts n)
    rest_first n l p =
        let h = picked_least IsPicked IsKey (HaveOneLabel labels) by_bytes label_tied (length labels) s.rest.items rows label_same s.firsts.items firsts put n l p in
        record {
          inside = h.inside;
          is = (h.is.0.0, h.is.1);
          least = λ c low q. h.least c low ((q.0, crowded_too n c q.1 p.1), q.1);
        }

    free_first : (n : ℕ) → n < length labels → IsFree movable n → IsFirst n (slice_index firsts n)
    free_first n l free = ⊎_elim
        (λ o. settled_first n o)
        (λ r. let o = are.rest r.0 r.1 in rest_first n l (free, subst (λ (m : ℕ). IsCrowded labels s.size s.slots.items m) r.2 o.crowded))
        (are.each n l free)

    bound_first : (n : ℕ) → n < length labels → slice_index_or movable n false ≡ false → slice_index firsts n ≡ n
    bound_first n l bound = stays n (λ p. true≢false (sym p.0 ∙ bound)) ∙ are.bound n l bound

    pub first_equals : length s.firsts.items ≡ length labels → AreFirstEquals labels movable firsts
    first_equals len = record {
      len = put.len ∙ len ∙ sym many;
      each = λ n low. (
          let l : n < length labels = omega (arith, many, low) in
          by_if (slice_index_or movable n false) _ _
          (λ free. subst (λ (k : ℕ). IsLeastBelow k (λ c. IsFree movable c × HaveOneLabel labels n c) (slice_index firsts n)) (sym many) (free_first n l free))
          (bound_first n l));
    }
