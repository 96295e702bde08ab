-- What rows show is what is there.
use Rattle.std.proofs.Common.{◌≡◌, ℕ, zero, suc, ◌<◌, List, length, refl, sym, subst, arith}
use Rattle.dwz_def_reading.specs.Lists.{In}
use Rattle.dwz_def_tops.specs.Spots.{Top}
use Rattle.dwz_def_taken.specs.Beside.{CommonAlike, Reused}
use Rattle.dwz_def_taken.specs.Takes.{CanTake, CanTakeAlong, HasLike, HasSpace, InPart, IsImage, IsTaken, IsTakenAs, Takes}
use Rattle.dwz_takes.specs.declared.rows.Rows.{Rows}
use Rattle.dwz_takes.specs.Images.{IsImageOf, StandsFor}
use Rattle.dwz_takes.specs.Takes.{AreTakes, FitsAlong, FitsIn, TakesPart, class_of, list_at}
use Rattle.dwz_takes.proofs.MissFacts.{takes_fits}
use Rattle.dwz_takes.proofs.TakenFacts.{fits_low}
use Rattle.dwz_law_taken.specs.Shown.{ShowReused}

module _ (r : Reused) (name : ℕ → List (List ℕ)) (rows : Rows) (s : ShowReused r name rows) where
  -- a top of the partial unit
  part_top : (p c : ℕ) → In c (list_at rows.part_tops p) → (top : Top) × InPart r p top × (top.number ≡ c)
  part_top p c i = (s.part_tops p c).0 i

  pub can_take : (u p : ℕ) → FitsIn rows u p → CanTake r u p
  can_take u p f = record {
    some = (let o = part_top p f.some.0 f.some.1 in (o.0, o.1));
    spaces = λ names h.
        let n = s.named p names h in
        let P : List (List ℕ) → Type 0 = λ ns. HasSpace r.units u ns in
        let Q : List (List ℕ) → Type 0 = λ ns. HasSpace r.commons p ns in
        let l = f.tops f.some.0 f.some.1 in
        subst P n.1 ((s.unit_names u l.0 n.0 l.1).0 (f.spaces n.0 ((s.part_names p n.0).1 (subst Q (sym n.1) h))));
    tops = λ c h.
        let here : In c.number (list_at rows.part_tops p) = (s.part_tops p c.number).1 (c, h, refl) in
        let l = f.tops c.number here in
        let top = s.unit_tops u l.0 l.1 in
        let alike = (s.classes u l.0 p c.number l.1 here).0 l.2 in
        record { top = top.0; there = top.1.0; unit_is = top.1.1; alike = subst (λ (m : ℕ). CommonAlike r m c.number) (sym top.1.2) alike };
  }

  -- what is alike to a top of a partial unit is in the unit's list
  listed : (u c : ℕ) → (l : HasLike r u c) → In l.top.number (list_at rows.unit_tops u)
  listed u c l = subst (λ (m : ℕ). In l.top.number (list_at rows.unit_tops m)) l.unit_is (s.alike_tops l.top l.there c l.alike)

  pub fits_in : (u p : ℕ) → CanTake r u p → FitsIn rows u p
  fits_in u p f = record {
    some = (f.some.0.number, (s.part_tops p f.some.0.number).1 (f.some.0, f.some.1, refl));
    spaces = λ n i. (
        let l = f.tops f.some.0 f.some.1 in
        (s.unit_names u l.top.number n (listed u f.some.0.number l)).1 (f.spaces (name n) ((s.part_names p n).0 i)));
    tops = λ c i.
        let o = part_top p c i in
        let l = f.tops o.0 o.1 in
        let alike : CommonAlike r l.top.number c = subst (λ (m : ℕ). CommonAlike r l.top.number m) o.2 l.alike in
        let here = listed u o.0.number l in
        (l.top.number, here, (s.classes u l.top.number p c here i).1 alike);
  }

  pub along_to : (k u p : ℕ) → FitsAlong rows k u p → CanTakeAlong r k u p
  unfolding FitsAlong CanTakeAlong
  along_to zero u p f = can_take u p f
  along_to (suc k) u p f = (along_to k u p f.0, λ q h. along_to k u q (f.1 q ((s.part_targets p q).1 h)))

  pub along_from : (k u p : ℕ) → CanTakeAlong r k u p → FitsAlong rows k u p
  unfolding FitsAlong CanTakeAlong
  along_from zero u p f = fits_in u p f
  along_from (suc k) u p f = (along_from k u p f.0, λ q i. along_from k u q (f.1 q ((s.part_targets p q).0 i)))

  pub takes_to : (u p : ℕ) → TakesPart rows u p → Takes r u p
  takes_to u p t =
      let f = takes_fits rows u p t in
      let l = f.tops f.some.0 f.some.1 in
      let top = s.unit_tops u l.0 l.1 in
      let P : ℕ → Type 0 = λ m. m < length r.units in
      record {
        unit = subst P top.1.1 (s.units top.0 top.1.0);
        part = (let low = fits_low rows u p f in let same = s.parts in omega arith);
        fits = λ k. along_to k u p (t k);
      }

  pub takes_from : (u p : ℕ) → Takes r u p → TakesPart rows u p
  takes_from u p t k = along_from k u p (t.fits k)

  pub takes_shown : (takes : List (List ℕ)) → AreTakes rows takes → (u p : ℕ) → (In p (list_at takes u) → Takes r u p) × (Takes r u p → In p (list_at takes u))
  takes_shown takes h u p = (λ i. takes_to u p ((h.each u p).0 i), λ t. (h.each u p).1 (takes_from u p t))

  -- ---- images

  pub stands_to : (t : Top) (c : ℕ) → In t.number (list_at rows.unit_tops t.unit) → StandsFor rows t.unit (class_of rows t.number) c → (top : Top) × IsTakenAs r t top × (top.number ≡ c)
  stands_to t c here h =
      let o = part_top h.part c h.there in
      let alike = (s.classes t.unit t.number h.part c here h.there).0 (sym h.alike) in
      (o.0, record { part = h.part; takes = takes_to t.unit h.part h.takes; in_part = o.1; alike = subst (λ (m : ℕ). CommonAlike r t.number m) (sym o.2) alike }, o.2)

  pub stands_from : (t c : Top) → In t.number (list_at rows.unit_tops t.unit) → IsTakenAs r t c → StandsFor rows t.unit (class_of rows t.number) c.number
  stands_from t c here h =
      let there : In c.number (list_at rows.part_tops h.part) = (s.part_tops h.part c.number).1 (c, h.in_part, refl) in record {
        part = h.part;
        takes = takes_from t.unit h.part h.takes;
        there = there;
        alike = sym ((s.classes t.unit t.number h.part c.number here there).1 h.alike);
      }

  pub taken_shown : (t : Top) → In t.number (list_at rows.unit_tops t.unit)
      → (IsTaken r t → (c : ℕ) × StandsFor rows t.unit (class_of rows t.number) c) × ((c : ℕ) × StandsFor rows t.unit (class_of rows t.number) c → IsTaken r t)
  taken_shown t here = (λ h. (h.0.number, stands_from t h.0 here h.1), λ h. let o = stands_to t h.0 here h.1 in (o.0, o.1))

  pub image_shown : (t : Top) → In t.number (list_at rows.unit_tops t.unit) → (n : ℕ) → IsImageOf rows t.unit (class_of rows t.number) n → IsImage r t n
  image_shown t here n h = let o = stands_to t n here h.stands in record {
    top = o.0;
    taken = o.1;
    number = o.2;
    least = λ c taken. h.least c.number (stands_from t c here taken);
  }
