-- The test of free tops that are alike finds just these.
use Rattle.std.proofs.Common.{◌≡◌, ℕ, Bool, true, false, [], Option, Some, None, refl}
use Rattle.std.specs.Prelude.{MatchOption}
use Rattle.dwz_def_reading.specs.Lists.{In}
use Rattle.dwz_def_tops.specs.Alike.{Apart}
use Rattle.dwz_def_tops.specs.Spots.{Top, tops_of}
use Rattle.dwz_def_tops.proofs.AlikeLaws.{alike_decides}
use Rattle.dwz_def_taken.specs.declared.fixed.Fixed.{Fixed}
use Rattle.dwz_def_taken.specs.Beside.{Reused}
use Rattle.dwz_def_taken.specs.Laws.{FreeLaw, IsReused}
use Rattle.dwz_def_taken.specs.Takes.{IsFixed, IsFreeTop, IsImage, IsTaken, image_at, is_blocked, is_free}
use Rattle.dwz_def_taken.proofs.LookTops.{own_together}
use Rattle.dwz_def_taken.proofs.OverLemmas.{flag_none, free_by, free_flag, free_none, free_two, none_taken, two_free}
use Rattle.dwz_def_taken.proofs.PlaceLemmas.{whole}

module _ (r : Reused) (fixed : Fixed) (re : IsReused r) (fx : IsFixed r fixed) where
  no_image : (t : Top) → In t (tops_of r.units) → IsFreeTop r t → image_at fixed t.number ≡ None
  no_image t there free = go (image_at fixed t.number) refl (fx.images t (own_together r (whole r re) t there)) where
    go : (o : Option ℕ) → image_at fixed t.number ≡ o → MatchOption o (IsTaken r t → ⊥) (IsImage r t) → image_at fixed t.number ≡ None
    go None q none = q
    go (Some c) q im = absurd (free.left (im.top, im.taken))

  no_flag : (t : Top) → In t (tops_of r.units) → IsFreeTop r t → is_blocked fixed t.number ≡ false
  no_flag t there free = go (is_blocked fixed t.number) refl where
    go : (b : Bool) → is_blocked fixed t.number ≡ b → is_blocked fixed t.number ≡ false
    go true q = (let k = (fx.blocked t (own_together r (whole r re) t there)).0 q in absurd (free.unblocked k.0 k.1))
    go false q = q

  test_free : (t : Top) → In t (tops_of r.units) → IsFreeTop r t → is_free fixed t.number ≡ true
  test_free t there free = free_by r fixed [] re fx t.number (no_image t there free) (no_flag t there free)

pub free_law : FreeLaw
free_law r fixed re fx a b x y =
    let is = alike_decides Apart r.units in (
      λ e. (
          let f = free_two r fixed [] re fx a.number b.number e in
          let d = is.decides a.number b.number f.alike_two in
          record {
            file = is.scoped a b x y f.alike_two;
            alike = d;
            first = record {
              movable = d.first;
              left = none_taken r fixed [] re fx a x (free_none r fixed [] re fx a.number f.first);
              unblocked = flag_none r fixed [] re fx a x (free_flag r fixed [] re fx a.number f.first);
            };
            second = record {
              movable = d.second;
              left = none_taken r fixed [] re fx b y (free_none r fixed [] re fx b.number f.second);
              unblocked = flag_none r fixed [] re fx b y (free_flag r fixed [] re fx b.number f.second);
            };
          }),
      λ f. two_free r fixed [] re fx a.number b.number (is.decided a b x y f.file f.alike) (test_free r fixed re fx a x f.first) (test_free r fixed re fx b y f.second),
    )
