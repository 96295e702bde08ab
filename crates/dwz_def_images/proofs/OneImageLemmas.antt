-- Which entries have one image.
use Rattle.std.proofs.Common.{◌≡◌, ℕ, ◌⊎◌, Bool, true, false, List, refl, sym, ap, ◌∙◌, inl, inr}
use Rattle.dwz_def_reading.specs.Lists.{In}
use Rattle.dwz_def_tops.specs.Alike.{IsAlike, TopScope}
use Rattle.dwz_def_tops.specs.Spots.{EntryName, FileUnit, Top, Within, tops_of}
use Rattle.dwz_def_tops.proofs.AlikePer.{scope_file}
use Rattle.dwz_def_tops.proofs.Tops.{one_file, one_top}
use Rattle.dwz_def_plan.specs.Homes.{IsChoice, Rule, moves}
use Rattle.dwz_def_plan.specs.Plan.{image, image_by, stand_in}
use Rattle.dwz_def_plan.proofs.StandLemmas.{fair}
use Rattle.dwz_def_plan.proofs.UserLemmas.{Fair, leads, move_stand, moves_same, stands_same, stay_fixed}
use Rattle.dwz_def_images.specs.Images.{InNoTop, IsAlone, IsEntry, OneImage, units_in}
use Rattle.dwz_def_tops.specs.Seen.{Seen, all_seen}

images_tell : (stand : ℕ → ℕ) (m n : ℕ) (p q : List ℕ) → image_by stand (Within m p) ≡ image_by stand (Within n q) → (p ≡ q) × (stand m ≡ stand n)
images_tell stand m n p q e = (cc, cc)

images_same : (stand : ℕ → ℕ) (m n : ℕ) (p q : List ℕ) → p ≡ q → stand m ≡ stand n → image_by stand (Within m p) ≡ image_by stand (Within n q)
images_same stand m n p q x y = cc

-- one stand-in tells of one top, or of alike tops that move
stands_tell : (units : List (FileUnit EntryName)) (rule : Rule) → Fair units rule → (a b : Top) → In a (tops_of units) → In b (tops_of units)
    → stand_in rule units a.number ≡ stand_in rule units b.number
    → (a.number ≡ b.number) ⊎ ((rule.alike a.number b.number ≡ true) × (moves rule units a.number ≡ true))
stands_tell units rule fair a b x y e = go (moves rule units a.number) (moves rule units b.number) refl refl where
  go : (s t : Bool) → moves rule units a.number ≡ s → moves rule units b.number ≡ t → (a.number ≡ b.number) ⊎ ((rule.alike a.number b.number ≡ true) × (moves rule units a.number ≡ true))
  go true true p q =
      let l = leads units rule fair a x p in
      let r = leads units rule fair b y q in
      let same : l.top.number ≡ r.top.number = l.number ∙ sym (move_stand units rule a.number p) ∙ e ∙ move_stand units rule b.number q ∙ sym r.number in
      inr (fair.per.joins a.number l.top.number b.number l.alike_is (ap (λ (w : ℕ). rule.alike w b.number) same ∙ fair.per.turns b.number r.top.number r.alike_is), p)
  go true false p q =
      let l = leads units rule fair a x p in
      let same : l.top.number ≡ b.number = l.number ∙ sym (move_stand units rule a.number p) ∙ e ∙ stay_fixed units rule b.number q in
      absurd (let z : rule.alike a.number b.number ≡ true = ap (rule.alike a.number) (sym same) ∙ l.alike_is in let h = moves_same units rule fair a.number b.number z in cc)
  go false true p q =
      let r = leads units rule fair b y q in
      let same : r.top.number ≡ a.number = r.number ∙ sym (move_stand units rule b.number q) ∙ sym e ∙ stay_fixed units rule a.number p in
      absurd (let z : rule.alike b.number a.number ≡ true = ap (rule.alike b.number) (sym same) ∙ r.alike_is in let h = moves_same units rule fair b.number a.number z in cc)
  go false false p q = inl (sym (stay_fixed units rule a.number p) ∙ e ∙ stay_fixed units rule b.number q)

pub one_image : (scope : TopScope) (units : List (FileUnit EntryName)) (rule : Rule) → IsAlike scope units rule.alike → IsChoice units rule
    → OneImage scope units (λ n. moves rule units n ≡ true) (image rule units)
one_image scope units rule is choice =
    let fair_is = fair scope units rule is choice in
    let stand = stand_in rule units in
    record {
      apart = λ a b p q x y scoped v w ne. (
        (λ e.
            let o = images_tell stand a.number b.number p q e in
            elim (stands_tell units rule fair_is a b x y o.1) [
              | inl s ↦ absurd (ne (ap (λ (t : Top). t.unit) (one_top units a b x y s)))
              | inr s ↦ (o.0, is.decides a.number b.number s.0, s.1)
            ]),
        (λ o.
            let e = is.decided a b x y scoped o.1 in
            images_same stand a.number b.number p q o.0 (stands_same units rule fair_is a.number b.number a x refl e o.2)),
      );
      one = λ a b p q x y v w same. (
        (λ e. (let o = images_tell stand a.number b.number p q e in (
          o.0,
          elim (stands_tell units rule fair_is a b x y o.1) [
            | inl s ↦ inl s
            | inr s ↦ inr (is.decides a.number b.number s.0, s.1)
          ],
        ))),
        (λ o. images_same stand a.number b.number p q o.0 (elim o.1 [
          | inl s ↦ ap stand s
          | inr s ↦ stands_same units rule fair_is a.number b.number a x refl (is.decided a b x y (scope_file scope a b (one_file units a b x y same)) s.0) s.1
        ])),
      );
    }

-- ---- entries in no top

alone_image : (stand : ℕ → ℕ) (s t : EntryName) → InNoTop s → image_by stand s ≡ image_by stand t → s ≡ t
alone_image stand (Within m p) t h e = absurd h
alone_image stand s (Within n q) h e = absurd cc
alone_image stand s t h e = e

pub alone_names : (units : List (FileUnit EntryName)) (rule : Rule) → IsAlone units (image rule units)
alone_names units rule = λ d e x y h same. alone_image (stand_in rule units) d.at e.at h same

-- ---- with other places

-- where the images of entries have different places
pub one_placed : {K P : Type 0} (scope : TopScope) (units : List (FileUnit EntryName)) (moving : ℕ → Type 0) (f : EntryName → K) (g : K → P)
    → ((d e : Seen EntryName) → In d (all_seen (units_in units)) → In e (all_seen (units_in units)) → g (f d.at) ≡ g (f e.at) → f d.at ≡ f e.at) → OneImage scope units moving f
    → OneImage scope units moving (λ s. g (f s))
one_placed {K} {P} scope units moving f g one h =
    let back : (a b : Top) (p q : List ℕ) → IsEntry units a p → IsEntry units b q → g (f (Within a.number p)) ≡ g (f (Within b.number q)) → f (Within a.number p) ≡ f (Within b.number q) =
    λ a b p q x y e. ap f (sym x.2) ∙ one x.0 y.0 x.1 y.1 (ap (λ (s : EntryName). g (f s)) x.2 ∙ e ∙ ap (λ (s : EntryName). g (f s)) (sym y.2)) ∙ ap f y.2 in
    record {
      apart = λ a b p q x y scoped v w ne. (let o = h.apart a b p q x y scoped v w ne in ((λ e. o.0 (back a b p q v w e)), (λ e. ap g (o.1 e))));
      one = λ a b p q x y v w same. (let o = h.one a b p q x y v w same in ((λ e. o.0 (back a b p q v w e)), (λ e. ap g (o.1 e))));
    }
