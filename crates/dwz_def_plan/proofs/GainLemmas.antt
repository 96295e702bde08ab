-- The test of groups that gain decides, and the tops whose groups gain may be chosen.
use Rattle.std.proofs.Common.{◌≡◌, ◌↔◌, ℕ, zero, suc, ◌+◌, ◌-◌, ◌≤◌, ◌&&◌, true, List, length, Decides, refl, sym, ap, subst, ◌∙◌, inl, inr, ⊎_elim, arith}
use Rattle.std.proofs.lemmas.Bool.{and_from, and_parts}
use Rattle.std.proofs.lemmas.Bool.Decides.{Decides-like, Decides-ltb}
use Rattle.dwz_def_reading.specs.Lists.{In}
use Rattle.dwz_def_tops.specs.Alike.{IsAlike, TopScope, refers_to}
use Rattle.dwz_def_tops.specs.Deciding.{Test}
use Rattle.dwz_def_tops.specs.Spots.{EntryName, FileUnit, Top, same_numbers, tops_of}
use Rattle.dwz_def_tops.proofs.Members.{any_true}
use Rattle.dwz_def_tops.proofs.AlikeBound.{Decides-either, any_decides}
use Rattle.dwz_def_tops.proofs.AlikeCounts.{any_of, passing, passing_most, passing_same, settles}
use Rattle.dwz_def_tops.proofs.AlikePer.{IsPer, alike_per}
use Rattle.dwz_def_tops.proofs.AlikeTests.{Decides-both}
use Rattle.dwz_def_tops.proofs.Targets.{Inside, refers_one}
use Rattle.dwz_def_plan.specs.Groups.{Gain, Gains, RefersInto, in_group, saved, spent}
use Rattle.dwz_def_plan.specs.Gain.{gain_rule, gain_test, gains_test, refers_into}
use Rattle.dwz_def_plan.specs.Homes.{Home, IsChoice, candidate, is_home, moves, same_home, users}
use Rattle.dwz_def_tops.proofs.SpotLemmas.{numbers_same, numbers_true}
use Rattle.dwz_def_plan.proofs.PlanLemmas.{home_own, home_true}
use Rattle.dwz_def_plan.proofs.StandLemmas.{target_home}
use Rattle.dwz_def_plan.proofs.UserLemmas.{candidate_same, moving, users_same}

module _ (alike : Test) (units : List (FileUnit EntryName)) where
  abbrev tops : List Top
  tops = tops_of units

  abbrev cand : Top → Home
  cand t = candidate alike units t.number

  abbrev us : Top → List ℕ
  us t = users alike units t.number

  group_from : (h : Home) (vs : List ℕ) (t : Top) → in_group alike units h vs t ≡ true → (cand t ≡ h) × (us t ≡ vs)
  group_from h vs t e = let p = and_parts (same_home (cand t) h) _ e in (home_true (cand t) h p.0, numbers_true (us t) vs p.1)

  group_to : (h : Home) (vs : List ℕ) (t : Top) → cand t ≡ h → us t ≡ vs → in_group alike units h vs t ≡ true
  group_to h vs t a b = and_from (same_home (cand t) h) _ (ap (λ (w : Home). same_home w h) a ∙ home_own h) (subst (λ (w : List ℕ). same_numbers w vs ≡ true) (sym b) (numbers_same vs))

  into_decides : (h : Home) (vs : List ℕ) (t : Top) → In t tops → Decides (is_home (cand t) && refers_into alike units h vs t) (RefersInto alike units t h vs)
  into_decides h vs t is = (
    (λ e.
        let p = and_parts (is_home (cand t)) (refers_into alike units h vs t) e in
        let o = any_of (λ u. refers_to u.number t && in_group alike units h vs u) tops p.1 in
        let q = and_parts (refers_to o.0.number t) (in_group alike units h vs o.0) o.2 in
        let g = group_from h vs o.0 q.1 in
        record { there = is; home = p.0; target = o.0; is_top = o.1; refers = q.0; home_is = g.0; users_are = g.1 }),
    (λ r. and_from (is_home (cand t)) (refers_into alike units h vs t) r.home
        (any_true (λ u. refers_to u.number t && in_group alike units h vs u) r.target tops r.is_top
        (and_from (refers_to r.target.number t) (in_group alike units h vs r.target) r.refers (group_to h vs r.target r.home_is r.users_are)))),
  )

  abbrev Step : ℕ → Home → List ℕ → Top → Type 0
  Step k h vs t = RefersInto alike units t h vs × Gain alike units k (cand t) (us t)

  pub gain_decides : (k : ℕ) (h : Home) (vs : List ℕ) → Decides (gain_test alike units k h vs) (Gain alike units k h vs)
  unfolding gain_test Gain
  gain_decides zero h vs = Decides-ltb (spent vs) (saved alike units h vs)
  gain_decides (suc k) h vs =
      Decides-either (gain_test alike units k h vs) _ (gain_decides k h vs)
      (Decides-like _ (λ (r : (t : Top) × In t tops × Step k h vs t). (r.0, r.2.0, r.2.1))
      (λ (r : (t : Top) × RefersInto alike units t h vs × Gain alike units k (cand t) (us t)). (r.0, r.1.there, (r.1, r.2)))
      (any_decides _ (Step k h vs) tops (λ t is. Decides-both (is_home (cand t) && refers_into alike units h vs t) (gain_test alike units k (cand t) (us t)) (into_decides h vs t is)
      (gain_decides k (cand t) (us t)))))

  -- ---- longer chains

  gain_up : (n k : ℕ) (h : Home) (vs : List ℕ) → Gain alike units k h vs → Gain alike units (n + k) h vs
  unfolding Gain
  gain_up zero k h vs g = let e : k ≡ zero + k = omega arith in subst (λ (i : ℕ). Gain alike units i h vs) e g
  gain_up (suc n) k h vs g =
      let e : suc (n + k) ≡ suc n + k = omega arith in
      let up : Gain alike units (suc (n + k)) h vs = inl (gain_up n k h vs g) in
      subst (λ (i : ℕ). Gain alike units i h vs) e up

  abbrev Rests : ℕ → Type 0
  Rests j = (t : Top) → In t tops → Gain alike units (suc j) (cand t) (us t) → Gain alike units j (cand t) (us t)

  gain_back : (j : ℕ) → Rests j → (n : ℕ) (t : Top) → In t tops → Gain alike units (n + j) (cand t) (us t) → Gain alike units j (cand t) (us t)
  unfolding Gain
  gain_back j rests zero t is g = let e : zero + j ≡ j = omega arith in subst (λ (i : ℕ). Gain alike units i (cand t) (us t)) e g
  gain_back j rests (suc n) t is g =
      let e : suc n + j ≡ suc (n + j) = omega arith in
      let cases : Gain alike units (suc (n + j)) (cand t) (us t) = subst (λ (i : ℕ). Gain alike units i (cand t) (us t)) e g in
      ⊎_elim (λ h. gain_back j rests n t is h)
      (λ (h : (s : Top) × RefersInto alike units s (cand t) (us t) × Gain alike units (n + j) (cand s) (us s)). rests t is (inr (h.0, h.1, gain_back j rests n h.0 h.1.there h.2))) cases

  -- chains of some length bring all that longer ones bring
  gain_rests : (j : ℕ) × (j ≤ length tops) × Rests j
  unfolding Gain
  gain_rests =
      let test = λ (k : ℕ) (t : Top). gain_test alike units k (cand t) (us t) in
      let r = settles (λ k. passing (test k) tops) (length tops) (λ k. passing_most (test k) tops) in
      let j = r.0 in
      let wider = λ (t : Top) (i : In t tops) (e : test j t ≡ true). (gain_decides (suc j) (cand t) (us t)).1 (inl ((gain_decides j (cand t) (us t)).0 e)) in
      let same = passing_same (test j) (test (suc j)) tops wider r.2 in
      (j, r.1, λ t is g. (gain_decides j (cand t) (us t)).0 (same t is ((gain_decides (suc j) (cand t) (us t)).1 g)))

  -- a chain as long as there are tops decides
  gain_most : (k : ℕ) (t : Top) → In t tops → Gain alike units k (cand t) (us t) → Gain alike units (length tops) (cand t) (us t)
  gain_most k t is g =
      let r = gain_rests in
      let j = r.0 in
      let n = length tops in
      let low : j ≤ n = r.1 in
      let turned : j + k ≡ k + j = omega arith in
      let back : Gain alike units j (cand t) (us t) = gain_back j r.2 k t is (subst (λ (i : ℕ). Gain alike units i (cand t) (us t)) turned (gain_up j k (cand t) (us t) g)) in
      let most : (n - j) + j ≡ n = omega arith in
      subst (λ (i : ℕ). Gain alike units i (cand t) (us t)) most (gain_up (n - j) j (cand t) (us t) back)

  pub gains_decided : (t : Top) → In t tops → (gains_test alike units t.number ≡ true) ↔ Gains alike units t.number
  unfolding gains_test
  gains_decided t is = (
    (λ e. (length tops, (gain_decides (length tops) (cand t) (us t)).0 e)),
    (λ g. (gain_decides (length tops) (cand t) (us t)).1 (gain_most g.0 t is g.1)),
  )

  -- a reference carries it on
  pub gains_on : (t u : Top) → In t tops → In u tops → is_home (cand t) ≡ true → refers_to u.number t ≡ true → gains_test alike units t.number ≡ true → gains_test alike units u.number ≡ true
  unfolding Gain
  gains_on t u is there home refers e =
      let g = (gains_decided t is).0 e in
      let into : RefersInto alike units t (cand u) (us u) = record { there = is; home = home; target = u; is_top = there; refers = refers; home_is = refl; users_are = refl } in
      (gains_decided u there).1 (suc g.0, inr (t, into, g.1))

gains_same : (alike : Test) (units : List (FileUnit EntryName)) (m n : ℕ) → candidate alike units m ≡ candidate alike units n → users alike units m ≡ users alike units n
    → gains_test alike units m ≡ gains_test alike units n
unfolding gains_test
gains_same alike units m n a b =
    ap (λ (w : Home). gain_test alike units (length (tops_of units)) w (users alike units m)) a ∙ ap (λ (w : List ℕ). gain_test alike units (length (tops_of units)) (candidate alike units n) w) b

-- of any test that is symmetric and transitive, where what a moving top refers to is a top
pub gain_choice_by : (units : List (FileUnit EntryName)) (alike : Test) → IsPer alike
    → ((t : Top) → In t (tops_of units) → moves (gain_rule alike units) units t.number ≡ true → (m : ℕ) → refers_to m t ≡ true → (u : Top) × In u (tops_of units) × (u.number ≡ m))
    → IsChoice units (gain_rule alike units)
gain_choice_by units alike per tops_there =
    record {
      together = λ m n e. gains_same alike units m n (candidate_same alike per units m n e) (users_same alike per units m n e);
      targets = λ t there mv m refers. (
          let o = moving units (gain_rule alike units) t.number mv in
          let u = tops_there t there mv m refers in
          let on = gains_on alike units t u.0 there u.1 o.is (subst (λ (w : ℕ). refers_to w t ≡ true) (sym u.2) refers) o.chosen in
          subst (λ (w : ℕ). gains_test alike units w ≡ true) u.2 on);
    }

pub gain_choice : (scope : TopScope) (units : List (FileUnit EntryName)) (alike : Test) → IsAlike scope units alike → IsChoice units (gain_rule alike units)
gain_choice scope units alike is = gain_choice_by units alike (alike_per scope units alike is) (λ t there mv m refers.
    let i = (refers_one (λ n. Inside units t.unit n × (is_home (candidate alike units n) ≡ true)) t (target_home scope units (gain_rule alike units) is t there mv) m refers).0 in
    (i.stands.top, i.stands.there, i.stands.number))
