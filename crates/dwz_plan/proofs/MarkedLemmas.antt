-- What is marked is what gains.
use Rattle.std.proofs.Common.{◌≡◌, ◌↔◌, ◌⊎◌, ℕ, zero, suc, ◌+◌, ◌<◌, ◌≤◌, ◌==◌, ◌&&◌, Bool, true, false, List, [], ◌∷◌, map, Option, Some, None, filter, length, get_or, refl, sym, ap, subst, ◌∙◌, inl}
use Rattle.std.proofs.Common.{inr, ⊎_elim, arith}
use Rattle.std.specs.Prelude.{slice_get}
use Rattle.std.proofs.lemmas.Bool.Decides.{Decides-ltb}
use Rattle.dwz_def_reading.specs.Lists.{In}
use Rattle.dwz_def_reading.proofs.ListFacts.{got_below}
use Rattle.dwz_def_tops.specs.Deciding.{Test}
use Rattle.dwz_def_tops.specs.Spots.{EntryName, FileUnit, Top, tops_of}
use Rattle.dwz_def_tops.proofs.TopNumbers.{number_below, top_at, tops_numbers}
use Rattle.dwz_def_tops.proofs.Members.{in_filter_from}
use Rattle.dwz_def_plan.specs.Gain.{Gain, RefersInto, gain_test, gains_test, group_weight, in_group, saved, spent, top_weight, weights}
use Rattle.dwz_def_plan.specs.Homes.{Home, candidate, is_home, rep, users}
use Rattle.dwz_def_plan.specs.IsPlan.{numbers}
use Rattle.dwz_def_plan.specs.Plan.{PartialUnit}
use Rattle.dwz_def_plan.proofs.GainLemmas.{gains_decided}
use Rattle.dwz_groups.specs.declared.groups.Edge.{Edge}
use Rattle.dwz_groups.specs.Groups.{grouped}
use Rattle.dwz_plan.specs.Gaining.{edges_from, gains_alone, group_at, weight_at, weight_of}
use Rattle.dwz_plan.specs.GainLaws.{part_gains, seed}
use Rattle.dwz_plan.specs.Groups.{AreGroups, IsGroup, IsWeight, ShowGains}
use Rattle.dwz_plan.proofs.EdgeLemmas.{edges_there, from_edges}
use Rattle.dwz_plan.proofs.GainLemmas.{test_few, test_heavy}
use Rattle.dwz_groups.specs.Spreading.{IsMarked, IsSpread, Leads, sources_of}
use Rattle.dwz_groups.proofs.MarkLemmas.{edge_grouped, grouped_edge}

-- ---- weights

weight_add : (a b c d : ℕ) → IsWeight a b → IsWeight c d → IsWeight (a + c) (b + d)
weight_add a b c d (inl e) (inl f) = inl (omega (arith, e, f))
weight_add a b c d (inl e) (inr f) = let p = f.0 in let q = f.1 in inr (omega (arith, p), omega (arith, q))
weight_add a b c d (inr e) k = let p = e.0 in let q = e.1 in inr (omega (arith, p), omega (arith, q))

weights_are : (ws : List ℕ) (tops : List Top) → ((t : Top) → In t tops → IsWeight (weight_at ws t.number) (top_weight t)) → IsWeight (weight_of ws (numbers tops)) (weights tops)
unfolding weight_of weights
weights_are ws [] h = inl refl
weights_are ws (t ∷ tops) h = weight_add (weight_at ws t.number) (top_weight t) (weight_of ws (numbers tops)) (weights tops) (h t (inl refl)) (weights_are ws tops (λ u i. h u (inr i)))

test_same : (users a b : ℕ) → IsWeight a b → gains_alone users a ≡ gains_alone users b
test_same users a b (inl e) = ap (gains_alone users) e
test_same users a b (inr h) = ⊎_elim
    (λ (few : users < 2). sym (test_few users a few) ∙ test_few users b few)
    (λ (many : 2 ≤ users). sym (test_heavy users a many h.0) ∙ test_heavy users b many h.1)
    (let o : (users < 2) ⊎ (2 ≤ users) = grind arith in o)

-- ---- rows of groups

some_is : {X : Type 0} (x y : X) → Some x ≡ Some y → x ≡ y
some_is x y e = cc

seed_at : (groups : List PartialUnit) (ws : List ℕ) (g : ℕ) (part : PartialUnit) → slice_get groups g ≡ Some part → get_or (map (seed ws) groups) g false ≡ seed ws part
seed_at [] ws g part e = absurd cc
seed_at (p ∷ groups) ws zero part e = ap (seed ws) (some_is p part e)
seed_at (p ∷ groups) ws (suc g) part e = seed_at groups ws g part e

top_low : (of_tops : List (Option ℕ)) (n g : ℕ) → group_at of_tops n ≡ Some g → n < length of_tops
top_low [] n g e = absurd cc
top_low (o ∷ of_tops) zero g e = omega arith
top_low (o ∷ of_tops) (suc n) g e = let l = top_low of_tops n g e in omega arith

module _ (alike : Test) (units : List (FileUnit EntryName)) (groups : List PartialUnit) (of_tops : List (Option ℕ)) (ws : List ℕ) (targets : List (List ℕ)) (are : AreGroups alike units groups of_tops)
    (shown : ShowGains alike units ws targets) where
  abbrev tops : List Top
  tops = tops_of units

  abbrev begin : List Bool
  begin = map (seed ws) groups

  abbrev edges : List Edge
  edges = edges_from of_tops of_tops targets

  abbrev sources : List (List ℕ)
  sources = grouped (length groups) edges

  abbrev cand : Top → Home
  cand t = candidate alike units t.number

  abbrev us : Top → List ℕ
  us t = users alike units t.number

  seed_is : (g : ℕ) (part : PartialUnit) → slice_get groups g ≡ Some part → IsMarked begin g ↔ (spent part.users < saved alike units part.home part.users)
  unfolding group_weight gains_alone
  seed_is g part e =
      let own : Top → Bool = λ t. in_group alike units part.home part.users t && rep alike units t.number == t.number in
      let held : part.tops ≡ filter own tops = (are.apart.each g part e).tops in
      let weight : IsWeight (weight_of ws (numbers part.tops)) (weights part.tops) =
      weights_are ws part.tops (λ t i. shown.weights t (in_filter_from own t tops (subst (λ (ts : List Top). In t ts) held i)).0) in
      let same : get_or begin g false ≡ gains_alone (length part.users) (weights (filter own tops)) =
      seed_at groups ws g part e ∙ test_same (length part.users) (weight_of ws (numbers part.tops)) (weights part.tops) weight ∙ ap (λ (ts : List Top). gains_alone (length part.users) (weights ts))
      held in
      let d = Decides-ltb (spent part.users) (saved alike units part.home part.users) in
      (λ m. d.0 (sym same ∙ m), λ l. same ∙ d.1 l)

  -- the group of a top with a home
  record Grouped (t : Top) : Type 0 where
    pub number : ℕ
    pub is : group_at of_tops t.number ≡ Some number
    pub group : IsGroup alike units groups (Some number) t.number

  grouped_of : (t : Top) → In t tops → is_home (cand t) ≡ true → Grouped t
  grouped_of t there home = go (group_at of_tops t.number) refl (are.of_top t there)
    where
      go : (o : Option ℕ) → group_at of_tops t.number ≡ o → IsGroup alike units groups o t.number → Grouped t
      go None e h = absurd (let s : is_home (cand t) ≡ false = ap is_home h in cc)
      go (Some g) e h = record { number = g; is = e; group = h }

  of_group : (t : Top) (g : ℕ) → In t tops → group_at of_tops t.number ≡ Some g → IsGroup alike units groups (Some g) t.number
  of_group t g there e = subst (λ (o : Option ℕ). IsGroup alike units groups o t.number) e (are.of_top t there)

  top_of : (n g : ℕ) → group_at of_tops n ≡ Some g → (t : Top) × In t tops × (t.number ≡ n)
  top_of n g e = top_at 0 tops n (tops_numbers units) (omega arith) (let l = top_low of_tops n g e in let len = are.len in omega arith)

  -- ---- from marks to gain

  abbrev GainsAt : ℕ → Top → Type 0
  GainsAt k t = Gain alike units k (cand t) (us t)

  gains_by : (k : ℕ) (t : Top) (h : Home) (vs : List ℕ) → cand t ≡ h → us t ≡ vs → Gain alike units k h vs → GainsAt k t
  gains_by k t h vs a b g = subst (λ (w : List ℕ). Gain alike units k (cand t) w) (sym b) (subst (λ (w : Home). Gain alike units k w vs) (sym a) g)

  gains_of : (k : ℕ) (t : Top) (h : Home) (vs : List ℕ) → cand t ≡ h → us t ≡ vs → GainsAt k t → Gain alike units k h vs
  gains_of k t h vs a b g = subst (λ (w : Home). Gain alike units k w vs) a (subst (λ (w : List ℕ). Gain alike units k (cand t) w) b g)

  to_gain : (k g : ℕ) (part : PartialUnit) → slice_get groups g ≡ Some part → Leads sources begin k g → Gain alike units k part.home part.users
  unfolding Gain
  to_gain zero g part e h = (seed_is g part e).0 h
  to_gain (suc k) g part e (inl h) = inl (to_gain k g part e h)
  to_gain (suc k) g part e (inr h) =
      let m : ℕ = h.0 in
      let r = from_edges of_tops of_tops targets m g (grouped_edge (length groups) m g edges h.1) in
      let a = top_of r.i m r.from in
      let t : Top = a.0 in
      let at : group_at of_tops t.number ≡ Some m = ap (group_at of_tops) a.2 ∙ r.from in
      let from = of_group t m a.1 at in
      let b = top_of r.into.0 g r.into.2 in
      let u : Top = b.0 in
      let into = of_group u g b.1 (ap (group_at of_tops) b.2 ∙ r.into.2) in
      let same : into.0 ≡ part = some_is into.0 part (sym into.1 ∙ e) in
      let home : is_home (cand t) ≡ true = ap is_home from.2 ∙ (are.apart.each m from.0 from.1).home in
      let named : In u.number (sources_of targets t.number) = subst (λ (n : ℕ). In n (sources_of targets t.number)) (sym b.2)
      (subst (λ (n : ℕ). In r.into.0 (sources_of targets n)) (sym a.2) r.into.1) in
      let refers : RefersInto alike units t part.home part.users = record {
        there = a.1;
        home = home;
        target = u;
        is_top = b.1;
        refers = (shown.targets t a.1 home u.number).0 named;
        home_is = into.2 ∙ ap (λ (q : PartialUnit). q.home) same;
        users_are = into.3 ∙ ap (λ (q : PartialUnit). q.users) same;
      } in
      inr (t, refers, gains_by k t from.0.home from.0.users from.2 from.3 (to_gain k m from.0 from.1 h.2))

  -- ---- from gain to marks

  from_gain : (k g : ℕ) (part : PartialUnit) → slice_get groups g ≡ Some part → Gain alike units k part.home part.users → Leads sources begin k g
  unfolding Gain
  from_gain zero g part e h = (seed_is g part e).1 h
  from_gain (suc k) g part e (inl h) = inl (from_gain k g part e h)
  from_gain (suc k) g part e (inr h) =
      let t : Top = h.0 in
      let r = h.1 in
      let from = grouped_of t r.there r.home in
      let m = from.number in
      let u = r.target in
      let into = grouped_of u r.is_top (ap is_home r.home_is ∙ (are.apart.each g part e).home) in
      let same : into.number ≡ g = are.apart.once into.number g into.group.0 part into.group.1 e (sym into.group.2 ∙ r.home_is) (sym into.group.3 ∙ r.users_are) in
      let at : group_at of_tops u.number ≡ Some g = into.is ∙ ap (λ (n : ℕ). Some n) same in
      let low : t.number < 0 + length tops = number_below 0 tops t (tops_numbers units) r.there in
      let len = are.len in
      let many = shown.len in
      let there = edges_there of_tops of_tops targets m g t.number u.number (omega arith) (omega arith) from.is ((shown.targets t r.there r.home u.number).1 r.refers) at in
      inr (
        m,
        edge_grouped (length groups) m g edges (got_below groups m from.group.0 from.group.1) there,
        from_gain k m from.group.0 from.group.1 (gains_of k t from.group.0.home from.group.0.users from.group.2 from.group.3 h.2),
      )

  pub marked : (marks : List Bool) → IsSpread sources begin marks → (g : ℕ) (part : PartialUnit) → slice_get groups g ≡ Some part → IsMarked marks g ↔ (part_gains alike units part ≡ true)
  unfolding gains_test
  marked marks spread g part e =
      let o = (are.apart.each g part e).some in
      let t : Top = o.0 in
      let d = gains_decided alike units t o.1 in
      let same : gains_test alike units t.number ≡ part_gains alike units part = (λ i. gain_test alike units (length tops) (o.2 i) (o.3 i)) in (
        λ m. (let h = (spread.each g).0 m in sym same ∙ d.1 (h.0, gains_by h.0 t part.home part.users o.2 o.3 (to_gain h.0 g part e h.1))),
        λ f. (let h = d.0 (same ∙ f) in (spread.each g).1 (h.0, from_gain h.0 g part e (gains_of h.0 t part.home part.users o.2 o.3 h.1))),
      )
