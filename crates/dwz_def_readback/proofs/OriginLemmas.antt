-- The tops of a partial unit come from one unit, its first user.
use Rattle.std.proofs.Common.{◌≡◌, ℕ, zero, suc, ◌+◌, ◌<◌, ◌≤◌, Bool, true, false, List, [], ◌∷◌, map, Some, cond, eqb, refl, sym, ap, subst, ◌∙◌, arith, inl, inr}
use Rattle.dwz_def_reading.specs.Lists.{In}
use Rattle.dwz_def_reading.specs.Documents.{Attr, DwUnit, attr_map, first_named, unit_map}
use Rattle.dwz_def_tops.specs.Lists.{EachPair, Nth}
use Rattle.dwz_def_tops.proofs.Members.{each_in, nth_from}
use Rattle.dwz_def_tops.specs.Alike.{IsAlike, TopScope}
use Rattle.dwz_def_tops.specs.Spots.{EntryName, FileUnit, PartialOf, Top, tops_of}
use Rattle.dwz_def_tops.proofs.AlikePer.{alike_per}
use Rattle.dwz_def_tops.proofs.Tops.{tops_rise}
use Rattle.dwz_def_tops.proofs.TopOrder.{InOrder, units_rise}
use Rattle.dwz_def_images.specs.Homes.{IsChoice, Rule, is_home, moves, rep, users}
use Rattle.dwz_def_images.specs.Moves.{Move, first_unit, plan}
use Rattle.dwz_def_images.specs.Plan.{PartialUnit, partials}
use Rattle.dwz_def_images.proofs.UserLemmas.{Fair, moves_self, rep_is, used, used_by}
use Rattle.dwz_def_images.proofs.HeldLemmas.{part_found}
use Rattle.dwz_def_encoding.specs.Bases.{bases_in, offset_in}
use Rattle.dwz_def_encoding.proofs.ReadAgain.{same_bases}
use Rattle.dwz_def_readback.specs.Files.{bases_at, origin_in, unit_in_part}
use Rattle.dwz_def_readback.proofs.HomeLemmas.{part_is}

-- ---- tops stand in the order of their units

pub ordered : (tops : List Top) (a b : Top) → EachPair InOrder tops → EachPair (λ x y. x.number < y.number) tops → In a tops → In b tops → a.number ≤ b.number → a.unit ≤ b.unit
ordered [] a b o r p q le = absurd p
ordered (t ∷ tops) a b o r (inl p) (inl q) le = omega (arith, ap (λ (w : Top). w.unit) (sym p ∙ q))
ordered (t ∷ tops) a b o r (inl p) (inr q) le = subst (λ (w : Top). w.unit ≤ b.unit) p (each_in (InOrder t) b tops o.0 q)
ordered (t ∷ tops) a b o r (inr p) (inl q) le = (let first = each_in (λ y. t.number < y.number) a tops r.0 p in absurd (omega (arith, first, ap (λ (w : Top). w.number) q)))
ordered (t ∷ tops) a b o r (inr p) (inr q) le = ordered tops a b o.1 r.1 p q le

-- ---- what a root says

pub bases_found : (units : List (FileUnit EntryName)) (s k n : ℕ) (u : FileUnit EntryName) → Nth s units n u → n ≡ s + k → bases_at units k ≡ bases_in u.unit
unfolding bases_at
bases_found [] s k n u h e = absurd h
bases_found (f ∷ units) s zero n u (inl x) e = ap (λ (w : FileUnit EntryName). bases_in w.unit) x.1
bases_found (f ∷ units) s zero n u (inr r) e = absurd (omega (arith, e, nth_from (suc s) units n u r))
bases_found (f ∷ units) s (suc k) n u (inl x) e = absurd (omega (arith, x.0, e))
bases_found (f ∷ units) s (suc k) n u (inr r) e = bases_found units (suc s) k n u r (omega (arith, e))

-- it says the same where places get names
first_mapped : {P Q : Type 0} (f : P → Q) (name : ℕ) (attrs : List (Attr P)) → offset_in (first_named name (map (attr_map f) attrs)) ≡ offset_in (first_named name attrs)
unfolding first_named
first_mapped f name [] = refl
first_mapped f name (a ∷ attrs) = by (first_mapped f name attrs) (eqb a.name name) where
  by : offset_in (first_named name (map (attr_map f) attrs)) ≡ offset_in (first_named name attrs) → (b : Bool) → offset_in (cond b (Some (attr_map f a)) (first_named name (map (attr_map f) attrs)))
      ≡ offset_in (cond b (Some a) (first_named name attrs))
  by rest true = refl
  by rest false = rest

pub bases_mapped : {P Q : Type 0} (f : P → Q) (u : DwUnit P) → bases_in (unit_map f u) ≡ bases_in u
bases_mapped f u = same_bases _ _ _ _ _ _ (first_mapped f 0x72 u.root.attrs) (first_mapped f 0x10 u.root.attrs) (first_mapped f 0x8c u.root.attrs)

pub first_there : (tops : List Top) (t : Top) → In t tops → (x : Top) × In x tops × (x.unit ≡ first_unit tops)
first_there [] t h = absurd h
first_there (x ∷ tops) t h = (x, inl refl, refl)

module _ (scope : TopScope) (units : List (FileUnit EntryName)) (rule : Rule) (is : IsAlike scope units rule.alike) (choice : IsChoice units rule) (files : List ℕ) where
  abbrev m : Move
  m = plan rule units files

  -- a top that stands for those alike to it is of the first unit that has one
  first_user : (t : Top) → In t (tops_of units) → moves rule units t.number ≡ true → rep rule.alike units t.number ≡ t.number → (u : ℕ) → In u (users rule.alike units t.number) → t.unit ≤ u
  first_user t there moved own u user =
      let fair : Fair units rule = record { per = alike_per scope units rule.alike is; choice = choice } in
      let o = used_by rule.alike units t.number u user in
      let first = rep_is rule.alike units t.number t there (moves_self units rule fair t.number moved) in
      let least = first.least (tops_rise units) o.top o.there o.alike_is in
      let le = ordered (tops_of units) t o.top (units_rise 0 0 units) (tops_rise units) there o.there (omega (arith, least, own)) in
      omega (arith, le, o.unit_is)

  not_before : (n : ℕ) (part : PartialUnit) → Nth 0 (partials rule units files) n part → (a b : Top) → In a part.tops → In b part.tops → a.unit ≤ b.unit
  not_before n part nth a b x y =
      let fair : Fair units rule = record { per = alike_per scope units rule.alike is; choice = choice } in
      let p = part_is scope units rule is choice files n part nth in
      let ha = (p.tops a).0 x in
      let hb = (p.tops b).0 y in
      let moves_b : moves rule units b.number ≡ true = ap is_home hb.home ∙ p.moves in
      let user = used rule.alike units b.number b hb.there (moves_self units rule fair b.number moves_b) in
      first_user a ha.there (ap is_home ha.home ∙ p.moves) ha.rep b.unit (subst (In b.unit) (hb.users ∙ sym ha.users) user)

  -- it is of the unit that the first of them is of
  pub first_is : (n : ℕ) (part : PartialUnit) → Nth 0 m.parts n part → (t : Top) → In t part.tops → t.unit ≡ first_unit part.tops
  first_is n part nth t there =
      let o = first_there part.tops t there in
      let a = not_before n part nth t o.0 there o.1 in
      let b = not_before n part nth o.0 t o.1 there in
      omega (arith, a, b, o.2)

  -- what is known of the unit of such a top
  pub part_origin : (n : ℕ) (part : PartialUnit) → Nth 0 m.parts n part → (t : Top) → In t part.tops → bases_at units t.unit ≡ origin_in m units (PartialOf n)
  part_origin n part nth t there = ap (bases_at units) (first_is n part nth t there ∙ ap unit_in_part (sym (part_found 0 m.parts n n part nth (omega arith))))
