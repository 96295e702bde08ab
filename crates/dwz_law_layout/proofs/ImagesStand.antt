-- What stands for an entry of a file stands for itself; it stands in that file, or in the common one.
use Rattle.std.proofs.Common.{◌≡◌, ◌⊎◌, ℕ, ◌+◌, ◌==◌, ◌&&◌, true, false, List, [], ◌∷◌, map, None, refl, sym, ap, subst, ◌∙◌, inl, inr, arith, eq-eqb}
use Rattle.std.specs.Prelude.{slice_index_or}
use Rattle.dwz_def_reading.specs.Lists.{In}
use Rattle.dwz_def_reading.specs.Trees.{End}
use Rattle.dwz_def_reading.proofs.ListFacts.{in_left, in_map, in_right}
use Rattle.dwz_def_reading.specs.Documents.{DwUnit}
use Rattle.dwz_def_tops.specs.Lists.{Nth}
use Rattle.dwz_def_tops.specs.Shown.{keys, unit_keys, units_keys}
use Rattle.dwz_def_tops.proofs.Members.{any_true, nth_of}
use Rattle.dwz_def_tops.specs.Spots.{EntryName, Import, InChain, InType, PartialOf, PartialRoot, RootOf, SpaceAt, Top, UnitOf, Within, name_list, tops_of}
use Rattle.dwz_graph.specs.Names.{top_in}
use Rattle.dwz_def_images.specs.Homes.{Common, Home, Local}
use Rattle.dwz_def_images.specs.Moves.{Move, image_in}
use Rattle.dwz_def_images.specs.Plan.{PartialUnit}
use Rattle.dwz_plan.specs.declared.plan.Home.{Home as Place}
use Rattle.dwz_plan.specs.declared.plan.Home.TheVariants.{Common as InCommon, Local as InOwn, Stay as InUnit}
use Rattle.dwz_plan.specs.ShowsMove.{HoldsAt, IsPlaceIn}
use Rattle.dwz_def_images.specs.After.{AreOld}
use Rattle.dwz_def_images.specs.Units.{changes, common_units, kept_units, out_units, partial_unit, partial_units, tree}
use Rattle.dwz_def_images.proofs.OldFiles.{files_old}
use Rattle.dwz_def_readback.proofs.WithinLemmas.{parts_to}
use Rattle.dwz_layout_numbers.proofs.OwnerKeys.{own_keys, top_labelled, tree_top}
use Rattle.dwz_layout_numbers.proofs.Paths.{paths_of}
use Rattle.dwz_law_layout.specs.Beside.{Beside}
use Rattle.dwz_law_layout.specs.Facts.{AreFacts, RunFacts, docs, move, units}
use Rattle.dwz_law_layout.proofs.ReadFiles.{all_placed}

-- ---- names

-- it is of an entry of a top, or stands for itself whatever moves
pub spot_cases : (s : EntryName) → ((top : ℕ) × (path : List ℕ) × (s ≡ Within top path)) ⊎ ((top_in s ≡ None) × ((m : Move) → image_in m s ≡ s))
spot_cases (Within top path) = inl (top, path, refl)
spot_cases (UnitOf i) = inr (refl, λ m. refl)
spot_cases (RootOf i) = inr (refl, λ m. refl)
spot_cases (SpaceAt i path) = inr (refl, λ m. refl)
spot_cases (InType i path) = inr (refl, λ m. refl)
spot_cases (PartialOf i) = inr (refl, λ m. refl)
spot_cases (PartialRoot i) = inr (refl, λ m. refl)
spot_cases (InChain p i d) = inr (refl, λ m. refl)
spot_cases (Import i p) = inr (refl, λ m. refl)

pub in_units : (u : DwUnit EntryName) (us : List (DwUnit EntryName)) (s : EntryName) → In u us → In s (unit_keys u) → In s (units_keys us)
unfolding units_keys
in_units u [] s is h = absurd is
in_units u (v ∷ us) s (inl e) h = in_left s (unit_keys v) (units_keys us) (subst (λ (w : DwUnit EntryName). In s (unit_keys w)) (sym e) h)
in_units u (v ∷ us) s (inr r) h = in_right s (unit_keys v) (units_keys us) (in_units u us s r h)

module _ {beside : Beside} (f : RunFacts beside) (facts : AreFacts f) where
  pub old : AreOld (units f)
  old = files_old (docs f) (all_placed f facts)

  -- something of the file of a top that moves moves
  pub top_changes : (t : Top) → In t (tops_of (units f)) → (move f).gone t.number ≡ true → changes (move f) (units f) t.file ≡ true
  unfolding changes
  top_changes t is gone =
      any_true (λ (u : Top). u.file == t.file && (move f).gone u.number) t (tops_of (units f)) is (rw (eq-eqb t.file t.file refl, gone) refl)

  -- ---- in a partial unit

  abbrev pub HasAt : ℕ → Home → ℕ → Type 0
  HasAt p h top = HoldsAt (move f).parts p h top

  nth_part : (p : ℕ) (h : Home) (top : ℕ) → (at : HasAt p h top) → Nth 0 (move f).parts p at.part
  nth_part p h top at = let none : 0 + p ≡ p = omega arith in subst (λ (w : ℕ). Nth 0 (move f).parts w at.part) none (nth_of 0 (move f).parts p at.part at.there)

  part_has : (p : ℕ) (h : Home) (r : ℕ) (path : List ℕ) → HasAt p h r → (rt : Top) → In rt (tops_of (units f)) → rt.number ≡ r → In path (paths_of rt.below)
      → (move f).stand r ≡ r → In (Within r path) (unit_keys (partial_unit (move f) p))
  unfolding unit_keys
  part_has p h r path at rt is number there stands =
      let m = move f in
      let s = Within r path in
      let fixed : image_in m s ≡ s = ap (λ (w : ℕ). Within w path) stands in
      let has = facts.holds p at.part (nth_part p h r at) rt is (subst (λ (w : ℕ). In w (map (λ (x : Top). x.number) at.part.tops)) (sym number) at.holds) in
      let own : In s (own_keys rt) = subst (In s) (sym (top_labelled rt (old.tops_named rt is)))
      (subst (λ (w : ℕ). In (Within w path) (map (Within rt.number) (paths_of rt.below))) number (in_map (Within rt.number) path (paths_of rt.below) there)) in
      let mapped : In s (map (image_in m) (own_keys rt)) = subst (λ (w : EntryName). In w (map (image_in m) (own_keys rt))) fixed (in_map (image_in m) s (own_keys rt) own) in
      let stands_there : In s (keys (tree (image_in m) (m.rows p) End)) = tree_top (image_in m) (m.rows p) End (name_list rt) rt has s mapped in
      inr (inr stands_there)

  -- the common file, or the file with that number, has the name
  abbrev pub IsNear : ℕ → EntryName → Type 0
  IsNear n s = In s (units_keys (common_units (move f))) ⊎ In s (units_keys (out_units (move f) (units f) n))

  in_own : (n p : ℕ) (part : PartialUnit) (s : EntryName) → Nth 0 (move f).parts p part → part.home ≡ Local n → In s (unit_keys (partial_unit (move f) p)) → IsNear n s
  unfolding out_units
  in_own n p part s nth at h =
      let m = move f in
      let v = partial_unit m p in
      let there = parts_to m (Local n) 0 m.parts p part nth at in
      inr (in_units v (out_units m (units f) n) s (in_left v (partial_units m (Local n) 0 m.parts) (kept_units m (units f) n 0 (units f)) there) h)

  in_common : (n p : ℕ) (part : PartialUnit) (s : EntryName) → Nth 0 (move f).parts p part → part.home ≡ Common → In s (unit_keys (partial_unit (move f) p)) → IsNear n s
  unfolding common_units
  in_common n p part s nth at h = inl (in_units (partial_unit (move f) p) (common_units (move f)) s (parts_to (move f) Common 0 (move f).parts p part nth at) h)

  -- what stands for an entry of a top that moves, if it is of a file
  pub moved_near : (t : Top) → In t (tops_of (units f)) → (move f).gone t.number ≡ true → (rt : Top) → In rt (tops_of (units f)) → rt.number ≡ (move f).stand t.number
      → (path : List ℕ) → In path (paths_of rt.below) → IsNear t.file (Within ((move f).stand t.number) path)
  moved_near t is gone rt rt_is number path there = by (slice_index_or f.planned.homes t.number InUnit) (facts.shows.homes t is) where
    stands : (move f).stand ((move f).stand t.number) ≡ (move f).stand t.number
    stands = facts.goes.twice t is gone

    has : (p : ℕ) (h : Home) → HasAt p h ((move f).stand t.number) → In (Within ((move f).stand t.number) path) (unit_keys (partial_unit (move f) p))
    has p h at = part_has p h ((move f).stand t.number) path at rt rt_is number there stands

    by : (place : Place) → IsPlaceIn (move f) t.number place → IsNear t.file (Within ((move f).stand t.number) path)
    by (InCommon p) q = in_common t.file p q.1.part (Within ((move f).stand t.number) path) (nth_part p Common ((move f).stand t.number) q.1) q.1.home (has p Common q.1)
    by (InOwn p) q =
        (let at : q.2.part.home ≡ Local t.file = q.2.home ∙ ap (λ (w : ℕ). Local w) (facts.goes.near t is gone p q.0 q.2) in
        in_own t.file p q.2.part (Within ((move f).stand t.number) path) (nth_part p (Local q.0) ((move f).stand t.number) q.2) at (has p (Local q.0) q.2))
    by InUnit q = absurd (let no : true ≡ false = sym gone ∙ q in cc)
