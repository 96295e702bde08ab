-- Where a plan puts the tops of a partial unit, and those that stay; and whose partial units a unit uses.
use Rattle.std.proofs.Common.{◌≡◌, ◌⊎◌, ℕ, zero, suc, ◌+◌, ◌<◌, true, false, List, slice_index_or, inl, inr, refl, sym, ap, subst, ◌∙◌, arith}
use Rattle.std.specs.List.{range_with_len}
use Rattle.dwz_def_reading.specs.Lists.{Each, In}
use Rattle.dwz_def_tops.specs.Lists.{Nth, Rising}
use Rattle.dwz_def_tops.proofs.Members.{each_in, in_map_from, nth_in, nth_of}
use Rattle.dwz_def_tops.specs.Spots.{EntryName, FileUnit, Top, tops_of}
use Rattle.dwz_def_tops.proofs.Tops.{one_top}
use Rattle.dwz_def_images.specs.Homes.{Common, Home, Local, Rule, Stay, candidate, home, is_home, moves, rep, users}
use Rattle.dwz_def_images.specs.IsPlan.{IsHome, IsPart}
use Rattle.dwz_def_images.specs.Plan.{PartialUnit, partials}
use Rattle.dwz_def_images.proofs.HomeLemmas.{file_at, home_is}
use Rattle.dwz_def_images.proofs.PlanLemmas.{are_parts, one_place}
use Rattle.dwz_def_images.proofs.UserLemmas.{moving, stay_fixed}
use Rattle.dwz_plan.specs.declared.plan.Home.{Home as Place}
use Rattle.dwz_plan.specs.declared.plan.Home.TheVariants.{Common as InCommon, Local as InFile, Stay as InUnit}
use Rattle.dwz_plan.specs.Planned.{Planned, place_at}
use Rattle.dwz_plan.specs.Shows.{IsPlace, PartAt, ShowsPlan}
use Rattle.dwz_law_layout.specs.New.{PartPlaceLaw, StayPlaceLaw, UsedHomeLaw}

-- ---- numbers of files rise

each_from : (s k n : ℕ) → s < k → Each (λ m. s < m) (range_with_len k n)
each_from s k zero lt = tt
each_from s k (suc n) lt = (lt, each_from s (k + 1) n (omega arith))

range_rises : (s n : ℕ) → Rising (range_with_len s n)
range_rises s zero = tt
range_rises s (suc n) = (each_from s (s + 1) n (omega arith), range_rises (s + 1) n)

-- ---- places

not_home : (h : Home) → h ≡ Stay → is_home h ≡ true → ⊥
not_home h e m = (let f : false ≡ true = sym (ap is_home e) ∙ m in cc)

module _ (rule : Rule) (units : List (FileUnit EntryName)) (files : ℕ) where
  abbrev parts : List PartialUnit
  parts = partials rule units (range_with_len 0 files)

  -- the partial unit that holds what stands for the top is its own
  number_is : (n : ℕ) (part : PartialUnit) → Nth 0 parts n part → (t : Top) → In t part.tops → (p : ℕ) (h : Home) (us : List ℕ) → PartAt parts p h us (rep rule.alike units t.number) → p ≡ n
  number_is n part nth t there p h us at =
      let is = each_in (IsPart rule units) part parts (are_parts rule units (range_with_len 0 files)) (nth_in 0 parts n part nth) in
      let own = (is.tops t).0 there in
      let o = in_map_from (λ (x : Top). x.number) (rep rule.alike units t.number) at.part.tops at.holds in
      let none : 0 + p ≡ p = omega arith in
      let nth_p : Nth 0 parts p at.part = subst (λ (k : ℕ). Nth 0 parts k at.part) none (nth_of 0 parts p at.part at.there) in
      let is_p = each_in (IsPart rule units) at.part parts (are_parts rule units (range_with_len 0 files)) (nth_in 0 parts p at.part nth_p) in
      let other = (is_p.tops o.source).0 o.there in
      let same : o.source ≡ t = one_top units o.source t other.there own.there (o.is ∙ own.rep) in
      one_place rule units (range_with_len 0 files) (range_rises 0 files) p n at.part part t nth_p nth (subst (λ (x : Top). In x at.part.tops) same o.there) there

  pub part_place : (planned : Planned) → ShowsPlan rule units files planned → (n : ℕ) (part : PartialUnit) → Nth 0 parts n part → (t : Top) → In t part.tops
      → slice_index_or planned.homes t.number InUnit ≡ place_at part.home n
  part_place planned shows n part nth t there =
      let is = each_in (IsPart rule units) part parts (are_parts rule units (range_with_len 0 files)) (nth_in 0 parts n part nth) in
      let own = (is.tops t).0 there in
      by (slice_index_or planned.homes t.number InUnit) (shows.homes t own.there) own.home is.moves
    where
      by : (place : Place) → IsPlace rule units parts t.number place → home rule units t.number ≡ part.home → is_home part.home ≡ true → place ≡ place_at part.home n
      by (InCommon p) at same moved = (let k = number_is n part nth t there p Common (users rule.alike units t.number) at.1 in ap InCommon k ∙ ap (λ (h : Home). place_at h n) (sym at.0 ∙ same))
      by (InFile p) at same moved = (let k = number_is n part nth t there p (Local at.0) (users rule.alike units t.number) at.2 in ap InFile k ∙ ap (λ (h : Home). place_at h n) (sym at.1 ∙ same))
      by InUnit at same moved = absurd (not_home part.home (sym same ∙ at) moved)

  pub stay_place : (planned : Planned) → ShowsPlan rule units files planned → (t : Top) → In t (tops_of units) → moves rule units t.number ≡ false
      → slice_index_or planned.homes t.number InUnit ≡ InUnit
  stay_place planned shows t there stays = by (slice_index_or planned.homes t.number InUnit) (shows.homes t there) where
    by : (place : Place) → IsPlace rule units parts t.number place → place ≡ InUnit
    by (InCommon p) at = absurd (let e : true ≡ false = sym (ap is_home at.0) ∙ stays in cc)
    by (InFile p) at = absurd (let e : true ≡ false = sym (ap is_home at.1) ∙ stays in cc)
    by InUnit at = refl

pub part_places : PartPlaceLaw
part_places rule units files planned shows n part nth t there = part_place rule units files planned shows n part nth t there

pub stay_places : StayPlaceLaw
stay_places rule units files planned shows t there stays = (stay_place rule units files planned shows t there stays, stay_fixed units rule t.number stays)

-- ---- users

pub used_homes : UsedHomeLaw
used_homes rule units files n part nth i u unit user =
    let parts = partials rule units files in
    let is = each_in (IsPart rule units) part parts (are_parts rule units files) (nth_in 0 parts n part nth) in
    let t = is.some.0 in
    let own = (is.tops t).0 is.some.1 in
    let moved : moves rule units t.number ≡ true = ap is_home own.home ∙ is.moves in
    let home_of : part.home ≡ candidate rule.alike units t.number = sym own.home ∙ (moving units rule t.number moved).at_home in
    let is_so : IsHome units part.users part.home =
    subst (λ (h : Home). IsHome units part.users h) (sym home_of) (subst (λ (us : List ℕ). IsHome units us (candidate rule.alike units t.number)) own.users (home_is rule.alike units t.number)) in
    by part.home is_so is.moves
  where
    by : (h : Home) → IsHome units part.users h → is_home h ≡ true → (h ≡ Common) ⊎ (h ≡ Local u.file)
    by Common at moved = inl refl
    by (Local file) at moved = inr (ap Local (sym (at.5 i user) ∙ file_at units 0 i i u unit (omega arith)))
    by Stay at moved = absurd cc
