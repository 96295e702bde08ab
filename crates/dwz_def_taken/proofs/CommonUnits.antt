-- The units of the common file stand after as they stood before.
use Rattle.std.proofs.Common.{◌≡◌, ◌≢◌, ℕ, suc, ◌+◌, ◌≤◌, ◌==◌, Bool, true, false, List, [], ◌∷◌, ◌++◌, length, map, Option, Some, None, refl, sym, ap, subst, ◌∙◌, inl, inr, arith}
use Rattle.std.specs.Prelude.{unwrap_or}
use Rattle.dwz_def_reading.specs.Documents.{Attr, Doc, DwUnit, Entries, attr_map, entries_map}
use Rattle.dwz_def_reading.specs.Lists.{Each, In}
use Rattle.dwz_def_reading.specs.Trees.{End, Entry}
use Rattle.dwz_def_tops.specs.Lists.{Nth}
use Rattle.dwz_def_tops.specs.Spaces.{space_text, tops_under}
use Rattle.dwz_def_tops.proofs.Members.{each_append, each_in, nth_in}
use Rattle.dwz_def_tops.specs.Alike.{Apart}
use Rattle.dwz_def_tops.specs.Spots.{EntryName, FileUnit, Standing, Top, Within, entry_spots, file_numbers, number_tops, spot_in, spot_numbering, spots_from, top_spots, tops_of}
use Rattle.dwz_def_tops.proofs.AlikeLaws.{alike_decides}
use Rattle.dwz_def_images.specs.Homes.{Common, Home, candidate, file_of, is_home, moves, same_home, users}
use Rattle.dwz_def_images.specs.IsPlan.{IsHome, IsPart}
use Rattle.dwz_def_images.specs.Moves.{Move, image_in}
use Rattle.dwz_def_images.specs.Plan.{PartialUnit, partials, stand_in}
use Rattle.dwz_def_images.proofs.HomeLemmas.{file_of_top, home_is}
use Rattle.dwz_def_images.proofs.PlanLemmas.{are_parts, home_true}
use Rattle.dwz_def_images.proofs.UserLemmas.{moving, stay_fixed, used_by}
use Rattle.dwz_def_images.specs.Units.{common_units, partial_unit, partial_units}
use Rattle.dwz_def_taken.specs.declared.fixed.Fixed.{Fixed}
use Rattle.dwz_def_taken.specs.Beside.{Reused, as_compile, own_tops, reused_of}
use Rattle.dwz_def_taken.specs.Laws.{ArePlacedOver, IsReused}
use Rattle.dwz_def_taken.specs.MoveLaws.{StandsAs, SameOn}
use Rattle.dwz_def_taken.specs.Over.{as_part, common_parts, move_over, standing_unit}
use Rattle.dwz_def_taken.specs.Takes.{IsFixed, free_rule, free_test}
use Rattle.dwz_def_taken.proofs.NamesOver.{common_spots, from_common, named_over}
use Rattle.dwz_def_taken.proofs.OverLemmas.{common_image, free_two, moves_none}
use Rattle.dwz_def_taken.proofs.PlaceLemmas.{nth_move, nth_right}
use Rattle.dwz_def_taken.proofs.StandingUnits.{standing}

-- ---- the names in the common file are of its own tops

abbrev pub IsOwnName : ℕ → EntryName → Type 0
IsOwnName low (Within t path) = low ≤ t
IsOwnName low _ = Unit {0}

abbrev pub OwnSpot : ℕ → (ℕ × EntryName) → Type 0
OwnSpot low s = IsOwnName low s.1

below_own : (low n : ℕ) → low ≤ n → (path : List ℕ) (i : ℕ) (f : Entries ℕ) → Each (OwnSpot low) (entry_spots (Within n) path i f)
unfolding entry_spots
below_own low n h path i End = tt
below_own low n h path i (Entry e f g) =
    (h, each_append (OwnSpot low) (entry_spots (Within n) (i ∷ path) 0 f) (entry_spots (Within n) path (suc i) g) (below_own low n h (i ∷ path) 0 f) (below_own low n h path (suc i) g))

abbrev at : List ℕ → ℕ → Standing
at path i = record { path = path; index = i }

tops_own : (unit low : ℕ) (path : List ℕ) (i n : ℕ) (f : Entries ℕ) → low ≤ n → Each (OwnSpot low) (number_tops (spot_numbering unit) (at path i) n f)
tops_own unit low path i n End h = tt
tops_own unit low path i n (Entry e f g) h =
    go (space_text e) (tops_own unit low path (suc i) (suc n) g (omega (arith, h))) (tops_own unit low (i ∷ path) 0 n f h) (tops_own unit low path (suc i) (n + tops_under f) g (omega (arith, h)))
  where
    go : (o : Option (List ℕ)) → Each (OwnSpot low) (number_tops (spot_numbering unit) (at path (suc i)) (suc n) g) → Each (OwnSpot low) (number_tops (spot_numbering unit) (at (i ∷ path) 0) n f)
        → Each (OwnSpot low) (number_tops (spot_numbering unit) (at path (suc i)) (n + tops_under f) g)
        → Each (OwnSpot low) (elim o as (λ _. List (ℕ × EntryName)) [
          | None ↦ (spot_numbering unit).top (at path i) n e f (number_tops (spot_numbering unit) (at path (suc i)) (suc n) g)
          | Some name ↦ (spot_numbering unit).space (at path i) e (number_tops (spot_numbering unit) (at (i ∷ path) 0) n f)
              (number_tops (spot_numbering unit) (at path (suc i)) (n + tops_under f) g)
        ])
    go None a b c = (h, each_append (OwnSpot low) (entry_spots (Within n) [] 0 f) (number_tops (spot_numbering unit) (at path (suc i)) (suc n) g) (below_own low n h [] 0 f) a)
    go (Some name) a b c =
        (tt, each_append (OwnSpot low) (number_tops (spot_numbering unit) (at (i ∷ path) 0) n f) (number_tops (spot_numbering unit) (at path (suc i)) (n + tops_under f) g) b c)

pub spots_own : (low unit top : ℕ) (units : List (DwUnit ℕ)) → low ≤ top → Each (OwnSpot low) (spots_from unit top (map as_compile units))
unfolding spots_from top_spots
spots_own low unit top [] h = tt
spots_own low unit top (u ∷ units) h = (
  tt,
  (
    tt,
    each_append (OwnSpot low) (top_spots unit [] 0 top u.below) (spots_from (suc unit) (top + tops_under u.below) (map as_compile units)) (tops_own unit low [] 0 top u.below h)
        (spots_own low (suc unit) (top + tops_under u.below) units (omega (arith, h))),
  ),
)

pub spot_own : (low : ℕ) (spots : List (ℕ × EntryName)) (place : ℕ) → Each (OwnSpot low) spots → IsOwnName low (spot_in spots place)
unfolding spot_in
spot_own low [] place h = tt
spot_own low (s ∷ spots) place h = go (s.0 == place) (spot_own low spots place h.1) where
  go : (b : Bool) → IsOwnName low (spot_in spots place) → IsOwnName low (elim b as (λ _. EntryName) [ true ↦ s.1 | false ↦ spot_in spots place ])
  go true more = h.0
  go false more = more

-- two ways to give names that are one on all that stand for places
attrs_on : (g h : EntryName → EntryName) (k : ℕ → EntryName) → ((x : ℕ) → g (k x) ≡ h (k x)) → (attrs : List (Attr ℕ)) → Each (λ a. Each (λ s. g s ≡ h s) a.value.refs) (map (attr_map k) attrs)
attrs_on g h k same [] = tt
attrs_on g h k same (a ∷ attrs) = (refs a.value.refs, attrs_on g h k same attrs) where
  refs : (xs : List ℕ) → Each (λ s. g s ≡ h s) (map k xs)
  refs [] = tt
  refs (x ∷ xs) = (same x, refs xs)

same_on : (g h : EntryName → EntryName) (k : ℕ → EntryName) → ((x : ℕ) → g (k x) ≡ h (k x)) → (f : Entries ℕ) → SameOn g h (entries_map k f)
unfolding entries_map
same_on g h k same End = tt
same_on g h k same (Entry e f n) = ((same e.at, attrs_on g h k same e.attrs), same_on g h k same f, same_on g h k same n)

-- ---- partial units with a home

-- those of the common file come first
first_units : (r : Reused) (fixed : Fixed) (m : Move) (rest : List PartialUnit) (s : ℕ) (some : List (FileUnit EntryName))
    → ((n : ℕ) (f : FileUnit EntryName) → Nth s some n f → partial_unit m n ≡ standing_unit r f)
    → ((n : ℕ) → partial_units m Common n rest ≡ []) → partial_units m Common s (common_parts r fixed s some ++ rest) ≡ map (standing_unit r) some
unfolding partial_units common_parts
first_units r fixed m rest s [] is none = none s
first_units r fixed m rest s (f ∷ some) is none =
    let first = is s f (inl (refl, refl)) in
    let more = first_units r fixed m rest (suc s) some (λ n g nth. is n g (inr nth)) none in
    λ i. first i ∷ more i

no_units : (m : Move) (h : Home) (parts : List PartialUnit) → ((part : PartialUnit) → In part parts → part.home ≢ h) → (n : ℕ) → partial_units m h n parts ≡ []
unfolding partial_units
no_units m h [] none n = refl
no_units m h (part ∷ parts) none n = go (same_home part.home h) refl (no_units m h parts (λ p there. none p (inr there)) (suc n)) where
  go : (b : Bool) → same_home part.home h ≡ b → partial_units m h (suc n) parts ≡ []
      → (elim b as (λ _. List (DwUnit EntryName)) [ true ↦ partial_unit m n ∷ partial_units m h (suc n) parts | false ↦ partial_units m h (suc n) parts ]) ≡ []
  go true q more = absurd (none part (inl refl) (home_true part.home h q))
  go false q more = more

-- ---- of files over a finished common file

module _ (docs : List (Doc ℕ)) (common : Doc ℕ) (fixed : Fixed) (p : ArePlacedOver docs common) (fx : IsFixed (reused_of docs common) fixed) where
  abbrev r : Reused
  r = reused_of docs common

  abbrev files : List ℕ
  files = file_numbers 0 docs

  abbrev m : Move
  m = move_over (reused_of docs common) fixed (file_numbers 0 docs)

  re : IsReused r
  re = named_over docs common p

  -- free tops are alike in one file alone
  pub not_shared : (part : PartialUnit) → In part (partials (free_rule r fixed) r.units files) → part.home ≢ Common
  not_shared part there is =
      let rule = free_rule r fixed in
      let q = each_in (IsPart rule r.units) part (partials rule r.units files) (are_parts rule r.units files) there in
      let t = q.some.0 in
      let b = (q.tops t).0 q.some.1 in
      let moved : moves rule r.units t.number ≡ true = ap is_home b.home ∙ q.moves in
      let at_home : candidate (free_test r fixed) r.units t.number ≡ Common = sym (moving r.units rule t.number moved).at_home ∙ b.home ∙ is in
      let h = subst (IsHome r.units (users (free_test r fixed) r.units t.number)) at_home (home_is (free_test r fixed) r.units t.number) in
      h.4 (of_file t b.there h.0 h.2 ∙ sym (of_file t b.there h.1 h.3))
    where
      of_file : (t : Top) → In t (tops_of r.units) → (i : ℕ) → In i (users (free_test r fixed) r.units t.number) → file_of r.units i ≡ t.file
      of_file t there i user =
          let o = used_by (free_test r fixed) r.units t.number i user in
          let f = free_two r fixed files re fx t.number o.top.number o.alike_is in
          let same = (alike_decides Apart r.units).scoped t o.top there o.there f.alike_two in
          ap (file_of r.units) (sym o.unit_is) ∙ file_of_top r.units o.top o.there ∙ sym same

  -- a top of the common file stands for itself
  pub stands : (t : ℕ) → own_tops r ≤ t → m.stand t ≡ t
  stands t low =
      ap (λ (o : Option ℕ). unwrap_or o (stand_in (free_rule r fixed) r.units t)) (common_image r fixed files re fx t low)
      ∙ stay_fixed r.units (free_rule r fixed) t (moves_none r fixed files re fx t low)

  name_stands : (s : EntryName) → IsOwnName (own_tops r) s → image_in m (as_part (length r.units) s) ≡ as_part (length r.units) s
  name_stands (Within t path) h = ap (λ (n : ℕ). Within n path) (stands t h)
  name_stands _ h = refl

  pub stands_as : (n : ℕ) (f : FileUnit EntryName) → Nth 0 r.commons n f → StandsAs r fixed files n f
  stands_as n f nth =
      let first = length r.units in
      let o = from_common docs common f (nth_in 0 r.commons n f nth) in
      let named = re.all.units_named (first + n) f (nth_right 0 r.units r.commons (first + n) f (nth_move 0 (0 + first) r.commons n (first + n) f nth (omega arith))) in
      let spots = common_spots docs common in
      let low : own_tops r ≤ own_tops r = omega arith in
      let own = same_on (λ s. image_in m (as_part first s)) (as_part first) (spot_in spots)
      (λ x. name_stands (spot_in spots x) (spot_own (own_tops r) spots x (spots_own (own_tops r) first (own_tops r) common.units low))) o.source.below in
      record {
        nth = nth;
        kind = re.whole n f nth;
        unit = named.unit;
        root = named.root;
        tag = ap (λ (w : FileUnit EntryName). w.unit.root.tag) (sym o.is) ∙ each_in (λ u. u.root.tag ≡ 0x3c) o.source common.units p.tags o.there;
        own = subst (λ (w : FileUnit EntryName). SameOn (λ s. image_in m (as_part first s)) (as_part first) w.unit.below) o.is own;
      }

  pub common_stands : common_units m ≡ map (standing_unit r) r.commons
  unfolding common_units
  common_stands =
      first_units r fixed m (partials (free_rule r fixed) r.units files) 0 r.commons (λ n f nth. standing r fixed files n f (stands_as n f nth))
      (no_units m Common (partials (free_rule r fixed) r.units files) not_shared)
