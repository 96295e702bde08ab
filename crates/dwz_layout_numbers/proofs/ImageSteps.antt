-- The number that is computed of an image is that of its name.
use Rattle.std.proofs.Common.{◌≡◌, ℕ, ◌+◌, ◌-◌, ◌<◌, ◌≤◌, ◌^◌, List, [], ◌∷◌, ◌++◌, length, get_or, take, Some, None, slice_get, refl, sym, ap, subst, ◌∙◌, arith}
use Rattle.std.proofs.lemmas.List.{take_all, take_more}
use Rattle.std.proofs.lemmas.Option.{slice_get-get_or}
use Rattle.std.specs.Prelude.{slice_index}
use Rattle.dwz_def_reading.proofs.ListFacts.{get_first, got_below}
use Rattle.dwz_def_reading.specs.Documents.{Doc}
use Rattle.dwz_def_tops.specs.Spots.{EntryName, Import, InChain, InType, PartialOf, PartialRoot, RootOf, SpaceAt, UnitOf, Within, tops_of, units_of}
use Rattle.dwz_def_tops.proofs.TopNumbers.{top_at, tops_numbers}
use Rattle.dwz_def_images.specs.Moves.{Move, image_in}
use Rattle.dwz_plan.specs.Planned.{Planned}
use Rattle.dwz_graph.specs.Index.{Index}
use Rattle.dwz_graph.specs.Names.{top_in}
use Rattle.dwz_graph.proofs.TopLemmas.{get_later}
use Rattle.dwz_graph.specs.AllNames.{all_names}
use Rattle.dwz_layout_numbers.specs.Images.{AreImages, IsFile, IsImage, IsPlanned}
use Rattle.dwz_layout_numbers.proofs.ImageLemmas.{image_there, stand_inside, top_inside}

-- ---- the entry among all

pub record Stands (docs : List (Doc ℕ)) (names : List EntryName) (start entry : ℕ) : Type 0 where
  pub name : EntryName
  pub is : slice_get names entry ≡ Some name
  pub among : slice_get (all_names docs) (start + entry) ≡ Some name

pub stands : (docs : List (Doc ℕ)) (names : List EntryName) (x : Index) (start entry : ℕ) → IsFile docs names x start → entry < length x.steps → Stands docs names start entry
stands docs names x start entry h lt =
    let len = h.shows.len in
    let s = get_or names entry (UnitOf 0) in
    let e : slice_get names entry ≡ Some s = slice_get-get_or names entry (UnitOf 0) (omega (arith, len, lt)) in
    record {
      name = s;
      is = e;
      among =
          (λ j. slice_get (h.stand.parts j) (sym h.stand.start_is j + entry))
          ∙ get_later h.stand.before (names ++ h.stand.after) entry s (get_first names h.stand.after entry s e);
    }

-- ---- what is in no top keeps its number

no_top : (m : Move) (s : EntryName) → top_in s ≡ None → image_in m s ≡ s
no_top m (Within top path) e = absurd cc
no_top m (UnitOf i) e = refl
no_top m (RootOf i) e = refl
no_top m (SpaceAt i path) e = refl
no_top m (InType i path) e = refl
no_top m (PartialOf i) e = refl
no_top m (PartialRoot i) e = refl
no_top m (InChain p i d) e = refl
no_top m (Import i p) e = refl

pub in_a_top : (top : ℕ) (s : EntryName) → top_in s ≡ Some top → (path : List ℕ) × (s ≡ Within top path)
in_a_top top (Within n path) e = (path, (let same : n ≡ top = cc in ap (λ (w : ℕ). Within w path) same))
in_a_top top (UnitOf i) e = absurd cc
in_a_top top (RootOf i) e = absurd cc
in_a_top top (SpaceAt i path) e = absurd cc
in_a_top top (InType i path) e = absurd cc
in_a_top top (PartialOf i) e = absurd cc
in_a_top top (PartialRoot i) e = absurd cc
in_a_top top (InChain p i d) e = absurd cc
in_a_top top (Import i p) e = absurd cc

pub image_none : (docs : List (Doc ℕ)) (m : Move) (names : List EntryName) (x : Index) (start entry : ℕ) → IsFile docs names x start → entry < length x.steps
    → ((s : EntryName) → slice_get names entry ≡ Some s → None ≡ top_in s) → IsImage docs m names entry (start + entry)
image_none docs m names x start entry h lt none =
    let o = stands docs names x start entry h lt in
    record { name = o.name; is = o.is; there = o.among ∙ ap (λ (w : EntryName). Some w) (sym (no_top m o.name (sym (none o.name o.is)))) }

-- ---- what is in a top is counted from that

abbrev pub Counts : Planned → List ℕ → (top n r : ℕ) → Type 0
Counts plan tops top n r =
    (from to : ℕ) → slice_get tops top ≡ Some from → slice_get tops (slice_index plan.stand_ins top) ≡ Some to → from ≤ n → to + (n - from) < 2 ^ 32 → r ≡ to + (n - from)

pub image_in_top : (docs : List (Doc ℕ)) (m : Move) (plan : Planned) (tops : List ℕ) → IsPlanned docs m plan tops → (n r top : ℕ) (path : List ℕ)
    → slice_get (all_names docs) n ≡ Some (Within top path) → Counts plan tops top n r
    → slice_get (all_names docs) r ≡ Some (image_in m (Within top path))
image_in_top docs m plan tops p n r top path e counts =
    let units = units_of docs in
    let many = p.tops_are.many in
    let lt = top_inside docs top path n e in
    let t = top_at 0 (tops_of units) top (tops_numbers units) (omega arith) (omega (arith, lt)) in
    let stand = m.stand top in
    let far : stand < length (tops_of units) = stand_inside docs m p.stand top lt in
    let is_stand : slice_index plan.stand_ins top ≡ stand = (λ j. slice_index plan.stand_ins (sym t.2 j)) ∙ p.shows t.0 t.1 ∙ ap m.stand t.2 in
    let from = get_or tops top 0 in
    let to = get_or tops stand 0 in
    let at_from : slice_get tops top ≡ Some from = slice_get-get_or tops top 0 (omega (arith, many, lt)) in
    let at_to : slice_get tops stand ≡ Some to = slice_get-get_or tops stand 0 (omega (arith, many, far)) in
    let x = image_there docs m p.stand top path n from to e (p.tops_are.each top from at_from) (p.tops_are.each stand to at_to) in
    let few = p.few in
    let fits = got_below (all_names docs) (to + (n - from)) (image_in m (Within top path)) x.1 in
    let is : r ≡ to + (n - from) = counts from to at_from (ap (slice_get tops) is_stand ∙ at_to) x.0 (omega (arith, few, fits)) in
    ap (slice_get (all_names docs)) is ∙ x.1

pub image_some : (docs : List (Doc ℕ)) (m : Move) (plan : Planned) (tops : List ℕ) (names : List EntryName) (x : Index) (start entry top r : ℕ) → IsPlanned docs m plan tops
    → IsFile docs names x start → entry < length x.steps
    → ((s : EntryName) → slice_get names entry ≡ Some s → Some top ≡ top_in s) → Counts plan tops top (start + entry) r → IsImage docs m names entry r
image_some docs m plan tops names x start entry top r p h lt some counts =
    let o = stands docs names x start entry h lt in
    let w = in_a_top top o.name (sym (some o.name o.is)) in
    record {
      name = o.name;
      is = o.is;
      there = image_in_top docs m plan tops p (start + entry) r top w.0 (o.among ∙ ap (λ (s : EntryName). Some s) w.1) counts
          ∙ ap (λ (s : EntryName). Some (image_in m s)) (sym w.1);
    }

-- ---- one after the other

images_append : (docs : List (Doc ℕ)) (m : Move) (names : List EntryName) (entries numbers : List ℕ) (entry number : ℕ) → AreImages docs m names entries numbers
    → IsImage docs m names entry number → AreImages docs m names (entries ++ entry ∷ []) (numbers ++ number ∷ [])
images_append docs m names [] [] entry number h k = (k, tt)
images_append docs m names [] (n ∷ numbers) entry number h k = absurd h
images_append docs m names (e ∷ entries) [] entry number h k = absurd h
images_append docs m names (e ∷ entries) (n ∷ numbers) entry number h k = (h.0, images_append docs m names entries numbers entry number h.1 k)

pub images_more : (docs : List (Doc ℕ)) (m : Move) (names : List EntryName) (refs old new : List ℕ) (i number : ℕ) → i < length refs → AreImages docs m names (take i refs) old
    → IsImage docs m names (get_or refs i 0) number → new ≡ old ++ number ∷ []
    → AreImages docs m names (take (i + 1) refs) new
images_more docs m names refs old new i number lt h k is =
    subst (λ (w : List ℕ). AreImages docs m names w new) (sym (take_more refs i 0 lt))
    (subst (λ (w : List ℕ). AreImages docs m names (take i refs ++ get_or refs i 0 ∷ []) w) (sym is) (images_append docs m names (take i refs) old (get_or refs i 0) number h k))

pub images_all : (docs : List (Doc ℕ)) (m : Move) (names : List EntryName) (refs numbers : List ℕ) (i : ℕ) → length refs ≤ i → AreImages docs m names (take i refs) numbers
    → AreImages docs m names refs numbers
images_all docs m names refs numbers i le h = subst (λ (w : List ℕ). AreImages docs m names w numbers) (take_all i refs le) h
