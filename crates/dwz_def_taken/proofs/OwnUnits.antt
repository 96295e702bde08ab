-- Over a finished common file each name is of one unit, and stands there once.
use Rattle.std.proofs.Common.{◌≡◌, ℕ, suc, ◌+◌, ◌-◌, ◌<◌, ◌≤◌, ◌⊎◌, ◌||◌, Bool, true, false, List, [], ◌∷◌, ◌++◌, length, Option, Some, None, refl, sym, ap, subst, ◌∙◌, inl, inr, arith}
use Rattle.std.specs.Prelude.{nat_lt, unwrap_or}
use Rattle.std.specs.Option.{is_some, option_map}
use Rattle.std.proofs.lemmas.Bool.{lt-ltb, ltb-true}
use Rattle.dwz_def_reading.specs.Documents.{Compile, Doc, Kind, Node, Partial, language}
use Rattle.dwz_def_reading.specs.Lists.{Each, In}
use Rattle.dwz_def_reading.specs.Trees.{End}
use Rattle.dwz_def_tops.specs.Lists.{EachPair, NoneTwice, Nth, Rising}
use Rattle.dwz_def_tops.specs.Shown.{keys, unit_keys}
use Rattle.dwz_def_tops.proofs.Members.{each_in, nth_from, nth_get, nth_in}
use Rattle.dwz_def_tops.specs.Spots.{ASpace, ATop, EntryName, FileUnit, Import, InChain, InType, LabelledSpaces, LabelledTop, Nothing, PartialOf, PartialRoot, RootOf, Row, SpaceAt, Top, UnitOf, Within, file_numbers, rows_of_root, tops_of}
use Rattle.dwz_def_tops.proofs.RowLemmas.{unit_row}
use Rattle.dwz_def_tops.proofs.Tops.{one_top, row_top}
use Rattle.dwz_def_images.specs.Homes.{is_home, moves}
use Rattle.dwz_def_images.specs.IsPlan.{BelongsTo, Has, IsPart, Item, OfSpace, OfTop, numbers}
use Rattle.dwz_def_images.specs.Moves.{Move, image_in, part_at, row_in_part}
use Rattle.dwz_def_images.specs.Plan.{PartialUnit, part_row, partials, stand_in}
use Rattle.dwz_def_images.proofs.PlanLemmas.{are_parts, one_place}
use Rattle.dwz_def_images.proofs.PartRows.{part_is}
use Rattle.dwz_def_images.proofs.UserLemmas.{move_stand, moves_self, stay_fixed}
use Rattle.dwz_def_tops.specs.UnitNames.{IsNamedBelow}
use Rattle.dwz_def_images.specs.Held.{Kinded}
use Rattle.dwz_def_images.specs.Units.{partial_root, partial_unit, tree}
use Rattle.dwz_def_images.proofs.ApartKept.{row_none}
use Rattle.dwz_def_images.proofs.ApartOwn.{New, Old, UnitNumber}
use Rattle.dwz_def_images.proofs.ApartParts.{part_none}
use Rattle.dwz_def_images.proofs.ApartTrees.{Fixed as StandsFixed, Good, IsSpaceSpot, IsWithin, good_of, labelled_map, row_keys, tree_none}
use Rattle.dwz_def_images.proofs.FileLemmas.{numbers_rise}
use Rattle.dwz_def_images.proofs.KindLemmas.{part_row_kinded, top_plain}
use Rattle.dwz_def_images.proofs.KeyLemmas.{FromSpaceKey, FromTopKey, LastKey, TreeKey, tree_key}
use Rattle.dwz_def_images.proofs.OldRows.{row_kinded, space_place, tops_among}
use Rattle.dwz_def_taken.specs.declared.fixed.Fixed.{Fixed}
use Rattle.dwz_def_taken.specs.Beside.{Reused, own_tops, reused_of, together}
use Rattle.dwz_def_taken.specs.Laws.{ArePlacedOver, IsReused}
use Rattle.dwz_def_taken.specs.Over.{as_part, common_parts, common_row, move_over, row_map, top_map}
use Rattle.dwz_def_taken.specs.Takes.{InPart, IsFixed, free_rule, image_at}
use Rattle.dwz_def_taken.proofs.ClosedOver.{local_rows}
use Rattle.dwz_def_taken.proofs.CommonParts.{common_nth, length-common}
use Rattle.dwz_def_taken.proofs.CommonUnits.{stands}
use Rattle.dwz_def_taken.proofs.LookTops.{own_number, own_together, part_number}
use Rattle.dwz_def_taken.proofs.NamesOver.{named_over}
use Rattle.dwz_def_taken.proofs.OnceUnits.{IsUnitOwn}
use Rattle.dwz_def_taken.proofs.OverLemmas.{fair, free_none, free_two}
use Rattle.dwz_def_taken.proofs.PlaceLemmas.{in_part, nth_move, nth_right, whole}
use Rattle.dwz_def_taken.proofs.RowMaps.{item_map, kinded_map, map_has}
use Rattle.dwz_def_tops.proofs.FiledTops.{nth_cases}

pub no_end : (k : EntryName) → In k (keys End) → ⊥
unfolding keys
no_end k e = e

pub none_end : NoneTwice (keys {K = EntryName} End)
unfolding keys
none_end = tt

-- spaces at their names keep these
keys_map : (first unit : ℕ) (path : List ℕ) (i : ℕ) (row : Row) → LabelledSpaces unit path i row → row_keys (row_map (as_part first) row) ≡ row_keys row
unfolding row_map
keys_map first unit path i Nothing h = refl
keys_map first unit path i (ATop t next) h = ap (λ (w : List EntryName). Within t.number [] ∷ w) (keys_map first unit path (suc i) next h)
keys_map first unit path i (ASpace e inner next) h =
    let at : as_part first e.at ≡ e.at = ap (as_part first) h.0 ∙ sym h.0 in
    let a = keys_map first unit (i ∷ path) 0 inner h.1 in
    let b = keys_map first unit path (suc i) next h.2 in
    λ j. at j ∷ (a j ++ b j)

none_taken_gone : (o : Option ℕ) (b : Bool) → (is_some o || b) ≡ false → (o ≡ None) × (b ≡ false)
none_taken_gone None b e = (refl, e)
none_taken_gone (Some c) b e = absurd cc

module _ (docs : List (Doc ℕ)) (common : Doc ℕ) (fixed : Fixed) (p : ArePlacedOver docs common) (fx : IsFixed (reused_of docs common) fixed) where
  abbrev r : Reused
  r = reused_of docs common

  abbrev files : List ℕ
  files = file_numbers 0 docs

  abbrev m : Move
  m = move_over (reused_of docs common) fixed (file_numbers 0 docs)

  abbrev f : EntryName → EntryName
  f = image_in (move_over (reused_of docs common) fixed (file_numbers 0 docs))

  abbrev firsts : List PartialUnit
  firsts = common_parts (reused_of docs common) fixed 0 (reused_of docs common).commons

  abbrev locals : List PartialUnit
  locals = partials (free_rule (reused_of docs common) fixed) (reused_of docs common).units (file_numbers 0 docs)

  re : IsReused r
  re = named_over docs common p

  -- ---- tops of units after

  abbrev pub IsLocal : ℕ → Top → Type 0
  IsLocal n t = (part : PartialUnit) × Nth (length firsts) locals n part × In t part.tops

  -- it stands in that partial unit, or is one of that old unit and stays
  abbrev pub Stands : UnitNumber → Top → Type 0
  Stands (New n) t = InPart r n t ⊎ IsLocal n t
  Stands (Old i) t = In t (tops_of r.units) × (t.unit ≡ i) × (m.gone t.number ≡ false)

  fits : (n : ℕ) (part : PartialUnit) → Nth (length firsts) locals n part → IsPart (free_rule r fixed) r.units part
  fits n part nth = each_in (IsPart (free_rule r fixed) r.units) part locals (are_parts (free_rule r fixed) r.units files) (nth_in (length firsts) locals n part nth)

  local_top : (n : ℕ) (t : Top) → (h : IsLocal n t) → BelongsTo (free_rule r fixed) r.units h.0 t
  local_top n t h = ((fits n h.0 h.1).tops t).0 h.2

  local_moves : (n : ℕ) (t : Top) → IsLocal n t → moves (free_rule r fixed) r.units t.number ≡ true
  local_moves n t h = ap is_home (local_top n t h).home ∙ (fits n h.0 h.1).moves

  common_low : (n : ℕ) (t : Top) → InPart r n t → own_tops r ≤ t.number
  common_low n t h = part_number r (whole r re) t (in_part r re n t h)

  stands_there : (w : UnitNumber) (t : Top) → Stands w t → In t (tops_of (together r))
  stands_there (New n) t (inl h) = h.0
  stands_there (New n) t (inr h) = own_together r (whole r re) t (local_top n t h).there
  stands_there (Old i) t h = own_together r (whole r re) t h.0

  pub stands_fixed : (w : UnitNumber) (t : Top) → Stands w t → StandsFixed m.stand t
  stands_fixed (New n) t (inl h) = (re.all.tops_named t h.0, stands docs common fixed p fx t.number (common_low n t h))
  stands_fixed (New n) t (inr h) =
      let rule = free_rule r fixed in
      let b = local_top n t h in
      let mv = local_moves n t h in
      let two = free_two r fixed files re fx t.number t.number (moves_self r.units rule (fair r fixed files re fx) t.number mv) in
      let none = free_none r fixed files re fx t.number two.first in
      (re.own.tops_named t b.there, ap (λ (o : Option ℕ). unwrap_or o (stand_in rule r.units t.number)) none ∙ move_stand r.units rule t.number mv ∙ b.rep)
  stands_fixed (Old i) t h =
      let rule = free_rule r fixed in
      let o = none_taken_gone (image_at fixed t.number) (moves rule r.units t.number) h.2 in
      (re.own.tops_named t h.0, ap (λ (o : Option ℕ). unwrap_or o (stand_in rule r.units t.number)) o.0 ∙ stay_fixed r.units rule t.number o.1)

  stands_once : (v w : UnitNumber) (t : Top) → Stands v t → Stands w t → v ≡ w
  stands_once (New a) (New b) t (inl x) (inl y) = let same : a ≡ b = omega (arith, x.1, y.1) in ap (λ (n : ℕ). New n) same
  stands_once (New a) (New b) t (inl x) (inr y) = let low = common_low a t x in let high = own_number r (whole r re) t (local_top b t y).there in absurd (omega (arith, low, high))
  stands_once (New a) (New b) t (inr x) (inl y) = let low = common_low b t y in let high = own_number r (whole r re) t (local_top a t x).there in absurd (omega (arith, low, high))
  stands_once (New a) (New b) t (inr x) (inr y) =
      let from_a = nth_from (length firsts) locals a x.0 x.1 in
      let from_b = nth_from (length firsts) locals b y.0 y.1 in
      let one = one_place (free_rule r fixed) r.units files (numbers_rise 0 docs) (a - length firsts) (b - length firsts) x.0 y.0 t
      (nth_move (length firsts) 0 locals a (a - length firsts) x.0 x.1 (omega (arith, from_a))) (nth_move (length firsts) 0 locals b (b - length firsts) y.0 y.1 (omega (arith, from_b))) x.2 y.2 in
      let same : a ≡ b = omega (arith, from_a, from_b, one) in
      ap (λ (n : ℕ). New n) same
  stands_once (New a) (Old i) t (inl x) y = let low = common_low a t x in let high = own_number r (whole r re) t y.0 in absurd (omega (arith, low, high))
  stands_once (New a) (Old i) t (inr x) y =
      absurd (let o = none_taken_gone (image_at fixed t.number) (moves (free_rule r fixed) r.units t.number) y.2 in let z = sym (local_moves a t x) ∙ o.1 in cc)
  stands_once (Old i) (New b) t x (inl y) = let low = common_low b t y in let high = own_number r (whole r re) t x.0 in absurd (omega (arith, low, high))
  stands_once (Old i) (New b) t x (inr y) =
      absurd (let o = none_taken_gone (image_at fixed t.number) (moves (free_rule r fixed) r.units t.number) x.2 in let z = sym (local_moves b t y) ∙ o.1 in cc)
  stands_once (Old i) (Old j) t x y = ap (λ (w : ℕ). Old w) (sym x.1 ∙ y.1)

  -- ---- the unit of a name

  pub record TopStands (w : UnitNumber) (n : ℕ) : Type 0 where
    pub top : Top
    pub number : top.number ≡ n
    pub stands_is : Stands w top

  -- spaces are counted by the units of the files and of the common file
  abbrev pub space_unit : ℕ → UnitNumber
  space_unit i = elim (nat_lt i (length r.units)) as (λ _. UnitNumber) [ true ↦ Old i | false ↦ New (i - length r.units) ]

  abbrev pub Owns : UnitNumber → EntryName → Type 0
  Owns w (Within n path) = TopStands w n
  Owns w (UnitOf i) = w ≡ Old i
  Owns w (RootOf i) = w ≡ Old i
  Owns w (SpaceAt i path) = w ≡ space_unit i
  Owns w (InType i path) = w ≡ Old i
  Owns w (PartialOf n) = w ≡ New n
  Owns w (PartialRoot n) = w ≡ New n
  Owns w (InChain n c d) = w ≡ New n
  Owns w (Import i n) = w ≡ Old i

  pub owned_once : (v w : UnitNumber) (k : EntryName) → Owns v k → Owns w k → v ≡ w
  owned_once v w (Within n path) a b =
      let same : a.top ≡ b.top = one_top (together r) a.top b.top (stands_there v a.top a.stands_is) (stands_there w b.top b.stands_is) (a.number ∙ sym b.number) in
      stands_once v w b.top (subst (Stands v) same a.stands_is) b.stands_is
  owned_once v w (UnitOf i) a b = a ∙ sym b
  owned_once v w (RootOf i) a b = a ∙ sym b
  owned_once v w (SpaceAt i path) a b = a ∙ sym b
  owned_once v w (InType i path) a b = a ∙ sym b
  owned_once v w (PartialOf n) a b = a ∙ sym b
  owned_once v w (PartialRoot n) a b = a ∙ sym b
  owned_once v w (InChain n c d) a b = a ∙ sym b
  owned_once v w (Import i n) a b = a ∙ sym b

  pub old_space : (i : ℕ) → i < length r.units → Old i ≡ space_unit i
  old_space i less = go (nat_lt i (length r.units)) (lt-ltb i (length r.units) less) where
    go : (b : Bool) → b ≡ true → Old i ≡ (elim b as (λ _. UnitNumber) [ true ↦ Old i | false ↦ New (i - length r.units) ])
    go true q = refl
    go false q = absurd cc

  new_space : (n : ℕ) → New n ≡ space_unit (length r.units + n)
  new_space n = go (nat_lt (length r.units + n) (length r.units)) refl where
    go : (b : Bool) → nat_lt (length r.units + n) (length r.units) ≡ b → New n ≡ (elim b as (λ _. UnitNumber) [ true ↦ Old (length r.units + n) | false ↦ New (length r.units + n - length r.units) ])
    go true q = absurd (let less = ltb-true (length r.units + n) (length r.units) q in omega (arith, less))
    go false q = let same : n ≡ length r.units + n - length r.units = omega arith in ap (λ (i : ℕ). New i) same

  pub within_owned : (w : UnitNumber) (t : Top) (k : EntryName) → Stands w t → IsWithin t.number k → Owns w k
  within_owned w t k h within = subst (Owns w) (sym within.is) (record { top = t; number = refl; stands_is = h })

  -- what is in a tree is neither the unit nor its root
  abbrev pub IsInner : EntryName → Type 0
  IsInner (UnitOf i) = ⊥
  IsInner (RootOf i) = ⊥
  IsInner (PartialOf n) = ⊥
  IsInner (PartialRoot n) = ⊥
  IsInner _ = Unit {0}

  -- ---- one partial unit, by its row

  abbrev AllInner : UnitNumber → Row → Type 0
  AllInner w items = (k : EntryName) → In k (keys (tree f items End)) → Owns w k × IsInner k

  part_own : (n : ℕ) (items : Row) → m.rows n ≡ items → Good m.stand items → NoneTwice (row_keys items) → AllInner (New n) items → IsUnitOwn Owns (New n) (partial_unit m n)
  unfolding unit_keys
  part_own n items is good once inner = subst (λ (w : Row). IsUnitOwn Owns (New n) (record { at = PartialOf n; kind = Partial; root = partial_root m n; below = tree f w End })) (sym is) (record {
    once = (
      (λ is. elim is [ inl x ↦ cc | inr y ↦ (inner (PartialOf n) y).1 ]),
      ((λ is. (inner (PartialRoot n) is).1), tree_none m.stand items End good once none_end (λ k h. absurd (no_end k h))),
    );
    owns = λ k is. elim is [
      | inl x ↦ subst (Owns (New n)) x refl
      | inr (inl x) ↦ subst (Owns (New n)) x refl
      | inr (inr y) ↦ (inner k y).0
    ];
  })

  local_own : (n : ℕ) (part : PartialUnit) → Nth 0 (firsts ++ locals) n part → length r.commons ≤ n → Nth (length firsts) locals n part → IsUnitOwn Owns (New n) (partial_unit m n)
  local_own n part all low nth =
      part_own n (part_row n part) (local_rows docs common fixed p fx n part all low) good (part_none n part (rising_row part.tops (fits n part nth).rising))
      (λ k h. key k (tree_key m.stand (part_row n part) End kinded good k h))
    where
      kinded : Kinded (part_row n part)
      kinded = part_row_kinded n part (λ t is. top_plain r.units t (local_top n t (part, nth, is)).there)

      space : (names : List (List ℕ)) (e : Node EntryName) → Has names (OfSpace e) (part_row n part) → (c : ℕ) × (d : ℕ) × (e.at ≡ InChain n c d)
      space names e h = let o = (part_is n part).spaces_are names e h in (o.chain, o.depth, ap (λ (w : Node EntryName). w.at) o.is)

      in_tops : (names : List (List ℕ)) (t : Top) → Has names (OfTop t) (part_row n part) → Stands (New n) t
      in_tops names t h = inr (part, nth, (((part_is n part).tops_are names t).0 h).0)

      good : Good m.stand (part_row n part)
      good = good_of m.stand (part_row n part) kinded (λ names t h. stands_fixed (New n) t (in_tops names t h)) (λ names e h. let o = space names e h in subst IsSpaceSpot (sym o.2) tt)

      key : (k : EntryName) → TreeKey (part_row n part) End k → Owns (New n) k × IsInner k
      key k (FromTopKey names t has w) = (within_owned (New n) t k (in_tops names t has) w, subst IsInner (sym w.is) tt)
      key k (FromSpaceKey names d has e) = (let o = space names d has in let at = e ∙ o.2 in (subst (Owns (New n)) (sym at) refl, subst IsInner (sym at) tt))
      key k (LastKey a) = absurd (no_end k a)

      each_number : (t : Top) (tops : List Top) → Each (λ n. t.number < n) (numbers tops) → Each (λ u. t.number < u.number) tops
      each_number t [] h = tt
      each_number t (u ∷ tops) h = (h.0, each_number t tops h.1)

      rising_row : (tops : List Top) → Rising (numbers tops) → EachPair (λ a b. a.number < b.number) tops
      rising_row [] h = tt
      rising_row (t ∷ tops) h = (each_number t tops h.0, rising_row tops h.1)

  common_rows : (n : ℕ) (u : FileUnit EntryName) → Nth 0 r.commons n u → m.rows n ≡ common_row r n
  common_rows n u nth =
      ap (λ (o : Option (FileUnit EntryName)). unwrap_or (option_map (λ g. common_row r n) o) (row_in_part n (part_at n (firsts ++ locals)))) (nth_get 0 r.commons n n u nth (omega arith))

  -- a top of a partial unit of the common file, with names for units and roots
  record FromPart (n : ℕ) (t : Top) : Type 0 where
    top : Top
    in_part_is : InPart r n top
    is : top_map (as_part (length r.units)) top ≡ t

  common_own : (n : ℕ) (u : FileUnit EntryName) → Nth 0 r.commons n u → IsUnitOwn Owns (New n) (partial_unit m n)
  common_own n u nth =
      part_own n (common_row r n) (common_rows n u nth) good once (λ k h. key k (tree_key m.stand (common_row r n) End kinded good k h))
    where
      first : ℕ
      first = length r.units

      place : Nth 0 (together r) (length r.units + n) u
      place = nth_right 0 r.units r.commons (length r.units + n) u (nth_move 0 (0 + length r.units) r.commons n (length r.units + n) u nth (omega arith))

      kind : u.unit.kind ≡ Compile
      kind = re.whole n u nth

      named : LabelledSpaces (length r.units + n) [] 0 (rows_of_root (together r) (length r.units + n))
      named = subst (λ (w : Kind EntryName). IsNamedBelow (length r.units + n) w (rows_of_root (together r) (length r.units + n)) u.unit.below) kind (re.all.units_named (length r.units + n) u place).below

      old_kinded : Kinded (rows_of_root (together r) (length r.units + n))
      old_kinded =
          let o = unit_row (together r) (length r.units + n) u place kind in
          row_kinded u.file (length r.units + n) (language u.unit) [] o.first (rows_of_root (together r) (length r.units + n)) u.unit.below o.is

      once : NoneTwice (row_keys (common_row r n))
      once =
          let o = unit_row (together r) (length r.units + n) u place kind in
          subst NoneTwice (sym (keys_map (length r.units) (length r.units + n) [] 0 (rows_of_root (together r) (length r.units + n)) named))
          (row_none u.file (length r.units + n) (language u.unit) [] o.first (rows_of_root (together r) (length r.units + n)) u.unit.below o.is [] 0 named)

      kinded : Kinded (common_row r n)
      kinded = kinded_map (as_part (length r.units)) (rows_of_root (together r) (length r.units + n)) old_kinded

      old_top : (names : List (List ℕ)) (c : Top) → Has names (OfTop c) (rows_of_root (together r) (length r.units + n)) → InPart r n c
      old_top names c h = row_top (together r) (length r.units + n) c (tops_among (rows_of_root (together r) (length r.units + n)) names c h)

      from_top : (names : List (List ℕ)) (t : Top) → Has names (OfTop t) (common_row r n) → FromPart n t
      from_top names t h = let o = map_has (as_part (length r.units)) (rows_of_root (together r) (length r.units + n)) names (OfTop t) h in go o.item o.has o.is where
        go : (x : Item) → Has names x (rows_of_root (together r) (length r.units + n)) → item_map (as_part (length r.units)) x ≡ OfTop t → FromPart n t
        go (OfTop c) has is = record { top = c; in_part_is = old_top names c has; is = (let z = is in cc) }
        go (OfSpace e) has is = absurd (let z = is in cc)

      fixed_top : (names : List (List ℕ)) (t : Top) → Has names (OfTop t) (common_row r n) → StandsFixed m.stand t
      fixed_top names t h =
          let o = from_top names t h in
          let x = stands_fixed (New n) o.top (inl o.in_part_is) in
          let label : LabelledTop (top_map (as_part (length r.units)) o.top) =
          (ap (as_part (length r.units)) x.0.0, labelled_map (as_part (length r.units)) (Within o.top.number) (Within o.top.number) (λ q. refl) [] 0 o.top.below x.0.1) in
          subst (StandsFixed m.stand) o.is (label, x.1)

      space : (names : List (List ℕ)) (d : Node EntryName) → Has names (OfSpace d) (common_row r n) → (path : List ℕ) × (d.at ≡ SpaceAt (length r.units + n) path)
      space names d h = let o = map_has (as_part (length r.units)) (rows_of_root (together r) (length r.units + n)) names (OfSpace d) h in go o.item o.has o.is where
        go : (x : Item) → Has names x (rows_of_root (together r) (length r.units + n)) → item_map (as_part (length r.units)) x ≡ OfSpace d
            → (path : List ℕ) × (d.at ≡ SpaceAt (length r.units + n) path)
        go (OfTop c) has is = absurd (let z = is in cc)
        go (OfSpace e) has is =
            let o = space_place (length r.units + n) [] 0 (rows_of_root (together r) (length r.units + n)) named names e has in
            let at : as_part (length r.units) e.at ≡ d.at = (let z = is in cc) in
            (o.0, sym at ∙ ap (as_part (length r.units)) o.1)

      good : Good m.stand (common_row r n)
      good = good_of m.stand (common_row r n) kinded fixed_top (λ names d h. let o = space names d h in subst IsSpaceSpot (sym o.1) tt)

      key : (k : EntryName) → TreeKey (common_row r n) End k → Owns (New n) k × IsInner k
      key k (FromTopKey names t has w) =
          let o = from_top names t has in
          let number : o.top.number ≡ t.number = ap (λ (x : Top). x.number) o.is in
          (subst (Owns (New n)) (sym w.is) (record { top = o.top; number = number; stands_is = inl o.in_part_is }), subst IsInner (sym w.is) tt)
      key k (FromSpaceKey names d has e) = (let o = space names d has in let at = e ∙ o.1 in (subst (Owns (New n)) (sym at) (new_space n), subst IsInner (sym at) tt))
      key k (LastKey a) = absurd (no_end k a)

  pub new_own : (n : ℕ) (part : PartialUnit) → Nth 0 m.parts n part → IsUnitOwn Owns (New n) (partial_unit m n)
  new_own n part nth = elim (nth_cases 0 firsts locals n part nth) [
    | inl a ↦ (let o = common_nth r fixed 0 r.commons n part a in common_own n o.0 o.1)
    | inr b ↦
        let from = nth_from (0 + length firsts) locals n part b in
        let start : 0 + length firsts ≡ length firsts = omega arith in
        local_own n part nth (omega (arith, from, length-common r fixed 0 r.commons)) (subst (λ (s : ℕ). Nth s locals n part) start b)
  ]
