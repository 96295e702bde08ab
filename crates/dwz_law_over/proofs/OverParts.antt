-- Over a finished common file the tops and the spaces of partial units are at their own names too, and so is each entry that is known.
use Rattle.std.proofs.Common.{◌≡◌, ◌⊎◌, ℕ, ◌+◌, ◌≤◌, List, [], ◌∷◌, ◌++◌, length, Option, refl, sym, ap, subst, ◌∙◌, inl, inr, arith}
use Rattle.std.specs.Prelude.{unwrap_or}
use Rattle.std.specs.Option.{option_map}
use Rattle.dwz_def_reading.specs.Documents.{Compile, Doc, DwUnit, Entries, Kind, Node, OfType, Partial, kind_map, language}
use Rattle.dwz_def_reading.specs.Lists.{In}
use Rattle.dwz_def_reading.specs.Trees.{End}
use Rattle.dwz_def_reading.proofs.ListFacts.{in_cases}
use Rattle.dwz_def_tops.specs.Lists.{Nth}
use Rattle.dwz_def_tops.specs.Seen.{Seen, all_seen, seen, seen_below, seen_roots}
use Rattle.dwz_def_tops.proofs.Members.{each_in, nth_from, nth_get, nth_in}
use Rattle.dwz_def_tops.proofs.SeenLemmas.{root_from, seen_from}
use Rattle.dwz_def_tops.specs.Spots.{EntryName, FileUnit, InType, Labelled, LabelledSpaces, LabelledTop, RootOf, Row, Top, Within, file_numbers, rows_of_root, tops_of}
use Rattle.dwz_def_tops.specs.UnitNames.{IsNamedBelow}
use Rattle.dwz_def_tops.proofs.FiledTops.{nth_cases}
use Rattle.dwz_def_tops.proofs.RowLemmas.{unit_row}
use Rattle.dwz_def_tops.proofs.Tops.{row_top}
use Rattle.dwz_def_images.specs.After.{IsKeptUnit, IsNewUnit}
use Rattle.dwz_def_images.specs.Held.{Kinded}
use Rattle.dwz_def_images.specs.IsPlan.{BelongsTo, Has, IsPart, Item, OfSpace, OfTop}
use Rattle.dwz_def_images.specs.Moves.{Move, image_in, part_at, row_in_part}
use Rattle.dwz_def_images.specs.Plan.{PartialUnit, part_row, partials}
use Rattle.dwz_def_images.specs.Units.{partial_unit, tree}
use Rattle.dwz_def_images.proofs.ApartOwn.{New, Old, UnitNumber}
use Rattle.dwz_def_images.proofs.ApartTrees.{Fixed as StandsFixed, IsImportSpot, IsSpaceSpot, labelled_map}
use Rattle.dwz_def_images.proofs.KindLemmas.{part_row_kinded, top_plain}
use Rattle.dwz_def_images.proofs.OldLemmas.{labelled_at}
use Rattle.dwz_def_images.proofs.OldRows.{row_kinded, space_place, top_names, tops_among}
use Rattle.dwz_def_images.proofs.PartRows.{part_is}
use Rattle.dwz_def_images.proofs.PlanLemmas.{are_parts}
use Rattle.dwz_def_taken.specs.declared.fixed.Fixed.{Fixed}
use Rattle.dwz_def_taken.specs.Beside.{Reused, own_tops, reused_of, together}
use Rattle.dwz_def_taken.specs.Laws.{ArePlacedOver, IsReused}
use Rattle.dwz_def_taken.specs.Over.{as_part, common_parts, common_row, move_over, top_map}
use Rattle.dwz_def_taken.specs.Takes.{InPart, IsFixed, free_rule}
use Rattle.dwz_def_taken.proofs.ClosedOver.{local_rows}
use Rattle.dwz_def_taken.proofs.CommonParts.{common_nth, length-common}
use Rattle.dwz_def_taken.proofs.LookTops.{own_number, own_together}
use Rattle.dwz_def_taken.proofs.NamesOver.{named_over}
use Rattle.dwz_def_taken.proofs.OwnUnits.{IsLocal, Stands, stands_fixed}
use Rattle.dwz_def_taken.proofs.PlaceLemmas.{nth_move, nth_right, whole}
use Rattle.dwz_def_taken.proofs.RowMaps.{item_map, kinded_map, map_has}
use Rattle.dwz_def_cross.specs.Tops.{CrossTop, IsCrossTop, IsNthChild, IsTopOf, StandsAlong, StandsIn, StandsUnder}
use Rattle.dwz_def_cross.proofs.TopPlaces.{InSpace, InTop, PlaceIn, top_at, where_in}
use Rattle.dwz_law_over.proofs.OverTops.{AreTops, RowTop, TopAfter, kept_named, kept_type_named, no_last, no_space, row_named}
use Rattle.dwz_law_over.proofs.TreeTops.{labelled_along, turned}

module _ (docs : List (Doc ℕ)) (common : Doc ℕ) (fixed : Fixed) (p : ArePlacedOver docs common) (fx : IsFixed (reused_of docs common) fixed) where
  abbrev r : Reused
  r = reused_of docs common

  abbrev files : List ℕ
  files = file_numbers 0 docs

  abbrev m : Move
  m = move_over (reused_of docs common) fixed (file_numbers 0 docs)

  abbrev f : EntryName → EntryName
  f = image_in (move_over (reused_of docs common) fixed (file_numbers 0 docs))

  abbrev firsts : List PartialUnit
  firsts = common_parts (reused_of docs common) fixed 0 (reused_of docs common).commons

  abbrev locals : List PartialUnit
  locals = partials (free_rule (reused_of docs common) fixed) (reused_of docs common).units (file_numbers 0 docs)

  re : IsReused r
  re = named_over docs common p

  abbrev Stay : UnitNumber → Top → Type 0
  Stay = Stands docs common fixed p fx

  abbrev Tops : UnitNumber → Entries EntryName → Type 0
  Tops = AreTops docs common fixed p fx

  abbrev OneTop : UnitNumber → List (List ℕ) → Top → Type 0
  OneTop = RowTop docs common fixed p fx

  local_top : (n : ℕ) (t : Top) → (h : IsLocal docs common fixed p fx n t) → BelongsTo (free_rule r fixed) r.units h.0 t
  local_top n t h =
      ((each_in (IsPart (free_rule r fixed) r.units) h.0 locals (are_parts (free_rule r fixed) r.units files) (nth_in (length firsts) locals n h.0 h.1)).tops t).0 h.2

  -- what stands in a unit after is a top of a file or of the common file
  pub stands_there : (w : UnitNumber) (t : Top) → Stands docs common fixed p fx w t → In t (tops_of (together r))
  stands_there (New n) t (inl h) = h.0
  stands_there (New n) t (inr h) = own_together r (whole r re) t (local_top n t h).there
  stands_there (Old i) t h = own_together r (whole r re) t h.0

  -- one of the common file stands in its partial unit
  pub record InCommon (w : UnitNumber) (t : Top) : Type 0 where
    pub number : ℕ
    pub is : w ≡ New number
    pub in_part_is : InPart r number t

  pub stands_common : (w : UnitNumber) (t : Top) → Stands docs common fixed p fx w t → own_tops r ≤ t.number → InCommon w t
  stands_common (New n) t (inl h) low = record { number = n; is = refl; in_part_is = h }
  stands_common (New n) t (inr h) low = absurd (let high = own_number r (whole r re) t (local_top n t h).there in omega (arith, low, high))
  stands_common (Old i) t h low = absurd (let high = own_number r (whole r re) t h.0 in omega (arith, low, high))

  -- ---- partial units of a file

  local_named : (n : ℕ) (part : PartialUnit) → Nth 0 (firsts ++ locals) n part → length r.commons ≤ n → Nth (length firsts) locals n part → Tops (New n) (partial_unit m n).below
  local_named n part all low nth =
      subst (λ (w : Row). Tops (New n) (tree f w End)) (sym (local_rows docs common fixed p fx n part all low))
      (row_named docs common fixed p fx (New n) (part_row n part) End kinded tops spaces (no_last docs common fixed p fx) (no_space docs common fixed p fx))
    where
      kinded : Kinded (part_row n part)
      kinded = part_row_kinded n part (λ t is. top_plain r.units t (local_top n t (part, nth, is)).there)

      tops : (names : List (List ℕ)) (t : Top) → Has names (OfTop t) (part_row n part) → OneTop (New n) names t
      tops names t h =
          let o = ((part_is n part).tops_are names t).0 h in
          let s : Stay (New n) t = inr (part, nth, o.0) in
          record { top = t; stands_is = s; number = refl; fixed_is = stands_fixed docs common fixed p fx (New n) t s; names_are = o.1 }

      spaces : (names : List (List ℕ)) (e : Node EntryName) → Has names (OfSpace e) (part_row n part) → IsSpaceSpot e.at
      spaces names e h = let o = (part_is n part).spaces_are names e h in subst IsSpaceSpot (sym (ap (λ (w : Node EntryName). w.at) o.is)) tt

  -- ---- those of the common file

  common_rows : (n : ℕ) (u : FileUnit EntryName) → Nth 0 r.commons n u → m.rows n ≡ common_row r n
  common_rows n u nth =
      ap (λ (o : Option (FileUnit EntryName)). unwrap_or (option_map (λ g. common_row r n) o) (row_in_part n (part_at n (firsts ++ locals)))) (nth_get 0 r.commons n n u nth (omega arith))

  common_named : (n : ℕ) (u : FileUnit EntryName) → Nth 0 r.commons n u → Tops (New n) (partial_unit m n).below
  common_named n u nth =
      subst (λ (w : Row). Tops (New n) (tree f w End)) (sym (common_rows n u nth))
      (row_named docs common fixed p fx (New n) (common_row r n) End kinded tops spaces (no_last docs common fixed p fx) (no_space docs common fixed p fx))
    where
      place : Nth 0 (together r) (length r.units + n) u
      place = nth_right 0 r.units r.commons (length r.units + n) u (nth_move 0 (0 + length r.units) r.commons n (length r.units + n) u nth (omega arith))

      kind : u.unit.kind ≡ Compile
      kind = re.whole n u nth

      named : LabelledSpaces (length r.units + n) [] 0 (rows_of_root (together r) (length r.units + n))
      named = subst (λ (w : Kind EntryName). IsNamedBelow (length r.units + n) w (rows_of_root (together r) (length r.units + n)) u.unit.below) kind (re.all.units_named (length r.units + n) u place).below

      kinded : Kinded (common_row r n)
      kinded =
          let o = unit_row (together r) (length r.units + n) u place kind in
          kinded_map (as_part (length r.units)) (rows_of_root (together r) (length r.units + n))
          (row_kinded u.file (length r.units + n) (language u.unit) [] o.first (rows_of_root (together r) (length r.units + n)) u.unit.below o.is)

      tops : (names : List (List ℕ)) (t : Top) → Has names (OfTop t) (common_row r n) → OneTop (New n) names t
      tops names t h = let o = map_has (as_part (length r.units)) (rows_of_root (together r) (length r.units + n)) names (OfTop t) h in go o.item o.has o.is where
        go : (x : Item) → Has names x (rows_of_root (together r) (length r.units + n)) → item_map (as_part (length r.units)) x ≡ OfTop t → OneTop (New n) names t
        go (OfTop c) has is =
            let row = unit_row (together r) (length r.units + n) u place kind in
            let in_part_is : InPart r n c = row_top (together r) (length r.units + n) c (tops_among (rows_of_root (together r) (length r.units + n)) names c has) in
            let s : Stay (New n) c = inl in_part_is in
            let x = stands_fixed docs common fixed p fx (New n) c s in
            let same : top_map (as_part (length r.units)) c ≡ t = (let z = is in cc) in
            let label : LabelledTop (top_map (as_part (length r.units)) c) =
            (ap (as_part (length r.units)) x.0.0, labelled_map (as_part (length r.units)) (Within c.number) (Within c.number) (λ q. refl) [] 0 c.below x.0.1) in
            record {
              top = c;
              stands_is = s;
              number = ap (λ (y : Top). y.number) same;
              fixed_is = subst (StandsFixed m.stand) same (label, x.1);
              names_are = top_names u.file (length r.units + n) (language u.unit) [] row.first (rows_of_root (together r) (length r.units + n)) u.unit.below row.is names c has;
            }
        go (OfSpace e) has is = absurd (let z = is in cc)

      spaces : (names : List (List ℕ)) (d : Node EntryName) → Has names (OfSpace d) (common_row r n) → IsSpaceSpot d.at
      spaces names d h = let o = map_has (as_part (length r.units)) (rows_of_root (together r) (length r.units + n)) names (OfSpace d) h in go o.item o.has o.is where
        go : (x : Item) → Has names x (rows_of_root (together r) (length r.units + n)) → item_map (as_part (length r.units)) x ≡ OfSpace d → IsSpaceSpot d.at
        go (OfTop c) has is = absurd (let z = is in cc)
        go (OfSpace e) has is =
            let o = space_place (length r.units + n) [] 0 (rows_of_root (together r) (length r.units + n)) named names e has in
            let at : as_part (length r.units) e.at ≡ d.at = (let z = is in cc) in
            subst IsSpaceSpot (sym (ap (as_part (length r.units)) o.1) ∙ at) tt

  pub new_named : (n : ℕ) (part : PartialUnit) → Nth 0 m.parts n part → AreTops docs common fixed p fx (New n) (partial_unit m n).below
  new_named n part nth = elim (nth_cases 0 firsts locals n part nth) [
    | inl a ↦ (let o = common_nth r fixed 0 r.commons n part a in common_named n o.0 o.1)
    | inr b ↦
        let from = nth_from (0 + length firsts) locals n part b in
        let start : 0 + length firsts ≡ length firsts = omega arith in
        local_named n part nth (omega (arith, from, length-common r fixed 0 r.commons)) (subst (λ (s : ℕ). Nth s locals n part) start b)
  ]

  -- ---- a known entry of a top

  -- that is the unit with that number
  abbrev pub Numbered : UnitNumber → DwUnit EntryName → Type 0
  Numbered (New n) v = partial_unit m n ≡ v
  Numbered (Old i) v = Unit {0}

  -- the entry with that name stands in a top with that number, along its path
  pub record KnownTop (outs : List (DwUnit EntryName)) (number : ℕ) (path : List ℕ) (d : Seen EntryName) : Type 0 where
    pub holder : DwUnit EntryName
    pub seen_in_it : In d (seen holder.below)
    pub unit : UnitNumber
    pub numbered : Numbered unit holder
    pub top : CrossTop EntryName
    pub is : IsCrossTop outs top
    pub along : List ℕ
    pub stands : StandsIn along top (Within number path)
    pub after : TopAfter docs common fixed p fx unit top.names top
    pub number_is : after.top.number ≡ number
    pub path_is : turned along [] ≡ path

  import_none : (path : List ℕ) (e : Node EntryName) (below : Entries EntryName) (s : EntryName) → IsImportSpot e.at → below ≡ End → StandsAlong path e below s → IsImportSpot s
  import_none [] e below s spot end stands = subst IsImportSpot stands spot
  import_none (i ∷ path) e below s spot end (d, g, nth, rest) = absurd (subst (IsNthChild i d g) end nth)

  module _ (outs : List (DwUnit EntryName)) (from : (v : DwUnit EntryName) → In v outs → IsNewUnit m v ⊎ IsKeptUnit m r.units v) (number : ℕ) (path : List ℕ) where
    abbrev Known : Seen EntryName → Type 0
    Known = KnownTop outs number path

    by_tops : (v : DwUnit EntryName) → In v outs → (w : UnitNumber) → Numbered w v → Tops w v.below → ((b : CrossTop EntryName) → StandsUnder b.names b v.below → IsTopOf v.kind v b)
        → (d : Seen EntryName) → In d (seen v.below) → d.at ≡ Within number path → Known d
    by_tops v there w numbered tops kind d i name = by (where_in v.below d i) where
      by : PlaceIn v.below d.at → Known d
      by (InSpace names e s at) = absurd (subst IsSpaceSpot (at ∙ name) (tops.spaces names e s))
      by (InTop names e below stands along is) = elim (tops.tops names (top_at names e below) (stands names)) [
        | inr x ↦ absurd (subst IsImportSpot name (import_none along e below d.at x.0 x.1 is))
        | inl a ↦
            let named = labelled_along (Within a.top.number) [] along e below a.at a.labelled d.at is in
            let same : Within a.top.number (turned along []) ≡ Within number path = sym named ∙ name in
            record {
              holder = v;
              seen_in_it = i;
              unit = w;
              numbered = numbered;
              top = top_at names e below;
              is = (v, there, kind (top_at names e below) (stands names));
              along = along;
              stands = subst (StandsAlong along e below) name is;
              after = a;
              number_is = (let z = same in cc);
              path_is = (let z = same in cc);
            }
      ]

    pub known_top : (d : Seen EntryName) → In d (all_seen outs) → d.at ≡ Within number path → KnownTop outs number path d
    known_top d is name = elim (in_cases d (seen_roots outs) (seen_below outs) is) [
      | inl a ↦ (let o = root_from outs d a in absurd (root o.unit (from o.unit o.there) (ap (λ (s : Seen EntryName). s.at) o.is ∙ name)))
      | inr b ↦ (let o = seen_from outs d b in below o.unit o.there (from o.unit o.there) o.is)
    ]
      where
        root : (v : DwUnit EntryName) → IsNewUnit m v ⊎ IsKeptUnit m r.units v → v.root.at ≡ Within number path → ⊥
        root v (inl n) e = absurd (let z = ap (λ (u : DwUnit EntryName). u.root.at) n.is ∙ e in cc)
        root v (inr k) e =
            absurd (let y : f k.unit.unit.root.at ≡ RootOf k.number = ap f (re.own.units_named k.number k.unit k.nth).root in let z = ap (λ (u : DwUnit EntryName). u.root.at) k.is ∙ e in cc)

        below : (v : DwUnit EntryName) → In v outs → IsNewUnit m v ⊎ IsKeptUnit m r.units v → In d (seen v.below) → Known d
        below v there (inl n) i =
            let kind : Partial ≡ v.kind = ap (λ (u : DwUnit EntryName). u.kind) n.is in
            by_tops v there (New n.number) n.is (subst (λ (u : DwUnit EntryName). Tops (New n.number) u.below) n.is (new_named n.number n.part n.nth))
            (λ b s. subst (λ (k : Kind EntryName). IsTopOf k v b) kind s) d i name
        below v there (inr k) i = by k.unit.unit.kind refl where
          by : (l : Kind EntryName) → k.unit.unit.kind ≡ l → Known d
          by Compile e =
              let kind : Compile ≡ v.kind = sym (ap (kind_map f) e) ∙ ap (λ (u : DwUnit EntryName). u.kind) k.is in
              by_tops v there (Old k.number) tt (subst (λ (u : DwUnit EntryName). Tops (Old k.number) u.below) k.is (kept_named docs common fixed p fx k.number k.unit k.nth e))
              (λ b s. subst (λ (l : Kind EntryName). IsTopOf l v b) kind s) d i name
          by (OfType signature main) e =
              let l = labelled_at (InType k.number) [] 0 v.below d
              (subst (λ (u : DwUnit EntryName). Labelled (InType k.number) [] 0 u.below) k.is (kept_type_named docs common fixed p fx k.number k.unit k.nth signature main e)) i in
              absurd (let z = sym l.is ∙ name in cc)
          by Partial e = absurd (subst (λ (w : Kind EntryName). IsNamedBelow k.number w (rows_of_root r.units k.number) k.unit.unit.below) e (re.own.units_named k.number k.unit k.nth).below)

  -- a top of these units whose name is within one is a top after
  pub top_after : (outs : List (DwUnit EntryName)) → ((v : DwUnit EntryName) → In v outs → IsNewUnit m v ⊎ IsKeptUnit m r.units v) → (b : CrossTop EntryName) → IsCrossTop outs b
      → (number : ℕ) (path : List ℕ) → b.node.at ≡ Within number path → (w : UnitNumber) × TopAfter docs common fixed p fx w b.names b
  top_after outs from b (v, there, is) number path name = by (from v there) where
    under : (w : UnitNumber) → Tops w v.below → StandsUnder b.names b v.below → (w : UnitNumber) × TopAfter docs common fixed p fx w b.names b
    under w tops stands = elim (tops.tops b.names b stands) [ inl a ↦ (w, a) | inr x ↦ absurd (subst IsImportSpot name x.0) ]

    by : IsNewUnit m v ⊎ IsKeptUnit m r.units v → (w : UnitNumber) × TopAfter docs common fixed p fx w b.names b
    by (inl n) =
        let kind : Partial ≡ v.kind = ap (λ (u : DwUnit EntryName). u.kind) n.is in
        under (New n.number) (subst (λ (u : DwUnit EntryName). Tops (New n.number) u.below) n.is (new_named n.number n.part n.nth))
        (subst (λ (k : Kind EntryName). IsTopOf k v b) (sym kind) is)
    by (inr k) = of_kind k.unit.unit.kind refl where
      kind_is : (l : Kind EntryName) → k.unit.unit.kind ≡ l → v.kind ≡ kind_map f l
      kind_is l e = sym (ap (λ (u : DwUnit EntryName). u.kind) k.is) ∙ ap (kind_map f) e

      of_kind : (l : Kind EntryName) → k.unit.unit.kind ≡ l → (w : UnitNumber) × TopAfter docs common fixed p fx w b.names b
      of_kind Compile e =
          under (Old k.number) (subst (λ (u : DwUnit EntryName). Tops (Old k.number) u.below) k.is (kept_named docs common fixed p fx k.number k.unit k.nth e))
          (subst (λ (l : Kind EntryName). IsTopOf l v b) (kind_is Compile e) is)
      of_kind (OfType signature main) e =
          let top = subst (λ (l : Kind EntryName). IsTopOf l v b) (kind_is (OfType signature main) e) is in
          let root : v.root.at ≡ RootOf k.number = sym (ap (λ (u : DwUnit EntryName). u.root.at) k.is) ∙ ap f (re.own.units_named k.number k.unit k.nth).root in
          absurd (let z = sym root ∙ sym (ap (λ (n : Node EntryName). n.at) top.1) ∙ name in cc)
      of_kind Partial e = absurd (subst (λ (w : Kind EntryName). IsNamedBelow k.number w (rows_of_root r.units k.number) k.unit.unit.below) e (re.own.units_named k.number k.unit k.nth).below)
