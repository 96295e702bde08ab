-- Over a finished common file, what stands after in place of a file that imports nothing from it: the file's own units.
use Rattle.std.proofs.Common.{◌≡◌, ◌⊎◌, ◌||◌, ℕ, ◌+◌, true, false, List, ◌++◌, length, map, Option, Some, None, refl, sym, ap, subst, ◌∙◌, inl, inr, arith}
use Rattle.std.specs.Prelude.{unwrap_or}
use Rattle.std.specs.Option.{is_some}
use Rattle.dwz_def_reading.specs.Documents.{Attr, Doc, DwUnit}
use Rattle.dwz_def_reading.specs.Lists.{In, Nth}
use Rattle.dwz_def_reading.proofs.ListFacts.{in_cases, in_left, in_right}
use Rattle.dwz_def_reading.proofs.Members.{each_in, nth_in, nth_one}
use Rattle.dwz_def_tops.specs.Seen.{Closed, Seen, all_seen, named_value, seen_below, seen_roots}
use Rattle.dwz_def_tops.specs.Shown.{unit_keys}
use Rattle.dwz_def_tops.specs.Spots.{EntryName, FileUnit, Top, Within, file_numbers, tops_of, units_of}
use Rattle.dwz_def_tops.proofs.SeenLemmas.{entry_seen, root_from, root_seen, seen_from}
use Rattle.dwz_def_tops.proofs.ShownLemmas.{seen_key}
use Rattle.dwz_def_images.specs.Homes.{Common, Local, Rule, moves}
use Rattle.dwz_def_images.specs.IsPlan.{IsPart}
use Rattle.dwz_def_images.specs.Moves.{Move, image_in}
use Rattle.dwz_def_images.specs.Plan.{PartialUnit, partials, stand_in}
use Rattle.dwz_def_images.proofs.HomeLemmas.{file_at, file_of_top}
use Rattle.dwz_def_images.proofs.PlanLemmas.{are_parts, has_rep}
use Rattle.dwz_def_images.proofs.UserLemmas.{move_stand}
use Rattle.dwz_def_images.specs.After.{AreAfterOf, IsKeptUnit, IsNewUnit, IsOfFile}
use Rattle.dwz_def_images.specs.Held.{NameNone}
use Rattle.dwz_def_images.specs.Units.{common_units, kept_unit, kept_units, out_units, partial_unit, partial_units}
use Rattle.dwz_def_images.proofs.ApartOwn.{New}
use Rattle.dwz_def_images.proofs.FileLemmas.{files_are}
use Rattle.dwz_def_images.proofs.HeldLemmas.{root_none}
use Rattle.dwz_def_images.proofs.OldLemmas.{top_at}
use Rattle.dwz_def_images.proofs.OldRows.{raw_top}
use Rattle.dwz_def_readback.specs.Files.{imports_common}
use Rattle.dwz_def_readback.proofs.HomeLemmas.{kept_from, parts_from}
use Rattle.dwz_def_readback.proofs.WithinLemmas.{closed_at}
use Rattle.dwz_def_taken.specs.declared.fixed.Fixed.{Fixed}
use Rattle.dwz_def_taken.specs.Beside.{Reused, reused_of}
use Rattle.dwz_def_taken.specs.Laws.{ArePlacedOver, IsReused}
use Rattle.dwz_def_taken.specs.Over.{common_part, common_parts, move_over}
use Rattle.dwz_def_taken.specs.Takes.{InPart, IsFixed, free_rule, image_at}
use Rattle.dwz_def_taken.proofs.CommonParts.{in_takers, nth_common}
use Rattle.dwz_def_taken.proofs.CommonUnits.{not_shared}
use Rattle.dwz_def_taken.proofs.LookTops.{own_number, part_number}
use Rattle.dwz_def_taken.proofs.NamesOver.{named_over}
use Rattle.dwz_def_taken.proofs.OverLemmas.{fair, image_is}
use Rattle.dwz_def_taken.proofs.OwnUnits.{IsLocal as InLocal, Owns, new_own}
use Rattle.dwz_def_taken.proofs.PlaceLemmas.{in_part as in_common, nth_left, nth_right, part_nth, whole}
use Rattle.dwz_def_over.proofs.ImagesOver.{gone_there, kept_in, new_in}
use Rattle.dwz_def_over.proofs.LocalParts.{in_part, local_file, local_kinds, local_part, space_plain, tops_there}
use Rattle.dwz_law_cross.proofs.OwnFiles.{all_closed, all_own, no_user}
use Rattle.dwz_law_cross.proofs.OwnRefs.{HoldsOwn, StandsAt}

-- an entry of units is one of the first, or of the others
pub either_seen : (some others : List (DwUnit EntryName)) (d : Seen EntryName) → In d (all_seen (some ++ others)) → In d (all_seen some) ⊎ In d (all_seen others)
either_seen some others d h = elim (in_cases d (seen_roots (some ++ others)) (seen_below (some ++ others)) h) [
  | inl a ↦
      let o = root_from (some ++ others) d a in
      elim (in_cases o.unit some others o.there) [
        | inl x ↦ inl (subst (λ (e : Seen EntryName). In e (all_seen some)) o.is (root_seen some o.unit x))
        | inr y ↦ inr (subst (λ (e : Seen EntryName). In e (all_seen others)) o.is (root_seen others o.unit y))
      ]
  | inr b ↦
      let o = seen_from (some ++ others) d b in
      elim (in_cases o.unit some others o.there) [
        | inl x ↦ inl (entry_seen some o.unit d x o.is)
        | inr y ↦ inr (entry_seen others o.unit d y o.is)
      ]
]

-- an entry of units has a name of one of them
record KeyOf (units : List (DwUnit EntryName)) (d : Seen EntryName) : Type 0 where
  unit : DwUnit EntryName
  there : In unit units
  key : In d.at (unit_keys unit)

key_of : (units : List (DwUnit EntryName)) (d : Seen EntryName) → In d (all_seen units) → KeyOf units d
unfolding unit_keys
key_of units d h = elim (in_cases d (seen_roots units) (seen_below units) h) [
  | inl a ↦
      let o = root_from units d a in
      record { unit = o.unit; there = o.there; key = inr (inl (ap (λ (e : Seen EntryName). e.at) o.is)) }
  | inr b ↦ (let o = seen_from units d b in record { unit = o.unit; there = o.there; key = inr (inr (seen_key o.unit.below d o.is)) })
]

module _ (docs : List (Doc ℕ)) (common : Doc ℕ) (fixed : Fixed) (p : ArePlacedOver docs common) (fx : IsFixed (reused_of docs common) fixed) (file : ℕ) where
  abbrev r : Reused
  r = reused_of docs common

  abbrev units : List (FileUnit EntryName)
  units = units_of docs

  abbrev files : List ℕ
  files = file_numbers 0 docs

  abbrev m : Move
  m = move_over (reused_of docs common) fixed (file_numbers 0 docs)

  abbrev rule : Rule
  rule = free_rule (reused_of docs common) fixed

  abbrev firsts : List PartialUnit
  firsts = common_parts (reused_of docs common) fixed 0 (reused_of docs common).commons

  abbrev locals : List PartialUnit
  locals = partials (free_rule (reused_of docs common) fixed) (units_of docs) (file_numbers 0 docs)

  re : IsReused r
  re = named_over docs common p

  abbrev outs : List (DwUnit EntryName)
  outs = out_units (move_over (reused_of docs common) fixed (file_numbers 0 docs)) (units_of docs) file

  -- ---- what stands in its place stands in it, or in the common file

  swapped : (v : DwUnit EntryName) → In v (common_units m ++ outs) → In v (outs ++ common_units m)
  swapped v h = elim (in_cases v (common_units m) outs h) [
    | inl a ↦ in_right v outs (common_units m) a
    | inr b ↦ in_left v outs (common_units m) b
  ]

  from_common : (v : DwUnit EntryName) → In v (common_units m) → IsNewUnit m v
  unfolding common_units
  from_common v h = (let o = parts_from m Common 0 m.parts v h in record { number = o.number; part = o.part; nth = o.nth; is = o.is })

  from_own : (v : DwUnit EntryName) → In v outs → IsNewUnit m v ⊎ IsKeptUnit m units v
  unfolding out_units
  from_own v h = elim (in_cases v (partial_units m (Local file) 0 m.parts) (kept_units m units file 0 units) h) [
    | inl a ↦ (let o = parts_from m (Local file) 0 m.parts v a in inl (record { number = o.number; part = o.part; nth = o.nth; is = o.is }))
    | inr b ↦ (let o = kept_from m units file 0 units v b in inr (record { number = o.number; unit = o.unit; nth = o.nth; is = o.is }))
  ]

  pub outs_over : AreAfterOf (IsOfFile units file) m units (outs ++ common_units m)
  outs_over = record {
    new = λ n part nth i user mine.
        swapped (partial_unit m n) (new_in docs common fixed p fx file n part nth i user (file_at units 0 i i mine.0 mine.1 (omega arith) ∙ mine.2));
    kept = λ i u nth mine.
        swapped (kept_unit m units i u)
        (kept_in docs common fixed p fx file i u nth (sym (file_at units 0 i i u nth (omega arith)) ∙ (file_at units 0 i i mine.0 mine.1 (omega arith) ∙ mine.2)));
    from = λ v there. elim (in_cases v outs (common_units m) there) [
      | inl a ↦ from_own v a
      | inr b ↦ inl (from_common v b)
    ];
  }

  -- its partial units hold tops of the file
  local_holds : (n : ℕ) (part : PartialUnit) → Nth 0 m.parts n part → part.home ≡ Local file → HoldsOwn units m file n
  local_holds n part nth home =
      let l = local_part docs common fixed p fx file n part nth home in
      record {
        kinds = local_kinds docs common fixed p fx n part l;
        tops = λ names t has.
            (let there = in_part docs common fixed p fx n part l names t has in
            (tops_there docs common fixed p fx n part l t there, local_file docs common fixed p fx n part l file home t there));
        plain = λ names e has. space_plain docs common fixed p fx n part l names e has;
        root = subst (λ (w : List (Attr EntryName)). NameNone (map named_value w)) (sym l.roots) (root_none units (Some part));
      }

  -- ---- no top that is left stands in the common file

  -- the part is one of the common file, and of no file
  not_local : (n : ℕ) (part : PartialUnit) → Nth 0 m.parts n part → part.home ≡ Common → (t : Top) → InLocal docs common fixed p fx n t → ⊥
  not_local n part nth home t (other, other_nth, in_tops) =
      let start : length firsts ≡ 0 + length firsts = omega arith in
      let there = nth_right 0 firsts locals n other (subst (λ (s : ℕ). Nth s locals n other) start other_nth) in
      let same : part ≡ other = nth_one 0 (firsts ++ locals) n part other nth there in
      not_shared docs common fixed p fx other (nth_in (length firsts) locals n other other_nth) (ap (λ (w : PartialUnit). w.home) (sym same) ∙ home)

  left_number : (t : Top) → In t (tops_of units) → image_at fixed t.number ≡ None → moves rule units t.number ≡ true → (top : Top) × In top (tops_of units) × (top.number ≡ m.stand t.number)
  left_number t there none moved =
      let k = has_rep rule units (fair r fixed files re fx) files (files_are docs) t there moved in
      let is = each_in (IsPart rule units) k.part locals (are_parts rule units files) k.there in (
        k.top,
        ((is.tops k.top).0 k.holds).there,
        k.is_rep ∙ sym (move_stand units rule t.number moved) ∙ sym (ap (λ (o : Option ℕ). unwrap_or o (stand_in rule units t.number)) none),
      )

  not_common : (t : Top) → In t (tops_of units) → image_at fixed t.number ≡ None → moves rule units t.number ≡ true → (path : List ℕ) (e : Seen EntryName) → In e (all_seen (common_units m))
      → e.at ≡ Within (m.stand t.number) path
      → ⊥
  unfolding common_units
  not_common t there none moved path e h at =
      let o = key_of (partial_units m Common 0 m.parts) e h in
      let q = parts_from m Common 0 m.parts o.unit o.there in
      let key = subst (λ (w : DwUnit EntryName). In e.at (unit_keys w)) (sym q.is) o.key in
      let owned = (new_own docs common fixed p fx q.number q.part q.nth).owns e.at key in
      let own = subst (Owns docs common fixed p fx (New q.number)) at owned in
      by q.number q.part q.nth q.home_is own.top own.number own.stands_is
    where
      by : (n : ℕ) (part : PartialUnit) → Nth 0 m.parts n part → part.home ≡ Common → (top : Top) → top.number ≡ m.stand t.number → InPart r n top ⊎ InLocal docs common fixed p fx n top → ⊥
      by n part nth home top number (inl x) =
          let low = part_number r (whole r re) top (in_common r re n top x) in
          let k = left_number t there none moved in
          let high = own_number r (whole r re) k.0 k.1 in
          omega (arith, low, high, number, k.2)
      by n part nth home top number (inr y) = not_local n part nth home top y

  -- ---- a file that imports nothing

  module _ (imports : imports_common m units file ≡ false) where
    takes_none : (t : Top) → In t (tops_of units) → t.file ≡ file → image_at fixed t.number ≡ None
    takes_none t there of_file = by (image_at fixed t.number) refl where
      by : (o : Option ℕ) → image_at fixed t.number ≡ o → o ≡ None
      by None e = refl
      by (Some c) e =
          let is = (image_is r fixed files re fx t there c e).taken in
          let top = (image_is r fixed files re fx t there c e).top in
          let k = part_nth r re is.part top is.in_part in
          let nth = nth_left 0 firsts locals is.part (common_part r fixed is.part) (nth_common r fixed 0 r.commons is.part k.0 k.1) in
          absurd (no_user m units file imports is.part (common_part r fixed is.part) nth refl t.unit (in_takers r fixed fx t.unit is.part is.takes) (file_of_top units t there ∙ of_file))

    own_gone : (t : Top) → In t (tops_of units) → t.file ≡ file → m.gone t.number ≡ true → (d : Seen EntryName) → In d (raw_top t) → StandsAt m outs d.at
    own_gone t there of_file gone d is =
        let o = gone_there docs common fixed p fx file t there of_file gone d is in
        let none = takes_none t there of_file in
        let moved : moves rule units t.number ≡ true = subst (λ (i : Option ℕ). (is_some i || moves rule units t.number) ≡ true) none gone in
        let path = top_at t (re.own.tops_named t there) d is in
        elim (either_seen (common_units m) outs o.0 o.1) [
          | inl a ↦ absurd (not_common t there none moved path.path o.0 a (o.2 ∙ ap (image_in m) path.is))
          | inr b ↦ (o.0, b, o.2)
        ]

    pub after_own : AreAfterOf (IsOfFile units file) m units outs
    after_own = all_own units m file imports outs_over

    pub closed_own : Closed outs
    closed_own = all_closed units m file imports outs_over re.own (closed_at file 0 0 0 docs p.each) own_gone local_holds
