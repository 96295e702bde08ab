-- What is asked of a move holds of the one over a finished common file.
use Rattle.std.proofs.Common.{◌≡◌, ℕ, suc, ◌+◌, ◌≤◌, Bool, true, false, List, [], ◌∷◌, ◌++◌, length, map, Option, Some, None, refl, sym, ap, subst, ◌∙◌, inl, inr, arith, append_assoc, ◌||◌}
use Rattle.std.specs.Prelude.{unwrap_or}
use Rattle.std.specs.List.{range_with_len}
use Rattle.std.specs.Option.{is_some}
use Rattle.std.proofs.lemmas.List.{map-append}
use Rattle.dwz_def_reading.proofs.ListFacts.{in_cases, in_left, in_right}
use Rattle.dwz_def_reading.specs.Documents.{Doc}
use Rattle.dwz_def_reading.specs.Lists.{Each, In}
use Rattle.dwz_def_tops.specs.Lists.{Nth}
use Rattle.dwz_def_tops.proofs.AlikeLaws.{alike_decides}
use Rattle.dwz_def_tops.proofs.Members.{each_append, nth_from, nth_in}
use Rattle.dwz_def_tops.proofs.Tops.{row_top}
use Rattle.dwz_def_tops.specs.Alike.{Alike, Apart, Look, SameTop}
use Rattle.dwz_def_tops.specs.Deciding.{alike_test}
use Rattle.dwz_def_tops.specs.Spots.{ASpace, ATop, EntryName, FileUnit, Nothing, Row, Top, file_numbers, name_list, row_tops, rows_of_root, tops_of, units_of}
use Rattle.dwz_def_images.specs.Homes.{Common, Local, Rule, moves}
use Rattle.dwz_def_images.specs.IsPlan.{Has, OfTop}
use Rattle.dwz_def_images.specs.Moves.{Move}
use Rattle.dwz_def_images.specs.Plan.{PartialUnit, local_partials, partials, partials_at, stand_in}
use Rattle.dwz_plan.proofs.BridgeLemmas.{file_numbers_are}
use Rattle.dwz_def_images.specs.Units.{changes}
use Rattle.dwz_def_tops.proofs.FiledTops.{nth_cases}
use Rattle.dwz_def_taken.specs.declared.fixed.Fixed.{Fixed}
use Rattle.dwz_def_taken.specs.Beside.{Reused, compile_doc, look_units, reused_of, together}
use Rattle.dwz_def_taken.specs.Laws.{ArePlacedOver, IsReused}
use Rattle.dwz_def_taken.specs.Over.{as_part, common_parts, move_over, row_map}
use Rattle.dwz_def_taken.specs.Takes.{IsFixed, free_rule, free_test, image_at}
use Rattle.dwz_def_taken.proofs.ClosedOver.{local_rows}
use Rattle.dwz_def_taken.proofs.CommonParts.{common_nth, length-common}
use Rattle.dwz_def_taken.proofs.CommonUnits.{stands}
use Rattle.dwz_def_taken.proofs.LookTops.{LikeIn, own_look, own_number, own_together, part_look, part_number, together_cases}
use Rattle.dwz_def_taken.proofs.NamesOver.{named_over, together_is}
use Rattle.dwz_def_taken.proofs.OverLemmas.{fair, free_two, image_is}
use Rattle.dwz_def_taken.proofs.PlaceLemmas.{in_part, whole}
use Rattle.dwz_layout_numbers.specs.Images.{HasStandIn, HaveStandIns, SameShape}
use Rattle.dwz_layout_numbers.specs.Numbering.{AreInOrder, parts_at}
use Rattle.dwz_layout_numbers.specs.OwnerLaws.{HoldTops}
use Rattle.dwz_layout_numbers.proofs.Paths.{shape_same, shape_self}
use Rattle.dwz_layout_numbers.proofs.PlanMoves.{alike_shape, stand_cases}
use Rattle.dwz_layout_numbers.proofs.PlanParts.{home_at, in_order, none_still, row_holds}

-- ---- tops with other names for what they name keep their numbers

mapped_number : (g : EntryName → EntryName) (row : Row) (n : ℕ) → In n (map (λ (t : Top). t.number) (row_tops (row_map g row))) → (u : Top) × In u (row_tops row) × (u.number ≡ n)
unfolding row_tops row_map
mapped_number g Nothing n is = absurd is
mapped_number g (ATop t next) n (inl e) = (t, inl refl, e)
mapped_number g (ATop t next) n (inr y) = (let o = mapped_number g next n y in (o.0, inr o.1, o.2))
mapped_number g (ASpace e inner next) n is =
    let number : Top → ℕ = λ t. t.number in
    elim (in_cases n (map number (row_tops (row_map g inner))) (map number (row_tops (row_map g next)))
    (subst (In n) (map-append number (row_tops (row_map g inner)) (row_tops (row_map g next))) is)) [
      | inl a ↦ (let o = mapped_number g inner n a in (o.0, in_left o.0 (row_tops inner) (row_tops next) o.1, o.2))
      | inr b ↦ (let o = mapped_number g next n b in (o.0, in_right o.0 (row_tops inner) (row_tops next) o.1, o.2))
    ]

-- ---- the partial units of the common file

commons_home : (r : Reused) (fixed : Fixed) (p : ℕ) (commons : List (FileUnit EntryName)) → Each (λ part. part.home ≡ Common) (common_parts r fixed p commons)
unfolding common_parts
commons_home r fixed p [] = tt
commons_home r fixed p (f ∷ commons) = (refl, commons_home r fixed (suc p) commons)

gone_if_moves : (o : Option ℕ) (b : Bool) → b ≡ true → (is_some o || b) ≡ true
gone_if_moves None b e = e
gone_if_moves (Some c) b e = refl

module _ (docs : List (Doc ℕ)) (common : Doc ℕ) (fixed : Fixed) (p : ArePlacedOver docs common) (fx : IsFixed (reused_of docs common) fixed) where
  abbrev r : Reused
  r = reused_of docs common

  abbrev files : List ℕ
  files = file_numbers 0 docs

  abbrev rule : Rule
  rule = free_rule (reused_of docs common) fixed

  abbrev m : Move
  m = move_over (reused_of docs common) fixed (file_numbers 0 docs)

  abbrev every : List (Doc ℕ)
  every = docs ++ compile_doc common ∷ []

  abbrev firsts : List PartialUnit
  firsts = common_parts (reused_of docs common) fixed 0 (reused_of docs common).commons

  abbrev locals : List PartialUnit
  locals = partials (free_rule (reused_of docs common) fixed) (reused_of docs common).units (file_numbers 0 docs)

  re : IsReused r
  re = named_over docs common p

  -- ---- what stands for a top

  -- a top and the one of the common file that is its image
  image_shape : (a b : Top) → LikeIn a (tops_of (look_units r)) → LikeIn b (tops_of (look_units r)) → Alike (look_units r) a.number b.number → SameShape a.below b.below
  unfolding Look
  image_shape a b x y h =
      let tops = tops_of (look_units r) in
      let s : SameTop (Look tops 0) x.top y.top = h.equal 1 x.top y.top x.there y.there x.like.number y.like.number in
      subst (λ (w : _). SameShape w b.below) x.like.below (subst (λ (w : _). SameShape x.top.below w) y.like.below (shape_same (Look tops 0) x.top.below y.top.below s.3))

  own_stand : (t : Top) → In t (tops_of (reused_of docs common).units) → HasStandIn (tops_of (together r)) m t
  own_stand t is = go (image_at fixed t.number) refl where
    free : image_at fixed t.number ≡ None → m.stand t.number ≡ stand_in rule r.units t.number
    free e = ap (λ (o : Option ℕ). unwrap_or o (stand_in rule r.units t.number)) e

    go : (o : Option ℕ) → image_at fixed t.number ≡ o → HasStandIn (tops_of (together r)) m t
    go (Some c) e =
        let im = image_is r fixed files re fx t is c e in
        let there = im.taken.in_part.0 in
        record {
          top = im.top;
          there = there;
          number = im.number ∙ sym (ap (λ (o : Option ℕ). unwrap_or o (stand_in rule r.units t.number)) e);
          shape = image_shape t im.top (own_look r (whole r re) t is).like (part_look r (whole r re) im.top (in_part r re im.taken.part im.top im.taken.in_part)) im.taken.alike.alike;
        }
    go None e = elim (stand_cases rule r.units t.number) [
      | inl s ↦ record { top = t; there = own_together r (whole r re) t is; number = sym (free e ∙ s); shape = shape_self t.below }
      | inr h ↦ record {
        top = h.top;
        there = own_together r (whole r re) h.top h.there;
        number = h.number ∙ sym (free e);
        shape = alike_shape Apart r.units (alike_test Apart r.units) (alike_decides Apart r.units) t h.top is h.there
            (free_two r fixed files re fx t.number h.top.number (ap (free_test r fixed t.number) h.number ∙ h.is)).alike_two;
      }
    ]

  pub over_stands : HaveStandIns (docs ++ compile_doc common ∷ []) (move_over (reused_of docs common) fixed (file_numbers 0 docs))
  over_stands = subst (λ (us : List (FileUnit EntryName)). (t : Top) → In t (tops_of us) → HasStandIn (tops_of us) m t) (together_is docs common) (λ t is.
      elim (together_cases r (whole r re) t is) [
        | inl a ↦ own_stand t a
        | inr b ↦ record { top = t; there = is; number = sym (stands docs common fixed p fx t.number (part_number r (whole r re) t b)); shape = shape_self t.below }
      ])

  -- ---- what partial units hold

  -- those of the common file hold no top of a file
  common_holds : (n : ℕ) (part : PartialUnit) → Nth 0 firsts n part → (t : Top) → In t (tops_of r.units) → In t.number (map (λ (x : Top). x.number) part.tops) → ⊥
  common_holds n part nth t is holds =
      let o = common_nth r fixed 0 r.commons n part nth in
      let u = mapped_number (as_part (length r.units)) (rows_of_root (together r) (length r.units + n)) t.number
      (subst (λ (w : PartialUnit). In t.number (map (λ (x : Top). x.number) w.tops)) o.2 holds) in
      let there = row_top (together r) (length r.units + n) u.0 u.1 in
      let low = part_number r (whole r re) u.0 (in_part r re n u.0 there) in
      let less = own_number r (whole r re) t is in
      omega (arith, low, less, u.2)

  pub over_holds : HoldTops (units_of docs) (move_over (reused_of docs common) fixed (file_numbers 0 docs))
  over_holds n part nth t is holds = elim (nth_cases 0 firsts locals n part nth) [
    | inl a ↦ absurd (common_holds n part a t is holds)
    | inr b ↦
        let from = nth_from (0 + length firsts) locals n part b in
        let low : length r.commons ≤ n = omega (arith, from, length-common r fixed 0 r.commons) in
        subst (Has (name_list t) (OfTop t)) (sym (local_rows docs common fixed p fx n part nth low))
        (row_holds rule r.units files n part (nth_in (0 + length firsts) locals n part b) t is holds)
  ]

  -- ---- their order

  abbrev commons : List PartialUnit
  commons = firsts ++ partials_at rule r.units Common

  parts_are : m.parts ≡ commons ++ local_partials rule r.units (range_with_len 0 (length docs))
  unfolding partials
  parts_are = ap (λ (fs : List ℕ). firsts ++ partials rule r.units fs) (file_numbers_are 0 docs)
      ∙ sym (append_assoc firsts (partials_at rule r.units Common) (local_partials rule r.units (range_with_len 0 (length docs))))

  at_common : Each (λ part. part.home ≡ Common) commons
  at_common = each_append (λ (part : PartialUnit). part.home ≡ Common) firsts (partials_at rule r.units Common) (commons_home r fixed 0 r.commons) (home_at rule r.units Common)

  pub over_order : AreInOrder (move_over (reused_of docs common) fixed (file_numbers 0 docs)) (length docs)
  over_order = in_order m rule r.units commons (length docs) parts_are at_common

  pub over_still : (file : ℕ) → changes (move_over (reused_of docs common) fixed (file_numbers 0 docs)) (units_of docs) file ≡ false
      → parts_at (move_over (reused_of docs common) fixed (file_numbers 0 docs)) (Local file) ≡ []
  over_still = none_still m rule r.units commons (length docs) parts_are at_common (fair r fixed files re fx) (λ k e. gone_if_moves (image_at fixed k) (moves rule r.units k) e)
