-- What is known of each top, by its row and by where it goes.
use Rattle.std.proofs.Common.{◌≡◌, ℕ, zero, suc, false, List, [], ◌∷◌, map, not, Some, slice_get, refl, ap, ◌∙◌, sym}
use Rattle.dwz_def_reading.proofs.ListFacts.{get_first, got_below, got_index_or, got_map}
use Rattle.dwz_def_tops.specs.Spots.{EntryName, FileUnit, Top, tops_of}
use Rattle.dwz_def_tops.proofs.TopNumbers.{top_there}
use Rattle.dwz_def_tops.proofs.Members.{each_of}
use Rattle.dwz_def_images.specs.Moves.{Move}
use Rattle.dwz_def_images.specs.Plan.{is_pinned, pinned_of}
use Rattle.dwz_groups.specs.declared.tops.TopRow.{TopRow}
use Rattle.dwz_plan.specs.declared.plan.Home.{Home as Place}
use Rattle.dwz_plan.specs.declared.plan.Home.TheVariants.{Common as InCommon, Local as InFile, Stay as InUnit}
use Rattle.dwz_plan.specs.Shows.{ShowsRows}
use Rattle.dwz_plan.specs.ShowsMove.{IsPlaceIn}
use Rattle.dwz_layout_order.specs.declared.marks.TopMark.{TopMark}
use Rattle.dwz_layout_order.specs.Marks.{stays_in}
use Rattle.dwz_layout_order.specs.Named.{MarksTop}
use Rattle.dwz_layout_input.specs.Laws.{MarksLaw}

stays_is : (m : Move) (n : ℕ) (p : Place) → IsPlaceIn m n p → stays_in p ≡ not (m.gone n)
stays_is m n (InCommon k) is = ap not (sym is.0)
stays_is m n (InFile k) is = ap not (sym is.1)
stays_is m n InUnit is = ap not (sym is)

row_marked : (units : List (FileUnit EntryName)) (rows : List TopRow) (tops : List Top) (k : ℕ) (t : Top) → ShowsRows units rows tops → slice_get tops k ≡ Some t
    → (row : TopRow) × (slice_get rows k ≡ Some row) × (row.pinned ≡ is_pinned units t.number)
row_marked units [] [] k t h e = absurd cc
row_marked units [] (u ∷ tops) k t h e = absurd h
row_marked units (row ∷ rows) [] k t h e = absurd h
row_marked units (row ∷ rows) (u ∷ tops) zero t h e = (let same : u ≡ t = cc in (row, refl, h.0.pinned ∙ ap (λ (w : Top). is_pinned units w.number) same))
row_marked units (row ∷ rows) (u ∷ tops) (suc k) t h e = row_marked units rows tops k t h.1 e

pub marks_are : MarksLaw
marks_are m units files tops plan marks planned each = each_of (MarksTop m.gone (pinned_of units) marks) (tops_of units)
    (λ t there. (
    let first = planned.rows in
    let r = row_marked units first.own.rows (tops_of units) t.number t first.shows.rows (top_there units t there) in
    let here : slice_get tops.rows t.number ≡ Some r.0 = ap (λ (rs : List TopRow). slice_get rs t.number) first.rows ∙ get_first first.own.rows first.rows_behind t.number r.0 r.1 in
    let mark = each t.number (got_below tops.rows t.number r.0 here) in
    record {
      stays = ap (λ (w : TopMark). w.stays) mark ∙ stays_is m t.number _ (planned.moves.homes t there);
      pinned = ap (λ (w : TopMark). w.pinned) mark
          ∙ got_index_or (map (λ (row : TopRow). row.pinned) tops.rows) t.number r.0.pinned false (got_map (λ (row : TopRow). row.pinned) tops.rows t.number r.0 here) ∙ r.2;
    }))
