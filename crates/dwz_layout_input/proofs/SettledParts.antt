-- What is settled of files, part by part, is all that is asked before their units are written.
use Rattle.std.proofs.Common.{◌≡◌, ℕ, ◌+◌, ◌<◌, ◌≤◌, ◌^◌, All, Bool, List, None, Option, length, map, slice_index_or, sym, ap, subst, ◌∙◌}
use Rattle.dwz_def_reading.specs.Documents.{Attr}
use Rattle.dwz_def_tops.specs.Spots.{EntryName, file_numbers, tops_of, units_of}
use Rattle.dwz_graph.specs.Files.{docs_of}
use Rattle.dwz_graph.specs.Index.{Index}
use Rattle.dwz_def_images.specs.Moves.{line_attrs}
use Rattle.dwz_def_readback.specs.Files.{imports_common}
use Rattle.dwz_layout_items.specs.Chains.{IsRising}
use Rattle.dwz_layout_items.specs.declared.partial.SpaceRow.{SpaceRow}
use Rattle.dwz_layout_items.specs.declared.partial.TopSpaces.{TopSpaces}
use Rattle.dwz_layout_order.specs.declared.marks.TopMark.{TopMark}
use Rattle.dwz_layout_order.specs.Lists.{all_tops}
use Rattle.dwz_layout_order.specs.Marks.{mark_at}
use Rattle.dwz_layout_order.specs.Orders.{ShowsLine}
use Rattle.dwz_layout_order.specs.Shown.{KnowsSpaces}
use Rattle.dwz_layout_order.specs.Spaces.{Numbered, spaces_of}
use Rattle.dwz_layout_order.specs.declared.orders.Settled.{Settled}
use Rattle.dwz_layout_order.specs.Ordered.{AreSettled, line_given}
use Rattle.dwz_layout.specs.declared.order.Sort.TheVariants.{Partial as PartialSort}
use Rattle.dwz_plan.specs.Planned.{Planned}
use Rattle.dwz_layout_input.specs.declared.planned.PlannedFiles.{PlannedFiles}
use Rattle.dwz_layout_input.proofs.TopMarks.{marks_are}
use Rattle.dwz_layout_input.specs.Roots.{IsOfOneUnit}
use Rattle.dwz_law_layout.specs.Settled.{IsSettled}
use Rattle.dwz_layout_input.specs.Pinned.{FlagsSpace}
use Rattle.dwz_law_layout.specs.Beside.{Beside}
use Rattle.dwz_law_layout.specs.Facts.{RunFacts, docs, move, units}
use Rattle.dwz_layout_input.specs.declared.settled.SettledFiles.{SettledFiles}
use Rattle.dwz_layout_input.specs.Parts.{AreParts, ArePlannedOf, HoldSome}
use Rattle.dwz_layout_input.specs.Settled.{Lends}

module _ (contents : List (List ℕ)) (indexes : List Index) (p : PlannedFiles) (r : SettledFiles) (parts : AreParts contents indexes p r) where
  module _ {beside : Beside} (f : RunFacts beside) (of : ArePlannedOf contents indexes p f) where
    -- with the contents and indexes of the facts
    own : AreParts f.contents f.indexes p r
    own =
        subst (λ (w : List (List ℕ)). AreParts w f.indexes p r) (sym of.contents_are)
        (subst (λ (w : List Index). AreParts contents w p r) (sym of.indexes_are) parts)

    pub imports_settled : r.importing.items ≡ map (imports_common (move f) (units f)) (file_numbers 0 (docs f))
    imports_settled = (own.moved (move f) of.first).importing

    pub all_settled : (s : Settled) → Lends r s → IsSettled f s
    all_settled s lends =
        let sp = own.spaces in
        let moved = own.moved (move f) of.first in
        record {
          plan = lends.plan ∙ ap (λ (w : PlannedFiles). w.plan) own.planned ∙ sym of.plan_is;
          files = lends.files ∙ moved.written;
          marks = record {
            tops = marks_are (move f) (units f) (length (docs f)) p.tops p.plan s.marks of.first (λ k lt. ap (λ (w : List TopMark). mark_at w k) lends.tops ∙ own.marks k lt);
            spaces = subst (λ (w : List Bool). Numbered (FlagsSpace (units f) w) 0 (spaces_of (units f))) (sym lends.spaces) own.pinned.each;
          };
          texts = sp.texts;
          lists = sp.lists;
          rows_are = lends.rows ∙ sp.rows_are;
          spaces = subst (λ (w : List SpaceRow). KnowsSpaces (units f) w sp.texts sp.lists (all_tops f.indexes)) (sym lends.rows) sp.knows;
          of_tops = lends.of_tops ∙ sp.of_tops_are;
          lines = λ n part nth is_made. (
              let made = of.goes.made n part nth is_made in
              let one : IsOfOneUnit (units f) part = record { some = made.some; there = λ t is. (made.tops t is).there; unit = λ t is. (made.tops t is).unit } in
              subst (λ (w : List (Attr EntryName)). ShowsLine (PartialSort (line_given s n)) w) (sym made.root)
              (subst (λ (w : List (Option ℕ)). ShowsLine (PartialSort (slice_index_or w n None)) (line_attrs (units f) part)) (sym lends.lines) (moved.lines.each n part nth one)));
        }

  pub all_fit : (count : ℕ) (s : Settled) → Lends r s → HoldSome count (length (tops_of (units_of (docs_of contents)))) p.plan.partials → AreSettled count s
  all_fit count s lends hold =
      let sp = parts.spaces in
      let plan : p.plan ≡ s.plan.now = sym (lends.plan ∙ ap (λ (w : PlannedFiles). w.plan) parts.planned) in
      let many : length (tops_of (units_of (docs_of contents))) ≡ length s.of_tops.now = sym (ap (λ (w : List TopSpaces). length w) lends.of_tops ∙ sp.many_tops) in
      record {
        spaced = record {
          rising = subst IsRising (sym lends.rows) sp.rising;
          within = subst (λ (w : List SpaceRow). All (λ x. x.inner ≤ length w) s.of_tops.now) (sym lends.rows)
              (subst (λ (w : List TopSpaces). All (λ x. x.inner ≤ length r.spaces.rows.items) w) (sym lends.of_tops) sp.within);
          few = subst (λ (w : List SpaceRow). length w + 2 < 2 ^ 32) (sym lends.rows) sp.few;
          few_parts = subst (λ (w : Planned). length w.partials < 2 ^ 32) plan hold.few;
          few_tops = subst (λ (w : Planned). All (λ part. length part.tops < 2 ^ 32) w.partials) plan hold.few_tops;
        };
        inside = subst (λ (w : Planned). All (λ part. part.file < count → All (λ t. t < length s.of_tops.now) part.tops) w.partials) plan
            (subst (λ (n : ℕ). All (λ part. part.file < count → All (λ t. t < n) part.tops) p.plan.partials) many hold.inside);
      }
