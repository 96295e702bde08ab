use Rattle.std.proofs.Common.{Global, Vec, ◌+◌, ◌<◌, length, get_or, refl, sym, ap, subst, ◌∙◌, arith}
use Rattle.dwz_groups.specs.declared.groups.Edge.{Edge}
use Rattle.dwz_reuse.specs.Spaces.{PutsRows}
use Rattle.dwz_unit.proofs.RowsFound.{entry_row}
use Rattle.dwz_graph.proofs.RowUnits.{unit_within}
use Rattle.dwz_unit.specs.declared.rows.RawEntry.{RawEntry}
use Rattle.dwz_unit.specs.Rows.{units_of}
use Rattle.dwz_reuse.proofs.SpaceEdges.{put_row, skip_row}
use Rattle.dwz_reuse.proofs.spaces.put_rows.Goals as goal
use Rattle.dwz_reuse.proofs.spaces.put_rows.Goals.{then-number-ne0+in_ok-push, else-number-ne0}

pub overflow_add-first : goal.overflow_add-first
overflow_add-first c =
    let raw = units_of c.args.units.now in
    let r = entry_row raw c.loop-entry.entry c.entry-unit.result c.entry-unit.ensures.entry in
    let low : c.entry-unit.result.unit < length raw = subst (λ (w : RawEntry). w.unit < length raw) r.2 (unit_within raw c.loop-entry.entry r.0 r.1) in
    let room = c.requires.room in
    omega arith

pub loop-entry-preserved : goal.loop-entry-preserved
loop-entry-preserved c =
    let raw = units_of c.args.units.now in
    elim c.if-number-ne0.branch [
      | then-number-ne0+in_ok-push w ↦
          let r = entry_row raw c.loop-entry.entry w.entry-unit.result w.entry-unit.ensures.entry in
          put_row raw c.args.numbers.now c.args.first c.loop-entry.entry (get_or c.args.numbers.now c.loop-entry.entry 0) w.entry-unit.result.unit r.0 c.args.edges.now.items c.loop-entry.edges.items
          c.if-number-ne0.edges.items r.1 (ap (λ (x : RawEntry). x.unit) r.2) refl w.if-number-ne0.true
          (ap (λ (v : Vec Edge Global). v.items) w.edges-is ∙ w.in_ok-push.ensures.items) c.loop-entry.invariant
      | else-number-ne0 w ↦ subst (λ (v : Vec Edge Global). PutsRows raw c.args.numbers.now c.args.first (c.loop-entry.entry + 1) c.args.edges.now.items v.items) (sym w.edges-is)
          (skip_row raw c.args.numbers.now c.args.first c.loop-entry.entry c.args.edges.now.items c.loop-entry.edges.items w.if-number-ne0.false c.loop-entry.invariant)
    ]
