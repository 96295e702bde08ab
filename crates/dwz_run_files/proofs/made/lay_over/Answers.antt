use Rattle.std.proofs.Common.{refl}
use Rattle.dwz_law_layout.specs.Beside.{Over}
use Rattle.dwz_law_layout.specs.Facts.{docs}
use Rattle.dwz_layout_input.proofs.FitsOver.{behind_inside}
use Rattle.dwz_run_files.proofs.WorksMade.{entries_behind, entries_few, tops_inside}
use Rattle.dwz_run_files.proofs.WorksOver.{work_over}
use Rattle.dwz_run_files.proofs.made.lay_over.Goals as goal

pub starts-requires : goal.starts-requires
starts-requires g c = (let r = c.requires.works in entries_few r.1 c.args.prepared.now r.2 c.args.prepared.now.run.indexes.now refl)

pub tops_over-requires-clause-few : goal.tops_over-requires-clause-few
tops_over-requires-clause-few g c =
    let r = c.requires.works in
    entries_behind r.1 c.args.prepared.now r.2 c.args.prepared.now.run.indexes.now refl _ r.3.behind.few

pub tops_over-requires-clause-inside : goal.tops_over-requires-clause-inside
tops_over-requires-clause-inside g c =
    let r = c.requires.works in tops_inside r.1 c.args.prepared.now r.2 c.args.prepared.now.run.indexes.now refl

pub tops_over-requires-clause-inside_behind : goal.tops_over-requires-clause-inside_behind
tops_over-requires-clause-inside_behind g c =
    let r = c.requires.works in behind_inside (docs r.1) r.0.doc c.args.standing.now.index r.3.behind

pub new_files-requires-clause-work : goal.new_files-requires-clause-work
new_files-requires-clause-work g c = λ lifetimes lives. (
    let r = c.requires.works in (
      Over r.0,
      r.1,
      work_over r.0 r.1 _ r.2 c.args.standing.now r.3 c.deref.result.now c.in_ok-starts.starts.items c.in_ok-tops.tops.items
          c.deref.ensures.value c.in_ok-layout.ensures c.as_slice.ensures.value c.in_ok-starts.ensures c.as_slice-2.ensures.value
          c.in_ok-tops.ensures.are,
    ))

pub returns : goal.returns
returns g c s f works is =
    c.new_files.ensures (Over s) f
    (work_over s f _ works c.args.standing.now is c.deref.result.now c.in_ok-starts.starts.items c.in_ok-tops.tops.items
    c.deref.ensures.value c.in_ok-layout.ensures c.as_slice.ensures.value c.in_ok-starts.ensures c.as_slice-2.ensures.value
    c.in_ok-tops.ensures.are)
