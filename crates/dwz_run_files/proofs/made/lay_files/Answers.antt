use Rattle.std.proofs.Common.{refl}
use Rattle.dwz_law_layout.specs.Beside.{Alone}
use Rattle.dwz_run_files.proofs.WorksMade.{entries_few, tops_alone, tops_inside, work_made}
use Rattle.dwz_run_files.proofs.made.lay_files.Goals as goal

pub starts-requires : goal.starts-requires
starts-requires g c = entries_few c.requires.works.0 c.args.prepared.now c.requires.works.1 c.args.prepared.now.run.indexes.now refl

pub tops-requires-clause-few : goal.tops-requires-clause-few
tops-requires-clause-few g c = entries_few c.requires.works.0 c.args.prepared.now c.requires.works.1 c.args.prepared.now.run.indexes.now
    refl

pub tops-requires-clause-inside : goal.tops-requires-clause-inside
tops-requires-clause-inside g c =
    tops_inside c.requires.works.0 c.args.prepared.now c.requires.works.1 c.args.prepared.now.run.indexes.now refl

pub new_common-requires-clause-work : goal.new_common-requires-clause-work
new_common-requires-clause-work g c κs within = (
  c.requires.works.0,
  work_made c.requires.works.0 _ c.requires.works.1 c.args.prepared.now.run.indexes.now c.deref.result.now c.in_ok-starts.starts.items
      refl c.deref.ensures.value c.in_ok-layout.ensures c.as_slice.ensures.value c.in_ok-starts.ensures
      (tops_alone c.requires.works.0 _ c.requires.works.1 c.args.prepared.now.run.indexes.now refl _ c.in_ok-tops.tops.items
      c.as_slice-2.ensures.value c.in_ok-tops.ensures),
  c.requires.works.2,
)

pub new_files-requires-clause-work : goal.new_files-requires-clause-work
new_files-requires-clause-work g c = λ lifetimes lives. (
  Alone,
  c.requires.works.0,
  work_made c.requires.works.0 _ c.requires.works.1 c.args.prepared.now.run.indexes.now c.deref.result.now c.in_ok-starts.starts.items
      refl c.deref.ensures.value c.in_ok-layout.ensures c.as_slice.ensures.value c.in_ok-starts.ensures
      (tops_alone c.requires.works.0 _ c.requires.works.1 c.args.prepared.now.run.indexes.now refl _ c.in_ok-tops.tops.items
      c.as_slice-2.ensures.value c.in_ok-tops.ensures),
)

pub returns-clause-common : goal.returns-clause-common
returns-clause-common g c f works has =
    c.in_ok-common.ensures f
    (work_made f _ works c.args.prepared.now.run.indexes.now c.deref.result.now c.in_ok-starts.starts.items
    refl c.deref.ensures.value c.in_ok-layout.ensures c.as_slice.ensures.value c.in_ok-starts.ensures
    (tops_alone f _ works c.args.prepared.now.run.indexes.now refl _ c.in_ok-tops.tops.items
    c.as_slice-2.ensures.value c.in_ok-tops.ensures))
    has

pub returns-clause-files : goal.returns-clause-files
returns-clause-files g c f works =
    c.in_ok-files.ensures Alone f
    (work_made f _ works c.args.prepared.now.run.indexes.now c.deref.result.now c.in_ok-starts.starts.items
    refl c.deref.ensures.value c.in_ok-layout.ensures c.as_slice.ensures.value c.in_ok-starts.ensures
    (tops_alone f _ works c.args.prepared.now.run.indexes.now refl _ c.in_ok-tops.tops.items
    c.as_slice-2.ensures.value c.in_ok-tops.ensures))
