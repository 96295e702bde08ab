use Rattle.std.proofs.Common.{subst, sym}
use Rattle.dwz_unit.specs.Tables.{Stored}
use Rattle.dwz_unit.specs.TableViews.{table_views}
use Rattle.dwz_unit.specs.Tails.{HasTail, read_from}
use Rattle.dwz_unit.proofs.AddedLemmas.{tails_added, tails_kept}
use Rattle.dwz_unit.proofs.joined_tables.JoinedTables.tail_at.Goals as goal

pub invariant_of-self-in_err-insert : goal.invariant_of-self-in_err-insert
invariant_of-self-in_err-insert c =
    let inside = c.self-2.inside in
    let are = c.self-2.invariant.0 in
    let views = table_views inside.pairs.row inside.reads.items in (
      record { known = are.known; asked = tails_kept (read_from inside.pairs.section views) inside.tails c.insert.new.self are.asked c.in_err-insert.ensures.err; counted = are.counted },
      c.self-2.invariant.1,
    )

pub invariant_of-self-2 : goal.invariant_of-self-2
invariant_of-self-2 c =
    let inside = c.self-2.inside in
    let are = c.self-2.invariant.0 in
    let views = table_views inside.pairs.row inside.reads.items in
    let has = subst (λ (s : Stored). HasTail s c.args.offset c.in_ok-tail.tail) (sym c.self-2.view_is) c.in_ok-tail.ensures.answers in (
      record {
        known = are.known;
        asked = tails_added (read_from inside.pairs.section views) inside.tails c.insert.new.self c.args.offset c.in_ok-tail.tail are.asked has c.in_ok-insert.ensures.updates;
        counted = are.counted;
      },
      c.self-2.invariant.1,
    )
