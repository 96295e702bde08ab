use Rattle.std.proofs.Common.{◌≡◌, ◌+◌, ◌++◌, ◌∷◌, [], List, subst, sym, refl, ap, ◌∙◌, arith}
use Rattle.std.proofs.lemmas.List.{length-map}
use Rattle.std.proofs.lemmas.Result.{err_from_is_err_and}
use Rattle.dwz_def_reading.specs.Abbrevs.{table_at}
use Rattle.dwz_def_reading.specs.Faults.{Fails}
use Rattle.dwz_unit.specs.Tables.{Grows, Stored}
use Rattle.dwz_unit.specs.TableViews.{HaveRow, TableView, table_view, table_views}
use Rattle.dwz_unit.specs.Tails.{AreJoinedTables, HasTail, IsJoined, read_from, whole_tables}
use Rattle.dwz_unit.proofs.AddedLemmas.{are_kept, bases_pushed, begins_given, row_grows}
use Rattle.dwz_unit.proofs.LinkLemmas.{last_read, reads_grow}
use Rattle.dwz_unit.proofs.TableRowLemmas.{have_added, have_kept, own_length, views_added, views_kept}
use Rattle.dwz_unit.proofs.TailLemmas.{grows_none}
use Rattle.dwz_unit.proofs.joined_tables.JoinedTables.new_tail.Goals.{After-read_joined, In_ok-push}
use Rattle.dwz_unit.proofs.joined_tables.JoinedTables.new_tail.Goals as goal

pub returns-in-Some : goal.returns-in-Some
returns-in-Some c =
    let views = table_views c.self.inside.pairs.row c.self.inside.reads.items in
    record {
      grows = grows_none c.args.self.now;
      answers = subst (λ (s : Stored). HasTail s c.args.offset c.in-Some.tail) c.self.view_is
          (begins_given c.self.inside.pairs.section views (table_views c.self.inside.pairs.row c.as_slice-reads.result.now) c.self.inside.tails c.args.offset c.self.inside.count c.in-Some.tail c.self.invariant.0
          (ap (table_views c.self.inside.pairs.row) c.as_slice-reads.ensures.value)
          (c.in-Some.ensures c.self.inside.pairs.row));
    }

-- what the tables say stays as the row grows
kept : (c : After-read_joined) → table_views c.read_joined.new.pairs.row c.self.inside.reads.items ≡ table_views c.self.inside.pairs.row c.self.inside.reads.items
kept c = views_kept c.self.inside.pairs.row c.read_joined.new.pairs.row c.self.inside.reads.items c.read_joined.ensures.begins c.self.invariant.1

pub read_joined-requires-clause-known : goal.read_joined-requires-clause-known
read_joined-requires-clause-known c = rw c.as_slice-reads.ensures.value c.self.invariant.0.known

pub read_joined-requires-clause-row : goal.read_joined-requires-clause-row
read_joined-requires-clause-row c = rw c.as_slice-reads.ensures.value c.self.invariant.1

pub invariant_of-self : goal.invariant_of-self
invariant_of-self c =
    let inside = c.self.inside in
    let same = kept (goal.at.invariant_of-self c).After-read_joined in
    rw c.read_joined.ensures.section (
      are_kept inside.pairs.section (table_views inside.pairs.row inside.reads.items) (table_views c.read_joined.new.pairs.row inside.reads.items) inside.tails inside.count c.self.invariant.0 same,
      have_kept inside.pairs.row c.read_joined.new.pairs.row inside.reads.items c.read_joined.ensures.begins c.self.invariant.1,
    )

pub returns-in_err-read : goal.returns-in_err-read
returns-in_err-read c =
    let p = err_from_is_err_and c.from_residual.result c.from_residual.ensures.1 in
    let inside = c.self.inside in
    rw c.read_joined.ensures.section (record {
      grows = row_grows inside.pairs.section (table_views inside.pairs.row inside.reads.items) _ c.args.self.now c.self.view_is (kept (goal.at.returns-in_err-read c).After-read_joined);
      answers = rw (p.1, p.2) (subst (λ (s : Stored). Fails c.in_err-read.field-0.0 (table_at s.section c.args.offset)) c.self.view_is c.in_err-read.ensures.read);
    })

pub invariant_of-self-in_err-push : goal.invariant_of-self-in_err-push
invariant_of-self-in_err-push c =
    let inside = c.self.inside in
    let row = c.read_joined.new.pairs.row in
    let same = ap (table_views row) c.in_err-push.ensures.items ∙ kept (goal.at.invariant_of-self-in_err-push c).After-read_joined in
    rw c.read_joined.ensures.section (
      are_kept inside.pairs.section (table_views inside.pairs.row inside.reads.items) (table_views row c.push.new.self.items) inside.tails inside.count c.self.invariant.0 same,
      subst (HaveRow row) (sym c.in_err-push.ensures.items) (have_kept inside.pairs.row row inside.reads.items c.read_joined.ensures.begins c.self.invariant.1),
    )

pub returns-in_err-push : goal.returns-in_err-push
returns-in_err-push c =
    let p = err_from_is_err_and c.from_residual-in_err-push.result c.from_residual-in_err-push.ensures.1 in
    let inside = c.self.inside in
    rw c.read_joined.ensures.section (record {
      grows = row_grows inside.pairs.section (table_views inside.pairs.row inside.reads.items) _ c.args.self.now c.self.view_is
          (ap (table_views c.read_joined.new.pairs.row) c.in_err-push.ensures.items ∙ kept (goal.at.returns-in_err-push c).After-read_joined);
      answers = rw (p.1, p.2) tt;
    })

-- one table more
added : (c : In_ok-push) → table_views c.read_joined.new.pairs.row c.push.new.self.items ≡ table_views c.self.inside.pairs.row c.self.inside.reads.items ++ table_view c.read_joined.new.pairs.row c.in_ok-read.read ∷ []
added c =
    views_added c.self.inside.pairs.row c.read_joined.new.pairs.row c.self.inside.reads.items c.push.new.self.items c.in_ok-read.read c.read_joined.ensures.begins c.self.invariant.1 c.in_ok-push.ensures.items

-- the tables before it, as they were given
given : (c : In_ok-push) → table_views c.read_joined.new.pairs.row c.as_slice-reads.result.now ≡ table_views c.self.inside.pairs.row c.self.inside.reads.items
given c =
    ap (table_views c.read_joined.new.pairs.row) c.as_slice-reads.ensures.value
    ∙ views_kept c.self.inside.pairs.row c.read_joined.new.pairs.row c.self.inside.reads.items c.read_joined.ensures.begins c.self.invariant.1

are_more : (c : In_ok-push) → AreJoinedTables c.self.inside.pairs.section (table_views c.read_joined.new.pairs.row c.push.new.self.items) c.self.inside.tails (c.self.inside.count + c.len.result) × HaveRow c.read_joined.new.pairs.row c.push.new.self.items
are_more c =
    let inside = c.self.inside in
    let row = c.read_joined.new.pairs.row in (
      bases_pushed inside.pairs.section (table_views inside.pairs.row inside.reads.items) (table_views row c.as_slice-reads.result.now) (table_views row c.push.new.self.items) inside.tails c.args.offset inside.count
          (inside.count + c.len.result) (table_view row c.in_ok-read.read) c.self.invariant.0 (given c) c.in_ok-read.ensures.read c.in_ok-read.ensures.first
          (omega (arith, c.len.ensures.len, own_length row c.in_ok-read.read)) (added c),
      have_added inside.pairs.row row inside.reads.items c.push.new.self.items c.in_ok-read.read c.read_joined.ensures.begins c.self.invariant.1 c.in_ok-push.ensures.items c.in_ok-read.ensures.within,
    )

grown : (c : In_ok-push) → Grows c.args.self.now (read_from c.self.inside.pairs.section (table_views c.read_joined.new.pairs.row c.push.new.self.items))
grown c =
    let inside = c.self.inside in
    let row = c.read_joined.new.pairs.row in
    subst (λ (s : Stored). Grows s (read_from inside.pairs.section (table_views row c.push.new.self.items))) c.self.view_is
    (reads_grow inside.pairs.section (table_views inside.pairs.row inside.reads.items) (table_views row c.push.new.self.items) (table_view row c.in_ok-read.read) (added c))

pub invariant_of-self-in_err-push-2 : goal.invariant_of-self-in_err-push-2
invariant_of-self-in_err-push-2 c = rw c.read_joined.ensures.section (are_more (goal.at.invariant_of-self-in_err-push-2 c).In_ok-push)

pub returns-in_err-push-2 : goal.returns-in_err-push-2
returns-in_err-push-2 c =
    let p = err_from_is_err_and c.from_residual-in_err-push-2.result c.from_residual-in_err-push-2.ensures.1 in
    rw c.read_joined.ensures.section (record { grows = grown (goal.at.returns-in_err-push-2 c).In_ok-push; answers = rw (p.1, p.2) tt })

pub invariant_of-self-2 : goal.invariant_of-self-2
invariant_of-self-2 c = rw c.read_joined.ensures.section (are_more (goal.at.invariant_of-self-2 c).In_ok-push)

pub returns : goal.returns
returns c =
    let inside = c.self.inside in
    let row = c.read_joined.new.pairs.row in
    let views = table_views inside.pairs.row inside.reads.items in
    rw c.read_joined.ensures.section (record {
      grows = grown (goal.at.returns c).In_ok-push;
      answers = last_read inside.pairs.section views (table_views row c.push.new.self.items) c.args.offset (table_view row c.in_ok-read.read) (record { base = c.len-base.result; skip = 0 })
          (added (goal.at.returns c).In_ok-push)
          (c.len-base.ensures ∙ inside.reads.ok.0 ∙ sym (length-map inside.reads.items (table_view inside.pairs.row))) refl
          (subst (λ (w : List TableView). IsJoined inside.pairs.section w (whole_tables w) c.args.offset (table_view row c.in_ok-read.read)) (given (goal.at.returns c).In_ok-push) c.in_ok-read.ensures.read);
    })
