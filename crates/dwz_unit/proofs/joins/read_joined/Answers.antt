use Rattle.std.proofs.Common.{ℕ, List, Some, None, subst, sym}
use Rattle.dwz_abbrev.specs.ReadViews.{read_views}
use Rattle.dwz_abbrev.specs.Starts.{HaveOtherCodes}
use Rattle.dwz_abbrev.proofs.ReadLemmas.{begins_both}
use Rattle.dwz_abbrev.specs.declared.read_decl.ReadDecl.{ReadDecl}
use Rattle.dwz_model.specs.declared.place.Pair.{Pair}
use Rattle.dwz_unit.specs.TableViews.{TableView, table_views}
use Rattle.dwz_unit.specs.Tails.{AreReadTables, FindsJoined, whole_tables, tail_in}
use Rattle.dwz_unit.proofs.JoinLemmas.{made_first, made_none, made_some, made_within, whole_finds}
use Rattle.dwz_unit.proofs.LinkLemmas.{begins_in}
use Rattle.dwz_unit.proofs.TableRowLemmas.{have_kept, views_kept}
use Rattle.dwz_unit.proofs.joins.read_joined.Goals.{In_ok-rows}
use Rattle.dwz_unit.proofs.joins.read_joined.Goals as goal

-- what the tables say stays as the row grows
known : (c : In_ok-rows) → AreReadTables c.args.pairs.now.section (table_views c.read_up_to.new.pairs.row c.args.reads.now) (whole_tables (table_views c.read_up_to.new.pairs.row c.args.reads.now))
known c =
    let same = views_kept c.args.pairs.now.row c.read_up_to.new.pairs.row c.args.reads.now c.read_up_to.ensures.begins c.requires.row in
    subst (λ (vs : List TableView). AreReadTables c.args.pairs.now.section vs (whole_tables vs)) (sym same) c.requires.known

pub returns-in-None-clause-read : goal.returns-in-None-clause-read
returns-in-None-clause-read c =
    let read = rw c.in-None.is at c.in_ok-rows.ensures.read in
    made_none c.args.pairs.now.section c.read_up_to.new.pairs.row c.args.reads.now c.args.offset c.args.first _ _ c.joined.result c.joined.ensures.ok c.joined.ensures.err read.0 read.1

pub returns-in-None-clause-first : goal.returns-in-None-clause-first
returns-in-None-clause-first c = made_first c.args.pairs.now.section c.read_up_to.new.pairs.row c.args.reads.now c.args.offset c.args.first _ _ None c.joined.result c.joined.ensures.ok

pub returns-in-None-clause-within : goal.returns-in-None-clause-within
returns-in-None-clause-within c = made_within c.args.pairs.now.section c.read_up_to.new.pairs.row c.args.reads.now c.args.offset c.args.first _ _ None c.joined.result c.joined.ensures.ok c.in_ok-rows.ensures.within

pub are_apart-requires-clause-linked : goal.are_apart-requires-clause-linked
are_apart-requires-clause-linked c = rw c.as_slice-in-Some-next.ensures (known (goal.at.are_apart-requires-clause-linked c).In_ok-rows).linked

pub are_apart-requires-clause-tail : goal.are_apart-requires-clause-tail
are_apart-requires-clause-tail c =
    rw c.as_slice-in-Some-next.ensures
    (begins_in c.args.pairs.now.section (table_views c.read_up_to.new.pairs.row c.args.reads.now) c.in-Some.place (known (goal.at.are_apart-requires-clause-tail c).In_ok-rows) c.in-Some-next.tail
    (c.in-Some-next.ensures c.read_up_to.new.pairs.row))

pub are_apart-requires-clause-row : goal.are_apart-requires-clause-row
are_apart-requires-clause-row c =
    rw c.as_slice-in-Some-next.ensures (have_kept c.args.pairs.now.row c.read_up_to.new.pairs.row c.args.reads.now c.read_up_to.ensures.begins c.requires.row)

pub returns-in-Some-next-clause-read : goal.returns-in-Some-next-clause-read
returns-in-Some-next-clause-read c =
    let row = c.read_up_to.new.pairs.row in
    let read = rw c.in-Some.is at c.in_ok-rows.ensures.read in
    let apart = subst (λ (w : List Pair). HaveOtherCodes (read_views w c.as_slice-in-Some-next-2.result.now) (tail_in (whole_tables (table_views w c.args.reads.now)) c.in-Some-next.tail)) c.as_slice-in-Some-next.ensures
    (c.are_apart.ensures c.if-are_apart.true) in
    made_some c.args.pairs.now.section row c.args.reads.now c.args.offset c.args.first c.in-Some.place _ _ c.in-Some-next.tail c.joined-in-Some-next.result c.joined-in-Some-next.ensures.ok c.joined-in-Some-next.ensures.err
    (known (goal.at.returns-in-Some-next-clause-read c).In_ok-rows) (c.in-Some-next.ensures row) read
    (subst (λ (ds : List ReadDecl). HaveOtherCodes (read_views row ds) (tail_in (whole_tables (table_views row c.args.reads.now)) c.in-Some-next.tail)) c.as_slice-in-Some-next-2.ensures apart)

pub returns-in-Some-next-clause-first : goal.returns-in-Some-next-clause-first
returns-in-Some-next-clause-first c =
    made_first c.args.pairs.now.section c.read_up_to.new.pairs.row c.args.reads.now c.args.offset c.args.first _ _ (Some c.in-Some-next.tail) c.joined-in-Some-next.result c.joined-in-Some-next.ensures.ok

pub returns-in-Some-next-clause-within : goal.returns-in-Some-next-clause-within
returns-in-Some-next-clause-within c =
    made_within c.args.pairs.now.section c.read_up_to.new.pairs.row c.args.reads.now c.args.offset c.args.first _ _ (Some c.in-Some-next.tail) c.joined-in-Some-next.result c.joined-in-Some-next.ensures.ok
    c.in_ok-rows.ensures.within

pub returns-clause-read : goal.returns-clause-read
returns-clause-read c =
    subst (λ (s : List ℕ). FindsJoined s c.read_whole.new.pairs.row c.args.reads.now c.args.offset c.read_whole.result) c.read_up_to.ensures.section
    (whole_finds c.read_up_to.new.pairs.section c.read_whole.new.pairs.row c.args.reads.now c.args.offset c.read_whole.result c.read_whole.ensures.read c.read_whole.ensures.fault)

pub returns-clause-begins : goal.returns-clause-begins
returns-clause-begins c =
    begins_both c.args.pairs.now.row c.read_up_to.new.pairs.row c.read_whole.new.pairs.row c.read_up_to.ensures.begins c.read_whole.ensures.begins
