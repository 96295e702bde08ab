use Rattle.std.proofs.Common.{◌≡◌, ◌≤◌, ◌-◌, ◌<◌, ◌^◌, rules, length, drop, Option, Some, sym, ap, subst, ◌∙◌, arith}
use Rattle.std.specs.Prelude.{slice_get}
use Rattle.std.proofs.lemmas.List.{length-map}
use Rattle.std.proofs.lemmas.Option.{slice_get_read, slice_get_within}
use Rattle.dwz_def_reading.specs.Abbrevs.{find_decl}
use Rattle.dwz_def_reading.proofs.ListFacts.{got_map, same_got}
use Rattle.dwz_unit.specs.declared.tail.Tail.{Tail}
use Rattle.dwz_unit.specs.Tails.{end_in, whole_tables, tail_in}
use Rattle.dwz_unit.specs.Found.{all_pairs, found_view}
use Rattle.dwz_unit.specs.TableViews.{TableView, table_view, table_views}
use Rattle.dwz_unit.proofs.TableRowLemmas.{own_length}
use Rattle.dwz_unit.proofs.LinkLemmas.{own_stands}
use Rattle.dwz_unit.proofs.PastLemmas.{further, no_more, own_past}
use Rattle.dwz_unit.proofs.joined.find_past.Goals as goal
use Rattle.dwz_unit.proofs.joined.find_past.Goals.{After-branch-tail}

pub overflow_sub-left : goal.overflow_sub-left
overflow_sub-left c =
    let row = c.args.row.now in
    let r = c.in-Some.read.now in
    let got : slice_get c.args.reads.now c.loop-read.tail.base ≡ Some r = search (rules, slice_get_read) in
    let at = got_map (table_view row) c.args.reads.now c.loop-read.tail.base r got in
    let within = c.loop-read.invariant.within in
    let one : within.read ≡ table_view row r = same_got (table_views row c.args.reads.now) c.loop-read.tail.base within.read (table_view row r) within.base at in
    let skip : c.loop-read.tail.skip ≤ length (table_view row r).table = subst (λ (v : TableView). c.loop-read.tail.skip ≤ length v.table) one within.skip in
    omega (arith, skip, c.len.ensures.len, own_length row r)

pub returns-in-Some-own : goal.returns-in-Some-own
returns-in-Some-own c =
    let row = c.args.row.now in
    let reads = table_views row c.args.reads.now in
    let t = c.loop-read.tail in
    let r = table_view row c.in-Some.read.now in
    let found = c.in-Some-own.found in
    let got : slice_get c.args.reads.now t.base ≡ Some c.in-Some.read.now = search (rules, slice_get_read) in
    let at = got_map (table_view row) c.args.reads.now t.base c.in-Some.read.now got in
    let small : length r.table < 2 ^ 63 = omega (arith, c.len.ensures.len, c.len.ensures.small, own_length row c.in-Some.read.now) in
    let own = rw c.in-Some-own.is at c.own.ensures in (
      sym c.loop-read.invariant.same
          ∙ sym (own_past reads (whole_tables reads) c.requires.linked t r at c.loop-read.invariant.within c.loop-read.past c.args.code c.saturating_add-first.result small
          c.saturating_add-first.ensures
          (found_view found) (sym own.0)),
      own_stands (all_pairs reads) r found (c.requires.linked t.base r at).stands own.1,
    )

-- what is sought is sought behind the table's own declarations
behind : (c : After-branch-tail) → find_decl (drop c.loop-read.past (tail_in (whole_tables (table_views c.args.row.now c.args.reads.now)) c.loop-read.tail)) c.args.code
    ≡ find_decl (drop c.saturating_sub-past.result (end_in (whole_tables (table_views c.args.row.now c.args.reads.now)) c.in-Some.read.now.next)) c.args.code
behind c =
    let row = c.args.row.now in
    let reads = table_views row c.args.reads.now in
    let t = c.loop-read.tail in
    let r = table_view row c.in-Some.read.now in
    let got : slice_get c.args.reads.now t.base ≡ Some c.in-Some.read.now = search (rules, slice_get_read) in
    let at = got_map (table_view row) c.args.reads.now t.base c.in-Some.read.now got in
    let many = own_length row c.in-Some.read.now in
    let small : length r.table < 2 ^ 63 = omega (arith, c.len.ensures.len, c.len.ensures.small, many) in
    let rest : c.saturating_sub-past.result ≡ c.loop-read.past - (length r.table - t.skip) = omega (arith, c.saturating_sub-past.ensures, c.len.ensures.len, many) in
    further reads (whole_tables reads) c.requires.linked t r at c.loop-read.invariant.within c.loop-read.past c.args.code c.saturating_add-first.result small c.saturating_add-first.ensures
    c.saturating_sub-past.result rest (sym (rw c.in_default-own.is at c.own.ensures))

pub returns-in_err-tail : goal.returns-in_err-tail
returns-in_err-tail c =
    let none = no_more c.saturating_sub-past.result c.args.code (whole_tables (table_views c.args.row.now c.args.reads.now)) c.in-Some.read.now.next c.in_err-tail.was in
    rw c.from_residual.ensures (sym c.loop-read.invariant.same ∙ behind (goal.at.returns-in_err-tail c).After-branch-tail ∙ none)

pub loop-read-smaller : goal.loop-read-smaller
loop-read-smaller c =
    let got : slice_get c.args.reads.now c.loop-read.tail.base ≡ Some c.in-Some.read.now = search (rules, slice_get_read) in
    let at = got_map (table_view c.args.row.now) c.args.reads.now c.loop-read.tail.base c.in-Some.read.now got in
    (c.requires.linked c.loop-read.tail.base (table_view c.args.row.now c.in-Some.read.now) at).before c.in_ok-tail.tail c.in_ok-tail.was

pub loop-read-preserved : goal.loop-read-preserved
loop-read-preserved c =
    let got : slice_get c.args.reads.now c.loop-read.tail.base ≡ Some c.in-Some.read.now = search (rules, slice_get_read) in
    let at = got_map (table_view c.args.row.now) c.args.reads.now c.loop-read.tail.base c.in-Some.read.now got in
    let next = c.in_ok-tail.was in
    record {
      within = (c.requires.linked c.loop-read.tail.base (table_view c.args.row.now c.in-Some.read.now) at).next c.in_ok-tail.tail next;
      same = ap (λ (o : Option Tail). find_decl (drop c.saturating_sub-past.result (end_in (whole_tables (table_views c.args.row.now c.args.reads.now)) o)) c.args.code) (sym next)
          ∙ sym (behind (goal.at.loop-read-preserved c).After-branch-tail)
          ∙ c.loop-read.invariant.same;
    }

pub returns : goal.returns
returns c =
    let within = c.loop-read.invariant.within in
    let past : length c.args.reads.now ≤ c.loop-read.tail.base = search rules in
    let below = slice_get_within (table_views c.args.row.now c.args.reads.now) c.loop-read.tail.base within.read within.base in
    absurd (omega (arith, past, below, length-map c.args.reads.now (table_view c.args.row.now)))
