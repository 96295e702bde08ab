use Rattle.std.proofs.Common.{◌≡◌, ℕ, List, length, ap, sym, subst, refl, arith}
use Rattle.std.specs.Prelude.{OnOk}
use Rattle.std.proofs.lemmas.Bool.{ltb-false}
use Rattle.std.proofs.lemmas.Option.{slice_get_past}
use Rattle.dwz_unit.specs.Rows.{units_of}
use Rattle.dwz_unit.proofs.RowsFound as rows
use Rattle.dwz_layout.proofs.KnownLemmas.{file_found}
use Rattle.dwz_encode_common.specs.Gathered.{with_all}
use Rattle.dwz_encode_common.proofs.PathSteps.{no_file, no_row, row_there}
use Rattle.dwz_encode_common.proofs.paths.put_row_at.Goals as goal

pub returns-in_default : goal.returns-in_default
returns-in_default c =
    let files = c.args.files.now in
    sym (ap (with_all c.args.pool.now)
    (no_file files c.args.row (slice_get_past files c.args.row.file
    (ltb-false c.args.row.file (length files) (sym c.in_default.ensures.lookup.0)))))

pub returns-then-row-entries : goal.returns-then-row-entries
returns-then-row-entries c =
    let files = c.args.files.now in
    let x = c.in-Some.file.now in
    let found = file_found files files c.args.row.file x refl c.in-Some.ensures.lookup.0 c.in-Some.ensures.lookup.1 in
    sym (ap (with_all c.args.pool.now) (no_row files c.args.row x found (omega (arith, c.entries.ensures, c.if-row-entries.true))))

pub returns : goal.returns
returns c =
    let files = c.args.files.now in
    let x = c.in-Some.file.now in
    let found = file_found files files c.args.row.file x refl c.in-Some.ensures.lookup.0 c.in-Some.ensures.lookup.1 in
    let r = rows.row_there (units_of x.units) c.args.row.entry (omega (arith, c.entries.ensures, c.if-row-entries.false)) in
    subst (λ (w : List (List ℕ)). OnOk c.put_row.result (c.put_row.new.pool ≡ with_all c.args.pool.now w))
    (sym (row_there files c.args.row x r.0 found r.1)) (c.put_row.ensures r.0 r.1)
