use Rattle.std.proofs.Common.{◌≡◌, ◌∙◌, ◌++◌, List, get_or, Some, slice_get, arith, refl, sym, ap, subst}
use Rattle.std.specs.Prelude.{IsOk}
use Rattle.dwz_def_reading.specs.Entries.{RawAttr}
use Rattle.dwz_def_reading.specs.Meanings.{without_siblings}
use Rattle.dwz_graph.specs.Resolved.{stored}
use Rattle.dwz_forms.specs.RawValues.{raw_view}
use Rattle.dwz_unit.proofs.ReadsLemmas.{reads_count, reads_next}
use Rattle.dwz_unit.proofs.RowsFound.{row_there}
use Rattle.dwz_graph.proofs.ValueSteps.{next_read, no_pair}
use Rattle.dwz_expand_passes.specs.Files.{raw_in}
use Rattle.dwz_expand_passes.proofs.OperandLemmas.{take_whole}
use Rattle.dwz_expand.specs.Gathered.{own_scope, told_in}
use Rattle.dwz_expand.proofs.ToldSteps.{read_at, told_next, told_start}
use Rattle.dwz_expand.proofs.entry.put_values.Goals as goal

pub loop-pair-init : goal.loop-pair-init
loop-pair-init c = record {
  reads = c.values-cursor.ensures.read;
  told = λ f u row t found can. told_start f c.args.x.now.unit (own_scope c.args.x.now.file.now u) row.entry.attrs c.args.told.now.items;
}

pub known_value-raw-requires : goal.known_value-raw-requires
known_value-raw-requires c =
    let pairs = c.values-cursor.result.pairs.now in
    let r = row_there (raw_in c.args.x.now.file.now.own) c.args.i c.requires.there in
    let x = reads_next r.0.entry.at pairs c.loop-pair.pair-index no_pair c.loop-pair.cursor r.0.entry.attrs c.loop-pair-test.true (c.loop-pair.invariant.reads r.0 r.1) in
    subst IsOk (sym x.value) refl

pub loop-pair-preserved : goal.loop-pair-preserved
loop-pair-preserved c =
    let pairs = c.values-cursor.result.pairs.now in
    let j = c.loop-pair.pair-index in
    let value = raw_view c.known_value-raw.result in
    record {
      reads = λ row found. (next_read row.entry.at pairs j no_pair c.loop-pair.cursor c.known_value-raw.new.cursor value row.entry.attrs c.loop-pair-test.true (c.loop-pair.invariant.reads row found)
          c.known_value-raw.ensures.value).rest;
      told = λ f u row t found can. (
          let x = c.args.x.now in
          let a : RawAttr = stored c.loop-pair.cursor.at c.known_value-raw.new.cursor.at (get_or pairs j no_pair) c.known_value-raw.result in
          let next = next_read row.entry.at pairs j no_pair c.loop-pair.cursor c.known_value-raw.new.cursor value row.entry.attrs c.loop-pair-test.true (c.loop-pair.invariant.reads row found)
          c.known_value-raw.ensures.value in
          let at : slice_get row.entry.attrs j ≡ Some a = next.is in
          told_next f x.unit (own_scope x.file.now u) row.entry.attrs c.args.told.now.items j a c.loop-pair.told.items c.put_attr.new.told.items at
          (c.loop-pair.invariant.told f u row t found can)
          (c.in_ok-put_attr.ensures f u t c.loop-pair.cursor.at c.known_value-raw.new.cursor.at (read_at x.file.now t.known.w x.unit u row.entry.attrs j a at can)));
    }

pub returns : goal.returns
returns c = λ f u row t found can. (
    let pairs = c.values-cursor.result.pairs.now in
    let x = c.args.x.now in
    let count = reads_count row.entry.at pairs c.values-cursor.result.cursor row.entry.attrs (c.values-cursor.ensures.read row found) in
    let le = c.loop-pair-test.false in
    c.loop-pair.invariant.told f u row t found can
    ∙ ap (λ (w : List RawAttr). c.args.told.now.items ++ told_in f x.unit (own_scope x.file.now u) (without_siblings w))
    (take_whole row.entry.attrs c.loop-pair.pair-index (omega (arith, count, le))))
