use Rattle.std.proofs.Common.{◌∙◌, get_or, refl, subst, sym, arith}
use Rattle.std.specs.List.{flat_map}
use Rattle.std.specs.Prelude.{IsOk}
use Rattle.dwz_def_reading.specs.Entries.{RawAttr}
use Rattle.dwz_forms.specs.RawValues.{raw_view}
use Rattle.dwz_unit.specs.Rows.{units_of}
use Rattle.dwz_unit.proofs.ReadsLemmas.{reads_count, reads_next}
use Rattle.dwz_graph.specs.Resolved.{sources_view}
use Rattle.dwz_unit.proofs.RowsFound.{row_there}
use Rattle.dwz_graph.proofs.ValueSteps.{next_read, no_pair}
use Rattle.dwz_encode_common.specs.Gathered.{with_all}
use Rattle.dwz_encode_common.specs.Stored.{text_read}
use Rattle.dwz_encode_common.proofs.TextSteps.{values_all, values_more}
use Rattle.dwz_encode_common.proofs.texts.put_row.Goals as goal

pub loop-pair-init : goal.loop-pair-init
loop-pair-init c = record {
  reads = c.values-cursor.ensures.read;
  texts = λ row found. refl;
}

pub known_value-raw-requires : goal.known_value-raw-requires
known_value-raw-requires c =
    let p = c.args.place.now in
    let pairs = c.values-cursor.result.pairs.now in
    let r = row_there (units_of p.units.now) p.entry c.requires.entry in
    let x = reads_next r.0.entry.at pairs c.loop-pair.pair-index no_pair c.loop-pair.cursor r.0.entry.attrs c.loop-pair-test.true
    (c.loop-pair.invariant.reads r.0 r.1) in
    subst IsOk (sym x.value) refl

pub loop-pair-preserved : goal.loop-pair-preserved
loop-pair-preserved c =
    let p = c.args.place.now in
    let pairs = c.values-cursor.result.pairs.now in
    let j = c.loop-pair.pair-index in
    let value = raw_view c.known_value-raw.result in
    let a : RawAttr = record {
      at = c.loop-pair.cursor.at;
      end = c.known_value-raw.new.cursor.at;
      pair = get_or pairs j no_pair;
      raw =
          value;
    } in
    record {
      reads = λ row found.
          (next_read row.entry.at pairs j no_pair c.loop-pair.cursor c.known_value-raw.new.cursor value row.entry.attrs
          c.loop-pair-test.true
          (c.loop-pair.invariant.reads row found) c.known_value-raw.ensures.value).rest;
      texts = λ row found. (
          let is = (next_read row.entry.at pairs j no_pair c.loop-pair.cursor c.known_value-raw.new.cursor value row.entry.attrs
          c.loop-pair-test.true
          (c.loop-pair.invariant.reads row found) c.known_value-raw.ensures.value).is in
          values_more (text_read (sources_view p.sections.now) c.base_of-base.result) row.entry.attrs j a c.args.pool.now
          c.loop-pair.pool c.put_value.new.pool is
          (c.loop-pair.invariant.texts row found) c.in_ok-put_value.ensures);
    }

pub returns : goal.returns
returns c = λ row found. (
    let p = c.args.place.now in
    let pairs = c.values-cursor.result.pairs.now in
    let count = reads_count row.entry.at pairs c.values-cursor.result.cursor row.entry.attrs (c.values-cursor.ensures.read row found) in
    values_all (text_read (sources_view p.sections.now) c.base_of-base.result) row.entry.attrs c.loop-pair.pair-index c.args.pool.now
    c.loop-pair.pool
    (omega (arith, count, c.loop-pair-test.false)) (c.loop-pair.invariant.texts row found)
    ∙ (λ i. with_all c.args.pool.now
    (flat_map (text_read (sources_view p.sections.now) (c.base_of-base.ensures row found i)) row.entry.attrs)))
