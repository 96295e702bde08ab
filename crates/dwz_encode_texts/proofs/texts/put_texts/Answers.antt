use Rattle.std.proofs.Common.{◌<◌, ◌∙◌, length, get_or, refl, subst, sym, append-nil, arith}
use Rattle.std.specs.Prelude.{IsOk}
use Rattle.dwz_def_reading.specs.Entries.{RawAttr}
use Rattle.dwz_forms.specs.RawValues.{raw_view}
use Rattle.dwz_unit.specs.Rows.{rows_of, units_of}
use Rattle.dwz_unit.proofs.DeclarationLemmas.{numbers_length}
use Rattle.dwz_unit.proofs.ReadsLemmas.{reads_count, reads_next}
use Rattle.dwz_unit.proofs.RowsFound.{row_there}
use Rattle.dwz_graph.proofs.ValueSteps.{next_read, no_pair}
use Rattle.dwz_encode_texts.proofs.EndLemmas.{ends_told, texts_behind}
use Rattle.dwz_encode_texts.proofs.TextSteps.{texts_all, texts_push, texts_stay}
use Rattle.dwz_encode_texts.proofs.texts.put_texts.Goals as goal
use Rattle.dwz_encode_texts.proofs.texts.put_texts.Goals.{then-is_text+in_ok-push, else-is_text}

pub of-end-requires : goal.of-end-requires
of-end-requires c = omega (arith, c.requires.entry, numbers_length (units_of c.args.units.now) c.args.ends.now c.requires.ends)

pub returns-then-end-eq0 : goal.returns-then-end-eq0
returns-then-end-eq0 c = λ row found. (
    let within : c.args.entry < length c.args.ends.now.numbers = omega (arith, c.requires.entry, numbers_length (units_of c.args.units.now) c.args.ends.now c.requires.ends) in
    let told = ends_told (rows_of (units_of c.args.units.now)) c.args.ends.now c.requires.ends c.args.entry c.of-end.result row within found c.of-end.ensures in
    texts_behind c.args.offsets.now c.args.base row.entry.attrs 0 c.args.texts.now.items c.args.texts.now.items (sym c.if-end-eq0.true ∙ told) (sym (append-nil c.args.texts.now.items)))

pub loop-k-init : goal.loop-k-init
loop-k-init c = record {
  reads = c.values-cursor.ensures.read;
  texts = λ row found. sym (append-nil c.args.texts.now.items);
}

pub known_value-raw-requires : goal.known_value-raw-requires
known_value-raw-requires c =
    let pairs = c.values-cursor.result.pairs.now in
    let r = row_there (units_of c.args.units.now) c.args.entry c.requires.entry in
    let x = reads_next r.0.entry.at pairs c.loop-k.k no_pair c.loop-k.cursor r.0.entry.attrs c.loop-k-test.true (c.loop-k.invariant.reads r.0 r.1) in
    subst IsOk (sym x.value) refl

pub loop-k-preserved : goal.loop-k-preserved
loop-k-preserved c =
    let pairs = c.values-cursor.result.pairs.now in
    let j = c.loop-k.k in
    let value = raw_view c.known_value-raw.result in
    let a : RawAttr = record { at = c.loop-k.cursor.at; end = c.known_value-raw.new.cursor.at; pair = get_or pairs j no_pair; raw = value } in
    let offsets = c.args.offsets.now in
    let base = c.args.base in
    let old = c.args.texts.now.items in
    let now = c.loop-k.texts.items in
    record {
      reads = λ row found.
          (next_read row.entry.at pairs j no_pair c.loop-k.cursor c.known_value-raw.new.cursor value row.entry.attrs c.loop-k-test.true
          (c.loop-k.invariant.reads row found) c.known_value-raw.ensures.value).rest;
      texts = λ row found. (
          let is = (next_read row.entry.at pairs j no_pair c.loop-k.cursor c.known_value-raw.new.cursor value row.entry.attrs c.loop-k-test.true
          (c.loop-k.invariant.reads row found) c.known_value-raw.ensures.value).is in
          elim c.if-is_text.branch [
            | then-is_text+in_ok-push w ↦ rw w.texts-is
                (texts_push offsets base row.entry.attrs j a old now w.push.new.self.items w.own_text.result is (sym c.is_text.ensures ∙ w.if-is_text.true)
                (c.loop-k.invariant.texts row found) w.own_text.ensures w.in_ok-push.ensures.items)
            | else-is_text w ↦ rw w.texts-is (texts_stay offsets base row.entry.attrs j a old now is (sym c.is_text.ensures ∙ w.if-is_text.false) (c.loop-k.invariant.texts row found))
          ]);
    }

pub returns-then-k-end : goal.returns-then-k-end
returns-then-k-end c = λ row found. (
    let within : c.args.entry < length c.args.ends.now.numbers = omega (arith, c.requires.entry, numbers_length (units_of c.args.units.now) c.args.ends.now c.requires.ends) in
    let told = ends_told (rows_of (units_of c.args.units.now)) c.args.ends.now c.requires.ends c.args.entry c.of-end.result row within found c.of-end.ensures in
    texts_behind c.args.offsets.now c.args.base row.entry.attrs c.loop-k.k c.args.texts.now.items c.loop-k.texts.items (c.if-k-end.true ∙ told) (c.loop-k.invariant.texts row found))

pub returns : goal.returns
returns c = λ row found. (
    let pairs = c.values-cursor.result.pairs.now in
    let count = reads_count row.entry.at pairs c.values-cursor.result.cursor row.entry.attrs (c.values-cursor.ensures.read row found) in
    texts_all c.args.offsets.now c.args.base row.entry.attrs c.loop-k.k c.args.texts.now.items c.loop-k.texts.items
    (omega (arith, count, c.loop-k-test.false)) (c.loop-k.invariant.texts row found))
