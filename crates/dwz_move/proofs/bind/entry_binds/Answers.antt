use Rattle.std.proofs.Common.{◌≡◌, ℕ, ◌+◌, ◌<◌, Some, true, false, arith, get_or, slice_get, refl, subst, sym, ap, ◌∙◌, Ok}
use Rattle.std.specs.Prelude.{IsOk}
use Rattle.dwz_def_tops.specs.Alike.{any_attr, attr_binds}
use Rattle.dwz_def_reading.specs.Entries.{RawAttr}
use Rattle.dwz_forms.specs.RawValues.{raw_view}
use Rattle.dwz_def_reading.specs.Documents.{attr_map, node_map}
use Rattle.dwz_def_reading.specs.Meant.{attr_with, meaning}
use Rattle.dwz_unit.proofs.RowsFound.{row_there}
use Rattle.dwz_graph.proofs.ValueSteps.{next_read, no_pair}
use Rattle.dwz_def_reading.specs.Units.{entries_in}
use Rattle.dwz_graph.specs.Rows.{node_refs}
use Rattle.dwz_graph.proofs.StepLemmas.{entry}
use Rattle.dwz_unit.specs.Known.{pairs_of}
use Rattle.dwz_unit.specs.Rows.{Source, rows_of, units_of}
use Rattle.dwz_unit.proofs.ReadsLemmas.{reads_count, reads_next}
use Rattle.dwz_move.proofs.BindLemmas.{value_counts}
use Rattle.dwz_move.proofs.BindSteps.{bind_all, bind_here, bind_more, bind_next, bind_none, bind_sibling, by_attrs, by_tag}
use Rattle.dwz_move.proofs.FormBinds.{all_named, form_binds_all}
use Rattle.dwz_move.proofs.OtherValues.{forms_tell, others_by_forms}
use Rattle.dwz_move.proofs.bind.entry_binds.Goals as goal

pub returns-then-entry-eq-DW_TAG_IMPORTED_UNIT : goal.returns-then-entry-eq-DW_TAG_IMPORTED_UNIT
returns-then-entry-eq-DW_TAG_IMPORTED_UNIT c = λ s numbers row d tops unit name has m into. by_tag s tops unit name (units_of c.args.units.now) c.args.i numbers row d m c.entry.result c.entry.ensures.entry
    c.if-entry-eq-DW_TAG_IMPORTED_UNIT.true

pub by_form-requires : goal.by_form-requires
by_form-requires c = subst (λ (x : Source). c.args.i < entries_in (units_of x)) (sym c.requires.same) c.requires.within

pub returns-then-by_form : goal.returns-then-by_form
returns-then-by_form c = λ s numbers row d tops unit name has m into. (
    let raw = units_of c.args.units.now in
    let found = subst (λ (x : Source). slice_get (rows_of (units_of x)) c.args.i ≡ Some row) (sym c.requires.same) m.found in
    by_attrs s tops unit name raw c.args.i numbers row d m c.entry.result c.entry.ensures.entry c.by_form.result c.if-entry-eq-DW_TAG_IMPORTED_UNIT.false
    (c.if-by_form.true ∙ form_binds_all raw s tops unit name row.entry.attrs numbers d.attrs (entry raw s c.args.i numbers row d m) (sym (c.by_form.ensures row found) ∙ c.if-by_form.true)))

pub returns-else-by_form : goal.returns-else-by_form
returns-else-by_form c = λ s numbers row d tops unit name has m into. (
    let raw = units_of c.args.units.now in
    let found = subst (λ (x : Source). slice_get (rows_of (units_of x)) c.args.i ≡ Some row) (sym c.requires.same) m.found in
    let told = forms_tell (pairs_of row.entry) c.in-Some.count (sym (c.named_count.ensures row m.found) ∙ c.in-Some.is) in
    let all = all_named raw s tops unit name row.entry.attrs numbers d.attrs (entry raw s c.args.i numbers row d m) (others_by_forms row.entry.attrs told.0)
    (sym (c.by_form.ensures row found) ∙ c.if-by_form.false) in
    by_attrs s tops unit name raw c.args.i numbers row d m c.entry.result c.entry.ensures.entry c.any_leaves.result c.if-entry-eq-DW_TAG_IMPORTED_UNIT.false
    (c.any_leaves.ensures tops unit name (node_refs d) has into (sym told.1 ∙ all.counts) ∙ sym all.binds))

pub loop-pair-init : goal.loop-pair-init
loop-pair-init c = record {
  few = omega arith;
  reads = c.values-cursor.ensures.read;
  left = λ s numbers row d tops unit name has m into. bind_all (units_of c.args.units.now) s tops unit name c.args.into.now numbers c.args.i row d m into;
}

pub known_value-raw-requires : goal.known_value-raw-requires
known_value-raw-requires c =
    let pairs = c.values-cursor.result.pairs.now in
    let r = row_there (units_of c.args.units.now) c.args.i c.requires.within in
    let x = reads_next r.0.entry.at pairs c.loop-pair.pair-index no_pair c.loop-pair.cursor r.0.entry.attrs c.loop-pair-test.true (c.loop-pair.invariant.reads r.0 r.1) in
    subst IsOk (sym x.value) refl

pub loop-pair-preserved-then-pair-eq-DW_AT_SIBLING : goal.loop-pair-preserved-then-pair-eq-DW_AT_SIBLING
loop-pair-preserved-then-pair-eq-DW_AT_SIBLING c =
    let raw = units_of c.args.units.now in
    let pairs = c.values-cursor.result.pairs.now in
    let j = c.loop-pair.pair-index in
    let value = raw_view c.known_value-raw.result in
    let a : RawAttr = record { at = c.loop-pair.cursor.at; end = c.known_value-raw.new.cursor.at; pair = get_or pairs j no_pair; raw = value } in
    record {
      few = (let few = c.loop-pair.invariant.few in omega arith);
      reads = λ row found. (next_read row.entry.at pairs j no_pair c.loop-pair.cursor c.known_value-raw.new.cursor value row.entry.attrs c.loop-pair-test.true (c.loop-pair.invariant.reads row found)
          c.known_value-raw.ensures.value).rest;
      left = λ s numbers row d tops unit name has m into. (
          let is = (next_read row.entry.at pairs j no_pair c.loop-pair.cursor c.known_value-raw.new.cursor value row.entry.attrs c.loop-pair-test.true (c.loop-pair.invariant.reads row m.found)
          c.known_value-raw.ensures.value).is in
          bind_sibling raw s tops unit name c.args.into.now row.entry.attrs j c.loop-pair.next a (any_attr (attr_binds tops unit) (node_map name d)) is c.if-pair-eq-DW_AT_SIBLING.true
          (c.loop-pair.invariant.left s numbers row d tops unit name has m into));
    }

pub returns-then-branch : goal.returns-then-branch
returns-then-branch c = λ s numbers row d tops unit name has m into. (
    let raw = units_of c.args.units.now in
    let pairs = c.values-cursor.result.pairs.now in
    let j = c.loop-pair.pair-index in
    let value = raw_view c.known_value-raw.result in
    let a : RawAttr = record { at = c.loop-pair.cursor.at; end = c.known_value-raw.new.cursor.at; pair = get_or pairs j no_pair; raw = value } in
    let all = any_attr (attr_binds tops unit) (node_map name d) in
    let is = (next_read row.entry.at pairs j no_pair c.loop-pair.cursor c.known_value-raw.new.cursor value row.entry.attrs c.loop-pair-test.true (c.loop-pair.invariant.reads row m.found)
    c.known_value-raw.ensures.value).is in
    let n = bind_next raw s tops unit name c.args.into.now row.entry.attrs j c.loop-pair.next a all is c.if-pair-eq-DW_AT_SIBLING.false
    (c.loop-pair.invariant.left s numbers row d tops unit name has m into) in
    let says : c.in_ok-value_binds.field-0 ≡ attr_binds tops unit (attr_map name (attr_with a n.v)) = c.in_ok-value_binds.ensures s a.at n.v tops unit name has
    (subst (λ (e : ℕ). meaning s (record { at = c.loop-pair.cursor.at; end = e; pair = get_or pairs j no_pair; raw = value }) ≡ Ok n.v) (sym c.at-end.ensures) n.means) n.first in
    by_attrs s tops unit name raw c.args.i numbers row d m c.entry.result c.entry.ensures.entry true c.if-entry-eq-DW_TAG_IMPORTED_UNIT.false
    (bind_here raw s tops unit name c.args.into.now row.entry.attrs j c.loop-pair.next a all n (sym c.if-branch.true ∙ says)))

pub loop-pair-preserved : goal.loop-pair-preserved
loop-pair-preserved c =
    let raw = units_of c.args.units.now in
    let pairs = c.values-cursor.result.pairs.now in
    let j = c.loop-pair.pair-index in
    let value = raw_view c.known_value-raw.result in
    let a : RawAttr = record { at = c.loop-pair.cursor.at; end = c.known_value-raw.new.cursor.at; pair = get_or pairs j no_pair; raw = value } in
    record {
      few = (let few = c.loop-pair.invariant.few in let one = c.count_of.ensures.few in omega arith);
      reads = λ row found. (next_read row.entry.at pairs j no_pair c.loop-pair.cursor c.known_value-raw.new.cursor value row.entry.attrs c.loop-pair-test.true (c.loop-pair.invariant.reads row found)
          c.known_value-raw.ensures.value).rest;
      left = λ s numbers row d tops unit name has m into. (
          let all = any_attr (attr_binds tops unit) (node_map name d) in
          let is = (next_read row.entry.at pairs j no_pair c.loop-pair.cursor c.known_value-raw.new.cursor value row.entry.attrs c.loop-pair-test.true (c.loop-pair.invariant.reads row m.found)
          c.known_value-raw.ensures.value).is in
          let n = bind_next raw s tops unit name c.args.into.now row.entry.attrs j c.loop-pair.next a all is c.if-pair-eq-DW_AT_SIBLING.false
          (c.loop-pair.invariant.left s numbers row d tops unit name has m into) in
          let says : c.in_ok-value_binds.field-0 ≡ attr_binds tops unit (attr_map name (attr_with a n.v)) = c.in_ok-value_binds.ensures s a.at n.v tops unit name has
          (subst (λ (e : ℕ). meaning s (record { at = c.loop-pair.cursor.at; end = e; pair = get_or pairs j no_pair; raw = value }) ≡ Ok n.v) (sym c.at-end.ensures) n.means) n.first in
          let free : false ≡ attr_binds tops unit (attr_map name (attr_with a n.v)) = sym c.if-branch.false ∙ says in
          bind_more raw s tops unit name c.args.into.now row.entry.attrs j c.loop-pair.next (c.loop-pair.next + c.count_of.result) a all n free
          (ap (λ (k : ℕ). c.loop-pair.next + k) (c.count_of.ensures.count ∙ value_counts tops unit name s a n.v n.means free)));
    }

pub returns : goal.returns
returns c = λ s numbers row d tops unit name has m into. (
    let pairs = c.values-cursor.result.pairs.now in
    let count = reads_count row.entry.at pairs c.values-cursor.result.cursor row.entry.attrs (c.values-cursor.ensures.read row m.found) in
    by_attrs s tops unit name (units_of c.args.units.now) c.args.i numbers row d m c.entry.result c.entry.ensures.entry false c.if-entry-eq-DW_TAG_IMPORTED_UNIT.false
    (bind_none (units_of c.args.units.now) s tops unit name c.args.into.now row.entry.attrs c.loop-pair.pair-index c.loop-pair.next (any_attr (attr_binds tops unit) (node_map name d))
    (omega (arith, count, c.loop-pair-test.false)) (c.loop-pair.invariant.left s numbers row d tops unit name has m into)))
