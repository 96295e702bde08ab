use Rattle.std.proofs.Common.{◌≡◌, ℕ, ◌+◌, Bool, true, Option, List, arith, drop, get_or, refl, subst, sym, ◌∙◌, Ok}
use Rattle.std.specs.Prelude.{IsOk}
use Rattle.dwz_def_tops.specs.Alike.{any_attr}
use Rattle.dwz_def_reading.specs.Entries.{RawAttr}
use Rattle.dwz_forms.specs.RawValues.{raw_view}
use Rattle.dwz_def_reading.specs.Documents.{attr_map, node_map}
use Rattle.dwz_def_reading.specs.Meant.{attr_with, meaning}
use Rattle.dwz_unit.proofs.RowsFound.{row_there}
use Rattle.dwz_graph.proofs.ValueSteps.{next_read, no_pair}
use Rattle.dwz_groups.specs.declared.groups.Edge.{Edge}
use Rattle.dwz_unit.specs.Rows.{units_of}
use Rattle.dwz_unit.proofs.ReadsLemmas.{reads_count, reads_next}
use Rattle.dwz_reuse.specs.Puts.{PutsIf, goes_into}
use Rattle.dwz_reuse.proofs.PutSteps.{PutLeft, put_all, put_more, put_none, put_sibling}
use Rattle.dwz_reuse.proofs.entry_edges.put_entry.Goals as goal
use Rattle.dwz_reuse.proofs.entry_edges.put_entry.Goals.{else-pair-ne-DW_AT_SIBLING, then-pair-ne-DW_AT_SIBLING+in_ok-rest}

pub loop-pair-init : goal.loop-pair-init
loop-pair-init c = record {
  reads = c.values-cursor.ensures.read;
  left = λ s numbers row d name m into. put_all c.args.unit (units_of c.args.units.now) s name numbers c.args.i row d c.args.into.now c.args.edges.now.items m into;
}

pub known_value-raw-requires : goal.known_value-raw-requires
known_value-raw-requires c =
    let pairs = c.values-cursor.result.pairs.now in
    let r = row_there (units_of c.args.units.now) c.args.i c.requires in
    let x = reads_next r.0.entry.at pairs c.loop-pair.pair-index no_pair c.loop-pair.cursor r.0.entry.attrs c.loop-pair-test.true (c.loop-pair.invariant.reads r.0 r.1) in
    subst IsOk (sym x.value) refl

pub loop-pair-preserved : goal.loop-pair-preserved
loop-pair-preserved c =
    let raw = units_of c.args.units.now in
    let pairs = c.values-cursor.result.pairs.now in
    let j = c.loop-pair.pair-index in
    let value = raw_view c.known_value-raw.result in
    let a : RawAttr = record { at = c.loop-pair.cursor.at; end = c.known_value-raw.new.cursor.at; pair = get_or pairs j no_pair; raw = value } in
    record {
      reads = λ row found. (next_read row.entry.at pairs j no_pair c.loop-pair.cursor c.known_value-raw.new.cursor value row.entry.attrs c.loop-pair-test.true (c.loop-pair.invariant.reads row found)
          c.known_value-raw.ensures.value).rest;
      left = λ s numbers row d name m into. (
          let is = (next_read row.entry.at pairs j no_pair c.loop-pair.cursor c.known_value-raw.new.cursor value row.entry.attrs c.loop-pair-test.true (c.loop-pair.invariant.reads row m.found)
          c.known_value-raw.ensures.value).is in
          let all : ℕ → Bool = λ n. any_attr (goes_into n) (node_map name d) in
          let old : List Edge = c.args.edges.now.items in
          let now : List Edge = c.loop-pair.edges.items in
          let new : List Edge = c.if-pair-ne-DW_AT_SIBLING.edges.items in
          let rest : List (Option ℕ) = c.if-pair-ne-DW_AT_SIBLING.rest.now in
          let h = c.loop-pair.invariant.left s numbers row d name m into in
          elim c.if-pair-ne-DW_AT_SIBLING.branch [
            | then-pair-ne-DW_AT_SIBLING+in_ok-rest w ↦
                put_more c.args.unit raw s name row.entry.attrs j a c.loop-pair.rest.now rest old now new all is w.if-pair-ne-DW_AT_SIBLING.true
                (λ v e t. subst (λ (b : List Edge). PutsIf c.args.unit (λ n. goes_into n (attr_map name (attr_with a v)) ≡ true) now b) (sym (λ i. (w.edges-is i).items))
                (w.in_ok-rest.ensures.puts s a.at v name (subst (λ (k : ℕ). meaning s (record { at = a.at; end = k; pair = a.pair; raw = a.raw }) ≡ Ok v) (sym c.at-end.ensures) e) t))
                (λ v e. (λ i. (w.rest-is i).now) ∙ w.in_ok-rest.ensures.rest s a.at v
                (subst (λ (k : ℕ). meaning s (record { at = a.at; end = k; pair = a.pair; raw = a.raw }) ≡ Ok v) (sym c.at-end.ensures) e)) h
            | else-pair-ne-DW_AT_SIBLING w ↦
                subst (λ (r : List (Option ℕ)). PutLeft c.args.unit raw s name (drop (j + 1) row.entry.attrs) r old new all) (sym (λ i. (w.rest-is i).now))
                (subst (λ (b : List Edge). PutLeft c.args.unit raw s name (drop (j + 1) row.entry.attrs) c.loop-pair.rest.now old b all) (sym (λ i. (w.edges-is i).items))
                (put_sibling c.args.unit raw s name row.entry.attrs j a c.loop-pair.rest.now old now all is w.if-pair-ne-DW_AT_SIBLING.false h))
          ]);
    }

pub returns : goal.returns
returns c = λ s numbers row d name m into. (
    let pairs = c.values-cursor.result.pairs.now in
    let count = reads_count row.entry.at pairs c.values-cursor.result.cursor row.entry.attrs (c.values-cursor.ensures.read row m.found) in
    put_none c.args.unit (units_of c.args.units.now) s name row.entry.attrs c.loop-pair.pair-index c.loop-pair.rest.now c.args.edges.now.items c.loop-pair.edges.items
    (λ n. any_attr (goes_into n) (node_map name d)) (omega (arith, count, c.loop-pair-test.false)) (c.loop-pair.invariant.left s numbers row d name m into))
