use Rattle.std.proofs.Common.{◌+◌, List, All, sym, subst, arith}
use Rattle.dwz_model.specs.declared.place.Pair.{Pair}
use Rattle.dwz_def_reading.specs.Abbrevs.{FitsDeclaration, IsCounted, with_code}
use Rattle.dwz_def_reading.proofs.FitLemmas.{none_found}
use Rattle.dwz_abbrev.specs.Ranges.{IsInRange}
use Rattle.dwz_abbrev.proofs.AppendLemmas.{next_above, pairs_fit, pushed_fits}
use Rattle.dwz_abbrev.proofs.table.Table.append.Goals as goal

pub push-requires : goal.push-requires
push-requires c =
    let rows = c.self.inside.rows in
    let above = next_above rows c.len.result (subst IsCounted (sym c.self.view_is) c.requires.counted) c.len.ensures.len in
    none_found rows (c.len.result + 1) (λ k d lt same. omega (arith, above k d lt, same))

pub invariant_of-self : goal.invariant_of-self
invariant_of-self c = rw c.in_err-push.ensures.err c.self.invariant

pub invariant_of-self-2 : goal.invariant_of-self-2
invariant_of-self-2 c =
    let rows = c.self.inside.rows in
    let code = c.len.result + 1 in
    let d = with_code (record { tag = c.args.tag; children = c.args.children; pairs = c.args.pairs }) code in
    let above = next_above rows c.len.result (subst IsCounted (sym c.self.view_is) c.requires.counted) c.len.ensures.len in
    let pairs = pairs_fit c.args.pairs c.requires.plain (subst (λ (ps : List Pair). All IsInRange ps) c.as_slice.ensures c.all_in_range.ensures) in
    let here : FitsDeclaration d = record {
      some_code = omega arith;
      code_fits = omega (arith, c.len.ensures.small);
      some_tag = c.requires.some_tag;
      tag_fits = omega (arith, c.ranges.tag.fits);
      pairs = pairs;
    } in
    rw c.in_ok-push.ensures.ok (pushed_fits rows d c.self.invariant here above)
