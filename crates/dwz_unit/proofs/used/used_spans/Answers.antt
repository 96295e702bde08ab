use Rattle.std.proofs.Common.{◌≡◌, ◌<◌, Some, get_or, length, take, subst, ◌∙◌, arith}
use Rattle.std.proofs.Math.ListN.{set}
use Rattle.std.specs.List.{All, slice_get}
use Rattle.std.proofs.lemmas.List.{length-set, take_all}
use Rattle.std.proofs.lemmas.List.Elements.{All-get_or, All-more, All-set, All-weaker}
use Rattle.std.proofs.lemmas.Option.{slice_get-get_or}
use Rattle.dwz_unit.specs.declared.flat_rows.Span.{Span}
use Rattle.dwz_unit.specs.declared.rows.Row.{Row}
use Rattle.dwz_unit.specs.Spans.{IsWithin}
use Rattle.dwz_unit.proofs.FlatLemmas.{kept_here, kept_still}
use Rattle.dwz_unit.proofs.used.used_spans.Goals as goal

pub loop-row-preserved : goal.loop-row-preserved
loop-row-preserved c =
    let none : Row = record { at = 0; unit = 0; end = 0; decl = 0; tag = 0; depth = 0 } in
    let empty : Span = record { first = 0; count = 0 } in
    let row : Row = get_or c.args.entries.now c.loop-row.row-index none in
    let s : Span = get_or c.args.spans.now row.decl empty in
    let lt : row.decl < length c.args.spans.now = c.requires c.loop-row.row-index none c.loop-row-test.true in
    let there : slice_get c.args.spans.now row.decl ≡ Some s = slice_get-get_or c.args.spans.now row.decl empty lt in
    let used = c.loop-row.used.items in
    let spans = c.args.spans.now in
    let inv = c.loop-row.invariant in
    let len = inv.len in
    let new = set used row.decl s in
    let stays : Row → Type 0 = λ x. slice_get new x.decl ≡ slice_get spans x.decl in
    record {
      len = length-set used row.decl s ∙ inv.len;
      within = λ items all. All-set (IsWithin items) used row.decl s (All-get_or (IsWithin items) spans row.decl empty lt all) (inv.within items all);
      used = All-more stays c.args.entries.now c.loop-row.row-index none c.loop-row-test.true
          (All-weaker (λ (x : Row). slice_get used x.decl ≡ slice_get spans x.decl) stays (λ x same. kept_still used spans row.decl x.decl s there same) (take c.loop-row.row-index c.args.entries.now) inv.used)
          (kept_here used spans row.decl s (omega (arith, lt, len)) there);
    }

pub returns : goal.returns
returns c =
    record {
      used = subst (All (λ (x : Row). slice_get c.loop-row.used.items x.decl ≡ slice_get c.args.spans.now x.decl)) (take_all c.loop-row.row-index c.args.entries.now c.loop-row-test.false) c.loop-row.invariant.used;
      within = c.loop-row.invariant.within;
    }
