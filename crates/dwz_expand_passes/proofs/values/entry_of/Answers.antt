use Rattle.std.proofs.Common.{◌≡◌, ◌∙◌, ℕ, Bool, None, Some, get_or, slice_get, refl, sym, ap, subst, arith}
use Rattle.dwz_unit.specs.Rows.{units_of}
use Rattle.dwz_graph.specs.Here.{Here}
use Rattle.dwz_unit.proofs.RowsFound.{entry_row}
use Rattle.dwz_unit.specs.declared.rows.RawEntry.{RawEntry as EntryOfCode}
use Rattle.dwz_check_labels.proofs.EntryLemmas.{shown_row}
use Rattle.dwz_check_labels.specs.Files.{IsHereOf}
use Rattle.dwz_layout.specs.declared.ways.UnitRole.{UnitRole as HolderOfCode}
use Rattle.dwz_layout.specs.Ways.{holder_view}
use Rattle.dwz_expand_passes.specs.Files.{IsRole}
use Rattle.dwz_expand_passes.proofs.OperandLemmas.{got_or_default}
use Rattle.dwz_expand_passes.proofs.values.entry_of.Goals.{else-is_common, then-is_common}
use Rattle.dwz_expand_passes.proofs.values.entry_of.Goals as goal

pub role_of-role-requires : goal.role_of-role-requires
role_of-role-requires c = (shown_row (units_of c.args.file.now.units.now) c.args.i c.entry-unit.result c.entry-unit.ensures.entry).0

pub bounds-file-unit : goal.bounds-file-unit
bounds-file-unit c = (
    let lt = (shown_row (units_of c.args.file.now.units.now) c.args.i c.entry-unit.result c.entry-unit.ensures.entry).0 in
    let many = c.requires.ready.heres.many in
    omega (arith, lt, many))

pub bounds-file-unit-2 : goal.bounds-file-unit-2
bounds-file-unit-2 c = (
    let lt = (shown_row (units_of c.args.file.now.units.now) c.args.i c.entry-unit.result c.entry-unit.ensures.entry).0 in
    let many = c.requires.ready.lines in
    omega (arith, lt, many))

pub returns : goal.returns
returns c = (
    let raw = units_of c.args.file.now.units.now in
    let n = c.entry-unit.result.unit in
    let r = entry_row raw c.args.i c.entry-unit.result c.entry-unit.ensures.entry in
    let lt = (shown_row raw c.args.i c.entry-unit.result c.entry-unit.ensures.entry).0 in
    let heres = c.requires.ready.heres in
    let many = heres.many in
    let lines = c.requires.ready.lines in
    let unit : r.0.unit ≡ n = ap (λ (w : EntryOfCode). w.unit) r.2 in
    let none : Here = record { number = 0; at = 0; first = 0; end = 0; offsets = None; lists = None; line = None } in
    let here = heres.each n (get_or c.args.file.now.heres.now n none) (got_or_default c.args.file.now.heres.now n none (omega (arith, lt, many))) in
    record {
      known = refl;
      file = refl;
      first_is = refl;
      row = r.0;
      found = r.1;
      here = subst (λ (m : ℕ). IsHereOf raw m (get_or c.args.file.now.heres.now n none)) (sym unit) here;
      line = ap (λ (m : ℕ). slice_get c.args.file.now.lines.now m) unit ∙ got_or_default c.args.file.now.lines.now n None (omega (arith, lt, lines));
      role = λ u there. (
          let at_n : slice_get raw n ≡ Some u = ap (λ (m : ℕ). slice_get raw m) (sym unit) ∙ there in
          elim c.if-is_common.branch [
            | then-is_common w ↦ subst (λ (z : Bool × HolderOfCode). IsRole z.0 u.kind (holder_view z.1)) (λ i. (sym w.if-is_common.true i, sym w.role-is i)) refl
            | else-is_common w ↦ subst (λ (z : Bool × HolderOfCode). IsRole z.0 u.kind (holder_view z.1)) (λ i. (sym w.if-is_common.false i, sym w.role-is i)) (w.role_of-role.ensures u at_n)
          ]);
    })
