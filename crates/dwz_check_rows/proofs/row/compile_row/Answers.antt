use Rattle.std.proofs.Common.{◌≡◌, ◌+◌, ◌∷◌, suc, ℕ, [], List, ap, get_or, length, map, refl, subst, sym, ◌∙◌, arith}
use Rattle.std.specs.List.{flat_map}
use Rattle.dwz_check_rows.specs.Keys.{IsInOrder, key}
use Rattle.dwz_check_rows.specs.Rows.{IsKindRow, node_keys}
use Rattle.dwz_check_rows.specs.UnitRows.{numbers_between, plain_tops, tops_with_imports, unit_at}
use Rattle.dwz_check_rows.specs.declared.columns.RowKind.{RowKind}
use Rattle.dwz_check_rows.specs.declared.row.Row.TheVariants.{Compile}
use Rattle.dwz_check_rows.proofs.ListLemmas.{imports_in, joined_order}
use Rattle.dwz_check_rows.proofs.row.compile_row.Goals as goal

pub returns : goal.returns
returns c =
    let classes : List ℕ = c.args.classes.now in
    let columns = c.args.columns.now in
    let x = c.args.unit in
    let next : c.args.root + 1 ≡ suc c.args.root = omega arith in
    let spaces : IsInOrder (node_keys classes columns (numbers_between (suc c.args.root) c.args.spaces_end)) c.sort_keys-spaces.result.items =
    subst (λ (ns : List ℕ). IsInOrder ns c.sort_keys-spaces.result.items)
    (c.in_ok-space_keys.ensures ∙ (λ i. map (key classes (c.as_slice-names.ensures i)) (numbers_between (next i) c.args.spaces_end))) c.sort_keys-spaces.ensures in
    let tops : IsInOrder (node_keys classes columns (tops_with_imports columns x)) c.in_ok-tops.tops.items =
    joined_order (key classes columns.names) (λ y. plain_tops columns (unit_at columns y)) (λ y. get_or c.args.tops.now y []) (x ∷ get_or columns.imports x []) c.in_ok-tops.tops.items
    (λ y there. c.requires.tops.each y (imports_in columns.imports (length columns.units) x c.requires.columns.imported c.requires.unit y there))
    (subst (λ (ns : List ℕ). IsInOrder ns c.in_ok-tops.tops.items) (c.in_ok-joined.ensures ∙ ap (λ (ns : List ℕ). flat_map (λ y. get_or c.args.tops.now y []) (x ∷ ns)) c.get.ensures) c.in_ok-tops.ensures) in
    subst (λ (k : RowKind). IsKindRow classes columns x (unit_at columns x) k (Compile (get_or classes c.args.root 0) c.sort_keys-spaces.result c.in_ok-tops.tops)) (sym c.requires.kind)
    (refl, spaces, tops)
