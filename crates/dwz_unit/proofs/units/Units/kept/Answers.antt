use Rattle.std.proofs.Common.{◌≡◌, ◌<◌, List, length, map, refl, subst, sym}
use Rattle.std.specs.List.{All}
use Rattle.dwz_model.specs.declared.place.Pair.{Pair}
use Rattle.dwz_unit.specs.Kept.{AreKept, source_of}
use Rattle.dwz_unit.specs.Known.{row_view}
use Rattle.dwz_unit.specs.declared.rows.Row.{Row}
use Rattle.dwz_unit.proofs.DeclarationLemmas.{decls_within}
use Rattle.dwz_unit.proofs.ReadLemmas.{kept_again}
use Rattle.dwz_unit.proofs.units.Units.kept.Goals as goal
use Rattle.dwz_unit.proofs.units.Units.kept.Goals.{In_ok-all}

-- with all declarations
all_are : (c : In_ok-all) → AreKept c.args.info.now c.args.abbrevs.now c.args.mode c.args.units.items c.args.entries.items c.in_ok-all.all
all_are c = subst (λ (w : List (List Pair)). AreKept c.args.info.now c.args.abbrevs.now c.args.mode c.args.units.items c.args.entries.items w) (sym c.in_ok-all.ensures) c.requires

pub used_pairs-requires : goal.used_pairs-requires
used_pairs-requires c =
    let are = all_are (goal.at.used_pairs-requires c).In_ok-all in
    subst (All (λ (x : Row). x.decl < length c.in_ok-all.all)) (sym c.as_slice.ensures.value)
    (decls_within c.args.info.now c.args.abbrevs.now c.args.mode c.args.units.items c.args.entries.items c.in_ok-all.all (source_of c.args.info.now c.args.abbrevs.now c.args.mode) are refl)

pub invariant_of-result : goal.invariant_of-result
invariant_of-result c =
    let are = all_are (goal.at.invariant_of-result c).In_ok-all in
    let same = subst (λ (rows : List Row). map (row_view c.in_ok-decls.decls) rows ≡ map (row_view c.in_ok-all.all) rows) c.as_slice.ensures.value c.in_ok-decls.ensures in (
      kept_again c.args.info.now c.args.abbrevs.now c.args.mode c.args.units.items c.args.entries.items c.in_ok-all.all c.in_ok-decls.decls are same,
      c.in_ok-named.ensures,
      c.in_ok-stops.ensures,
    )
