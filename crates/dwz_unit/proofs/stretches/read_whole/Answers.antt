use Rattle.std.proofs.Common.{◌≡◌, IfSome, Ok, Option, ap, subst, sym, ◌∙◌}
use Rattle.dwz_unit.specs.Kept.{AreKept}
use Rattle.dwz_unit.specs.Rows.{Source, units_of}
use Rattle.dwz_unit.specs.Stretches.{IsWhole}
use Rattle.dwz_unit.specs.Tables.{Stored}
use Rattle.dwz_unit.specs.declared.stretches.Stretch.{Stretch}
use Rattle.dwz_unit.proofs.StretchLemmas.{whole_kept}
use Rattle.dwz_unit.proofs.stretches.read_whole.Goals as goal
use Rattle.dwz_unit.proofs.stretches.read_whole.Goals.{In-Some-2}

all_are : (g : _) (c : In-Some-2 g) → AreKept c.args.info.now c.args.abbrevs.now c.args.mode c.in-Some-2.whole.units.items c.in-Some-2.whole.entries.items c.in-Some.tables.decls
all_are g c =
    let info = c.args.info.now in
    let section = subst (λ (o : Option Stored). IfSome o (λ (t : Stored). t.section ≡ c.args.abbrevs.now)) c.in-Some.is c.in_ok-tables.ensures in
    let whole = subst (λ (o : Option Stretch). IfSome o (IsWhole info c.args.mode c.in-Some.tables)) c.in-Some-2.is c.in_ok-whole.ensures in
    whole_kept info c.args.mode c.in-Some.tables c.in-Some-2.whole c.args.abbrevs.now whole section c.requires.info c.requires.abbrevs

pub kept-requires : goal.kept-requires
kept-requires g c = all_are g (goal.at.kept-requires g c).In-Some-2

pub returns : goal.returns
returns g c =
    let are = all_are g (goal.at.returns g c).In-Some-2 in
    record { same = c.in_ok-all.ensures; answers = are.read ∙ ap (λ (w : Source). Ok (units_of w)) (sym c.in_ok-all.ensures) }
