use Rattle.std.proofs.Common.{ℕ, List, [], ◌∷◌, ◌++◌, map, take, sym, ap, ◌∙◌, arith}
use Rattle.std.proofs.lemmas.List.{take_all}
use Rattle.dwz_def_reading.specs.Units.{RawUnit}
use Rattle.dwz_def_reading.proofs.MeaningUnits.{units_agree}
use Rattle.dwz_unit.proofs.UnitThere.{unit_ends, unit_there}
use Rattle.dwz_unit.specs.Rows.{units_of}
use Rattle.dwz_unit.proofs.FlatLemmas.{map_got}
use Rattle.dwz_match.proofs.RootFacts.{root_at, roots_said}
use Rattle.dwz_match.proofs.offsets.roots.Goals as goal

pub entry-requires : goal.entry-requires
entry-requires c =
    let raw = units_of c.args.units.now in
    let t = unit_there raw c.loop-n.n c.unit-unit.result c.unit-unit.ensures in
    let within = unit_ends raw c.loop-n.n c.unit-unit.result t in
    omega arith

pub loop-n-preserved : goal.loop-n-preserved
loop-n-preserved c =
    let raw = units_of c.args.units.now in
    let f : RawUnit → ℕ = λ u. u.root.at in
    let t = unit_there raw c.loop-n.n c.unit-unit.result c.unit-unit.ensures in
    let at = root_at raw c.loop-n.n c.unit-unit.result t c.entry.result c.entry.ensures.entry in
    c.in_ok-push.ensures.items ∙ ap (λ (w : List ℕ). w ++ c.entry.result.at ∷ []) c.loop-n.invariant ∙ ap (λ (k : ℕ). map f (take c.loop-n.n raw) ++ k ∷ []) at
    ∙ sym (map_got f raw c.loop-n.n t.u t.is_unit)

pub returns : goal.returns
returns c around said place means =
    let raw = units_of c.args.units.now in
    let f : RawUnit → ℕ = λ u. u.root.at in
    c.new.ensures ∙ c.loop-n.invariant ∙ ap (map f) (take_all c.loop-n.n raw (omega (arith, c.loop-n-test.false))) ∙ roots_said around place raw said (((units_agree around raw).ok said).0 means)
