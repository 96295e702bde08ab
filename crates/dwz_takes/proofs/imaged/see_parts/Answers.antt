use Rattle.std.proofs.Common.{ℕ, ◌<◌, ◌++◌, List, length, get_or, take, sym, subst, arith}
use Rattle.std.specs.List.{flat_map}
use Rattle.dwz_model.specs.Lists.{In}
use Rattle.dwz_model.proofs.ListFacts.{in_at}
use Rattle.dwz_takes.specs.Images.{AreLeast}
use Rattle.dwz_takes.specs.Takes.{list_at}
use Rattle.dwz_takes.proofs.ImageFacts.{parts_next}
use Rattle.dwz_takes.proofs.WatchFacts.{class_low}
use Rattle.dwz_takes.proofs.imaged.see_parts.Goals as goal

pub get-requires : goal.get-requires
get-requires c =
    let l : c.loop-part.part-index < length c.args.parts.now = omega arith in
    c.requires.parts (get_or c.args.parts.now c.loop-part.part-index 0) (in_at c.args.parts.now c.loop-part.part-index l)

pub see-requires-clause-tops : goal.see-requires-clause-tops
see-requires-clause-tops c t i =
    subst (λ (ks : List ℕ). t < length ks) (sym c.as_slice.ensures)
    (c.requires.rows.part_tops (get_or c.args.parts.now c.loop-part.part-index 0) t (subst (λ (xs : List ℕ). In t xs) c.get.ensures i))

pub see-requires-clause-classes : goal.see-requires-clause-classes
see-requires-clause-classes c t i =
    let low = class_low c.args.rows.now c.requires.rows t (c.requires.rows.part_tops (get_or c.args.parts.now c.loop-part.part-index 0) t (subst (λ (xs : List ℕ). In t xs) c.get.ensures i)) in
    let same = c.requires.len in
    subst (λ (ks : List ℕ). get_or ks t 0 < length c.loop-part.firsts) (sym c.as_slice.ensures) (omega arith)

pub loop-part-preserved : goal.loop-part-preserved
loop-part-preserved c =
    let i = c.loop-part.part-index in
    let seen = flat_map (list_at c.args.rows.now.part_tops) (take i c.args.parts.now) in
    subst (λ (ts : List ℕ). AreLeast c.args.rows.now.classes ts c.see.new.firsts) (parts_next c.args.rows.now.part_tops c.args.parts.now i (omega arith))
    (subst (λ (ts : List ℕ). AreLeast c.args.rows.now.classes (seen ++ ts) c.see.new.firsts) c.get.ensures
    (subst (λ (ks : List ℕ). AreLeast ks (seen ++ c.get.result.now) c.see.new.firsts) c.as_slice.ensures
    (c.see.ensures seen (subst (λ (ks : List ℕ). AreLeast ks seen c.loop-part.firsts) (sym c.as_slice.ensures) c.loop-part.invariant))))
