use Rattle.std.proofs.Common.{◌≡◌, ◌∷◌, ◌++◌, ℕ, [], Some, false, ap, drop, take, get_or, ◌∙◌}
use Rattle.dwz_model.specs.declared.place.Base.TheVariants.{Unit as FromUnit}
use Rattle.dwz_model.specs.declared.place.Piece.{Piece}
use Rattle.dwz_def_reading.specs.Meanings.{target_of}
use Rattle.dwz_def_reading.specs.declared.exprs.Operand.{Operand}
use Rattle.dwz_def_reading.proofs.ListFacts.{drop_pairs}
use Rattle.dwz_graph.specs.Operands.{is_named}
use Rattle.dwz_graph_view.specs.UnitViews.{place_in}
use Rattle.dwz_label_entries.proofs.RefLemmas.{each_named}
use Rattle.dwz_graph_view.proofs.PieceSteps.{last_named, last_part, next_named, next_parts}
use Rattle.dwz_graph_view.proofs.pieces.pieces_of.Goals as goal

abbrev none : Operand
none = record { at = 0; width = 0; uleb = false; base = FromUnit; number = 0 }

pub returns-in_default : goal.returns-in_default
returns-in_default c = λ s knows named. (
    let os = c.args.operands.now in
    let k = c.loop-operand.operand-index in
    let place = place_in c.args.setting.now.file (s.around.place (target_of s (get_or os k none))) in
    let there = c.place_of.ensures s knows (each_named (is_named s) os k none named c.loop-operand-test.true) in
    absurd (c.in_default.not-Some place there))

pub loop-operand-preserved : goal.loop-operand-preserved
loop-operand-preserved c =
    let os = c.args.operands.now in
    let k = c.loop-operand.operand-index in
    let o = get_or os k none in
    let file = c.args.setting.now.file in
    let here = drop_pairs os k none c.loop-operand-test.true in
    let out = c.loop-operand.pieces.items in
    let one = c.push.new.self.items in
    let two = c.push-in-loop-operand.new.self.items in
    let cut = c.front.result.now in
    let target = c.in-Some.target in
    let is_one = c.in_ok-push.ensures.items ∙ ap (λ (w : Piece). out ++ (w ∷ [])) c.in_ok-same.ensures in
    let is_two = c.in_ok-push-2.ensures.items in
    let rest = c.loop-operand.rest.now in (
      next_parts file os k out o here cut target one two is_one is_two c.loop-operand.place rest c.behind-rest.result.now _
          (c.front.ensures ∙ ap (λ (n : ℕ). take n rest) c.saturating_sub.ensures)
          (c.behind-rest.ensures ∙ ap (λ (n : ℕ). drop n rest) c.saturating_sub-in-loop-operand.ensures) c.loop-operand.invariant.0,
      λ s knows named. (
          let there = c.in-Some.ensures s knows (each_named (is_named s) os k none named c.loop-operand-test.true) in
          let at : target ≡ place_in file (s.around.place (target_of s o)) = cc in
          next_named file os k out o here cut target one two is_one is_two s _ at (c.loop-operand.invariant.1 s knows named)),
    )

pub returns : goal.returns
returns c = λ s knows named. (
    let os = c.args.operands.now in
    let k = c.loop-operand.operand-index in
    let out = c.loop-operand.pieces.items in
    let one = c.push-2.new.self.items in
    let rest = c.loop-operand.rest.now in
    let is = c.in_ok-push-3.ensures.items ∙ ap (λ (w : Piece). out ++ (w ∷ [])) c.in_ok-same-2.ensures in
    record {
      pieces = one;
      is = ap Some c.new.ensures;
      parts = last_part os k out one c.loop-operand.place rest _ c.loop-operand-test.false is c.loop-operand.invariant.0;
      named = last_named c.args.setting.now.file s os k out one rest _ c.loop-operand-test.false is (c.loop-operand.invariant.1 s knows named);
    })
