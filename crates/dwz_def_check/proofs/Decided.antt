-- From files that were read to the answer on them.
use Rattle.std.proofs.Common.{◌≡◌, ℕ, List, length, ◌∙◌}
use Rattle.std.specs.Prelude.{◌↔◌}
use Rattle.dwz_def_reading.specs.Lists.{In}
use Rattle.dwz_nodes.specs.Graph.{IsClosed, Node}
use Rattle.dwz_nodes.specs.Looks.{IsRefined}
use Rattle.dwz_def_cross.specs.Tops.{WithCommon, whole_units}
use Rattle.dwz_def_cross.specs.CrossSame.{EachTwo, UnitsAlike}
use Rattle.dwz_def_check.specs.Answer.{IsSameAnswer, SameBy}
use Rattle.dwz_def_check.specs.CheckLaws.{AreMadeFrom}
use Rattle.dwz_def_check.specs.CrossNames.{AreSides, CrossName, IsWellRead, Side, cross_names}
use Rattle.dwz_def_check.specs.CrossNodes.{AreCrossNodes, new_side, node_count, old_side}
use Rattle.dwz_def_check.specs.CrossRows.{IsCrossRow, RowsSame, UnitRow}
use Rattle.dwz_def_check.specs.declared.same.Same.{Same}
use Rattle.dwz_def_check.proofs.AnswerLemmas.{answer_rows, whole_in}
use Rattle.dwz_def_check.proofs.MadeNodes.{closed_nodes, made_nodes}
use Rattle.dwz_def_check.proofs.Naming.{named_by}
use Rattle.dwz_def_check.proofs.RowLemmas.{unit_rows}

-- the answer on rows is the answer on files
pub rows_answer : {P Q : Type 0} (s : Side P) (t : Side Q) (g : List Node) (classes : List ℕ) → AreSides s t → AreCrossNodes s t g → IsRefined g classes → (rows others : List UnitRow)
    → EachTwo (IsCrossRow s classes) (whole_units s.files.own) rows → EachTwo (IsCrossRow t classes) (whole_units t.files.own) others → (same : Same)
    → SameBy RowsSame rows others same ↔ IsSameAnswer s.files t.files same
rows_answer s t g classes sides are refined rows others h j =
    answer_rows (UnitsAlike s.files t.files) RowsSame (IsCrossRow s classes) (IsCrossRow t classes) (whole_units s.files.own) (whole_units t.files.own) rows others
    (λ u x row other is js. unit_rows s t g classes sides are refined u x (whole_in s.files.own u is) (whole_in t.files.own x js) row other) h j

module _ {P Q : Type 0} (v : WithCommon P) (w : WithCommon Q) (name : P → CrossName) (other : Q → CrossName) (old : IsWellRead v) (new : IsWellRead w)
    (old_named : (p : P) (x : CrossName) → In (p, x) (cross_names (old_side v w name)) → name p ≡ x) (new_named : (q : Q) (x : CrossName) → In (q, x) (cross_names (new_side v w other)) → other q ≡ x)
    (g : List Node) (made : AreMadeFrom (old_side v w name) (new_side v w other) g) where
  sides : AreSides (old_side v w name) (new_side v w other)
  sides = record { old = old; new = new; old_named = named_by (old_side v w name) old old_named; new_named = named_by (new_side v w other) new new_named }

  nodes : AreCrossNodes (old_side v w name) (new_side v w other) g
  nodes = made_nodes made.labels made.movable made.targets made.firsts g made.free made.are_first made.made (old_side v w name) (new_side v w other) made.old made.new

  many : length g ≡ node_count v w
  many = made.made.len ∙ made.are_first.len ∙ made.free.0 ∙ made.count

  pub decided_closed : IsClosed g
  decided_closed = closed_nodes v w name other g sides nodes many

  pub decided : (classes : List ℕ) → IsRefined g classes → (rows others : List UnitRow) → EachTwo (IsCrossRow (old_side v w name) classes) (whole_units v.own) rows
      → EachTwo (IsCrossRow (new_side v w other) classes) (whole_units w.own) others → (same : Same) → SameBy RowsSame rows others same ↔ IsSameAnswer v w same
  decided classes refined = rows_answer (old_side v w name) (new_side v w other) g classes sides nodes refined
