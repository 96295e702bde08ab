-- What is found between the nodes of two tops, as the tops have it.
use Rattle.std.proofs.Common.{◌≡◌, ℕ, ◌^◌, ◌<◌, Bool, true, false, List, length, sym, subst, ⊎_elim, arith}
use Rattle.std.proofs.lemmas.Bool.{cases_Bool}
use Rattle.dwz_model.specs.Lists.{In}
use Rattle.dwz_nodes.specs.Graph.{Node, targets_at}
use Rattle.dwz_nodes.specs.Looks.{Alike as AlikeNodes}
use Rattle.dwz_def_tops.specs.Alike.{Alike, Movable}
use Rattle.dwz_def_tops.specs.Spots.{EntryName, FileUnit, Top, tops_of}
use Rattle.dwz_def_tops.specs.Deciding.{is_movable}
use Rattle.dwz_def_tops.proofs.AlikeBound.{movable_decides}
use Rattle.dwz_def_tops.proofs.TopNumbers.{top_at, tops_numbers}
use Rattle.dwz_label.specs.Nodes.{AreTopNodes}
use Rattle.dwz_label.specs.Shown.{AreFirstEquals, AreMadeOf, AreShown, nth_label}
use Rattle.dwz_label.specs.Labels.{label_of}
use Rattle.dwz_label.proofs.MadeLemmas.{made_nodes}
use Rattle.dwz_label.proofs.NodeLooks.{bound_node, movable_node}
use Rattle.dwz_nodes_chains.specs.LeastWays.{IsApart}
use Rattle.dwz_nodes_chains.specs.declared.search.Difference.{Difference}
use Rattle.dwz_law_explain.proofs.WayTops.{explained, tops_alike}
use Rattle.dwz_explain.specs.Verdicts.{HaveFewTargets, LeadsApart}
use Rattle.dwz_explain.proofs.WayEnds.{ends_of}

module _ (units : List (FileUnit EntryName)) (labels : List (List ℕ)) (movable : List Bool) (targets : List (List ℕ)) (firsts : List ℕ) (g : List Node)
    (shown : AreShown units labels movable targets) (are : AreFirstEquals labels movable firsts) (made : AreMadeOf firsts movable targets g)
    (x y : Top) (i : In x (tops_of units)) (j : In y (tops_of units)) (a b : ℕ) (p : x.number ≡ a) (q : y.number ≡ b)
    (first : Movable units x.number) (second : Movable units y.number) where
  shows : AreTopNodes units g
  shows = made_nodes units labels movable targets firsts g shown are made

  pub alike_tops : AlikeNodes g a b → Alike units x.number y.number
  alike_tops h =
      tops_alike units g shows x.number y.number first second
      (subst (λ (m : ℕ). AlikeNodes g m y.number) (sym p) (subst (λ (n : ℕ). AlikeNodes g a n) (sym q) h))

  pub leads_apart : (apart : Difference) → IsApart g a b apart.chain.items apart.first apart.second → LeadsApart units x y apart
  leads_apart apart h =
      let own = subst (λ (m : ℕ). IsApart g m y.number apart.chain.items apart.first apart.second) (sym p)
      (subst (λ (n : ℕ). IsApart g a n apart.chain.items apart.first apart.second) (sym q) h) in
      let e = ends_of units g shows apart.chain.items x y i j first second apart.first apart.second own in
      record {
        first = e.first;
        second = e.second;
        first_there = e.first_there;
        second_there = e.second_there;
        first_moves = e.first_moves;
        second_moves = e.second_moves;
        first_is = e.first_is;
        second_is = e.second_is;
        differ = e.differ;
        explained = λ what is. explained units g shows x y i j first second apart.chain.items apart.first apart.second own e.first e.second e.first_there e.second_there
            (e.first_is, e.second_is) what is;
      }

-- ---- references

few_at : (units : List (FileUnit EntryName)) (g : List Node) → AreTopNodes units g → HaveFewTargets units → (t : Top) → In t (tops_of units) → length (targets_at g t.number) < 2 ^ 32
few_at units g nodes few t i = ⊎_elim
    (λ (e : is_movable units t ≡ true). (
    let m = (movable_decides units t i).0 e in
    subst (λ (ts : List ℕ). length ts < 2 ^ 32) (sym (movable_node units g nodes t i m).targets) (few t i m)))
    (λ (e : is_movable units t ≡ false). subst (λ (ts : List ℕ). length ts < 2 ^ 32) (sym (bound_node units g nodes t i e).targets) (omega arith))
    (cases_Bool (is_movable units t))

-- 32 bits count the targets of each node
pub shown_few : (units : List (FileUnit EntryName)) (g : List Node) → AreTopNodes units g → HaveFewTargets units → (a : ℕ) → a < length g → length (targets_at g a) < 2 ^ 32
shown_few units g nodes few a l =
    let many = nodes.len in
    let r = top_at 0 (tops_of units) a (tops_numbers units) (omega arith) (omega (arith, l, many)) in
    subst (λ (n : ℕ). length (targets_at g n) < 2 ^ 32) r.2 (few_at units g nodes few r.0 r.1)

-- the label of a top at its end
pub end_label : (units : List (FileUnit EntryName)) (labels : List (List ℕ)) (movable : List Bool) (targets : List (List ℕ)) → AreShown units labels movable targets
    → (t : Top) → In t (tops_of units) → Movable units t.number → (n : ℕ) → t.number ≡ n → nth_label labels n ≡ label_of t
end_label units labels movable targets shown t there moves n is = subst (λ (k : ℕ). nth_label labels k ≡ label_of t) is (shown.labels_are t there moves)
