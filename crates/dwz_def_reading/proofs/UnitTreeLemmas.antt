-- The sibling lists and the tree of a unit are read as they are spelled, and fail with the faults that they have.
use Rattle.std.proofs.Common.{◌≡◌, ℕ, ◌+◌, inl, inr, Bool, List, ◌++◌, length, Option, Some, None, Result, Ok, Err, refl, ap, subst, ◌∙◌, append_assoc, arith}
use Rattle.std.proofs.lemmas.List.{length-append}
use Rattle.dwz_model.specs.declared.fault.Fault.{Fault}
use Rattle.dwz_bytes.specs.Input.{Input}
use Rattle.dwz_bytes.specs.Reading.{◌>>=◌}
use Rattle.dwz_def_reading.specs.Entries.{IsFrontFault, RawEntry, SpellsFront, UnitContext, front_at, root_position}
use Rattle.dwz_def_reading.specs.Trees.{Behind, Cut, Faulty, Forest, Here, Inside, IfChildren, Position, SpellsForest, children_by, first_below}
use Rattle.dwz_def_reading.specs.Units.{IsDown, IsTreeFault, SpellsTree, Tree, after_root, cut_tree, tree_at, unit_siblings_at, unit_siblings_by, with_root}
use Rattle.dwz_def_reading.proofs.EntryLemmas.{front_again, front_found, front_laws}
use Rattle.dwz_def_reading.proofs.FrontFaults.{front_fails, front_fails_so, front_fault}
use Rattle.dwz_def_reading.proofs.PartLemmas.{bind_err, bind_ok, same_input, same_value}
use Rattle.dwz_def_reading.proofs.TreeLemmas.{Taken, Takes, Takes-then, children_again, children_found, input_at, read_is_spelled, spelled_is_read}
use Rattle.dwz_def_reading.proofs.TreeSteps.{Stops, children_err, fault_again, fault_found, siblings_step}

abbrev pub has : RawEntry → Bool
has e = e.children

-- ---- sibling lists

pub list_found : (c : UnitContext) (p : Position) (i : Input) (x : Forest RawEntry × Input) → unit_siblings_at c p i ≡ Ok x → Taken has (SpellsFront c) p i x
list_found c = read_is_spelled has (front_at c) (SpellsFront c) (cut_tree c) (front_laws c)

pub list_again : (c : UnitContext) (p : Position) (start : ℕ) (f : Forest RawEntry) (bytes rest : List ℕ) → SpellsForest has (SpellsFront c) f p start bytes
    → unit_siblings_at c p (input_at start (bytes ++ rest)) ≡ Ok (f, input_at (start + length bytes) rest)
list_again c = spelled_is_read has (front_at c) (SpellsFront c) (cut_tree c) (front_laws c)

pub list_fault : (c : UnitContext) (p : Position) (i : Input) (f : Fault) → unit_siblings_at c p i ≡ Err f → Stops has (SpellsFront c) (IsFrontFault c) p i f
list_fault c = fault_found has (front_at c) (SpellsFront c) (IsFrontFault c) (cut_tree c) (front_laws c) (front_fails c)

pub list_fault_again : (c : UnitContext) (cut : Cut RawEntry) (p : Position) (start : ℕ) (bytes : List ℕ) (f : Fault) → Faulty has (SpellsFront c) (IsFrontFault c) cut p f start bytes
    → unit_siblings_at c p (input_at start bytes) ≡ Err f
list_fault_again c cut = fault_again cut has (front_at c) (SpellsFront c) (IsFrontFault c) (cut_tree c) (front_laws c) (front_fails c)

-- a list is the front of its first entry, or its end, and then the lists behind that front
pub list_step : (c : UnitContext) (p : Position) (i : Input) → unit_siblings_at c p i ≡ unit_siblings_by (unit_siblings_at c) c p i
list_step c = siblings_step has (front_at c) (SpellsFront c) (cut_tree c) (front_laws c)

-- ---- trees: what is read is spelled

pub record TreeRead (c : UnitContext) (before : ℕ) (i : Input) (tree : Tree) (j : Input) : Type 0 where
  pub bytes : List ℕ
  pub spelled : SpellsTree c before tree.0 tree.1 i.at bytes
  pub takes : Takes i bytes j

root_found : (c : UnitContext) (before : ℕ) (i k j : Input) (o : Option RawEntry) (front : List ℕ) (tree : Tree) → SpellsFront c (root_position before) i.at o front → Takes i front k
    → after_root c before (o, k) ≡ Ok (tree, j) → TreeRead c before i tree j
root_found c before i k j None front tree is takes e = absurd cc
root_found c before i k j (Some root) front tree is takes e =
    let p = root_position before in
    let a = bind_ok (children_by (unit_siblings_at c) p root.children k) (with_root root) (tree, j) e in
    let t = children_found has (SpellsFront c) (unit_siblings_at c) (list_found c) p root.children k a.0 a.1 in
    let same : (root, a.0.0) ≡ tree = same_value (root, a.0.0) tree a.0.1 j (with_root root a.0) refl a.2 in
    let to : a.0.1 ≡ j = same_input (root, a.0.0) tree a.0.1 j (with_root root a.0) refl a.2 in
    let one : TreeRead c before i (root, a.0.0) a.0.1 = record {
      bytes = front ++ t.bytes;
      spelled = record {
        first_bytes = front;
        first = is;
        second_bytes = t.bytes;
        second = subst (λ (n : ℕ). IfChildren root.children a.0.0 (SpellsForest has (SpellsFront c) a.0.0 (first_below p) n t.bytes) t.bytes) takes.place t.spelled;
        parts = refl;
      };
      takes = Takes-then i k a.0.1 front t.bytes takes t.takes;
    } in
    subst (λ (w : Tree). TreeRead c before i w j) same (subst (λ (w : Input). TreeRead c before i (root, a.0.0) w) to one)

pub tree_found : (c : UnitContext) (before : ℕ) (i j : Input) (tree : Tree) → tree_at c before i ≡ Ok (tree, j) → TreeRead c before i tree j
unfolding tree_at
tree_found c before i j tree e =
    let a = bind_ok (front_at c (root_position before) i) (after_root c before) (tree, j) e in
    let t = front_found c (root_position before) i a.0.1 a.0.0 a.1 in
    root_found c before i a.0.1 j a.0.0 t.bytes tree t.spelled t.takes a.2

-- ---- trees: what is spelled is read

pub tree_again : (c : UnitContext) (before : ℕ) (root : RawEntry) (below : Forest RawEntry) (start : ℕ) (bytes rest : List ℕ) → SpellsTree c before root below start bytes
    → tree_at c before (input_at start (bytes ++ rest)) ≡ Ok ((root, below), input_at (start + length bytes) rest)
unfolding tree_at
tree_again c before root below start bytes rest is =
    let p = root_position before in
    let a = is.first_bytes in
    let b = is.second_bytes in
    let whole : bytes ++ rest ≡ a ++ (b ++ rest) = ap (λ (w : List ℕ). w ++ rest) is.parts ∙ append_assoc a b rest in
    let head = front_again c p start (Some root) a (b ++ rest) is.first in
    let inner : children_by (unit_siblings_at c) p root.children (input_at (start + length a) (b ++ rest)) ≡ Ok (below, input_at (start + length a + length b) rest)
    = children_again root.children below has (SpellsFront c) (unit_siblings_at c) p (start + length a) b rest is.second (list_again c (first_below p) (start + length a) below b rest) in
    let place : start + length a + length b ≡ start + length bytes = omega (arith, ap length is.parts, length-append a b) in
    ap (λ (w : List ℕ). tree_at c before (input_at start w)) whole
    ∙ ap (λ (r : Result (Option RawEntry × Input) Fault). r >>= after_root c before) head
    ∙ ap (λ (r : Result (Forest RawEntry × Input) Fault). r >>= with_root root) inner
    ∙ ap (λ (n : ℕ). Ok ((root, below), input_at n rest)) place

-- ---- trees: faults

root_fault : (c : UnitContext) (before : ℕ) (i k : Input) (o : Option RawEntry) (front : List ℕ) (f : Fault) → SpellsFront c (root_position before) i.at o front → Takes i front k
    → after_root c before (o, k) ≡ Err f → IsTreeFault c before i.at i.rest f
root_fault c before i k None front f is takes e = absurd (is.0 refl)
root_fault c before i k (Some root) front f is takes e =
    let p = root_position before in
    elim (bind_err (children_by (unit_siblings_at c) p root.children k) (with_root root) f e) [
      | inl h ↦
          let b = children_err (unit_siblings_at c) p root.children k f h in
          let s = list_fault c (first_below p) k f b.1 in (
            Inside root s.cut,
            tt,
            (
              b.0,
              record {
                first_bytes = front;
                first = is;
                second_bytes = k.rest;
                second = subst (λ (at : ℕ). Faulty has (SpellsFront c) (IsFrontFault c) s.cut (first_below p) f at k.rest) takes.place s.faulty;
                parts = takes.parts;
              },
            ),
          )
      | inr h ↦ absurd cc
    ]

pub tree_fault : (c : UnitContext) (before : ℕ) (i : Input) (f : Fault) → tree_at c before i ≡ Err f → IsTreeFault c before i.at i.rest f
unfolding tree_at
tree_fault c before i f e =
    elim (bind_err (front_at c (root_position before) i) (after_root c before) f e) [
      | inl h ↦ (Here, tt, front_fault c (root_position before) i f h)
      | inr h ↦
          let t = front_found c (root_position before) i h.0.1 h.0.0 h.1 in
          root_fault c before i h.0.1 h.0.0 t.bytes f t.spelled t.takes h.2
    ]

cut_fails : (cut : Cut RawEntry) (c : UnitContext) (before start : ℕ) (bytes : List ℕ) (f : Fault) → IsDown cut → Faulty has (SpellsFront c) (IsFrontFault c) cut (root_position before) f start bytes
    → tree_at c before (input_at start bytes) ≡ Err f
unfolding tree_at
cut_fails Here c before start bytes f down is = ap (λ (r : Result (Option RawEntry × Input) Fault). r >>= after_root c before) (front_fails_so c (root_position before) start bytes f is)
cut_fails (Inside root cut) c before start bytes f down is =
    let p = root_position before in
    let a = is.1 in
    let head = front_again c p start (Some root) a.first_bytes a.second_bytes a.first in
    let below = list_fault_again c cut (first_below p) (start + length a.first_bytes) a.second_bytes f a.second in
    let inner : children_by (unit_siblings_at c) p root.children (input_at (start + length a.first_bytes) a.second_bytes) ≡ Err f =
    ap (λ (b : Bool). children_by (unit_siblings_at c) p b (input_at (start + length a.first_bytes) a.second_bytes)) is.0 ∙ below in
    ap (λ (w : List ℕ). tree_at c before (input_at start w)) a.parts
    ∙ ap (λ (r : Result (Option RawEntry × Input) Fault). r >>= after_root c before) head
    ∙ ap (λ (r : Result (Forest RawEntry × Input) Fault). r >>= with_root root) inner
cut_fails (Behind root children cut) c before start bytes f down is = absurd down

pub tree_fault_again : (c : UnitContext) (before start : ℕ) (bytes : List ℕ) (f : Fault) → IsTreeFault c before start bytes f → tree_at c before (input_at start bytes) ≡ Err f
tree_fault_again c before start bytes f is = cut_fails is.0 c before start bytes f is.1 is.2
