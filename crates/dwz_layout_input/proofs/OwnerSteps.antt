-- Owners of the entries of files: those so far, and those that are left.
use Rattle.std.proofs.Common.{◌≡◌, ℕ, zero, suc, ◌+◌, ◌<◌, ◌≤◌, List, [], ◌∷◌, ◌++◌, length, drop, get_or, Some, slice_get, refl, sym, ap, subst, ◌∙◌, arith}
use Rattle.std.proofs.lemmas.List.{append_assoc, append_cancel_left, drop_all}
use Rattle.dwz_def_reading.proofs.ListFacts.{drop_next, item_got}
use Rattle.dwz_def_reading.specs.Documents.{Doc}
use Rattle.dwz_def_tops.specs.Spots.{EntryName}
use Rattle.dwz_graph.specs.declared.file.File.{File}
use Rattle.dwz_graph.specs.declared.index.Starts.{Starts}
use Rattle.dwz_graph.specs.Index.{Index, IsIndex}
use Rattle.dwz_graph.specs.Names.{names_from}
use Rattle.dwz_graph.specs.Indexed.{AreIndexed, first_starts, starts_behind}
use Rattle.dwz_layout_numbers.specs.declared.numbers.UnitNumbers.{UnitNumbers}
use Rattle.dwz_layout_numbers.specs.Owners.{AddsOwners, AreOwners}
use Rattle.dwz_plan.specs.Planned.{Planned}
use Rattle.dwz_unit.specs.Rows.{rows_of, units_of}
use Rattle.dwz_law_layout.specs.Beside.{Beside}
use Rattle.dwz_law_layout.specs.Facts.{RunFacts, docs, owners_beside}
use Rattle.dwz_law_layout.specs.Listed.{AreAllOwners}
use Rattle.dwz_layout_input.specs.Needs.{AreMade}

names_there : (s : Starts) (ds : List (Doc ℕ)) (xs : List Index) (end : Starts) → AreIndexed s ds xs end → (k : ℕ) (x : Index) → slice_get xs k ≡ Some x → (names : List EntryName) × IsIndex names x
names_there s [] [] end h k x e = absurd cc
names_there s [] (y ∷ xs) end h k x e = absurd h
names_there s (d ∷ ds) [] end h k x e = absurd h
names_there s (d ∷ ds) (y ∷ xs) end h zero x e =
    let same : y ≡ x = cc in
    (names_from s.unit s.top d.units, subst (λ (w : Index). IsIndex (names_from s.unit s.top d.units) w) same h.0.names)
names_there s (d ∷ ds) (y ∷ xs) end h (suc k) x e = names_there (starts_behind s d y) ds xs end h.1 k x e

module _ (files : List File) (indexes : List Index) (plan : Planned) (numbers : UnitNumbers) where
  -- with those that are left, the owners so far are those of all files
  pub record Owning (n : ℕ) (owners : List ℕ) : Type 0 where
    pub so : (beside : Beside) (f : RunFacts beside) → AreMade f files indexes plan numbers → (rest : List ℕ) → AreAllOwners f (drop n files) (drop n indexes) rest → AreAllOwners f files indexes (owners ++ rest)

  pub owners_first : (owners : List ℕ) → owners ≡ [] → Owning 0 owners
  owners_first owners none = record { so = λ beside f made rest h. subst (λ (w : List ℕ). AreAllOwners f files indexes (w ++ rest)) (sym none) h }

  module _ (n : ℕ) (x : File) (index : Index) (old new : List ℕ) where
    abbrev Adds : Type 0
    Adds = (names : List EntryName) → IsIndex names index → AddsOwners plan numbers.parts.items numbers.olds.items index.starts.unit (rows_of (units_of x.units)) names old new

    -- they are the same by all names
    owned_by : {beside : Beside} (f : RunFacts beside) → AreMade f files indexes plan numbers → Adds → (more : List ℕ) → new ≡ old ++ more → (names : List EntryName) → IsIndex names index
        → AreOwners f.planned f.parts f.olds index.starts.unit (rows_of (units_of x.units)) names more
    owned_by f made adds more is names shows =
        let b = adds names shows in
        let same : b.more ≡ more = append_cancel_left old b.more more (sym b.is ∙ is) in
        subst (λ (w : Planned). AreOwners w f.parts f.olds index.starts.unit (rows_of (units_of x.units)) names more) (sym made.plan_is)
        (subst (λ (w : List ℕ). AreOwners plan w f.olds index.starts.unit (rows_of (units_of x.units)) names more) (sym made.parts_are)
        (subst (λ (w : List ℕ). AreOwners plan numbers.parts.items w index.starts.unit (rows_of (units_of x.units)) names more) (sym made.olds_are)
        (subst (λ (w : List ℕ). AreOwners plan numbers.parts.items numbers.olds.items index.starts.unit (rows_of (units_of x.units)) names w) same b.are)))

    pub owners_next : n < length files → x ≡ get_or files n x → n < length indexes → index ≡ get_or indexes n index → Adds → Owning n old → Owning (n + 1) new
    owners_next lt e lti ei adds g = record {
      so = λ beside f made rest h. (
          let there = names_there first_starts (docs f) indexes made.indexed.end made.indexed.are n index (item_got indexes n index lti ei) in
          let a = adds there.0 there.1 in
          let one : AreAllOwners f (x ∷ drop (n + 1) files) (index ∷ drop (n + 1) indexes) (a.more ++ rest) =
          (a.more, rest, refl, owned_by f made adds a.more a.is, h) in
          let back : AreAllOwners f (drop n files) (drop n indexes) (a.more ++ rest) =
          subst (λ (w : List File). AreAllOwners f w (drop n indexes) (a.more ++ rest)) (sym (drop_next files n x lt e))
          (subst (λ (w : List Index). AreAllOwners f (x ∷ drop (n + 1) files) w (a.more ++ rest)) (sym (drop_next indexes n index lti ei)) one) in
          subst (λ (w : List ℕ). AreAllOwners f files indexes w) (sym (ap (λ (w : List ℕ). w ++ rest) a.is ∙ append_assoc old a.more rest)) (g.so beside f made (a.more ++ rest) back));
    }

  pub owners_done : (n : ℕ) (owners : List ℕ) → length files ≤ n → length indexes ≡ length files → Owning n owners → (beside : Beside) (f : RunFacts beside) → AreMade f files indexes plan numbers
      → AreAllOwners f files indexes (owners ++ owners_beside f)
  owners_done n owners le li g beside f made =
      let rest = owners_beside f in
      let back : AreAllOwners f (drop n files) (drop n indexes) rest =
      subst (λ (w : List File). AreAllOwners f w (drop n indexes) rest) (sym (drop_all n files le))
      (subst (λ (w : List Index). AreAllOwners f [] w rest) (sym (drop_all n indexes (omega arith))) refl) in
      g.so beside f made rest back
