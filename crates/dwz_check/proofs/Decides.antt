-- From what was made of a graph to the answer on its files.
use Rattle.std.proofs.Common.{◌≡◌, ℕ, ◌-◌, ◌^◌, ◌<◌, List, [], ◌∷◌, length, Option, Some, None, refl, sym, ap, subst, ◌∙◌, arith, inl, inr}
use Rattle.dwz_def_reading.specs.Documents.{Doc, DwUnit}
use Rattle.dwz_def_reading.specs.Files.{limits_after, no_files_before}
use Rattle.dwz_def_reading.specs.Finished.{common_read, rule_of_back, rule_of_common}
use Rattle.dwz_def_reading.specs.Lists.{In}
use Rattle.dwz_def_reading.specs.Places.{Place}
use Rattle.dwz_def_reading.specs.Units.{RawUnit}
use Rattle.dwz_def_cross.specs.Tops.{WithCommon}
use Rattle.dwz_def_check.specs.Answer.{IsSameAnswer, IsSameOf, OfTwo, SameBy, beside_common}
use Rattle.dwz_def_check.specs.CheckLaws.{AreMadeFrom}
use Rattle.dwz_def_check.specs.CrossNames.{CrossName, IsWellRead, PartRoot, Side, cross_names}
use Rattle.dwz_def_check.specs.CrossNodes.{new_side, node_count, old_side}
use Rattle.dwz_def_check.specs.CrossRows.{RowsSame}
use Rattle.dwz_def_check.specs.declared.same.Same.{Same}
use Rattle.dwz_def_check.proofs.Decided.{decided, decided_closed}
use Rattle.dwz_def_check.proofs.ReadSides.{well_read}
use Rattle.dwz_check_columns.specs.Shows.{ShowRows, TwoSay, beside}
use Rattle.dwz_check_index.specs.Both.{AreCrossIndexes}
use Rattle.dwz_check_index.specs.declared.both.CrossIndexes.{CrossIndexes}
use Rattle.dwz_check_index.specs.TwoNames.{name_among, names_together}
use Rattle.dwz_check_index.proofs.TwoNames.{two_names}
use Rattle.dwz_check_labels.specs.Graph.{AreIndexesOf, AreLabelsOf, SayNumbered, SayTwo}
use Rattle.dwz_check_rows.specs.declared.columns.Columns.{Columns}
use Rattle.dwz_check_rows.specs.UnitRows.{AreColumns, IsNumbering, new_rows, old_rows}
use Rattle.dwz_graph.specs.ByRule.{numbered_rule}
use Rattle.dwz_graph.specs.Files.{FilesRead, said_finished}
use Rattle.dwz_graph.specs.declared.file.File.{File}
use Rattle.dwz_law_check.specs.MappedRows.{HaveRows, files_map}
use Rattle.dwz_law_check.proofs.MappedRows.{files_mapped}
use Rattle.dwz_nodes.specs.Graph.{IsClosed, Node}
use Rattle.dwz_nodes.specs.Looks.{IsRefined}
use Rattle.dwz_check.specs.Nodes.{AreNodesOf}
use Rattle.dwz_check.proofs.Few.{count_fits}
use Rattle.dwz_check.proofs.GraphSays.{GraphSays}
use Rattle.dwz_law_check.proofs.Placed.{one_meaning}
use Rattle.dwz_check.proofs.Pairs.{one_pair, two_of}
use Rattle.dwz_law_check.proofs.WellRead.{well_read_back}

in_first : {X : Type 0} (xs : List X) (x y : X) → xs ≡ x ∷ y ∷ [] → In x xs
in_first xs x y e = subst (λ (w : List _). In x w) (sym e) (inl refl)

in_second : {X : Type 0} (xs : List X) (x y : X) → xs ≡ x ∷ y ∷ [] → In y xs
in_second xs x y e = subst (λ (w : List _). In y w) (sym e) (inr (inl refl))

-- what files say in numbers is told by their contents
pub one_numbered : (o : Option (List ℕ)) (first second : List ℕ) (a b c d e f : List (DwUnit ℕ)) → SayNumbered o (first ∷ second ∷ []) a b c → SayNumbered o (first ∷ second ∷ []) d e f
    → (a ≡ d) × (b ≡ e) × (c ≡ f)
one_numbered None first second a b c d e f h k =
    let p = one_pair (numbered_rule (rule_of_back None 0)) no_files_before first second a b d e h.0 k.0 in
    (p.0, p.1, h.1 ∙ sym k.1)
one_numbered (Some bytes) first second a b c d e f h k =
    let m = one_meaning (numbered_rule (rule_of_common 2)) no_files_before bytes h.0 k.0 h.1 k.1 h.2 k.2 in
    let more : SayTwo (numbered_rule (rule_of_back (Some (common_read (first ∷ second ∷ []) bytes k.0)) 0)) (limits_after no_files_before bytes k.0) (first ∷ second ∷ []) a b =
    subst (λ (raw : List RawUnit). SayTwo (numbered_rule (rule_of_back (Some (common_read (first ∷ second ∷ []) bytes raw)) 0)) (limits_after no_files_before bytes raw) (first ∷ second ∷ []) a b)
    m.0 h.4 in
    let p = one_pair (numbered_rule (rule_of_back (Some (common_read (first ∷ second ∷ []) bytes k.0)) 0)) (limits_after no_files_before bytes k.0) first second a b d e more k.4 in
    (p.0, p.1, sym h.3 ∙ ap (λ (w : Doc ℕ). w.units) m.1 ∙ k.3)

-- so an index of what the files say is one of theirs
pub indexes_are : (r : FilesRead) (a b c : List (DwUnit ℕ)) (x : CrossIndexes) → length r.back ≡ 2 → SayNumbered r.common r.back a b c → AreCrossIndexes a b c x → AreIndexesOf r x
indexes_are r a b c x two says are d e f h =
    let q = two_of r.back two in
    let one = one_numbered r.common q.0 q.1 a b c d e f (subst (λ (xs : List (List ℕ)). SayNumbered r.common xs a b c) q.2 says) (subst (λ (xs : List (List ℕ)). SayNumbered r.common xs d e f) q.2 h) in
    subst (λ (z : List (DwUnit ℕ)). AreCrossIndexes d e z x) one.2 (subst (λ (z : List (DwUnit ℕ)). AreCrossIndexes d z c x) one.1 (subst (λ (z : List (DwUnit ℕ)). AreCrossIndexes z b c x) one.0 are))

module _ (r : FilesRead) (old new : File) (common : Option File) (s : GraphSays r old new common) where
  -- both files, each beside the common one
  abbrev v : WithCommon Place
  v = beside_common (said_finished r) s.x

  abbrev w : WithCommon Place
  w = beside_common (said_finished r) s.y

  -- one name for each place of both
  name : Place → CrossName
  name = name_among (names_together v w)

  abbrev before : Side Place
  before = old_side v w name

  abbrev after : Side Place
  after = new_side v w name

  any_name : ℕ → CrossName
  any_name n = PartRoot

  old_named : (p : Place) (x : CrossName) → In (p, x) (cross_names before) → name p ≡ x
  unfolding name
  old_named = (two_names r.common r.back (said_finished r) s.read s.x s.y s.docs).0

  new_named : (p : Place) (x : CrossName) → In (p, x) (cross_names after) → name p ≡ x
  unfolding name
  new_named = (two_names r.common r.back (said_finished r) s.read s.x s.y s.docs).1

  first_in : In s.x (said_finished r).docs
  first_in = in_first (said_finished r).docs s.x s.y s.docs

  second_in : In s.y (said_finished r).docs
  second_in = in_second (said_finished r).docs s.x s.y s.docs

  old_read : IsWellRead v
  old_read = well_read r.common r.back (said_finished r) s.read s.x first_in

  new_read : IsWellRead w
  new_read = well_read r.common r.back (said_finished r) s.read s.y second_in

  -- as many nodes with places as in numbers
  pub as_many : node_count v w ≡ node_count (beside s.a s.c) (beside s.b s.c)
  as_many =
      (λ i. node_count (sym s.old_placed i) (sym s.new_placed i))
      ∙ (files_mapped s.f s.g s.old_apart s.new_apart (beside s.a s.c) (beside s.b s.c) any_name any_name name name).0

  module _ (labels targets : List (List ℕ)) (are : AreLabelsOf r labels targets) where
    pub labels_many : length labels ≡ node_count (beside s.a s.c) (beside s.b s.c)
    labels_many = (are s.x s.y s.docs name old_named new_named).0 ∙ as_many

    pub labels_few : length labels < 2 ^ 32 - 1
    labels_few = let fits = count_fits s.a s.b s.c s.old_nodes s.new_nodes s.common_nodes in let many = labels_many in omega (arith, fits, many)

    module _ (g : List Node) (nodes : AreNodesOf labels targets g) where
      made : AreMadeFrom before after g
      made =
          let h = are s.x s.y s.docs name old_named new_named in
          record {
            labels = labels;
            targets = targets;
            movable = nodes.movable;
            firsts = nodes.firsts;
            count = h.0;
            old = h.1;
            new = h.2;
            free = nodes.free;
            are_first = nodes.are_first;
            made = nodes.made;
          }

      pub are_closed : IsClosed g
      are_closed =
          decided_closed v w name name old_read new_read old_named new_named g made

      module _ (classes : List ℕ) (refined : IsRefined g classes) (c : Columns) (shows : ShowRows (beside s.a s.c) (beside s.b s.c) (λ n. PartRoot) (λ n. PartRoot) c) where
        pub are_columns : AreColumns (length classes) c
        are_columns =
            let many : node_count (beside s.a s.c) (beside s.b s.c) ≡ length classes =
            sym labels_many ∙ sym nodes.free.0 ∙ sym nodes.are_first.len ∙ sym nodes.made.len ∙ sym refined.len in
            subst (λ (n : ℕ). AreColumns n c) many shows.fit

        rows : HaveRows v w name name classes (old_rows shows.lists classes c) (new_rows shows.lists classes c)
        rows =
            let first = old_rows shows.lists classes c in
            let second = new_rows shows.lists classes c in
            let here : HaveRows (files_map s.f (beside s.a s.c)) (files_map s.g (beside s.b s.c)) name name classes first second =
            (files_mapped s.f s.g s.old_apart s.new_apart (beside s.a s.c) (beside s.b s.c) (λ n. PartRoot) (λ n. PartRoot) name name).1 classes first second
            (record { old = shows.old classes; new = shows.new classes }) in
            subst (λ (q : WithCommon Place). HaveRows v q name name classes first second) s.new_placed
            (subst (λ (q : WithCommon Place). HaveRows q (files_map s.g (beside s.b s.c)) name name classes first second) s.old_placed here)

        pub is_same : (same : Same) → ((lists : ℕ → List (List ℕ)) → IsNumbering c.names lists → SameBy RowsSame (old_rows lists classes c) (new_rows lists classes c) same)
            → IsSameOf (said_finished r) same
        is_same same h =
            let answer : IsSameAnswer v w same =
            (decided v w name name old_read new_read old_named new_named g made classes refined (old_rows shows.lists classes c) (new_rows shows.lists classes c) rows.old rows.new same).0 (h shows.lists shows.numbering) in
            subst (λ (docs : List (Doc Place)). OfTwo (λ a b. IsSameAnswer (beside_common (said_finished r) a) (beside_common (said_finished r) b) same) docs) (sym s.docs) answer

  -- the indexes of the graph are those of what its files say
  pub two_say : (x : CrossIndexes) → AreIndexesOf r x → TwoSay old new common x s.a s.b s.c
  two_say x h = record {
    old_says = s.old_says;
    new_says = s.new_says;
    common_says = s.common_says;
    old_read = well_read_back s.f s.old_apart (beside s.a s.c) (subst (λ (q : WithCommon Place). IsWellRead q) (sym s.old_placed) old_read);
    new_read = well_read_back s.g s.new_apart (beside s.b s.c) (subst (λ (q : WithCommon Place). IsWellRead q) (sym s.new_placed) new_read);
    indexed = h s.a s.b s.c s.numbered;
  }
