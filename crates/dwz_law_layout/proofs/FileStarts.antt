-- The numbers that a file begins with are those behind the units of the files before it: by induction over the files.
use Rattle.std.proofs.Common.{◌≡◌, ℕ, zero, suc, ◌+◌, List, [], ◌∷◌, ◌++◌, length, map, take, Some, slice_get, refl, sym, ap, subst, ◌∙◌, arith}
use Rattle.std.proofs.lemmas.List.{append_assoc, length-append, length-map}
use Rattle.std.proofs.Math.Seq.{take-append_seam}
use Rattle.dwz_def_reading.specs.Documents.{Doc, DwUnit, Node, unit_map}
use Rattle.dwz_def_tops.specs.Spots.{EntryName, FileUnit, in_file, named_files, spot_in, spots_from, tops_among}
use Rattle.dwz_def_tops.proofs.NameLists.{count_map}
use Rattle.dwz_graph.specs.declared.file.File.{File}
use Rattle.dwz_graph.specs.declared.index.SpaceEntry.{SpaceEntry}
use Rattle.dwz_graph.specs.declared.index.Starts.{Starts}
use Rattle.dwz_graph.specs.Index.{Index}
use Rattle.dwz_graph.specs.Indexed.{AreIndexed, first_starts, starts_behind}
use Rattle.dwz_graph.specs.Across.{IsFileAmong, file_units}
use Rattle.dwz_layout_order.specs.Shown.{IsNext, named_units, tops_in}
use Rattle.dwz_layout_order.specs.Spaces.{spaces_of}
use Rattle.dwz_layout_order.proofs.UnitRows.{spaces_append, tops_append}
use Rattle.dwz_layout_order.specs.Ordered.{next_index}
use Rattle.dwz_law_layout.specs.Beside.{Beside}
use Rattle.dwz_law_layout.specs.Facts.{AreFacts, HasFile, RunFacts, docs, units}
use Rattle.dwz_law_layout.proofs.FileSpaces.{file_long}

tops_named : (file : ℕ) (name : ℕ → EntryName) (said : List (DwUnit ℕ)) → tops_in (named_units file name said) ≡ tops_among said
unfolding tops_in tops_among
tops_named file name [] = refl
tops_named file name (v ∷ said) = (λ i. count_map name v.kind v.below i + tops_named file name said i)

-- the units before the one that has the number with which a file begins
record Begins (all : List (FileUnit EntryName)) (x : Index) : Type 0 where
  pub front : List (FileUnit EntryName)
  pub rest : List (FileUnit EntryName)
  pub all_are : all ≡ front ++ rest
  pub many : length front ≡ x.starts.unit
  pub next : IsNext front (next_index x)

begins : (all : List (FileUnit EntryName)) (file : ℕ) (s end : Starts) (said : List (Doc ℕ)) (indexes : List Index) (before : List (FileUnit EntryName)) → AreIndexed s said indexes end
    → all ≡ before ++ named_files file s.unit s.top said → s.unit ≡ length before → s.top ≡ tops_in before → s.space ≡ length (spaces_of before)
    → (k : ℕ) (x : Index) → slice_get indexes k ≡ Some x → Begins all x
unfolding named_files
begins all file s end [] [] before h is unit top space k x e = absurd cc
begins all file s end [] (y ∷ indexes) before h is unit top space k x e = absurd h
begins all file s end (doc ∷ said) [] before h is unit top space k x e = absurd h
begins all file s end (doc ∷ said) (y ∷ indexes) before h is unit top space zero x e =
    let same : y ≡ x = cc in
    let from = h.0.tops.starts_are in
    let here : Begins all y = record {
      front = before;
      rest = named_files file s.unit s.top (doc ∷ said);
      all_are = is;
      many = sym unit ∙ ap (λ (w : Starts). w.unit) (sym from);
      next = record { top = ap (λ (w : Starts). w.top) from ∙ top; space = ap (λ (w : Starts). w.space) from ∙ space };
    } in
    subst (Begins all) same here
begins all file s end (doc ∷ said) (y ∷ indexes) before h is unit top space (suc k) x e =
    let name : ℕ → EntryName = spot_in (spots_from s.unit s.top doc.units) in
    let next = starts_behind s doc y in
    let mine = named_units file name doc.units in
    let others = named_files (suc file) (s.unit + length doc.units) (s.top + tops_among doc.units) said in
    let more : all ≡ (before ++ mine) ++ others = is ∙ sym (append_assoc before mine others) in
    let long = length-append before mine in
    let named_long : length mine ≡ length doc.units = length-map (map (unit_map name) doc.units) (in_file file) ∙ length-map doc.units (unit_map name) in
    let tops_joined = tops_append before mine in
    let tops_mine = tops_named file name doc.units in
    let joined = ap (λ (w : List (Node EntryName)). length w) (spaces_append before mine) in
    let two = length-append (spaces_of before) (spaces_of mine) in
    let many = file_long file 0 name s doc.units in
    let spaces_are = ap (λ (w : List SpaceEntry). length w) h.0.tops.spaces_are in
    let unit_next : next.unit ≡ length (before ++ mine) = omega (arith, unit, long, named_long) in
    let top_next : next.top ≡ tops_in (before ++ mine) = omega (arith, top, tops_joined, tops_mine) in
    let space_next : next.space ≡ length (spaces_of (before ++ mine)) = omega (arith, space, joined, two, many, spaces_are) in
    begins all (suc file) next end said indexes (before ++ mine) h.1 more unit_next top_next space_next k x e

pub next_behind : {beside : Beside} (f : RunFacts beside) → AreFacts f → (n : ℕ) (bytes : List ℕ) (x : File) (index : Index) → HasFile f n bytes x index → (is : IsFileAmong f.contents n bytes x index)
    → IsNext is.units.front (next_index index)
unfolding tops_in spaces_of
next_behind f facts n bytes x index h is =
    let b = begins (units f) 0 first_starts facts.indexed.end (docs f) f.indexes [] facts.indexed.are refl refl refl refl n index h.index_is in
    let long : length b.front ≡ length is.units.front = b.many ∙ sym is.units.many in
    let behind = file_units index.starts n is.kept.read.doc ++ is.units.back in
    let all : b.front ++ b.rest ≡ is.units.front ++ behind = sym b.all_are ∙ is.units.all_are in
    let same : b.front ≡ is.units.front = sym (take-append_seam b.front b.rest) ∙ (λ i. take (long i) (all i)) ∙ take-append_seam is.units.front behind in
    subst (λ (w : List (FileUnit EntryName)). IsNext w (next_index index)) same b.next
