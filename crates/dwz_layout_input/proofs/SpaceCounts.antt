-- How many spaces there are, before each file and in all, and where those of a file stand among those of all.
use Rattle.std.proofs.Common.{◌≡◌, ℕ, zero, suc, ◌+◌, ◌-◌, ◌≤◌, ◌^◌, Bool, true, false, List, [], ◌∷◌, ◌++◌, length, map, take, Ok, refl, sym, ap, subst, ◌∙◌, arith}
use Rattle.std.proofs.lemmas.List.{length-append, length-map}
use Rattle.std.proofs.Math.Seq.{take-append-add, take-append_seam}
use Rattle.dwz_def_reading.specs.Trees.{End, Entry, size}
use Rattle.dwz_def_reading.specs.Units.{RawUnit, entries_in}
use Rattle.dwz_def_reading.specs.Documents.{Compile, Doc, DwUnit, Entries, Kind, Node, OfType, Partial, node_map}
use Rattle.dwz_def_reading.specs.Files.{Limits, around_of, files_meaning, limits_after, longest_files, no_files_before}
use Rattle.dwz_def_reading.specs.Meanings.{Around, MeanUnits, scope_of}
use Rattle.dwz_def_reading.proofs.FileLemmas.{file_agrees}
use Rattle.dwz_def_tops.specs.Spots.{EntryName, FileUnit, named_files, units_of}
use Rattle.dwz_graph.specs.declared.file.File.{File}
use Rattle.dwz_graph.specs.Files.{AreKept, AreRead, docs_of}
use Rattle.dwz_graph.proofs.GraphLemmas.{files_read}
use Rattle.dwz_graph.specs.declared.index.SpaceEntry.{SpaceEntry}
use Rattle.dwz_graph.specs.declared.index.Starts.{Starts}
use Rattle.dwz_graph.specs.Index.{Index}
use Rattle.dwz_graph.specs.Steps.{all_spaces as unit_entries, below_root, is_compile, is_space, space_entries, spaces_by, spaces_of_list, starts_behind as behind_unit}
use Rattle.dwz_graph.proofs.ListMeans.{means_size}
use Rattle.dwz_graph.specs.Indexed.{AreIndexed, AreIndexes, IsIndexOf, first_starts, starts_behind}
use Rattle.dwz_graph.proofs.IndexRoom.{entries_few}
use Rattle.dwz_layout_order.specs.Lists.{all_spaces}
use Rattle.dwz_layout_order.specs.Spaces.{spaces_below, spaces_of}
use Rattle.dwz_layout_order.proofs.RowLemmas.{spaces_counted}
use Rattle.dwz_layout_order.proofs.UnitRows.{spaces_append}
use Rattle.dwz_layout_order.proofs.FileChains.{entries_many}
use Rattle.dwz_unit.specs.Rows.{units_of as raw_units}
use Rattle.dwz_graph.specs.Across.{IsFileAmong, IsPart, file_units, name_at, starts_at, starts_from}
use Rattle.dwz_graph.proofs.FileWalk.{first_doc}
use Rattle.dwz_graph.proofs.TopRows.{units_long}
use Rattle.dwz_graph.proofs.FileRoom.{no_doc}
use Rattle.dwz_layout_input.proofs.SpaceEntries.{said_spaces, spaces_named}

-- ---- of a file

unit_count : (v : DwUnit ℕ) → length (spaces_below v.kind v.below) ≡ spaces_of_list is_space (below_root v)
unit_count v = by v.kind where
  by : (kind : Kind ℕ) → length (spaces_below kind v.below) ≡ spaces_of_list is_space (record { compile = is_compile kind; list = v.below })
  by Compile = sym (spaces_counted v.below)
  by (OfType signature main) = refl
  by Partial = refl

said_count : (s : Starts) (at : ℕ) (units : List (DwUnit ℕ)) → length (said_spaces units) ≡ length (unit_entries is_space s at (map below_root units))
unfolding said_spaces unit_entries
said_count s at [] = refl
said_count s at (v ∷ units) =
    let next = behind_unit is_space s (below_root v) in
    length-append (spaces_below v.kind v.below) (said_spaces units)
    ∙ (λ i. (unit_count v ∙ sym (entries_many s.space at (below_root v))) i + said_count next (at + 1 + size v.below) units i)
    ∙ sym (length-append (space_entries is_space s.space at (below_root v)) (unit_entries is_space next (at + 1 + size v.below) (map below_root units)))

pub file_count : (s : Starts) (file : ℕ) (doc : Doc ℕ) (x : Index) → IsIndexOf s doc x → length (spaces_of (file_units s file doc)) ≡ length x.spaces
file_count s file doc x h =
    ap (λ (w : List (Node EntryName)). length w) (spaces_named file (name_at s doc) doc.units)
    ∙ length-map (said_spaces doc.units) (node_map (name_at s doc))
    ∙ said_count s 0 doc.units
    ∙ ap (λ (w : List SpaceEntry). length w) (sym h.tops.spaces_are)

-- ---- of all files

pub all_count : (n : ℕ) (s end : Starts) (docs : List (Doc ℕ)) (indexes : List Index) → AreIndexed s docs indexes end → length (spaces_of (named_files n s.unit s.top docs))
    ≡ length (all_spaces indexes)
unfolding named_files spaces_of
all_count n s end [] [] h = refl
all_count n s end [] (x ∷ indexes) h = absurd h
all_count n s end (d ∷ docs) [] h = absurd h
all_count n s end (d ∷ docs) (x ∷ indexes) h =
    let next = starts_behind s d x in
    let own = file_units s n d in
    let others = named_files (suc n) next.unit next.top docs in
    ap (λ (w : List (Node EntryName)). length w) (spaces_append own others)
    ∙ length-append (spaces_of own) (spaces_of others)
    ∙ (λ i. file_count s n d x h.0 i + all_count (suc n) next end docs indexes h.1 i)
    ∙ sym (length-append x.spaces (all_spaces indexes))

pub many_spaces : (docs : List (Doc ℕ)) (indexes : List Index) → AreIndexes docs indexes → length (spaces_of (units_of docs)) ≡ length (all_spaces indexes)
many_spaces docs indexes is = all_count 0 first_starts is.end docs indexes is.are

-- ---- before a file

later_unit : (s : Starts) (docs : List (Doc ℕ)) (indexes : List Index) (k : ℕ) → s.unit ≤ (starts_from s docs indexes k).unit
unfolding starts_from
later_unit s docs indexes zero = omega arith
later_unit s [] [] (suc k) = omega arith
later_unit s [] (x ∷ indexes) (suc k) = omega arith
later_unit s (d ∷ docs) [] (suc k) = omega arith
later_unit s (d ∷ docs) (x ∷ indexes) (suc k) = (let r = later_unit (starts_behind s d x) docs indexes k in omega arith)

take_none : (m : ℕ) (units : List (FileUnit EntryName)) → m ≡ 0 → spaces_of (take m units) ≡ []
unfolding spaces_of
take_none m units e = ap (λ (n : ℕ). spaces_of (take n units)) e

before : (n : ℕ) (s end : Starts) (docs : List (Doc ℕ)) (indexes : List Index) → AreIndexed s docs indexes end → (k m : ℕ) → s.unit + m ≡ (starts_from s docs indexes k).unit
    → s.space + length (spaces_of (take m (named_files n s.unit s.top docs))) ≡ (starts_from s docs indexes k).space
unfolding named_files starts_from
before n s end docs indexes h zero m e =
    let none : m ≡ 0 = omega arith in
    let long = ap (λ (w : List (Node EntryName)). length w) (take_none m (named_files n s.unit s.top docs) none) in
    omega arith
before n s end [] [] h (suc k) m e =
    let none : m ≡ 0 = omega arith in
    let long = ap (λ (w : List (Node EntryName)). length w) (take_none m [] none) in
    omega arith
before n s end [] (x ∷ indexes) h (suc k) m e = absurd h
before n s end (d ∷ docs) [] h (suc k) m e = absurd h
before n s end (d ∷ docs) (x ∷ indexes) h (suc k) m e =
    let next = starts_behind s d x in
    let own = file_units s n d in
    let others = named_files (suc n) next.unit next.top docs in
    let low = later_unit next docs indexes k in
    let long = units_long s n d in
    let left = m - length d.units in
    let at : m ≡ length own + left = omega arith in
    let parts : spaces_of (take m (own ++ others)) ≡ spaces_of own ++ spaces_of (take left others) =
    ap (λ (j : ℕ). spaces_of (take j (own ++ others))) at ∙ ap spaces_of (take-append-add own others left) ∙ spaces_append own (take left others) in
    let sum = ap (λ (w : List (Node EntryName)). length w) parts ∙ length-append (spaces_of own) (spaces_of (take left others)) in
    let count = file_count s n d x h.0 in
    let more = before (suc n) next end docs indexes h.1 k left (omega arith) in
    omega arith

-- those of a file are a part
pub spaces_part : (contents : List (List ℕ)) (k : ℕ) (bytes : List ℕ) (f : File) (x : Index) (indexes : List Index) (is : IsFileAmong contents k bytes f x) → AreIndexes (docs_of contents) indexes
    → x.starts ≡ starts_at (docs_of contents) indexes k
    → IsPart (spaces_of (units_of (docs_of contents))) x.starts.space (spaces_of (file_units x.starts k is.kept.read.doc))
spaces_part contents k bytes f x indexes is all begins =
    let docs = docs_of contents in
    let u = is.units in
    let own = file_units x.starts k is.kept.read.doc in
    let m = x.starts.unit in
    let at = ap (λ (s : Starts). s.unit) begins in
    let count = before 0 first_starts all.end docs indexes all.are k m (omega arith) in
    let front : take m (units_of docs) ≡ u.front = ap (take m) u.all_are ∙ ap (λ (n : ℕ). take n (u.front ++ (own ++ u.back))) (sym u.many) ∙ take-append_seam u.front (own ++ u.back) in
    let long = ap (λ (w : List (FileUnit EntryName)). length (spaces_of w)) front in
    let space = ap (λ (s : Starts). s.space) begins in
    record {
      front = spaces_of u.front;
      back = spaces_of u.back;
      all_are = ap spaces_of u.all_are ∙ spaces_append u.front (own ++ u.back) ∙ ap (λ (w : List (Node EntryName)). spaces_of u.front ++ w) (spaces_append own u.back);
      many = omega arith;
    }

-- ---- there are few

list_few : (f : Entries ℕ) → spaces_by is_space f ≤ size f
unfolding spaces_by
list_few End = omega arith
list_few (Entry e c n) = by (is_space e) (list_few c) (list_few n) where
  by : (b : Bool) → spaces_by is_space c ≤ size c → spaces_by is_space n ≤ size n → (elim b as (λ _. ℕ) [ false ↦ spaces_by is_space n | true ↦ suc (spaces_by is_space c + spaces_by is_space n) ]) ≤
      size (Entry e c n)
  by false a b = omega (arith, a, b)
  by true a b = omega (arith, a, b)

unit_few : (v : DwUnit ℕ) → spaces_of_list is_space (below_root v) ≤ size v.below
unit_few v = by v.kind where
  by : (kind : Kind ℕ) → spaces_of_list is_space (record { compile = is_compile kind; list = v.below }) ≤ size v.below
  by Compile = list_few v.below
  by (OfType signature main) = omega arith
  by Partial = omega arith

entries_enough : (around : Around ℕ) (s : Starts) (at : ℕ) (raw : List RawUnit) (said : List (DwUnit ℕ)) → MeanUnits around raw said
    → length (unit_entries is_space s at (map below_root said)) ≤ entries_in raw
unfolding unit_entries entries_in
entries_enough around s at [] [] h = omega arith
entries_enough around s at [] (v ∷ said) h = absurd h
entries_enough around s at (u ∷ raw) [] h = absurd h
entries_enough around s at (u ∷ raw) (v ∷ said) h =
    let next = behind_unit is_space s (below_root v) in
    let own = space_entries is_space s.space at (below_root v) in
    let a = entries_many s.space at (below_root v) in
    let b = unit_few v in
    let c = means_size (scope_of around u) u.below v.below h.0.below in
    let d = entries_enough around next (at + 1 + size v.below) raw said h.1 in
    let e = length-append own (unit_entries is_space next (at + 1 + size v.below) (map below_root said)) in
    omega arith

room : (most : ℕ) (l : Limits) (contents : List (List ℕ)) (files : List File) (left : Limits) (n : ℕ) (docs : List (Doc ℕ)) (indexes : List Index) (s end : Starts) → AreRead l n contents files left
    → files_meaning l n contents ≡ Ok docs → AreIndexed s docs indexes end
    → s.space + l.bytes ≤ most → s.space + length (all_spaces indexes) ≤ most
room most l contents files left n docs [] s end h m is le = omega arith
room most l contents files left n [] (x ∷ indexes) s end h m is le = absurd is
room most l [] [] left n (d ∷ docs) (x ∷ indexes) s end h m is le = absurd (no_doc l n d docs m)
room most l [] (y ∷ files) left n (d ∷ docs) (x ∷ indexes) s end h m is le = absurd h
room most l (b ∷ contents) [] left n (d ∷ docs) (x ∷ indexes) s end h m is le = absurd h
room most l (b ∷ contents) (y ∷ files) left n (d ∷ docs) (x ∷ indexes) s end h m is le =
    let r = first_doc l n b contents y (d ∷ docs) h.0 m in
    let same : r.0 ≡ docs = (let both = r.2 in cc) in
    let doc_is : h.0.doc ≡ d = (let both = r.2 in cc) in
    let raw = raw_units y.units in
    let few = entries_few l b raw h.0.doc h.0.means in
    let p = few.0 in
    let q = few.1 in
    let means = (((file_agrees l b).ok (raw, h.0.doc)).0 h.0.means).means in
    let own : length x.spaces ≤ entries_in raw = subst (λ (w : List SpaceEntry). length w ≤ entries_in raw) (sym is.0.tops.spaces_are)
    (subst (λ (w : Doc ℕ). length (unit_entries is_space s 0 (map below_root w.units)) ≤ entries_in raw) doc_is (entries_enough (around_of b raw) s 0 raw h.0.doc.units means)) in
    let sum = length-append x.spaces (all_spaces indexes) in
    let more = room most (limits_after l b raw) contents files left (suc n) docs indexes (starts_behind s d x) end h.1 (r.1 ∙ ap (λ (w : List (Doc ℕ)). Ok w) same) is.1 (omega arith) in
    omega arith

pub spaces_few : (contents : List (List ℕ)) (files : List File) (indexes : List Index) → AreKept contents files → AreIndexes (docs_of contents) indexes → length (all_spaces indexes) ≤ 2 ^ 29
unfolding longest_files
spaces_few contents files indexes kept is =
    let r = room (2 ^ 29) no_files_before contents files kept.end 0 (docs_of contents) indexes first_starts is.end kept.are (files_read contents files kept.end kept.are) is.are (omega arith) in
    omega arith

low_from : (s : Starts) (docs : List (Doc ℕ)) (indexes : List Index) (k : ℕ) → (starts_from s docs indexes k).space ≤ s.space + length (all_spaces indexes)
unfolding starts_from
low_from s docs indexes zero = omega arith
low_from s [] [] (suc k) = omega arith
low_from s [] (x ∷ indexes) (suc k) = omega arith
low_from s (d ∷ docs) [] (suc k) = omega arith
low_from s (d ∷ docs) (x ∷ indexes) (suc k) = (let r = low_from (starts_behind s d x) docs indexes k in let sum = length-append x.spaces (all_spaces indexes) in omega arith)

-- before each file there are no more
pub starts_low : (docs : List (Doc ℕ)) (indexes : List Index) → AreIndexes docs indexes → (k : ℕ) → (starts_at docs indexes k).space ≤ length (all_spaces indexes)
starts_low docs indexes is k = (let r = low_from first_starts docs indexes k in omega arith)

end_from : (s end : Starts) (docs : List (Doc ℕ)) (indexes : List Index) → AreIndexed s docs indexes end → (starts_from s docs indexes (length indexes)).space ≡ s.space + length (all_spaces indexes)
unfolding starts_from
end_from s end [] [] h = (let e : s.space ≡ s.space + 0 = omega arith in e)
end_from s end [] (x ∷ indexes) h = absurd h
end_from s end (d ∷ docs) [] h = absurd h
end_from s end (d ∷ docs) (x ∷ indexes) h = (let r = end_from (starts_behind s d x) end docs indexes h.1 in let sum = length-append x.spaces (all_spaces indexes) in omega arith)

-- behind the last one there are all
pub spaces_end : (docs : List (Doc ℕ)) (indexes : List Index) → AreIndexes docs indexes → (starts_at docs indexes (length indexes)).space ≡ length (all_spaces indexes)
spaces_end docs indexes is = (let r = end_from first_starts is.end docs indexes is.are in omega arith)
