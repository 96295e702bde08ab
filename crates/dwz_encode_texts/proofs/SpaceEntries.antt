-- The spaces of an index are entries of its file.
use Rattle.std.proofs.Common.{◌≡◌, ℕ, suc, ◌+◌, ◌<◌, Bool, true, false, List, [], ◌∷◌, length, map, get_or, refl, ap, subst, ◌∙◌, inl, inr, arith}
use Rattle.std.specs.Prelude.{All}
use Rattle.std.proofs.lemmas.List.{length-append}
use Rattle.std.proofs.lemmas.Option.{slice_get-get_or}
use Rattle.dwz_def_reading.specs.Lists.{Each, In}
use Rattle.dwz_def_reading.specs.Trees.{End, Entry, size}
use Rattle.dwz_def_reading.specs.Units.{entries_in}
use Rattle.dwz_def_reading.proofs.ListFacts.{got_in, in_cases}
use Rattle.dwz_def_reading.specs.Documents.{DwUnit, Entries}
use Rattle.dwz_def_tops.specs.Seen.{IsPartial}
use Rattle.dwz_def_tops.specs.Spots.{top_count}
use Rattle.dwz_unit.specs.Rows.{units_of as raw_units}
use Rattle.dwz_graph.specs.declared.file.File.{File}
use Rattle.dwz_graph.specs.declared.index.SpaceEntry.{SpaceEntry}
use Rattle.dwz_graph.specs.declared.index.Starts.{Starts}
use Rattle.dwz_graph.specs.Index.{Index}
use Rattle.dwz_graph.specs.Names.{names_from}
use Rattle.dwz_graph.specs.Steps.{all_spaces, below_root, is_compile, is_space, spaces_among, spaces_by, starts_behind}
use Rattle.dwz_graph.proofs.AmongLemmas.{spaces_space, spaces_top}
use Rattle.dwz_graph.proofs.TopNameLemmas.{read_whole}
use Rattle.dwz_graph.proofs.ShowLemmas.{unit_many, unit_names}
use Rattle.dwz_graph.specs.Across.{IsFileAmong}
use Rattle.dwz_graph.proofs.FileEntries.{all_entries}

-- of a list whose first entry has that number
among_within : (outer k first : ℕ) (f : Entries ℕ) (s : SpaceEntry) → In s (spaces_among is_space outer k first f) → s.entry < first + size f
unfolding spaces_among
among_within outer k first End s h = absurd h
among_within outer k first (Entry e c n) s h =
    by (is_space e) refl (λ o m g. among_within o m (first + 1) c s g) (λ m g. among_within outer m (first + 1 + size c) n s g)
  where
    by : (b : Bool) → is_space e ≡ b → ((o m : ℕ) → In s (spaces_among is_space o m (first + 1) c) → s.entry < first + 1 + size c)
        → ((m : ℕ) → In s (spaces_among is_space outer m (first + 1 + size c) n) → s.entry < first + 1 + size c + size n) → s.entry < first + (size c + size n + 1)
    by false q inside behind = (let r = behind k (subst (In s) (spaces_top is_space e c n outer k first q) h) in omega arith)
    by true q inside behind = elim (subst (In s) (spaces_space is_space e c n outer k first q) h) [
      | inl same ↦ (let at = ap (λ (w : SpaceEntry). w.entry) same in omega arith)
      | inr more ↦ elim (in_cases s (spaces_among is_space (suc k) (suc k) (first + 1) c) (spaces_among is_space outer (suc k + spaces_by is_space c) (first + 1 + size c) n) more) [
        | inl a ↦ (let r = inside (suc k) (suc k) a in omega arith)
        | inr b ↦ (let r = behind (suc k + spaces_by is_space c) b in omega arith)
      ]
    ]

-- how many entries units have
abbrev total : List (DwUnit ℕ) → ℕ
total [] = 0
total (u ∷ units) = size u.below + 1 + total units

units_within : (s : Starts) (first : ℕ) (units : List (DwUnit ℕ)) (x : SpaceEntry) → In x (all_spaces is_space s first (map below_root units)) → x.entry < first + total units
unfolding all_spaces
units_within s first [] x h = absurd h
units_within s first (u ∷ units) x h =
    let next = starts_behind is_space s (below_root u) in
    elim (in_cases x _ (all_spaces is_space next (first + 1 + size u.below) (map below_root units)) h) [
      | inl a ↦ own (is_compile u.kind) a
      | inr b ↦ (let r = units_within next (first + 1 + size u.below) units x b in omega arith)
    ]
  where
    own : (b : Bool) → In x (elim b as (λ _. List SpaceEntry) [ true ↦ spaces_among is_space 0 s.space (first + 1) u.below | false ↦ [] ]) → x.entry < first + (size u.below + 1 + total units)
    own true a = (let r = among_within 0 s.space (first + 1) u.below x a in omega arith)
    own false a = absurd a

names_many : (unit top : ℕ) (units : List (DwUnit ℕ)) → Each (λ v. IsPartial v.kind → ⊥) units → length (names_from unit top units) ≡ total units
unfolding names_from
names_many unit top [] whole = refl
names_many unit top (u ∷ units) whole =
    let rest = names_from (suc unit) (top + top_count u.kind u.below) units in
    let one = unit_many unit top u whole.0 in
    let more = names_many (suc unit) (top + top_count u.kind u.below) units whole.1 in
    let both = length-append (unit_names unit top u) rest in
    omega arith

-- of a file
pub spaces_within : (contents : List (List ℕ)) (file : ℕ) (bytes : List ℕ) (f : File) (x : Index) → IsFileAmong contents file bytes f x → (spaces : List SpaceEntry) → spaces ≡ x.spaces
    → All (λ s. s.entry < entries_in (raw_units f.units)) spaces
spaces_within contents file bytes f x h spaces is j d lt =
    let doc = h.kept.read.doc in
    let s = get_or spaces j d in
    let own : In s spaces = got_in spaces j s (slice_get-get_or spaces j d lt) in
    let there : In s (all_spaces is_space x.starts 0 (map below_root doc.units)) = subst (In s) (is ∙ h.index.tops.spaces_are) own in
    let low = units_within x.starts 0 doc.units s there in
    let whole = read_whole h.kept.limits bytes (raw_units f.units) doc h.kept.read.means in
    let many = names_many x.starts.unit x.starts.top doc.units whole in
    let steps = h.index.names.len in
    let all = all_entries contents file bytes f x h in
    omega arith
