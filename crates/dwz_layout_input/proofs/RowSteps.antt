-- Entries of files: those so far, and those that are left.
use Rattle.std.proofs.Common.{◌≡◌, ℕ, zero, suc, ◌+◌, ◌<◌, ◌≤◌, ◌^◌, List, [], ◌∷◌, ◌++◌, Global, Vec, length, drop, get_or, map, Some, slice_get, refl, sym, ap, subst, ◌∙◌, arith, below_more}
use Rattle.std.specs.Prelude.{slice_index}
use Rattle.std.proofs.lemmas.List.{append-nil, append_assoc, drop_all, length_push, map-append, nil_from_length}
use Rattle.std.proofs.lemmas.Option.{slice_get-get_or}
use Rattle.dwz_def_reading.proofs.ListFacts.{drop_next, get_first, got_below, item_got, same_got}
use Rattle.dwz_graph.specs.declared.file.File.{File}
use Rattle.dwz_graph.proofs.TopLemmas.{get_later}
use Rattle.dwz_graph.specs.Index.{Index}
use Rattle.dwz_layout_numbers.specs.declared.firsts.CountsBefore.{CountsBefore}
use Rattle.dwz_layout_numbers.specs.Befores.{befores_from}
use Rattle.dwz_layout_numbers.specs.Images.{IsPlanned}
use Rattle.dwz_graph.specs.EntryCounts.{entry_count, starts_from}
use Rattle.dwz_layout.specs.declared.known.FileRows.{FileRows}
use Rattle.dwz_layout.specs.declared.known.ValueCounts.{ValueCounts}
use Rattle.dwz_layout.specs.declared.known.TextAt.{TextAt}
use Rattle.dwz_plan.specs.Planned.{Planned}
use Rattle.dwz_unit.specs.Rows.{rows_of, units_of}
use Rattle.dwz_law_layout.specs.Beside.{Beside}
use Rattle.dwz_law_layout.specs.Facts.{RunFacts, every, move}
use Rattle.dwz_law_layout.specs.Listed.{AreRows, HaveFirsts, IsListed, firsts_from, none_before}

-- ---- where what entries name begins

pub record FirstsTo (starts : List ℕ) (befores : List CountsBefore) (i : ℕ) (firsts : List ValueCounts) : Type 0 where
  pub many : length firsts ≡ i
  pub each : (k : ℕ) (b : CountsBefore) → k < i → slice_get befores k ≡ Some b → slice_get firsts k ≡ Some (firsts_from (slice_index starts k) b)

pub firsts_none : (starts : List ℕ) (befores : List CountsBefore) (firsts : List ValueCounts) → firsts ≡ [] → FirstsTo starts befores 0 firsts
firsts_none starts befores firsts e = record { many = ap (λ (w : List ValueCounts). length w) e; each = λ k b lt got. absurd (omega arith) }

pub firsts_next : (starts : List ℕ) (befores : List CountsBefore) (i : ℕ) (before : CountsBefore) (old new : List ValueCounts) (x : ValueCounts) → i < length befores → before ≡ get_or befores i before
    → x ≡ firsts_from (slice_index starts i) before → new ≡ old ++ x ∷ [] → FirstsTo starts befores i old → FirstsTo starts befores (i + 1) new
firsts_next starts befores i before old new x lt e is push h =
    let here : slice_get befores i ≡ Some before = item_got befores i before lt e in
    let many = h.many in
    let at : i ≡ length old + 0 = omega arith in
    let last : slice_get new i ≡ Some x = ap (λ (w : List ValueCounts). slice_get w i) push ∙ ap (slice_get (old ++ x ∷ [])) at ∙ get_later old (x ∷ []) 0 x refl in
    record {
      many = ap (λ (w : List ValueCounts). length w) push ∙ length_push old x ∙ ap (λ (n : ℕ). n + 1) many;
      each = λ k b less got.
          below_more (λ (j : ℕ). (c : CountsBefore) → slice_get befores j ≡ Some c → slice_get new j ≡ Some (firsts_from (slice_index starts j) c)) i
          (λ j low c there. ap (λ (w : List ValueCounts). slice_get w j) push ∙ get_first old (x ∷ []) j (firsts_from (slice_index starts j) c) (h.each j c low there))
          (λ c there. last ∙ ap (λ (w : ValueCounts). Some w) (is ∙ ap (firsts_from (slice_index starts i)) (same_got befores i before c here there)))
          k less b got;
    }

pub firsts_done : (x : File) (starts : List ℕ) (befores : List CountsBefore) (i : ℕ) (firsts : List ValueCounts) → starts ≡ x.resolved.starts.items
    → befores ≡ befores_from none_before (rows_of (units_of x.units)) → length befores ≤ i → FirstsTo starts befores i firsts → HaveFirsts x firsts
firsts_done x starts befores i firsts s are le h = λ k b got. (
    let there : slice_get befores k ≡ Some b = ap (λ (w : List CountsBefore). slice_get w k) are ∙ got in
    let lt = got_below befores k b there in
    h.each k b (omega arith) there ∙ ap (λ (w : List ℕ). Some (firsts_from (slice_index w k) b)) s)

-- ---- where files begin

pub starts_many : (n : ℕ) (xs : List Index) → length (starts_from n xs) ≡ length xs
unfolding starts_from
starts_many n [] = refl
starts_many n (x ∷ xs) = ap suc (starts_many (n + length x.steps) xs)

pub start_room : (n : ℕ) (xs : List Index) (k s : ℕ) (x : Index) → slice_get xs k ≡ Some x → slice_get (starts_from n xs) k ≡ Some s → s + length x.steps ≤ n + entry_count xs
unfolding starts_from entry_count
start_room n [] k s x e f = absurd cc
start_room n (y ∷ xs) zero s x e f =
    let same : y ≡ x = cc in
    let here : n ≡ s = cc in
    let long : length y.steps ≡ length x.steps = ap (λ (w : Index). length w.steps) same in
    omega arith
start_room n (y ∷ xs) (suc k) s x e f = let r = start_room (n + length y.steps) xs k s x e f in omega arith

pub start_there : (indexes : List Index) (starts : List ℕ) (n : ℕ) → starts ≡ starts_from 0 indexes → n < length indexes → n < length starts
start_there indexes starts n e lt = let many = starts_many 0 indexes in let same = ap (λ (w : List ℕ). length w) e in omega arith

pub room_at : (indexes : List Index) (starts : List ℕ) (n : ℕ) (index : Index) → starts ≡ starts_from 0 indexes → n < length indexes → index ≡ get_or indexes n index → entry_count indexes < 2 ^ 32
    → get_or starts n 0 + length index.steps < 2 ^ 32
room_at indexes starts n index e lt is few =
    let there : slice_get (starts_from 0 indexes) n ≡ Some (get_or starts n 0) = ap (λ (w : List ℕ). slice_get w n) (sym e) ∙ slice_get-get_or starts n 0 (start_there indexes starts n e lt) in
    let r = start_room 0 indexes n (get_or starts n 0) index (item_got indexes n index lt is) there in
    omega arith

-- ---- file by file

abbrev pub shown : Vec TextAt Global → List TextAt
shown v = v.items

abbrev pub numbers_shown : Vec ℕ Global → List ℕ
numbers_shown v = v.items

abbrev pub row_numbers : FileRows → List ℕ
row_numbers r = r.files.items

module _ (files : List File) (indexes : List Index) (plan : Planned) (tops starts : List ℕ) (all : List (Vec TextAt Global)) where
  -- with the rows that are left, the rows so far are those of all files
  pub record Going (left : List (Vec TextAt Global)) (n : ℕ) (rows : List FileRows) : Type 0 where
    pub many : n + length left ≡ length files
    pub so : (beside : Beside) (f : RunFacts beside) → IsPlanned (every f) (move f) plan tops → (rest : List FileRows)
        → AreRows f (drop n files) (drop n indexes) (drop n starts) (map shown left) rest → AreRows f files indexes starts (map shown all) (rows ++ rest)

  pub rows_first : (left : List (Vec TextAt Global)) (rows : List FileRows) → left ≡ all → length all ≡ length files → rows ≡ [] → Going left 0 rows
  rows_first left rows e long none =
      let same : length left ≡ length all = ap (λ (w : List (Vec TextAt Global)). length w) e in
      record {
        many = omega arith;
        so = λ beside f p rest h.
            subst (λ (w : List FileRows). AreRows f files indexes starts (map shown all) (w ++ rest)) (sym none)
            (subst (λ (w : List (Vec TextAt Global)). AreRows f files indexes starts (map shown w) rest) e h);
      }

  pub rows_next : (left more : List (Vec TextAt Global)) (n : ℕ) (old new : List FileRows) (x : File) (index : Index) (s : ℕ) (t : Vec TextAt Global) (row : FileRows)
      → n < length files → x ≡ get_or files n x → n < length indexes → index ≡ get_or indexes n index → n < length starts → s ≡ get_or starts n s
      → left ≡ t ∷ more → new ≡ old ++ row ∷ [] → ((beside : Beside) (f : RunFacts beside) → IsPlanned (every f) (move f) plan tops → IsListed f x index s t.items row)
      → Going left n old → Going more (n + 1) new
  rows_next left more n old new x index s t row lt e lti ei lts es parts push listed g =
      let long : length left ≡ suc (length more) = ap (λ (w : List (Vec TextAt Global)). length w) parts in
      let many = g.many in
      record {
        many = omega arith;
        so = λ beside f p rest h. (
            let one : AreRows f (x ∷ drop (n + 1) files) (index ∷ drop (n + 1) indexes) (s ∷ drop (n + 1) starts) (map shown (t ∷ more)) (row ∷ rest) = (listed beside f p, h) in
            let back : AreRows f (drop n files) (drop n indexes) (drop n starts) (map shown left) (row ∷ rest) =
            subst (λ (w : List File). AreRows f w (drop n indexes) (drop n starts) (map shown left) (row ∷ rest)) (sym (drop_next files n x lt e))
            (subst (λ (w : List Index). AreRows f (x ∷ drop (n + 1) files) w (drop n starts) (map shown left) (row ∷ rest)) (sym (drop_next indexes n index lti ei))
            (subst (λ (w : List ℕ). AreRows f (x ∷ drop (n + 1) files) (index ∷ drop (n + 1) indexes) w (map shown left) (row ∷ rest)) (sym (drop_next starts n s lts es))
            (subst (λ (w : List (Vec TextAt Global)). AreRows f (x ∷ drop (n + 1) files) (index ∷ drop (n + 1) indexes) (s ∷ drop (n + 1) starts) (map shown w) (row ∷ rest)) (sym parts) one))) in
            subst (λ (w : List FileRows). AreRows f files indexes starts (map shown all) w) (sym (ap (λ (w : List FileRows). w ++ rest) push ∙ append_assoc old (row ∷ []) rest))
            (g.so beside f p (row ∷ rest) back));
      }

  pub rows_done : (left : List (Vec TextAt Global)) (n : ℕ) (rows : List FileRows) → length left ≡ 0 → length indexes ≡ length files → length starts ≡ length files → Going left n rows
      → (beside : Beside) (f : RunFacts beside) → IsPlanned (every f) (move f) plan tops → AreRows f files indexes starts (map shown all) rows
  rows_done left n rows none li ls g beside f p =
      let many = g.many in
      let back : AreRows f (drop n files) (drop n indexes) (drop n starts) (map shown left) [] =
      subst (λ (w : List File). AreRows f w (drop n indexes) (drop n starts) (map shown left) []) (sym (drop_all n files (omega arith)))
      (subst (λ (w : List Index). AreRows f [] w (drop n starts) (map shown left) []) (sym (drop_all n indexes (omega arith)))
      (subst (λ (w : List ℕ). AreRows f [] [] w (map shown left) []) (sym (drop_all n starts (omega arith)))
      (subst (λ (w : List (Vec TextAt Global)). AreRows f [] [] [] (map shown w) []) (sym (nil_from_length left none)) tt))) in
      subst (λ (w : List FileRows). AreRows f files indexes starts (map shown all) w) (append-nil rows) (g.so beside f p [] back)

-- ---- the numbers of files in them

-- with those that are left, the numbers of the rows so far are those of all files
pub record Numbering (all left : List (Vec ℕ Global)) (n many : ℕ) (rows : List FileRows) : Type 0 where
  pub many_left : n + length left ≡ many
  pub so : map row_numbers rows ++ map numbers_shown left ≡ map numbers_shown all

pub numbers_first : (all left : List (Vec ℕ Global)) (many : ℕ) (rows : List FileRows) → left ≡ all → length all ≡ many → rows ≡ [] → Numbering all left 0 many rows
numbers_first all left many rows e long none =
    let same : length left ≡ length all = ap (λ (w : List (Vec ℕ Global)). length w) e in
    record { many_left = omega arith; so = (λ i. map row_numbers (none i) ++ map numbers_shown (e i)) }

pub numbers_next : (all left more : List (Vec ℕ Global)) (n many : ℕ) (old new : List FileRows) (row : FileRows) (x : Vec ℕ Global) → left ≡ x ∷ more
    → new ≡ old ++ row ∷ [] → row.files.items ≡ x.items → Numbering all left n many old → Numbering all more (n + 1) many new
numbers_next all left more n many old new row x parts push is h =
    let long : length left ≡ suc (length more) = ap (λ (w : List (Vec ℕ Global)). length w) parts in
    let before = h.many_left in
    record {
      many_left = omega arith;
      so =
          ap (λ (w : List FileRows). map row_numbers w ++ map numbers_shown more) push
          ∙ ap (λ (w : List (List ℕ)). w ++ map numbers_shown more) (map-append row_numbers old (row ∷ []))
          ∙ append_assoc (map row_numbers old) (row.files.items ∷ []) (map numbers_shown more)
          ∙ ap (λ (w : List ℕ). map row_numbers old ++ (w ∷ map numbers_shown more)) is
          ∙ ap (λ (w : List (Vec ℕ Global)). map row_numbers old ++ map numbers_shown w) (sym parts)
          ∙ h.so;
    }

pub numbers_done : (all left : List (Vec ℕ Global)) (n many : ℕ) (rows : List FileRows) → many ≤ n → Numbering all left n many rows → map row_numbers rows ≡ map numbers_shown all
numbers_done all left n many rows le h =
    let before = h.many_left in
    sym (append-nil (map row_numbers rows))
    ∙ ap (λ (w : List (Vec ℕ Global)). map row_numbers rows ++ map numbers_shown w) (sym (nil_from_length left (omega arith)))
    ∙ h.so
