-- Entries counted file by file: what was counted, and what is left.
use Rattle.std.proofs.Common.{◌≡◌, ℕ, ◌+◌, ◌<◌, ◌≤◌, ◌^◌, List, [], ◌∷◌, ◌++◌, All, length, drop, get_or, map, take, refl, sym, ap, subst, ◌∙◌, arith}
use Rattle.std.proofs.lemmas.List.{append-nil, append_assoc, drop_all, map-append, take_all, take_more}
use Rattle.dwz_def_reading.proofs.ListFacts.{drop_next}
use Rattle.dwz_graph.specs.declared.index.TopEntry.{TopEntry}
use Rattle.dwz_graph.specs.Index.{Index}
use Rattle.dwz_graph.specs.EntryCounts.{entry_count, starts_from, tops_from, tops_in}

-- the files from one on, the first entry of which has that number
pub record Left (all : List Index) (i start : ℕ) : Type 0 where
  pub room : entry_count all ≡ start + entry_count (drop i all)

pub left_first : (all : List Index) → Left all 0 0
left_first all = record { room = (let e : entry_count all ≡ 0 + entry_count all = omega arith in e) }

left_count : (all : List Index) (i start : ℕ) (x : Index) → Left all i start → i < length all → x ≡ get_or all i x → entry_count all ≡ start + (length x.steps + entry_count (drop (i + 1) all))
unfolding entry_count
left_count all i start x h lt e = h.room ∙ ap (λ (w : List Index). start + entry_count w) (drop_next all i x lt e)

pub left_next : (all : List Index) (i start : ℕ) (x : Index) → Left all i start → i < length all → x ≡ get_or all i x → Left all (i + 1) (start + length x.steps)
left_next all i start x h lt e = record { room = (let c = left_count all i start x h lt e in omega (arith, c)) }

-- there is room for the entries of the next
pub left_room : (all : List Index) (i start : ℕ) (x : Index) → Left all i start → i < length all → x ≡ get_or all i x → entry_count all < 2 ^ 32 → start + length x.steps < 2 ^ 32
left_room all i start x h lt e few = let c = left_count all i start x h lt e in omega (arith, c, few)

pub left_end : (all : List Index) (i start : ℕ) → Left all i start → length all ≤ i → start ≡ entry_count all
unfolding entry_count
left_end all i start h le =
    let e : entry_count all ≡ start + 0 = h.room ∙ ap (λ (w : List Index). start + entry_count w) (drop_all i all le) in
    omega (arith, e)

-- ---- the first entries

pub record Starts (all : List Index) (i start : ℕ) (starts : List ℕ) : Type 0 where
  pub left : Left all i start
  pub found : starts_from 0 all ≡ starts ++ starts_from start (drop i all)

pub starts_first : (all : List Index) → Starts all 0 0 []
starts_first all = record { left = left_first all; found = refl }

pub starts_next : (all : List Index) (i start : ℕ) (starts more : List ℕ) (x : Index) → Starts all i start starts → i < length all → x ≡ get_or all i x → more ≡ starts ++ start ∷ []
    → Starts all (i + 1) (start + length x.steps) more
unfolding starts_from
starts_next all i start starts more x h lt e is = record {
  left = left_next all i start x h.left lt e;
  found =
      h.found ∙ ap (λ (w : List Index). starts ++ starts_from start w) (drop_next all i x lt e)
      ∙ sym (append_assoc starts (start ∷ []) (starts_from (start + length x.steps) (drop (i + 1) all)))
      ∙ ap (λ (w : List ℕ). w ++ starts_from (start + length x.steps) (drop (i + 1) all)) (sym is);
}

pub starts_end : (all : List Index) (i start : ℕ) (starts : List ℕ) → Starts all i start starts → length all ≤ i → starts ≡ starts_from 0 all
unfolding starts_from
starts_end all i start starts h le = sym (h.found ∙ ap (λ (w : List Index). starts ++ starts_from start w) (drop_all i all le) ∙ append-nil starts)

-- ---- tops

pub tops_fit : (start : ℕ) (x : Index) → start + length x.steps < 2 ^ 32 → All (λ t. t.entry < length x.steps) x.tops → All (λ t. start + t.entry < 2 ^ 32) x.tops
tops_fit start x few inside = λ k d lt. (let h = inside k d lt in omega (arith, h, few))

pub tops_more : (tops old new : List ℕ) (start : ℕ) (entries : List TopEntry) (i : ℕ) (t : TopEntry) → i < length entries → t ≡ get_or entries i t
    → old ≡ tops ++ tops_in start (take i entries) → new ≡ old ++ (start + t.entry) ∷ [] → new ≡ tops ++ tops_in start (take (i + 1) entries)
tops_more tops old new start entries i t lt e was is =
    let f = λ (w : TopEntry). start + w.entry in
    is ∙ ap (λ (w : List ℕ). w ++ (start + t.entry) ∷ []) was ∙ append_assoc tops (map f (take i entries)) ((start + t.entry) ∷ [])
    ∙ ap (λ (w : List ℕ). tops ++ w) ((λ j. map f (take i entries) ++ (start + (e j).entry) ∷ []) ∙ sym (map-append f (take i entries) (get_or entries i t ∷ []))
    ∙ ap (map f) (sym (take_more entries i t lt)))

pub tops_all : (tops new : List ℕ) (start : ℕ) (entries : List TopEntry) (i : ℕ) → length entries ≤ i → new ≡ tops ++ tops_in start (take i entries) → new ≡ tops ++ tops_in start entries
tops_all tops new start entries i le e = e ∙ ap (λ (w : List TopEntry). tops ++ tops_in start w) (take_all i entries le)

pub record Tops (all : List Index) (i start : ℕ) (tops : List ℕ) : Type 0 where
  pub left : Left all i start
  pub found : tops_from 0 all ≡ tops ++ tops_from start (drop i all)

pub tops_first : (all : List Index) → Tops all 0 0 []
tops_first all = record { left = left_first all; found = refl }

pub tops_next : (all : List Index) (i start : ℕ) (tops more : List ℕ) (x : Index) → Tops all i start tops → i < length all → x ≡ get_or all i x → more ≡ tops ++ tops_in start x.tops
    → Tops all (i + 1) (start + length x.steps) more
unfolding tops_from
tops_next all i start tops more x h lt e is = record {
  left = left_next all i start x h.left lt e;
  found =
      h.found ∙ ap (λ (w : List Index). tops ++ tops_from start w) (drop_next all i x lt e)
      ∙ sym (append_assoc tops (tops_in start x.tops) (tops_from (start + length x.steps) (drop (i + 1) all)))
      ∙ ap (λ (w : List ℕ). w ++ tops_from (start + length x.steps) (drop (i + 1) all)) (sym is);
}

pub tops_end : (all : List Index) (i start : ℕ) (tops : List ℕ) → Tops all i start tops → length all ≤ i → tops ≡ tops_from 0 all
unfolding tops_from
tops_end all i start tops h le = sym (h.found ∙ ap (λ (w : List Index). tops ++ tops_from start w) (drop_all i all le) ∙ append-nil tops)

pub inside_at : (all : List Index) (i : ℕ) (x : Index) → i < length all → x ≡ get_or all i x → All (λ y. All (λ t. t.entry < length y.steps) y.tops) all → All (λ t. t.entry < length x.steps) x.tops
inside_at all i x lt e h = subst (λ (y : Index). All (λ t. t.entry < length y.steps) y.tops) (sym e) (h i x lt)
