-- The names of a top's entries stand one behind the other, and those of other tops before or behind them.
use Rattle.std.proofs.Common.{◌≡◌, ℕ, suc, ◌+◌, ◌<◌, ◌≤◌, List, [], ◌∷◌, ◌++◌, map, Option, Some, None, refl, sym, ap, subst, ◌∙◌, inl, inr, arith}
use Rattle.std.proofs.lemmas.List.{append_assoc, map-append}
use Rattle.dwz_def_reading.specs.Lists.{Each, In}
use Rattle.dwz_def_reading.specs.Trees.{End, Entry}
use Rattle.dwz_def_reading.proofs.ListFacts.{in_cases}
use Rattle.dwz_def_reading.specs.Documents.{Entries, entries_map, node_map}
use Rattle.dwz_def_tops.specs.Spaces.{space_text, tops_under}
use Rattle.dwz_def_tops.proofs.Members.{each_append, each_more}
use Rattle.dwz_def_tops.proofs.SpaceLemmas.{text_map, under_count}
use Rattle.dwz_def_tops.specs.Spots.{ASpace, ATop, EntryName, Nothing, Row, SpaceAt, SpaceName, Top, Within, entry_spots, name_of, row_tops, top_spots}
use Rattle.dwz_def_tops.proofs.NameLists.{spots_space, spots_top}
use Rattle.dwz_def_tops.proofs.RowLemmas.{RowIs}
use Rattle.dwz_layout_numbers.proofs.Paths.{names_paths, paths_in, paths_map, paths_of, spot_of}

-- an entry of a top has one whose number is in this range
abbrev pub Between : ℕ → ℕ → EntryName → Type 0
Between low high (Within n path) = (low ≤ n) × (n < high)
Between low high _ = Unit {0}

pub wider : (low high a b : ℕ) → a ≤ low → high ≤ b → (names : List EntryName) → Each (Between low high) names → Each (Between a b) names
wider low high a b le ge names h = each_more (Between low high) (Between a b) names one h where
  one : (s : EntryName) → Between low high s → Between a b s
  one (Within n path) x = (let l = x.0 in let r = x.1 in (omega arith, omega arith))
  one _ x = tt

pub none_between : (low : ℕ) (s : EntryName) → Between low low s → (n : ℕ) (path : List ℕ) → s ≡ Within n path → ⊥
none_between low (Within m p) h n path e = (let l = h.0 in let r = h.1 in omega (arith, l, r))
none_between low _ h n path e = cc

-- ---- the names of one top

-- the top with that number has the paths, and there its names stand
pub record Run (low high : ℕ) (names : List EntryName) (n : ℕ) (paths : List (List ℕ)) : Type 0 where
  pub before : List EntryName
  pub after : List EntryName
  pub is : names ≡ before ++ (map (Within n) paths ++ after)
  pub less : Each (Between low n) before
  pub more : Each (Between (suc n) high) after
  pub within : (low ≤ n) × (n < high)

-- behind other names
pub run_right : (low mid high n : ℕ) (paths : List (List ℕ)) (a b : List EntryName) → low ≤ mid → Each (Between low mid) a → Run mid high b n paths → Run low high (a ++ b) n paths
run_right low mid high n paths a b le own h =
    let w = h.within in
    record {
      before = a ++ h.before;
      after = h.after;
      is = ap (λ (w : List EntryName). a ++ w) h.is ∙ sym (append_assoc a h.before (map (Within n) paths ++ h.after));
      less = each_append (Between low n) a h.before (wider low mid low n (omega arith) (omega arith) a own) (wider mid n low n le (omega arith) h.before h.less);
      more = h.more;
      within = (omega arith, omega arith);
    }

-- and before others
pub run_left : (low mid high n : ℕ) (paths : List (List ℕ)) (a b : List EntryName) → mid ≤ high → Run low mid a n paths → Each (Between mid high) b → Run low high (a ++ b) n paths
run_left low mid high n paths a b le h rest =
    let w = h.within in
    let own = map (Within n) paths in
    record {
      before = h.before;
      after = h.after ++ b;
      is = ap (λ (w : List EntryName). w ++ b) h.is ∙ append_assoc h.before (own ++ h.after) b ∙ ap (λ (w : List EntryName). h.before ++ w) (append_assoc own h.after b);
      less = h.less;
      more = each_append (Between (suc n) high) h.after b (wider (suc n) mid (suc n) high (omega arith) le h.after h.more) (wider mid high (suc n) high (omega arith) (omega arith) b rest);
      within = (omega arith, omega arith);
    }

pub run_same : (low high n : ℕ) (paths : List (List ℕ)) (a b : List EntryName) → b ≡ a → Run low high a n paths → Run low high b n paths
run_same low high n paths a b e h = record { before = h.before; after = h.after; is = e ∙ h.is; less = h.less; more = h.more; within = h.within }

-- ---- in a list of entries

within_between : (n : ℕ) (paths : List (List ℕ)) → Each (Between n (suc n)) (map (Within n) paths)
within_between n [] = tt
within_between n (p ∷ paths) = ((omega arith, omega arith), within_between n paths)

-- those of an entry that is a top, with all below it
own_names : (n : ℕ) (f : Entries ℕ) → Within n [] ∷ map spot_of (entry_spots (Within n) [] 0 f) ≡ map (Within n) (paths_of f)
own_names n f = ap (λ (w : List EntryName). Within n [] ∷ w) (names_paths (Within n) [] 0 f)

pub top_names : (unit : ℕ) (path : List ℕ) (i n : ℕ) (e : _) (f g : Entries ℕ) → space_text e ≡ None
    → map spot_of (top_spots unit path i n (Entry e f g)) ≡ map (Within n) (paths_of f) ++ map spot_of (top_spots unit path (suc i) (suc n) g)
top_names unit path i n e f g h =
    let a = entry_spots (Within n) [] 0 f in
    let b = top_spots unit path (suc i) (suc n) g in
    ap (map spot_of) (spots_top unit path i n e f g h) ∙ ap (λ (w : List EntryName). Within n [] ∷ w) (map-append spot_of a b) ∙ ap (λ (w : List EntryName). w ++ map spot_of b) (own_names n f)

pub space_names : (unit : ℕ) (path : List ℕ) (i n : ℕ) (e : _) (f g : Entries ℕ) (text : List ℕ) → space_text e ≡ Some text
    → map spot_of (top_spots unit path i n (Entry e f g)) ≡ SpaceAt unit (i ∷ path) ∷ (map spot_of (top_spots unit (i ∷ path) 0 n f) ++ map spot_of (top_spots unit path (suc i) (n + tops_under f) g))
space_names unit path i n e f g text h =
    let a = top_spots unit (i ∷ path) 0 n f in
    let b = top_spots unit path (suc i) (n + tops_under f) g in
    ap (map spot_of) (spots_space unit path i n e f g text h) ∙ ap (λ (w : List EntryName). SpaceAt unit (i ∷ path) ∷ w) (map-append spot_of a b)

pub under_top : (e : _) (f g : Entries ℕ) → space_text e ≡ None → tops_under (Entry e f g) ≡ suc (tops_under g)
unfolding tops_under
under_top e f g h = rw (h, tops_under) refl

pub under_space : (e : _) (f g : Entries ℕ) (text : List ℕ) → space_text e ≡ Some text → tops_under (Entry e f g) ≡ tops_under f + tops_under g
unfolding tops_under
under_space e f g text h = rw (h, tops_under) refl

-- the tops in it are those from the first number on
pub tops_between : (unit : ℕ) (path : List ℕ) (i n high : ℕ) (f : Entries ℕ) → n + tops_under f ≤ high → Each (Between n high) (map spot_of (top_spots unit path i n f))
unfolding top_spots
tops_between unit path i n high End le = tt
tops_between unit path i n high (Entry e f g) le =
    by (tops_between unit path (suc i) (suc n) high g) (λ h. tops_between unit (i ∷ path) 0 n h f) (tops_between unit path (suc i) (n + tops_under f) high g) (space_text e) refl
  where
    by : (suc n + tops_under g ≤ high → Each (Between (suc n) high) (map spot_of (top_spots unit path (suc i) (suc n) g)))
        → ((h : ℕ) → n + tops_under f ≤ h → Each (Between n h) (map spot_of (top_spots unit (i ∷ path) 0 n f)))
        → (n + tops_under f + tops_under g ≤ high → Each (Between (n + tops_under f) high) (map spot_of (top_spots unit path (suc i) (n + tops_under f) g)))
        → (o : Option (List ℕ)) → space_text e ≡ o → Each (Between n high) (map spot_of (top_spots unit path i n (Entry e f g)))
    by p q r None h =
        let many = under_top e f g h in
        let rest = map spot_of (top_spots unit path (suc i) (suc n) g) in
        subst (Each (Between n high)) (sym (top_names unit path i n e f g h))
        (each_append (Between n high) (map (Within n) (paths_of f)) rest (wider n (suc n) n high (omega arith) (omega (arith, many, le)) (map (Within n) (paths_of f)) (within_between n (paths_of f)))
        (wider (suc n) high n high (omega arith) (omega arith) rest (p (omega (arith, many, le)))))
    by p q r (Some text) h =
        let many = under_space e f g text h in
        let inner = map spot_of (top_spots unit (i ∷ path) 0 n f) in
        let rest = map spot_of (top_spots unit path (suc i) (n + tops_under f) g) in
        subst (Each (Between n high)) (sym (space_names unit path i n e f g text h))
        (tt, each_append (Between n high) inner rest (q high (omega (arith, many, le))) (wider (n + tops_under f) high n high (omega arith) (omega arith) rest (r (omega (arith, many, le)))))

-- each top of a row has its names there
module _ (file unit : ℕ) (language : _) (name : ℕ → EntryName) where
  pub row_run : (at : ℕ) (path : List ℕ) (i n high : ℕ) (spaces : List SpaceName) (row : Row) (f : Entries ℕ) → RowIs file unit language spaces n row (entries_map name f) → n + tops_under f ≤ high
      → (t : Top) → In t (row_tops row) → Run n high (map spot_of (top_spots at path i n f)) t.number (paths_of t.below)
  unfolding entries_map row_tops
  row_run at path i n high spaces Nothing f h le t is = absurd is
  row_run at path i n high spaces (ATop u row) End h le t is = absurd h
  row_run at path i n high spaces (ASpace d inner row) End h le t is = absurd h
  row_run at path i n high spaces (ATop u row) (Entry e f g) h le t (inl x) =
      let plain = sym (text_map name e) ∙ h.0 in
      let many = under_top e f g plain in
      let rest = map spot_of (top_spots at path (suc i) (suc n) g) in
      let same = h.1 ∙ x in
      let number : n ≡ t.number = ap (λ (w : Top). w.number) same in
      let paths : paths_of f ≡ paths_of t.below = ap (λ (w : List (List ℕ)). [] ∷ w) (sym (paths_map name [] 0 f) ∙ ap (λ (w : Top). paths_in [] 0 w.below) same) in
      subst (λ (w : List (List ℕ)). Run n high (map spot_of (top_spots at path i n (Entry e f g))) t.number w) paths
      (subst (λ (w : ℕ). Run n high (map spot_of (top_spots at path i n (Entry e f g))) w (paths_of f)) number
      (record {
        before = [];
        after = rest;
        is = top_names at path i n e f g plain;
        less = tt;
        more = tops_between at path (suc i) (suc n) high g (omega (arith, many, le));
        within = (omega arith, omega (arith, many, le));
      }))
  row_run at path i n high spaces (ATop u row) (Entry e f g) h le t (inr r) =
      let plain = sym (text_map name e) ∙ h.0 in
      let many = under_top e f g plain in
      let own = map (Within n) (paths_of f) in
      let rest = map spot_of (top_spots at path (suc i) (suc n) g) in
      run_same n high t.number (paths_of t.below) (own ++ rest) (map spot_of (top_spots at path i n (Entry e f g))) (top_names at path i n e f g plain)
      (run_right n (suc n) high t.number (paths_of t.below) own rest (omega arith) (within_between n (paths_of f))
      (row_run at path (suc i) (suc n) high spaces row g h.2 (omega (arith, many, le)) t r))
  row_run at path i n high spaces (ASpace d inner row) (Entry e f g) h le t is =
      let named = sym (text_map name e) ∙ h.1 in
      let many = under_space e f g h.0 named in
      let mid = n + tops_under f in
      let a = map spot_of (top_spots at (i ∷ path) 0 n f) in
      let b = map spot_of (top_spots at path (suc i) mid g) in
      let own : Each (Between n n) (SpaceAt at (i ∷ path) ∷ []) = (tt, tt) in
      run_same n high t.number (paths_of t.below) (SpaceAt at (i ∷ path) ∷ (a ++ b)) (map spot_of (top_spots at path i n (Entry e f g))) (space_names at path i n e f g h.0 named)
      (run_right n n high t.number (paths_of t.below) (SpaceAt at (i ∷ path) ∷ []) (a ++ b) (omega arith) own (elim (in_cases t (row_tops inner) (row_tops row) is) [
        | inl x ↦ run_left n mid high t.number (paths_of t.below) a b (omega (arith, many, le))
            (row_run at (i ∷ path) 0 n mid (spaces ++ name_of h.0 (node_map name e) ∷ []) inner f h.3 (omega arith) t x) (tops_between at path (suc i) mid high g (omega (arith, many, le)))
        | inr y ↦ run_right n mid high t.number (paths_of t.below) a b (omega arith) (tops_between at (i ∷ path) 0 n mid f (omega arith))
            (row_run at path (suc i) mid high spaces row g (subst (λ (w : ℕ). RowIs file unit language spaces (n + w) row (entries_map name g)) (under_count name f) h.4)
            (omega (arith, many, le)) t y)
      ]))
