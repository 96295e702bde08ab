-- Rows of spaces lead from each top out to the spaces that it stands in.
use Rattle.std.proofs.Common.{◌≡◌, ℕ, ℤ, zero, suc, ◌+◌, true, false, List, [], ◌∷◌, ◌++◌, length, map, drop, Option, Some, None, slice_get, refl, sym, ap, subst, ◌∙◌, arith}
use Rattle.std.specs.Option.{is_some}
use Rattle.std.proofs.lemmas.List.{append_assoc, drop_at}
use Rattle.dwz_def_reading.specs.Trees.{End, Entry, size}
use Rattle.dwz_def_reading.specs.Documents.{Entries, Node, entries_map, node_map}
use Rattle.dwz_def_tops.specs.Spaces.{space_text, tops_under}
use Rattle.dwz_def_tops.proofs.SpaceLemmas.{text_map}
use Rattle.dwz_def_tops.specs.Spots.{EntryName, Row, SpaceName, name_of, row_in, row_tops}
use Rattle.dwz_graph.specs.declared.index.SpaceEntry.{SpaceEntry}
use Rattle.dwz_graph.specs.declared.index.TopEntry.{TopEntry}
use Rattle.dwz_graph.specs.Steps.{is_space, space_entry, spaces_among, spaces_by, top_entry, tops_among}
use Rattle.dwz_graph.proofs.AmongLemmas.{spaces_many, spaces_space, spaces_top, tops_space, tops_top}
use Rattle.dwz_graph.proofs.ListLemmas.{drop_more}
use Rattle.dwz_layout_items.specs.declared.partial.SpaceRow.{SpaceRow}
use Rattle.dwz_layout_items.specs.Chains.{Up, down}
use Rattle.dwz_layout_order.specs.Lists.{row_from, rows_from}
use Rattle.dwz_layout_order.specs.Shown.{LeadsUp, Pairs, RowsFrom, SaidIs}
use Rattle.dwz_layout_order.specs.Spaces.{Numbered, name_by, spaces_under}
use Rattle.dwz_layout_order.proofs.MeanLemmas.{same_agree, spaces_agree}
use Rattle.dwz_layout_order.proofs.RowLemmas.{numbered_split, row_space, row_top, spaces_counted, under_space, under_top}

-- ---- lists in step

pub pairs_append : {X Y : Type 0} (R : X → Y → Type 0) (xs us : List X) (ys vs : List Y) → Pairs R xs ys → Pairs R us vs → Pairs R (xs ++ us) (ys ++ vs)
pairs_append R [] us [] vs h k = k
pairs_append R [] us (y ∷ ys) vs h k = absurd h
pairs_append R (x ∷ xs) us [] vs h k = absurd h
pairs_append R (x ∷ xs) us (y ∷ ys) vs h k = (h.0, pairs_append R xs us ys vs h.1 k)

pub pairs_at : {X Y : Type 0} (R : X → Y → Type 0) (xs : List X) (ys : List Y) → Pairs R xs ys → (k : ℕ) (x : X) (y : Y) → slice_get xs k ≡ Some x → slice_get ys k ≡ Some y → R x y
pairs_at R [] [] h k x y e f = absurd cc
pairs_at R [] (z ∷ ys) h k x y e f = absurd h
pairs_at R (z ∷ xs) [] h k x y e f = absurd h
pairs_at R (u ∷ xs) (v ∷ ys) h zero x y e f =
    let a : u ≡ x = cc in
    let b : v ≡ y = cc in
    subst (R x) b (subst (λ (w : _). R w v) a h.0)
pairs_at R (u ∷ xs) (v ∷ ys) h (suc k) x y e f = pairs_at R xs ys h.1 k x y e f

pub pairs_long : {X Y : Type 0} (R : X → Y → Type 0) (xs : List X) (ys : List Y) → Pairs R xs ys → length xs ≡ length ys
pairs_long R [] [] h = refl
pairs_long R [] (y ∷ ys) h = absurd h
pairs_long R (x ∷ xs) [] h = absurd h
pairs_long R (x ∷ xs) (y ∷ ys) h = ap suc (pairs_long R xs ys h.1)

-- ---- rows

pub rows_append : (n : ℕ) (xs ys : List SpaceEntry) → rows_from n (xs ++ ys) ≡ rows_from n xs ++ rows_from (n + length xs) ys
unfolding rows_from
rows_append n [] ys = (let e : n ≡ n + 0 = omega arith in ap (λ (k : ℕ). rows_from k ys) e)
rows_append n (x ∷ xs) ys =
    let e : suc n + length xs ≡ n + suc (length xs) = omega arith in
    ap (λ (w : List SpaceRow). row_from n x ∷ w) (rows_append (suc n) xs ys ∙ ap (λ (k : ℕ). rows_from (suc n) xs ++ rows_from k ys) e)

pub rows_long : (n : ℕ) (xs : List SpaceEntry) → length (rows_from n xs) ≡ length xs
unfolding rows_from
rows_long n [] = refl
rows_long n (x ∷ xs) = ap suc (rows_long (suc n) xs)

-- a list from a place on: what stands there, and what is behind
pub from_first : {X : Type 0} (xs : List X) (i : ℕ) (x : X) (rest : List X) → drop i xs ≡ x ∷ rest → (slice_get xs i ≡ Some x) × (drop (suc i) xs ≡ rest)
from_first [] zero x rest e = absurd cc
from_first [] (suc i) x rest e = absurd cc
from_first (y ∷ xs) zero x rest e = (let same : y ≡ x = cc in ap Some same, cc)
from_first (y ∷ xs) (suc i) x rest e = from_first xs i x rest e

-- ---- what leads to spaces

pub rows_parted : (rows : List SpaceRow) (k n : ℕ) (xs ys : List SpaceEntry) → length xs ≡ n → RowsFrom rows k (xs ++ ys) → RowsFrom rows k xs × RowsFrom rows (k + n) ys
rows_parted rows k n xs ys long h =
    let part : drop k rows ≡ rows_from k xs ++ (rows_from (k + n) ys ++ h.after) =
    h.rest ∙ ap (λ (w : List SpaceRow). w ++ h.after) (rows_append k xs ys ∙ ap (λ (j : ℕ). rows_from k xs ++ rows_from (k + j) ys) long) ∙ append_assoc (rows_from k xs) (rows_from (k + n) ys)
    h.after in (
      record { after = rows_from (k + n) ys ++ h.after; rest = part },
      record { after = h.after; rest = drop_more rows k n ∙ ap (drop n) part ∙ drop_at (rows_from k xs) (rows_from (k + n) ys ++ h.after) n (rows_long k xs ∙ long) },
    )

-- how many spaces there are, with names or with places
pub under_many : (name : ℕ → EntryName) (f : Entries ℕ) → length (spaces_under (entries_map name f)) ≡ spaces_by is_space f
under_many name f = sym (spaces_counted (entries_map name f)) ∙ sym (spaces_agree is_space is_space f (entries_map name f) (same_agree name f))

map_push : (said : ℕ → SpaceName) (ups : List ℕ) (k : ℕ) → map said (ups ++ k ∷ []) ≡ map said ups ++ said k ∷ []
map_push said [] k = refl
map_push said (u ∷ ups) k = ap (λ (w : List SpaceName). said u ∷ w) (map_push said ups k)

module _ (rows : List SpaceRow) (said : ℕ → SpaceName) (file unit : ℕ) (tongue : Option ℤ) (name : ℕ → EntryName) where
  pub chain : (g : Entries ℕ) (spaces : List SpaceName) (ups : List ℕ) (inner n k at : ℕ) → Up rows inner ups → spaces ≡ map said (down ups) → RowsFrom rows k (spaces_among is_space inner k at g)
      → Numbered (SaidIs said) k (spaces_under (entries_map name g))
      → Pairs (LeadsUp rows said) (tops_among is_space unit inner k at g) (row_tops (row_in file unit tongue spaces n (entries_map name g)))
  unfolding entries_map row_in row_tops tops_among rows_from down
  chain End spaces ups inner n k at up is from under = tt
  chain (Entry d c x) spaces ups inner n k at up is from under =
      by (λ n' k' at' from' under'. chain x spaces ups inner n' k' at' up is from' under') (λ sp us up' is' from' under'. chain c sp us (suc k) n (suc k) (at + 1) up' is' from' under') (space_text d)
      refl
    where
      d' : Node EntryName
      d' = node_map name d

      c' : Entries EntryName
      c' = entries_map name c

      x' : Entries EntryName
      x' = entries_map name x

      by : ((n' k' at' : ℕ) → RowsFrom rows k' (spaces_among is_space inner k' at' x) → Numbered (SaidIs said) k' (spaces_under x')
          → Pairs (LeadsUp rows said) (tops_among is_space unit inner k' at' x) (row_tops (row_in file unit tongue spaces n' x')))
          → ((sp : List SpaceName) (us : List ℕ) → Up rows (suc k) us → sp ≡ map said (down us) → RowsFrom rows (suc k) (spaces_among is_space (suc k) (suc k) (at + 1) c)
          → Numbered (SaidIs said) (suc k) (spaces_under c')
          → Pairs (LeadsUp rows said) (tops_among is_space unit (suc k) (suc k) (at + 1) c) (row_tops (row_in file unit tongue sp n c')))
          → (o : Option (List ℕ)) → space_text d ≡ o
          → Pairs (LeadsUp rows said) (tops_among is_space unit inner k at (Entry d c x)) (row_tops (row_in file unit tongue spaces n (Entry d' c' x')))
      by on_next on_inner None e =
          let plain : is_space d ≡ false = ap (λ (o : Option (List ℕ)). is_some o) e in
          let named : space_text d' ≡ None = text_map name d ∙ e in
          let rest = on_next (suc n) k (at + 1 + size c) (subst (RowsFrom rows k) (spaces_top is_space d c x inner k at plain) from)
          (subst (Numbered (SaidIs said) k) (under_top d' c' x' named) under) in
          let tops = tops_top is_space d c x unit inner k at plain in
          let row = row_top file unit tongue spaces n d' c' x' named in
          subst (λ (w : List TopEntry). Pairs (LeadsUp rows said) w (row_tops (row_in file unit tongue spaces n (Entry d' c' x')))) (sym tops)
          (subst (λ (r : Row). Pairs (LeadsUp rows said) (top_entry at unit inner ∷ tops_among is_space unit inner k (at + 1 + size c) x) (row_tops r)) (sym row)
          (record { ups = ups; up = up; spaces = is }, rest))
      by on_next on_inner (Some text) e =
          let space : is_space d ≡ true = ap (λ (o : Option (List ℕ)). is_some o) e in
          let named : space_text d' ≡ Some text = text_map name d ∙ e in
          let many = spaces_many is_space (suc k) (suc k) (at + 1) c in
          let inside = spaces_among is_space (suc k) (suc k) (at + 1) c in
          let behind = spaces_among is_space inner (suc k + spaces_by is_space c) (at + 1 + size c) x in
          let all : RowsFrom rows k (space_entry at inner ∷ (inside ++ behind)) = subst (RowsFrom rows k) (spaces_space is_space d c x inner k at space) from in
          let first = from_first rows k (row_from k (space_entry at inner)) (rows_from (suc k) (inside ++ behind) ++ all.after) all.rest in
          let others : RowsFrom rows (suc k) (inside ++ behind) = record { after = all.after; rest = first.1 } in
          let parts = rows_parted rows (suc k) (spaces_by is_space c) inside behind many others in
          let numbered = subst (Numbered (SaidIs said) k) (under_space d' c' x' text named) under in
          let own : said k ≡ name_of text d' = numbered.0 ∙ ap (name_by d') named in
          let halves = numbered_split (SaidIs said) (suc k) (spaces_under c') (spaces_under x') numbered.1 in
          let count : length (spaces_under c') ≡ spaces_by is_space c = under_many name c in
          let deeper : spaces ++ name_of text d' ∷ [] ≡ map said (down (k ∷ ups)) = (λ i. is i ++ sym own i ∷ []) ∙ sym (map_push said (down ups) k) in
          let up_more : Up rows (suc k) (k ∷ ups) = (k, row_from k (space_entry at inner), refl, first.0, refl, up) in
          let a = on_inner (spaces ++ name_of text d' ∷ []) (k ∷ ups) up_more deeper parts.0 halves.0 in
          let b = on_next (n + tops_under c') (suc k + spaces_by is_space c) (at + 1 + size c) parts.1 (subst (λ (j : ℕ). Numbered (SaidIs said) (suc k + j) (spaces_under x')) count halves.1) in
          let tops = tops_space is_space d c x unit inner k at space in
          let row = row_space file unit tongue spaces n d' c' x' text named in
          subst (λ (w : List TopEntry). Pairs (LeadsUp rows said) w (row_tops (row_in file unit tongue spaces n (Entry d' c' x')))) (sym tops)
          (subst (λ (r : Row). Pairs (LeadsUp rows said) (tops_among is_space unit (suc k) (suc k) (at + 1) c ++ tops_among is_space unit inner (suc k + spaces_by is_space c) (at + 1 + size c) x)
          (row_tops r)) (sym row)
          (pairs_append (LeadsUp rows said) (tops_among is_space unit (suc k) (suc k) (at + 1) c) (tops_among is_space unit inner (suc k + spaces_by is_space c) (at + 1 + size c) x)
          (row_tops (row_in file unit tongue (spaces ++ name_of text d' ∷ []) n c')) (row_tops (row_in file unit tongue spaces (n + tops_under c') x')) a b))
