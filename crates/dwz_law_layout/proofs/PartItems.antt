-- The items of a partial unit: the lines of tops and of chains have the names of its tops, and of spaces on their ways up.
use Rattle.std.proofs.Common.{ℕ, suc, ◌+◌, List, [], ◌∷◌, ◌++◌, ◌==◌, filter, length, map, not, slice_index, inl, inr, refl, eq-eqb}
use Rattle.dwz_def_reading.specs.Lists.{Each, In}
use Rattle.dwz_def_reading.proofs.ListFacts.{in_cases}
use Rattle.dwz_def_tops.proofs.Members.{each_append, in_filter, in_filter_from}
use Rattle.dwz_def_tops.specs.Spots.{EntryName, InChain, Within}
use Rattle.dwz_layout_items.specs.declared.order.Item.{Item}
use Rattle.dwz_layout_items.specs.declared.order.ItemKind.{ItemKind}
use Rattle.dwz_layout_items.specs.declared.order.ItemKind.TheVariants.{Import as Imported, InChain as Chained, Root, Space, Top, Whole}
use Rattle.dwz_layout_items.specs.declared.partial.SpaceRow.{SpaceRow}
use Rattle.dwz_layout_items.specs.declared.partial.TopSpaces.{TopSpaces}
use Rattle.dwz_layout_items.specs.Chains.{Up, chain_lines, chains_by, chains_lines, down, firsts_by, inner_at, names_at, path_lines, tops_lines}
use Rattle.dwz_layout_items.specs.Lines.{Line, lines}
use Rattle.dwz_layout_order.specs.Parts.{IsPart}
use Rattle.dwz_law_layout.specs.Items.{IsOfPart, PartNames}
use Rattle.dwz_law_layout.proofs.Telling.{OfLine, AsTold, root_then, telling}

-- what stands in it, from the outermost one on
down_in : (s : ℕ) (ups : List ℕ) → In s (down ups) → In s ups
unfolding down
down_in s [] h = h
down_in s (u ∷ ups) h = elim (in_cases s (down ups) (u ∷ []) h) [ inl a ↦ inr (down_in s ups a) | inr (inl e) ↦ inl e | inr (inr b) ↦ absurd b ]

-- the first of some
first_in : (xs : List ℕ) (x : ℕ) → In x xs → In (slice_index xs 0) xs
first_in [] x h = absurd h
first_in (y ∷ xs) x h = inl refl

module _ (tops : List ℕ) (ups : ℕ → List ℕ) where
  abbrev PartName : EntryName → Type 0
  PartName (Within t path) = In t tops
  PartName (InChain chain depth s) = (t : ℕ) × In t tops × In s (ups t)
  PartName _ = ⊥

  to_item : (what : ItemKind) → AsTold PartName what → IsOfPart tops ups what
  to_item Root h = h
  to_item Whole h = h
  to_item (Top t) h = h
  to_item (Space s) h = h
  to_item (Chained chain s) h = h.1
  to_item (Imported part) h = h

  tops_named : (depth : ℕ) (ts : List ℕ) → ((t : ℕ) → In t ts → In t tops) → Each (OfLine PartName) (tops_lines telling depth ts)
  unfolding tops_lines lines
  tops_named depth [] among = tt
  tops_named depth (t ∷ ts) among = (among t (inl refl), tops_named depth ts (λ u i. among u (inr i)))

  path_named : (chain depth : ℕ) (path : List ℕ) (t : ℕ) → In t tops → ((s : ℕ) → In s path → In s (ups t)) → Each (OfLine PartName) (path_lines telling chain depth path)
  unfolding path_lines
  path_named chain depth [] t is among = tt
  path_named chain depth (s ∷ path) t is among = ((t, is, among s (inl refl)), path_named chain (suc depth) path t is (λ r i. among r (inr i)))

  -- a chain has some tops, which are all among these
  abbrev IsSome : List ℕ → Type 0
  IsSome ts = ((t : ℕ) → In t ts → In t tops) × In (slice_index ts 0) ts

  chain_named : (chain : ℕ) (ts : List ℕ) → IsSome ts → Each (OfLine PartName) (chain_lines telling chain (down (ups (slice_index ts 0))) ts)
  chain_named chain ts some =
      let first = slice_index ts 0 in
      let path = down (ups first) in
      each_append (OfLine PartName) (path_lines telling chain 0 path) (tops_lines telling (2 + length path) ts)
      (path_named chain 0 path first (some.0 first some.1) (λ s i. down_in s (ups first) i))
      (tops_named (2 + length path) ts some.0)

  chains_named : (chain : ℕ) (chains : List (List ℕ)) → Each IsSome chains → Each (OfLine PartName) (chains_lines telling (λ t. down (ups t)) chain chains)
  unfolding chains_lines
  chains_named chain [] h = tt
  chains_named chain (ts ∷ chains) h =
      each_append (OfLine PartName) (chain_lines telling chain (down (ups (slice_index ts 0))) ts) (chains_lines telling (λ t. down (ups t)) (suc chain) chains)
      (chain_named chain ts h.0)
      (chains_named (suc chain) chains h.1)

  -- ---- the chains of some of these

  firsts_in : (l : ℕ → ℕ) (ts : List ℕ) (t : ℕ) → In t (firsts_by l ts) → In t ts
  unfolding firsts_by
  firsts_in l [] t h = h
  firsts_in l (u ∷ ts) t (inl e) = inl e
  firsts_in l (u ∷ ts) t (inr h) = inr (firsts_in l ts t (in_filter_from _ t (firsts_by l ts) h).0)

  chains_some : (l : ℕ → ℕ) (ts : List ℕ) → ((t : ℕ) → In t ts → In t tops) → Each IsSome (chains_by l ts)
  unfolding chains_by
  chains_some l ts among = by (firsts_by l ts) (λ t i. firsts_in l ts t i) where
    by : (firsts : List ℕ) → ((t : ℕ) → In t firsts → In t ts) → Each IsSome (map (λ t. filter (λ u. l t == l u) ts) firsts)
    by [] h = tt
    by (t ∷ firsts) h =
        let mine = in_filter (λ u. l t == l u) t ts (h t (inl refl)) (eq-eqb (l t) (l t) refl) in
        (((λ u i. among u (in_filter_from (λ w. l t == l w) u ts i).0), first_in (filter (λ u. l t == l u) ts) t mine), by firsts (λ u i. h u (inr i)))

  pub part_items : (rows : List SpaceRow) (of_tops : List TopSpaces) (items : List Item) → ((t : ℕ) → In t tops → Up rows (inner_at of_tops t) (ups t)) → IsPart rows of_tops tops items
      → PartNames tops ups items
  part_items rows of_tops items up is =
      let l : ℕ → ℕ = names_at of_tops in
      let plain : List ℕ = filter (λ t. l t == 0) tops in
      let spaced : List ℕ = filter (λ t. not (l t == 0)) tops in
      let one : List (Line EntryName) = tops_lines telling 2 plain in
      let two : List (Line EntryName) = chains_lines telling (λ t. down (ups t)) 0 (chains_by l spaced) in
      root_then PartName (IsOfPart tops ups) (λ h. h) to_item items (one ++ two) (is telling ups up)
      (each_append (OfLine PartName) one two
      (tops_named 2 plain (λ t i. (in_filter_from (λ u. l u == 0) t tops i).0))
      (chains_named 0 (chains_by l spaced) (chains_some l spaced (λ t i. (in_filter_from (λ u. not (l u == 0)) t tops i).0))))
