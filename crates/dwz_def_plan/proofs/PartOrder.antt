-- What a partial unit holds stands in the order that is asked for, and no other row does.
use Rattle.std.proofs.Common.{◌≡◌, ◌≢◌, ◌↔◌, ℕ, suc, ◌&&◌, not, cond, Bool, true, false, List, [], ◌∷◌, refl, sym, ap, subst, ◌∙◌, inl, inr}
use Rattle.std.proofs.lemmas.Bool.{and_from, and_parts, false_from_ne_true, not-false, not-true, not_from_false}
use Rattle.std.specs.List.{filter}
use Rattle.dwz_def_reading.specs.Lists.{In}
use Rattle.dwz_def_tops.specs.Spots.{ASpace, ATop, Nothing, Row, SpaceName, Top, name_list}
use Rattle.dwz_def_tops.proofs.Members.{filter_same, in_filter_from}
use Rattle.dwz_def_plan.specs.Children.{AreChains, TopsThen, IsSpaceChain, IsPartRow, BeginsChain}
use Rattle.dwz_def_plan.specs.Plan.{PartialUnit, beside, chain_down, chains, in_root, leading, part_row, same_names, space_entry, top_row}
use Rattle.dwz_def_plan.proofs.PartRows.{leading_in, names_same, names_true, root_names}

-- ---- tops that a test tells, in order

module _ (P : Top → Type 0) (test : Top → Bool) (decides : (t : Top) → (test t ≡ true) ↔ P t) where
  tops_are : (tops : List Top) (last : Row) → TopsThen P tops last (top_row (filter test tops) last)
  unfolding top_row
  tops_are [] last = refl
  tops_are (t ∷ tops) last = go (test t) refl (tops_are tops last) where
    go : (b : Bool) → test t ≡ b → TopsThen P tops last (top_row (filter test tops) last) → TopsThen P (t ∷ tops) last (top_row (cond b (t ∷ filter test tops) (filter test tops)) last)
    go true q more = inl ((decides t).0 q, (top_row (filter test tops) last, refl, more))
    go false q more = inr ((λ h. absurd (let x = (decides t).1 h in cc)), more)

  tops_one : (tops : List Top) (last row : Row) → TopsThen P tops last row → top_row (filter test tops) last ≡ row
  unfolding top_row
  tops_one [] last row h = sym h
  tops_one (t ∷ tops) last row (inl (q, h)) =
      ap (λ (b : Bool). top_row (cond b (t ∷ filter test tops) (filter test tops)) last) ((decides t).1 q) ∙ ap (λ (w : Row). ATop t w) (tops_one tops last h.0 h.2) ∙ sym h.1
  tops_one (t ∷ tops) last row (inr (q, h)) =
      ap (λ (b : Bool). top_row (cond b (t ∷ filter test tops) (filter test tops)) last) (false_from_ne_true (test t) (λ x. q ((decides t).0 x))) ∙ tops_one tops last row h

-- ---- chains

chain_is : (part chain depth : ℕ) (spaces : List SpaceName) (inner : Row) → IsSpaceChain part chain depth spaces inner (chain_down part chain depth spaces inner)
unfolding chain_down
chain_is part chain depth [] inner = refl
chain_is part chain depth (s ∷ spaces) inner = (chain_down part chain (suc depth) spaces inner, refl, chain_is part chain (suc depth) spaces inner)

chain_one : (part chain depth : ℕ) (spaces : List SpaceName) (inner row : Row) → IsSpaceChain part chain depth spaces inner row → chain_down part chain depth spaces inner ≡ row
unfolding chain_down
chain_one part chain depth [] inner row h = sym h
chain_one part chain depth (s ∷ spaces) inner row h =
    ap (λ (w : Row). ASpace (space_entry part chain depth s) w Nothing) (chain_one part chain (suc depth) spaces inner h.0 h.2) ∙ sym h.1

-- ---- the first tops of name lists

abbrev named : Top → Bool
named t = not (in_root t)

-- the first top of each name list but the empty one
abbrev leads_of : List Top → List Top
leads_of tops = leading (filter named tops)

root_is : (t : Top) → name_list t ≡ [] → in_root t ≡ true
root_is t e = go t.spaces refl e where
  go : (s : List SpaceName) → t.spaces ≡ s → name_list (record t { spaces = s }) ≡ [] → in_root t ≡ true
  go [] q h = ap (λ (w : List SpaceName). in_root (record t { spaces = w })) q
  go (n ∷ s) q h = absurd cc

roots_decide : (t : Top) → (in_root t ≡ true) ↔ (name_list t ≡ [])
roots_decide t = (root_names t, root_is t)

-- it stands in a space, and none of the earlier ones has its name list
fresh : List Top → Top → Bool
fresh [] u = named u
fresh (t ∷ earlier) u = not (same_names t u) && fresh earlier u

fresh_leads : (earlier : List Top) (u : Top) → fresh earlier u ≡ true → BeginsChain earlier u
unfolding fresh
fresh_leads [] u e = ((λ q. absurd (let x = root_is u q in let y = not-true (in_root u) e in cc)), (λ v h. absurd h))
fresh_leads (t ∷ earlier) u e =
    let o = and_parts (not (same_names t u)) (fresh earlier u) e in
    let more = fresh_leads earlier u o.1 in
    (more.0, apart o.0 more.1)
  where
    apart : not (same_names t u) ≡ true → ((v : Top) → In v earlier → name_list v ≢ name_list u) → (v : Top) → In v (t ∷ earlier) → name_list v ≢ name_list u
    apart n f v (inl q) = λ same. absurd (let x = names_same t u (ap name_list q ∙ same) in let y = not-true (same_names t u) n in cc)
    apart n f v (inr h) = f v h

leads_fresh : (earlier : List Top) (u : Top) → BeginsChain earlier u → fresh earlier u ≡ true
unfolding fresh
leads_fresh [] u h = not_from_false (in_root u) (false_from_ne_true (in_root u) (λ q. h.0 (root_names u q)))
leads_fresh (t ∷ earlier) u h =
    and_from (not (same_names t u)) (fresh earlier u) (not_from_false (same_names t u) (false_from_ne_true (same_names t u) (λ q. h.1 t (inl refl) (names_true t u q))))
    (leads_fresh earlier u (h.0, λ v i. h.1 v (inr i)))

filter_both : {X : Type 0} (f g : X → Bool) (xs : List X) → filter f (filter g xs) ≡ filter (λ x. g x && f x) xs
filter_both f g [] = refl
filter_both {X} f g (x ∷ xs) = go (g x) (filter_both f g xs) where
  go : (b : Bool) → filter f (filter g xs) ≡ filter (λ y. g y && f y) xs → filter f (cond b (x ∷ filter g xs) (filter g xs)) ≡ cond (b && f x) (x ∷ filter (λ y. g y && f y) xs) (filter (λ y. g y && f y) xs)
  go true more = ap (λ (w : List X). cond (f x) (x ∷ w) w) more
  go false more = more

filter_all : {X : Type 0} (f : X → Bool) (xs : List X) → ((x : X) → In x xs → f x ≡ true) → filter f xs ≡ xs
filter_all f [] h = refl
filter_all {X} f (x ∷ xs) h =
    ap (λ (b : Bool). cond b (x ∷ filter f xs) (filter f xs)) (h x (inl refl)) ∙ ap (λ (w : List X). x ∷ w) (filter_all f xs (λ y i. h y (inr i)))

-- of the first tops those that lead
abbrev left_of : List Top → List Top → List Top
left_of earlier tops = filter (fresh earlier) (leads_of tops)

left_top : (earlier : List Top) (t : Top) (tops : List Top)
    → left_of earlier (t ∷ tops) ≡ cond (fresh earlier t) (t ∷ left_of (t ∷ earlier) tops) (left_of (t ∷ earlier) tops)
unfolding leading fresh
left_top earlier t tops = go (named t) refl where
  both : filter (fresh earlier) (filter (λ u. not (same_names t u)) (leads_of tops)) ≡ left_of (t ∷ earlier) tops
  both = filter_both (fresh earlier) (λ u. not (same_names t u)) (leads_of tops)

  -- a top in no space leads nothing, and takes no name list from others
  rooted : named t ≡ false → (u : Top) → fresh earlier u ≡ (not (same_names t u) && fresh earlier u)
  rooted q u = pick (same_names t u) refl (fresh earlier u) refl where
    pick : (b : Bool) → same_names t u ≡ b → (c : Bool) → fresh earlier u ≡ c → c ≡ (not b && c)
    pick false e c f = refl
    pick true e false f = refl
    pick true e true f = absurd ((fresh_leads earlier u f).0 (sym (names_true t u e) ∙ root_names t (not-false (in_root t) q)))

  none : named t ≡ false → fresh earlier t ≡ false
  none q = false_from_ne_true (fresh earlier t) (λ f. (fresh_leads earlier t f).0 (root_names t (not-false (in_root t) q)))

  go : (b : Bool) → named t ≡ b → filter (fresh earlier) (leading (cond b (t ∷ filter named tops) (filter named tops))) ≡ cond (fresh earlier t) (t ∷ left_of (t ∷ earlier) tops) (left_of (t ∷ earlier) tops)
  go true q = ap (λ (w : List Top). cond (fresh earlier t) (t ∷ w) w) both
  go false q =
      filter_same (fresh earlier) (fresh (t ∷ earlier)) (leads_of tops) (rooted q)
      ∙ ap (λ (b : Bool). cond b (t ∷ left_of (t ∷ earlier) tops) (left_of (t ∷ earlier) tops)) (sym (none q))

left_first : (tops : List Top) → left_of [] tops ≡ leads_of tops
unfolding fresh
left_first tops = filter_all (fresh []) (leads_of tops) (λ t h. (in_filter_from named t tops (leading_in (filter named tops) t h)).1)

-- ---- the chains of a partial unit

module _ (part : ℕ) (all : List Top) where
  abbrev inner_of : Top → Row
  inner_of t = top_row (filter (same_names t) all) Nothing

  names_decide : (t u : Top) → (same_names t u ≡ true) ↔ (name_list u ≡ name_list t)
  names_decide t u = ((λ q. sym (names_true t u q)), (λ q. names_same t u (sym q)))

  abbrev first_of : ℕ → Top → Row
  first_of chain t = chain_down part chain 0 t.spaces (inner_of t)

  abbrev left_row : ℕ → List Top → List Top → Row
  left_row chain earlier tops = chains part all chain (left_of earlier tops)

  row_leads : (chain : ℕ) (earlier : List Top) (t : Top) (tops : List Top) → fresh earlier t ≡ true
      → left_row chain earlier (t ∷ tops) ≡ beside (first_of chain t) (left_row (suc chain) (t ∷ earlier) tops)
  unfolding chains
  row_leads chain earlier t tops q =
      ap (chains part all chain) (left_top earlier t tops ∙ ap (λ (b : Bool). cond b (t ∷ left_of (t ∷ earlier) tops) (left_of (t ∷ earlier) tops)) q)

  row_passes : (chain : ℕ) (earlier : List Top) (t : Top) (tops : List Top) → fresh earlier t ≡ false → left_row chain earlier (t ∷ tops) ≡ left_row chain (t ∷ earlier) tops
  row_passes chain earlier t tops q =
      ap (chains part all chain) (left_top earlier t tops ∙ ap (λ (b : Bool). cond b (t ∷ left_of (t ∷ earlier) tops) (left_of (t ∷ earlier) tops)) q)

  no_chains : (chain : ℕ) (earlier : List Top) → left_row chain earlier [] ≡ Nothing
  unfolding chains leading
  no_chains chain earlier = refl

  chains_are : (chain : ℕ) (earlier tops : List Top) → AreChains part all chain earlier tops (left_row chain earlier tops)
  chains_are chain earlier [] = no_chains chain earlier
  chains_are chain earlier (t ∷ tops) = go (λ c. chains_are c (t ∷ earlier) tops) (fresh earlier t) refl where
    go : ((c : ℕ) → AreChains part all c (t ∷ earlier) tops (left_row c (t ∷ earlier) tops)) → (b : Bool) → fresh earlier t ≡ b
        → AreChains part all chain earlier (t ∷ tops) (left_row chain earlier (t ∷ tops))
    go more true q = inl (
      fresh_leads earlier t q,
      (
        inner_of t,
        first_of chain t,
        left_row (suc chain) (t ∷ earlier) tops,
        tops_are (λ u. name_list u ≡ name_list t) (same_names t) (names_decide t) all Nothing,
        chain_is part chain 0 t.spaces (inner_of t),
        more (suc chain),
        row_leads chain earlier t tops q,
      ),
    )
    go more false q = inr ((λ h. absurd (let x = leads_fresh earlier t h in cc)), subst (AreChains part all chain (t ∷ earlier) tops) (sym (row_passes chain earlier t tops q)) (more chain))

  chains_one : (chain : ℕ) (earlier tops : List Top) (row : Row) → AreChains part all chain earlier tops row → left_row chain earlier tops ≡ row
  chains_one chain earlier [] row h = no_chains chain earlier ∙ sym h
  chains_one chain earlier (t ∷ tops) row (inl (q, (inner, first, others, has, is, more, e))) =
      let inner_is = tops_one (λ u. name_list u ≡ name_list t) (same_names t) (names_decide t) all Nothing inner has in
      row_leads chain earlier t tops (leads_fresh earlier t q)
      ∙ ap (λ (w : Row). beside (chain_down part chain 0 t.spaces w) (left_row (suc chain) (t ∷ earlier) tops)) inner_is
      ∙ ap (λ (w : Row). beside w (left_row (suc chain) (t ∷ earlier) tops)) (chain_one part chain 0 t.spaces inner first is)
      ∙ ap (beside first) (chains_one (suc chain) (t ∷ earlier) tops others more) ∙ sym e
  chains_one chain earlier (t ∷ tops) row (inr (q, h)) =
      row_passes chain earlier t tops (false_from_ne_true (fresh earlier t) (λ f. q (fresh_leads earlier t f))) ∙ chains_one chain (t ∷ earlier) tops row h

-- ---- the row of a partial unit

pub part_order : (n : ℕ) (part : PartialUnit) (row : Row) → IsPartRow n part.tops row ↔ (part_row n part ≡ row)
part_order n part row = (
  (λ h.
      ap (top_row (filter in_root part.tops)) (sym begins ∙ chains_one n part.tops 0 [] part.tops h.chains h.are_chains)
      ∙ tops_one (λ t. name_list t ≡ []) in_root roots_decide part.tops h.chains row h.roots),
  (λ e. record {
    chains = last;
    roots = subst (TopsThen (λ t. name_list t ≡ []) part.tops last) e (tops_are (λ t. name_list t ≡ []) in_root roots_decide part.tops last);
    are_chains = subst (AreChains n part.tops 0 [] part.tops) begins (chains_are n part.tops 0 [] part.tops);
  }),
) where
  last : Row
  last = chains n part.tops 0 (leads_of part.tops)

  begins : left_row n part.tops 0 [] part.tops ≡ last
  begins = ap (chains n part.tops 0) (left_first part.tops)
