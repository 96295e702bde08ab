-- In the row of a partial unit each name stands once, and among imports.
use Rattle.std.proofs.Common.{◌≡◌, ℕ, suc, ◌<◌, ◌≤◌, ◌⊎◌, not, true, false, List, [], ◌∷◌, ◌++◌, map, refl, sym, ap, subst, ◌∙◌, arith, inl, inr, append_assoc}
use Rattle.std.proofs.lemmas.Bool.{not-true}
use Rattle.std.specs.List.{filter}
use Rattle.dwz_def_reading.specs.Documents.{Node}
use Rattle.dwz_def_reading.specs.Lists.{In}
use Rattle.dwz_def_reading.proofs.ListFacts.{in_cases}
use Rattle.dwz_def_tops.specs.Lists.{EachPair, NoneTwice}
use Rattle.dwz_def_tops.specs.Shown.{keys}
use Rattle.dwz_def_tops.proofs.Members.{each_in, each_of, in_filter_from, in_map_from, pair_filter, pair_one}
use Rattle.dwz_def_tops.specs.Spots.{ASpace, ATop, EntryName, Import, InChain, Nothing, Row, SpaceName, Top, Within, name_list}
use Rattle.dwz_def_plan.specs.IsPlan.{numbers, row}
use Rattle.dwz_def_plan.specs.Plan.{PartialUnit, beside, chain_down, chains, import_of, imports, in_root, leading, part_row, same_names, top_row}
use Rattle.dwz_def_plan.proofs.KeptLemmas.{are_imports}
use Rattle.dwz_def_plan.proofs.PartRows.{leading_in, names_same, names_true, root_names}
use Rattle.dwz_def_images.proofs.ApartTrees.{row_keys}
use Rattle.dwz_def_tops.proofs.OnceLemmas.{none_append, none_map, rising_none}

-- ---- the row of a partial unit

abbrev TopKeyOf : EntryName → Type 0
TopKeyOf (Within n path) = Unit {0}
TopKeyOf _ = ⊥

top_numbers : List Top → List EntryName
top_numbers tops = map (λ n. Within n []) (numbers tops)

top_row_keys : (tops : List Top) (last : Row) → row_keys (top_row tops last) ≡ top_numbers tops ++ row_keys last
unfolding top_row top_numbers
top_row_keys [] last = refl
top_row_keys (t ∷ tops) last = ap (λ (w : List EntryName). Within t.number [] ∷ w) (top_row_keys tops last)

-- it is the name of a top of the list
pub record TopNamed (tops : List Top) (k : EntryName) : Type 0 where
  pub top : Top
  pub there : In top tops
  pub is : k ≡ Within top.number []

top_named : (tops : List Top) (k : EntryName) → In k (top_numbers tops) → TopNamed tops k
unfolding top_numbers
top_named tops k h =
    let o = in_map_from (λ n. Within n []) k (numbers tops) h in
    let q = in_map_from (λ t. t.number) o.source tops o.there in
    record { top = q.source; there = q.there; is = sym o.is ∙ ap (λ (w : ℕ). Within w []) (sym q.is) }

abbrev BelowTop : Top → Top → Type 0
BelowTop a b = a.number < b.number

numbers_once : (tops : List Top) → EachPair BelowTop tops → NoneTwice (top_numbers tops)
unfolding top_numbers
numbers_once [] h = tt
numbers_once (t ∷ tops) h = (
  (λ is.
      let o = top_named tops (Within t.number []) is in
      let lt = each_in (BelowTop t) o.top tops h.0 o.there in
      let same : t.number ≡ o.top.number = (let x = o.is in cc) in
      omega (arith, lt, same)),
  numbers_once tops h.1,
)

beside_keys : (a b : Row) → row_keys (beside a b) ≡ row_keys a ++ row_keys b
unfolding beside
beside_keys Nothing b = refl
beside_keys (ATop t a) b = ap (λ (w : List EntryName). Within t.number [] ∷ w) (beside_keys a b)
beside_keys (ASpace e i a) b = ap (λ (w : List EntryName). e.at ∷ w) (ap (λ (w : List EntryName). row_keys i ++ w) (beside_keys a b) ∙ sym (append_assoc (row_keys i) (row_keys a) (row_keys b)))

no_more : (k : EntryName) (xs : List EntryName) → In k (xs ++ []) → In k xs
no_more k xs h = elim (in_cases k xs [] h) [ inl a ↦ a | inr b ↦ absurd b ]

-- a name of the chain, from a depth on, or of what stands in it
pub data InDown (part chain depth : ℕ) (inner : Row) (k : EntryName) : Type 0 where
  ChainName : (d : ℕ) → depth ≤ d → k ≡ InChain part chain d → InDown part chain depth inner k
  InnerName : In k (row_keys inner) → InDown part chain depth inner k

in_down : (part chain depth : ℕ) (spaces : List SpaceName) (inner : Row) (k : EntryName) → In k (row_keys (chain_down part chain depth spaces inner)) → InDown part chain depth inner k
unfolding chain_down
in_down part chain depth [] inner k h = InnerName h
in_down part chain depth (s ∷ spaces) inner k (inl x) = ChainName depth (omega arith) (sym x)
in_down part chain depth (s ∷ spaces) inner k (inr r) = later (in_down part chain (suc depth) spaces inner k (no_more k (row_keys (chain_down part chain (suc depth) spaces inner)) r)) where
  later : InDown part chain (suc depth) inner k → InDown part chain depth inner k
  later (ChainName d a e) = ChainName d (omega (arith, a)) e
  later (InnerName x) = InnerName x

down_none : (part chain depth : ℕ) (spaces : List SpaceName) (inner : Row) → NoneTwice (row_keys inner) → ((k : EntryName) → In k (row_keys inner) → TopKeyOf k)
    → NoneTwice (row_keys (chain_down part chain depth spaces inner))
unfolding chain_down
down_none part chain depth [] inner h f = h
down_none part chain depth (s ∷ spaces) inner h f = (
  (λ is. first (in_down part chain (suc depth) spaces inner (InChain part chain depth) (no_more (InChain part chain depth) (row_keys (chain_down part chain (suc depth) spaces inner)) is))),
  none_append (row_keys (chain_down part chain (suc depth) spaces inner)) [] (down_none part chain (suc depth) spaces inner h f) tt (λ k a b. b),
)
  where
    first : InDown part chain (suc depth) inner (InChain part chain depth) → ⊥
    first (ChainName d a e) = (let same : depth ≡ d = cc in omega (arith, a, same))
    first (InnerName x) = f (InChain part chain depth) x

-- a name of a top with the names of one of the first tops, or of a chain from a number on
pub data InChainsKey (part : ℕ) (tops : List Top) (chain : ℕ) (leads : List Top) (k : EntryName) : Type 0 where
  LedTop : (t l : Top) → In t tops → In l leads → same_names l t ≡ true → k ≡ Within t.number [] → InChainsKey part tops chain leads k
  ChainKey : (c d : ℕ) → chain ≤ c → k ≡ InChain part c d → InChainsKey part tops chain leads k

abbrev own_row : List Top → Top → Row
own_row tops u = top_row (filter (same_names u) tops) Nothing

own_named : (tops : List Top) (u : Top) (k : EntryName) → In k (row_keys (own_row tops u)) → TopNamed (filter (same_names u) tops) k
own_named tops u k h = top_named (filter (same_names u) tops) k (no_more k (top_numbers (filter (same_names u) tops)) (subst (In k) (top_row_keys (filter (same_names u) tops) Nothing) h))

in_chains : (part : ℕ) (tops : List Top) (chain : ℕ) (leads : List Top) (k : EntryName) → In k (row_keys (chains part tops chain leads)) → InChainsKey part tops chain leads k
unfolding chains
in_chains part tops chain [] k h = absurd h
in_chains part tops chain (u ∷ leads) k h =
    pick (in_chains part tops (suc chain) leads k) (in_cases k (row_keys (chain_down part chain 0 u.spaces (own_row tops u))) (row_keys (chains part tops (suc chain) leads))
    (subst (In k) (beside_keys (chain_down part chain 0 u.spaces (own_row tops u)) (chains part tops (suc chain) leads)) h))
  where
    here : InDown part chain 0 (own_row tops u) k → InChainsKey part tops chain (u ∷ leads) k
    here (ChainName d a e) = ChainKey chain d (omega arith) e
    here (InnerName x) = (let o = own_named tops u k x in let f = in_filter_from (same_names u) o.top tops o.there in LedTop o.top u f.0 (inl refl) f.1 o.is)

    later : InChainsKey part tops (suc chain) leads k → InChainsKey part tops chain (u ∷ leads) k
    later (LedTop t l a b c e) = LedTop t l a (inr b) c e
    later (ChainKey c d a e) = ChainKey c d (omega (arith, a)) e

    pick : (In k (row_keys (chains part tops (suc chain) leads)) → InChainsKey part tops (suc chain) leads k) → In k (row_keys (chain_down part chain 0 u.spaces (own_row tops u)))
        ⊎ In k (row_keys (chains part tops (suc chain) leads)) → InChainsKey part tops chain (u ∷ leads) k
    pick more (inl a) = here (in_down part chain 0 u.spaces (own_row tops u) k a)
    pick more (inr b) = later (more b)

abbrev Unlike : Top → Top → Type 0
Unlike a b = same_names a b ≡ false

chains_none : (part : ℕ) (tops : List Top) → EachPair BelowTop tops → (chain : ℕ) (leads : List Top) → EachPair Unlike leads → NoneTwice (row_keys (chains part tops chain leads))
unfolding chains
chains_none part tops rises chain [] h = tt
chains_none part tops rises chain (u ∷ leads) h =
    let first = chain_down part chain 0 u.spaces (own_row tops u) in
    let rest = chains part tops (suc chain) leads in
    subst NoneTwice (sym (beside_keys first rest))
    (none_append (row_keys first) (row_keys rest)
    (down_none part chain 0 u.spaces (own_row tops u) own_once (λ k x. subst TopKeyOf (sym (own_named tops u k x).is) tt))
    (chains_none part tops rises (suc chain) leads h.1)
    (λ k a b. meet k (in_down part chain 0 u.spaces (own_row tops u) k a) (in_chains part tops (suc chain) leads k b)))
  where
    own_once : NoneTwice (row_keys (own_row tops u))
    own_once = subst NoneTwice (sym (top_row_keys (filter (same_names u) tops) Nothing))
        (none_append (top_numbers (filter (same_names u) tops)) [] (numbers_once (filter (same_names u) tops) (pair_filter BelowTop (same_names u) tops rises)) tt (λ k a b. b))

    tops_meet : (s t l : Top) → In s (filter (same_names u) tops) → In t tops → In l leads → same_names l t ≡ true → s.number ≡ t.number → ⊥
    tops_meet s t l a b c e n =
        let f = in_filter_from (same_names u) s tops a in
        let same : s ≡ t = pair_one BelowTop tops s t rises f.0 b (λ lt. omega (arith, lt, n)) (λ lt. omega (arith, lt, n)) in
        let yes : same_names u l ≡ true = names_same u l (names_true u s f.1 ∙ ap name_list same ∙ sym (names_true l t e)) in
        let no : same_names u l ≡ false = each_in (Unlike u) l leads h.0 c in
        absurd cc

    meet : (k : EntryName) → InDown part chain 0 (own_row tops u) k → InChainsKey part tops (suc chain) leads k → ⊥
    meet k (ChainName d a x) (LedTop t l b c e y) = (let z : InChain part chain d ≡ Within t.number [] = sym x ∙ y in cc)
    meet k (ChainName d a x) (ChainKey c e b y) = (let same : chain ≡ c = (let z : InChain part chain d ≡ InChain part c e = sym x ∙ y in cc) in omega (arith, b, same))
    meet k (InnerName x) (LedTop t l b c e y) = (let o = own_named tops u k x in tops_meet o.top t l o.there b c e (let z : Within o.top.number [] ≡ Within t.number [] = sym o.is ∙ y in cc))
    meet k (InnerName x) (ChainKey c e b y) = (let o = own_named tops u k x in let z : Within o.top.number [] ≡ InChain part c e = sym o.is ∙ y in cc)

leading_unlike : (tops : List Top) → EachPair Unlike (leading tops)
unfolding leading
leading_unlike [] = tt
leading_unlike (t ∷ tops) = (
  each_of (Unlike t) (filter (λ u. not (same_names t u)) (leading tops)) (λ u is. not-true (same_names t u) (in_filter_from (λ v. not (same_names t v)) u (leading tops) is).1),
  pair_filter Unlike (λ u. not (same_names t u)) (leading tops) (leading_unlike tops),
)

inner_names : (t : Top) → not (in_root t) ≡ true → name_list t ≡ [] → ⊥
inner_names t h e = go t.spaces refl h where
  go : (s : List SpaceName) → t.spaces ≡ s → not (in_root (record t { spaces = s })) ≡ true → ⊥
  go [] q x = cc
  go (n ∷ s) q x = (let y : map (λ s. s.text) (n ∷ s) ≡ [] = ap (λ (w : List SpaceName). map (λ s. s.text) w) (sym q) ∙ e in cc)

-- no name stands twice in the row of a partial unit
pub part_none : (n : ℕ) (part : PartialUnit) → EachPair BelowTop part.tops → NoneTwice (row_keys (part_row n part))
part_none n part rises =
    let leads = leading (filter (λ t. not (in_root t)) part.tops) in
    let rest = chains n part.tops 0 leads in
    subst NoneTwice (sym (top_row_keys (filter in_root part.tops) rest))
    (none_append (top_numbers (filter in_root part.tops)) (row_keys rest) (numbers_once (filter in_root part.tops) (pair_filter BelowTop in_root part.tops rises))
    (chains_none n part.tops rises 0 leads (leading_unlike (filter (λ t. not (in_root t)) part.tops)))
    (λ k a b. meet k (top_named (filter in_root part.tops) k a) (in_chains n part.tops 0 leads k b)))
  where
    meet : (k : EntryName) → TopNamed (filter in_root part.tops) k → InChainsKey n part.tops 0 (leading (filter (λ t. not (in_root t)) part.tops)) k → ⊥
    meet k o (ChainKey c d a x) = (let z : Within o.top.number [] ≡ InChain n c d = sym o.is ∙ x in cc)
    meet k o (LedTop t l a b e x) =
        let f = in_filter_from in_root o.top part.tops o.there in
        let number : o.top.number ≡ t.number = (let z : Within o.top.number [] ≡ Within t.number [] = sym o.is ∙ x in cc) in
        let same : o.top ≡ t = pair_one BelowTop part.tops o.top t rises f.0 a (λ lt. omega (arith, lt, number)) (λ lt. omega (arith, lt, number)) in
        let lead = in_filter_from (λ u. not (in_root u)) l part.tops (leading_in (filter (λ u. not (in_root u)) part.tops) l b) in
        inner_names l lead.1 (names_true l t e ∙ ap name_list (sym same) ∙ root_names o.top f.1)

-- ---- imports

nodes_keys : (nodes : List (Node EntryName)) → keys (row nodes) ≡ map (λ e. e.at) nodes
unfolding keys
nodes_keys [] = refl
nodes_keys (e ∷ nodes) = ap (λ (w : List EntryName). e.at ∷ w) (nodes_keys nodes)

import_places : (unit : ℕ) (ns : List ℕ) → map (λ e. e.at) (map (import_of unit) ns) ≡ map (Import unit) ns
import_places unit [] = refl
import_places unit (n ∷ ns) = ap (λ (w : List EntryName). Import unit n ∷ w) (import_places unit ns)

import_keys : (unit : ℕ) (parts : List PartialUnit) → keys (imports unit 0 parts) ≡ map (Import unit) (are_imports unit parts).parts_imported
import_keys unit parts =
    let a = are_imports unit parts in
    ap keys a.entries_are ∙ nodes_keys (map (import_of unit) a.parts_imported) ∙ import_places unit a.parts_imported

import_number : (unit m n : ℕ) → Import unit m ≡ Import unit n → m ≡ n
import_number unit m n e = cc

pub imports_none : (unit : ℕ) (parts : List PartialUnit) → NoneTwice (keys (imports unit 0 parts))
imports_none unit parts =
    let a = are_imports unit parts in
    subst NoneTwice (sym (import_keys unit parts)) (none_map (Import unit) (import_number unit) a.parts_imported (rising_none a.parts_imported a.rising))

pub import_key : (unit : ℕ) (parts : List PartialUnit) (k : EntryName) → In k (keys (imports unit 0 parts)) → (n : ℕ) × (k ≡ Import unit n)
import_key unit parts k is =
    let o = in_map_from (Import unit) k (are_imports unit parts).parts_imported (subst (In k) (import_keys unit parts) is) in
    (o.source, sym o.is)
