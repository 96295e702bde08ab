-- The rows of partial units: chains of spaces, and what they hold.
use Rattle.std.proofs.Common.{◌≡◌, ◌⊎◌, ℕ, suc, not, Bool, true, false, List, [], ◌∷◌, ◌++◌, map, Some, refl, sym, ap, subst, ◌∙◌, inl, inr}
use Rattle.std.specs.List.{filter}
use Rattle.dwz_def_reading.specs.Documents.{Node, first_named}
use Rattle.dwz_def_reading.specs.Lists.{In}
use Rattle.dwz_def_tops.specs.Spaces.{space_text}
use Rattle.dwz_def_tops.proofs.Members.{in_filter, in_filter_from}
use Rattle.dwz_def_tops.specs.Spots.{EntryName, Nothing, Row, SpaceName, Top, name_list, same_numbers}
use Rattle.dwz_def_tops.proofs.AlikeTests.{by_decides, numbers_decide}
use Rattle.dwz_def_plan.specs.IsPlan.{Has, Item, OfSpace, OfTop, RowHolds, SpaceOf}
use Rattle.dwz_def_plan.specs.Plan.{PartialUnit, beside, chain_down, chains, in_root, leading, part_row, same_names, space_entry, top_row}
use Rattle.dwz_def_plan.proofs.RowParts.{IsOne, beside_from, beside_left, beside_right, top_row_from, top_row_last, top_row_to}

-- ---- chains of spaces

abbrev texts : List SpaceName → List (List ℕ)
texts spaces = map (λ s. s.text) spaces

pub entry_text : (part chain depth : ℕ) (s : SpaceName) → space_text (space_entry part chain depth s) ≡ Some s.text
unfolding space_text first_named
entry_text part chain depth s = refl

down_to : (part chain depth : ℕ) (spaces : List SpaceName) (inner : Row) (x : Item) → Has [] x inner → Has (texts spaces) x (chain_down part chain depth spaces inner)
unfolding chain_down
down_to part chain depth [] inner x h = h
down_to part chain depth (s ∷ spaces) inner x h = inr (inl (s.text, texts spaces, entry_text part chain depth s, refl, down_to part chain (suc depth) spaces inner x h))

-- a space of the chain, or what stands in the innermost one
pub record OfChain (part : ℕ) (spaces : List SpaceName) (names : List (List ℕ)) (x : Item) : Type 0 where
  pub name : SpaceName
  pub chain : ℕ
  pub depth : ℕ
  pub is : OfSpace (space_entry part chain depth name) ≡ x
  pub from : In name spaces
  pub others : List (List ℕ)
  pub names_are : texts spaces ≡ names ++ name.text ∷ others

down_from : (part chain depth : ℕ) (spaces : List SpaceName) (inner : Row) (names : List (List ℕ)) (x : Item) → Has names x (chain_down part chain depth spaces inner)
    → OfChain part spaces names x ⊎ ((others : List (List ℕ)) × (names ≡ texts spaces ++ others) × Has others x inner)
unfolding chain_down
down_from part chain depth [] inner names x h = inr (names, refl, h)
down_from part chain depth (s ∷ spaces) inner names x (inl y) = inl (record {
  name = s;
  chain = chain;
  depth = depth;
  is = y.1;
  from = inl refl;
  others = texts spaces;
  names_are = ap (λ (w : List (List ℕ)). w ++ s.text ∷ texts spaces) (sym y.0);
})
down_from part chain depth (s ∷ spaces) inner names x (inr (inr y)) = absurd y
down_from part chain depth (s ∷ spaces) inner names x (inr (inl i)) =
    let same : s.text ≡ i.0 = (let a = entry_text part chain depth s in let b = i.2 in cc) in
    elim (down_from part chain (suc depth) spaces inner i.1 x i.4) [
      | inl o ↦ inl (record {
        name = o.name;
        chain = o.chain;
        depth = o.depth;
        is = o.is;
        from = inr o.from;
        others = o.others;
        names_are = ap (λ (w : List (List ℕ)). s.text ∷ w) o.names_are ∙ ap (λ (w : List ℕ). w ∷ (i.1 ++ o.name.text ∷ o.others)) same ∙ ap (λ (w : List (List ℕ)). w ++ o.name.text ∷ o.others)
            (sym i.3);
      })
      | inr o ↦ inr (o.0, i.3 ∙ ap (λ (w : List ℕ). w ∷ i.1) (sym same) ∙ ap (λ (w : List (List ℕ)). s.text ∷ w) o.1, o.2)
    ]

-- ---- equal name lists

pub names_true : (t u : Top) → same_names t u ≡ true → name_list t ≡ name_list u
names_true t u e = (by_decides same_numbers numbers_decide (name_list t) (name_list u)).0 e

pub names_same : (t u : Top) → name_list t ≡ name_list u → same_names t u ≡ true
names_same t u e = (by_decides same_numbers numbers_decide (name_list t) (name_list u)).1 e

-- the first top with a top's name list
pub record LedBy (leads : List Top) (t : Top) : Type 0 where
  pub lead : Top
  pub there : In lead leads
  pub same : same_names lead t ≡ true

pub led : (tops : List Top) (t : Top) → In t tops → LedBy (leading tops) t
unfolding leading
led [] t h = absurd h
led (u ∷ tops) t (inl e) = record { lead = u; there = inl refl; same = names_same u t (ap name_list e) }
led (u ∷ tops) t (inr r) = go (led tops t r) where
  pick : (o : LedBy (leading tops) t) → (b : Bool) → same_names u o.lead ≡ b → LedBy (u ∷ filter (λ v. not (same_names u v)) (leading tops)) t
  pick o true q = record { lead = u; there = inl refl; same = names_same u t (names_true u o.lead q ∙ names_true o.lead t o.same) }
  pick o false q = record { lead = o.lead; there = inr (in_filter (λ v. not (same_names u v)) o.lead (leading tops) o.there (ap not q)); same = o.same }

  go : LedBy (leading tops) t → LedBy (u ∷ filter (λ v. not (same_names u v)) (leading tops)) t
  go o = pick o (same_names u o.lead) refl

pub leading_in : (tops : List Top) (t : Top) → In t (leading tops) → In t tops
unfolding leading
leading_in [] t h = absurd h
leading_in (u ∷ tops) t (inl e) = inl e
leading_in (u ∷ tops) t (inr r) = inr (leading_in tops t (in_filter_from (λ v. not (same_names u v)) t (leading tops) r).0)

-- ---- all chains of a partial unit

pub chains_to : (part : ℕ) (tops : List Top) (chain : ℕ) (leads : List Top) (t : Top) → In t tops → LedBy leads t → Has (name_list t) (OfTop t) (chains part tops chain leads)
unfolding chains
chains_to part tops chain [] t there l = absurd l.there
chains_to part tops chain (u ∷ leads) t there l = go (λ r. chains_to part tops (suc chain) leads t there (record { lead = l.lead; there = r; same = l.same })) l.there where
  first : Row
  first = chain_down part chain 0 u.spaces (top_row (filter (same_names u) tops) Nothing)

  here : same_names u t ≡ true → Has (name_list t) (OfTop t) first
  here e =
      let inside = top_row_to (filter (same_names u) tops) Nothing t (in_filter (same_names u) t tops there e) in
      subst (λ (w : List (List ℕ)). Has w (OfTop t) first) (names_true u t e) (down_to part chain 0 u.spaces (top_row (filter (same_names u) tops) Nothing) (OfTop t) inside)

  go : (In l.lead leads → Has (name_list t) (OfTop t) (chains part tops (suc chain) leads)) → In l.lead (u ∷ leads) → Has (name_list t) (OfTop t) (beside first (chains part tops (suc chain) leads))
  go more (inl e) = beside_left first (chains part tops (suc chain) leads) (name_list t) (OfTop t) (here (ap (λ (w : Top). same_names w t) e ∙ l.same))
  go more (inr r) = beside_right first (chains part tops (suc chain) leads) (name_list t) (OfTop t) (more r)

-- a top with its names, or a space with names of one of the first tops
pub data InChains (part : ℕ) (tops leads : List Top) (names : List (List ℕ)) (x : Item) : Type 0 where
  TopThere : (t : Top) → In t tops → name_list t ≡ names → OfTop t ≡ x → InChains part tops leads names x
  SpaceThere : (t : Top) → In t leads → OfChain part t.spaces names x → InChains part tops leads names x

pub nil_right : (xs : List (List ℕ)) → xs ++ [] ≡ xs
nil_right [] = refl
nil_right (x ∷ xs) = ap (λ (w : List (List ℕ)). x ∷ w) (nil_right xs)

pub chains_from : (part : ℕ) (tops : List Top) (chain : ℕ) (leads : List Top) (names : List (List ℕ)) (x : Item) → Has names x (chains part tops chain leads) → InChains part tops leads names x
unfolding chains
chains_from part tops chain [] names x h = absurd h
chains_from part tops chain (u ∷ leads) names x h = pick (beside_from first rest names x h) (chains_from part tops (suc chain) leads names x) where
  row : Row
  row = top_row (filter (same_names u) tops) Nothing

  later : InChains part tops leads names x → InChains part tops (u ∷ leads) names x
  later (TopThere t a b c) = TopThere t a b c
  later (SpaceThere t a b) = SpaceThere t (inr a) b

  inside : (others : List (List ℕ)) → names ≡ name_list u ++ others → IsOne (filter (same_names u) tops) others x ⊎ ⊥ → InChains part tops (u ∷ leads) names x
  inside others e (inl o) =
      let f = in_filter_from (same_names u) o.top tops o.there in
      TopThere o.top f.0 (sym (names_true u o.top f.1) ∙ sym (e ∙ ap (λ (w : List (List ℕ)). name_list u ++ w) o.none ∙ nil_right (name_list u))) o.is
  inside others e (inr z) = absurd z

  first : Row
  first = chain_down part chain 0 u.spaces row

  rest : Row
  rest = chains part tops (suc chain) leads

  pick : Has names x first ⊎ Has names x rest → (Has names x rest → InChains part tops leads names x) → InChains part tops (u ∷ leads) names x
  pick (inl a) more = elim (down_from part chain 0 u.spaces row names x a) [
    | inl o ↦ SpaceThere u (inl refl) o
    | inr o ↦ inside o.0 o.1 (top_row_from (filter (same_names u) tops) Nothing o.0 x o.2)
  ]
  pick (inr b) more = later (more b)

-- ---- the row of a partial unit

pub root_names : (t : Top) → in_root t ≡ true → name_list t ≡ []
root_names t e = go t.spaces refl e where
  go : (s : List SpaceName) → t.spaces ≡ s → in_root (record t { spaces = s }) ≡ true → name_list t ≡ []
  go [] q h = ap (λ (w : List SpaceName). map (λ s. s.text) w) q
  go (n ∷ s) q h = absurd cc

top_item : (t u : Top) → OfTop t ≡ OfTop u → t ≡ u
top_item t u e = cc

pub part_is : (n : ℕ) (part : PartialUnit) → RowHolds n part.tops (part_row n part)
part_is n part = record {
  tops_are = λ names t. (top_there names t, (λ h. subst (λ (w : List (List ℕ)). Has w (OfTop t) (part_row n part)) h.1 (there t h.0)));
  spaces_are =
      λ names e h. space_there names e h;
} where
  roots : List Top
  roots = filter in_root part.tops

  leads : List Top
  leads = leading (filter (λ t. not (in_root t)) part.tops)

  last : Row
  last = chains n part.tops 0 leads

  in_one : (names : List (List ℕ)) (t : Top) → InChains n part.tops leads names (OfTop t) → In t part.tops × (name_list t ≡ names)
  in_one names t (TopThere u a b c) = (subst (λ (w : Top). In w part.tops) (top_item u t c) a, subst (λ (w : Top). name_list w ≡ names) (top_item u t c) b)
  in_one names t (SpaceThere u a b) = absurd (let e = b.is in cc)

  top_there : (names : List (List ℕ)) (t : Top) → Has names (OfTop t) (part_row n part) → In t part.tops × (name_list t ≡ names)
  top_there names t h = elim (top_row_from roots last names (OfTop t) h) [
    | inl o ↦
        let f = in_filter_from in_root o.top part.tops o.there in
        let same = top_item o.top t o.is in
        (subst (λ (w : Top). In w part.tops) same f.0, ap name_list (sym same) ∙ root_names o.top f.1 ∙ sym o.none)
    | inr b ↦ in_one names t (chains_from n part.tops 0 leads names (OfTop t) b)
  ]

  place : (t : Top) → In t part.tops → (b : Bool) → in_root t ≡ b → Has (name_list t) (OfTop t) (part_row n part)
  place t is true q = subst (λ (w : List (List ℕ)). Has w (OfTop t) (part_row n part)) (sym (root_names t q)) (top_row_to roots last t (in_filter in_root t part.tops is q))
  place t is false q = top_row_last roots last (name_list t) (OfTop t)
      (chains_to n part.tops 0 leads t is (led (filter (λ u. not (in_root u)) part.tops) t (in_filter (λ u. not (in_root u)) t part.tops is (ap not q))))

  there : (t : Top) → In t part.tops → Has (name_list t) (OfTop t) (part_row n part)
  there t is = place t is (in_root t) refl

  space_node : (d e : Node EntryName) → OfSpace d ≡ OfSpace e → d ≡ e
  space_node d e h = cc

  in_space : (names : List (List ℕ)) (e : Node EntryName) → InChains n part.tops leads names (OfSpace e) → SpaceOf n part.tops names e
  in_space names e (TopThere t a b c) = absurd cc
  in_space names e (SpaceThere t a b) = record {
    top = t;
    there = (in_filter_from (λ u. not (in_root u)) t part.tops (leading_in (filter (λ u. not (in_root u)) part.tops) t a)).0;
    name = b.name;
    chain = b.chain;
    depth = b.depth;
    is = sym (space_node (space_entry n b.chain b.depth b.name) e b.is);
    from = b.from;
    others = b.others;
    names_are = b.names_are;
  }

  space_there : (names : List (List ℕ)) (e : Node EntryName) → Has names (OfSpace e) (part_row n part) → SpaceOf n part.tops names e
  space_there names e h = elim (top_row_from roots last names (OfSpace e) h) [
    | inl o ↦ absurd (let x = o.is in cc)
    | inr b ↦ in_space names e (chains_from n part.tops 0 leads names (OfSpace e) b)
  ]
