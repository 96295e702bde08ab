-- The row of a partial unit: its tops in no space, and chains of spaces with the tops in them.
use Rattle.std.proofs.Common.{◌≡◌, ℕ, suc, ◌+◌, ◌==◌, inl, inr, not, cond, Bool, true, false, List, [], ◌∷◌, ◌++◌, length, map, filter, get_or, refl, sym, ap, subst, ◌∙◌, append_assoc, arith, eq-eqb}
use Rattle.std.proofs.Common.{eqb-true}
use Rattle.std.proofs.lemmas.Bool.{both_ways, ne_eqb, not-true}
use Rattle.std.proofs.lemmas.List.{append-nil}
use Rattle.dwz_def_reading.specs.Documents.{entries_map, node_map}
use Rattle.dwz_def_reading.specs.Lists.{In}
use Rattle.dwz_def_reading.proofs.ListFacts.{in_map}
use Rattle.dwz_def_tops.proofs.Members.{in_filter_from}
use Rattle.dwz_plan.proofs.ListFacts.{map_in, map_map}
use Rattle.dwz_plan.proofs.ListingLemmas.{filter_within}
use Rattle.dwz_def_tops.specs.Spots.{ASpace, ATop, EntryName, Nothing, Row, SpaceName, Top}
use Rattle.dwz_def_images.specs.Plan.{PartialUnit, beside, chain_down, chains, in_root, leading, part_row, same_names, space_entry, top_row}
use Rattle.dwz_layout_items.specs.Chains.{ShowsSpaced, chain_lines, chains_by, chains_lines, firsts_by, path_lines, tops_lines}
use Rattle.dwz_layout_items.specs.Lines.{Line, line, lines, row_lines}
use Rattle.dwz_layout_items.specs.Order.{Names}

-- ---- filters

-- a test of items is one of what they are mapped to
pub mapped : {X Y : Type 0} (g : X → Y) (p : X → Bool) (q : Y → Bool) (xs : List X) → ((x : X) → In x xs → p x ≡ q (g x)) → map g (filter p xs) ≡ filter q (map g xs)
mapped g p q [] h = refl
mapped {X} {Y} g p q (x ∷ xs) h = by (p x) (h x (inl refl)) (mapped g p q xs (λ y is. h y (inr is)))
  where
    by : (b : Bool) → b ≡ q (g x) → map g (filter p xs) ≡ filter q (map g xs) → map g (cond b (x ∷ filter p xs) (filter p xs)) ≡ cond (q (g x)) (g x ∷ filter q (map g xs)) (filter q (map g xs))
    by true e more = (λ i. cond (e i) (g x ∷ more i) (more i))
    by false e more = (λ i. cond (e i) (g x ∷ more i) (more i))

-- ---- the first of each list

same_self : (a : ℕ) → a == a ≡ true
same_self a = eq-eqb a a refl

-- it is the first of those of its list
pub first_of_list : (l : ℕ → ℕ) (ts : List ℕ) (t : ℕ) → In t (firsts_by l ts) → (rest : List ℕ) × (filter (λ u. l t == l u) ts ≡ t ∷ rest)
unfolding firsts_by
first_of_list l [] t is = absurd is
first_of_list l (a ∷ ts) t (inl e) = (filter (λ u. l t == l u) ts, (λ i. cond ((ap (λ b. l t == l b) e ∙ same_self (l t)) i) (e i ∷ filter (λ u. l t == l u) ts) (filter (λ u. l t == l u) ts)))
first_of_list l (a ∷ ts) t (inr r) =
    let parts = in_filter_from (λ u. not (l a == l u)) t (firsts_by l ts) r in
    let more = first_of_list l ts t parts.0 in
    let other : l t == l a ≡ false = ne_eqb (l t) (l a) (λ e. both_ways (l a == l t) (not-true (l a == l t) parts.1) (eq-eqb (l a) (l t) (sym e))) in
    (more.0, ap (λ b. cond b (a ∷ filter (λ u. l t == l u) ts) (filter (λ u. l t == l u) ts)) other ∙ more.1)

abbrev number : Top → ℕ
number t = t.number

pub leading_in : (t : Top) (ts : List Top) → In t (leading ts) → In t ts
unfolding leading
leading_in t [] is = absurd is
leading_in t (a ∷ ts) (inl e) = inl e
leading_in t (a ∷ ts) (inr r) = inr (leading_in t ts (in_filter_from (λ u. not (same_names a u)) t (leading ts) r).0)

leading_are : (l : ℕ → ℕ) (ts : List Top) → ((t u : Top) → In t ts → In u ts → same_names t u ≡ (l t.number == l u.number)) → map number (leading ts) ≡ firsts_by l (map number ts)
unfolding leading firsts_by
leading_are l [] same = refl
leading_are l (a ∷ ts) same =
    let more = leading_are l ts (λ t u p q. same t u (inr p) (inr q)) in
    let rest : map number (filter (λ u. not (same_names a u)) (leading ts)) ≡ filter (λ v. not (l a.number == l v)) (map number (leading ts)) =
    mapped number (λ u. not (same_names a u)) (λ v. not (l a.number == l v)) (leading ts) (λ u is. ap not (same a u (inl refl) (inr (leading_in u ts is)))) in
    ap (λ (w : List ℕ). a.number ∷ w) (rest ∙ ap (filter (λ v. not (l a.number == l v))) more)

-- ---- lines

beside_lines : (f : EntryName → EntryName) (depth : ℕ) (row last : Row) → row_lines f depth (beside row last) ≡ row_lines f depth row ++ row_lines f depth last
unfolding beside row_lines
beside_lines f depth Nothing last = refl
beside_lines f depth (ATop t next) last =
    let here : List (Line EntryName) = line depth (node_map f t.node) ∷ lines (suc depth) (entries_map f t.below) in
    ap (λ (w : List (Line EntryName)). here ++ w) (beside_lines f depth next last) ∙ sym (append_assoc here (row_lines f depth next) (row_lines f depth last))
beside_lines f depth (ASpace e inner next) last =
    let here : List (Line EntryName) = line depth (node_map f e) ∷ row_lines f (suc depth) inner in
    ap (λ (w : List (Line EntryName)). here ++ w) (beside_lines f depth next last) ∙ sym (append_assoc here (row_lines f depth next) (row_lines f depth last))

module _ (f : EntryName → EntryName) (said : ℕ → SpaceName) (n : Names EntryName) (path : ℕ → List ℕ) (l : ℕ → ℕ) where
  top_lines : (depth : ℕ) (ts : List Top) (last : Row) → ((t : Top) → In t ts → n.top t.number ≡ node_map f t.node) → ((t : Top) → In t ts → n.below t.number ≡ entries_map f t.below)
      → row_lines f depth (top_row ts last) ≡ tops_lines n depth (map number ts) ++ row_lines f depth last
  unfolding top_row row_lines tops_lines
  top_lines depth [] last node below = refl
  top_lines depth (t ∷ ts) last node below =
      let here : List (Line EntryName) = line depth (n.top t.number) ∷ lines (suc depth) (n.below t.number) in
      (λ i. (line depth (sym (node t (inl refl)) i) ∷ lines (suc depth) (sym (below t (inl refl)) i)) ++ top_lines depth ts last (λ u is. node u (inr is)) (λ u is. below u (inr is)) i)
      ∙ sym (append_assoc here (tops_lines n depth (map number ts)) (row_lines f depth last))

  module _ (k : ℕ) (named : (chain depth space : ℕ) → n.in_chain chain depth space ≡ node_map f (space_entry k chain depth (said space))) where
    down_lines : (chain depth : ℕ) (spaces : List ℕ) (inner : Row) → row_lines f (2 + depth) (chain_down k chain depth (map said spaces) inner) ≡ path_lines n chain depth spaces
        ++ row_lines f (2 + (depth + length spaces)) inner
    unfolding chain_down row_lines path_lines
    down_lines chain depth [] inner = (let e : depth ≡ depth + 0 = omega arith in λ i. row_lines f (2 + e i) inner)
    down_lines chain depth (s ∷ spaces) inner =
        let one : suc (2 + depth) ≡ 2 + suc depth = omega arith in
        let many : suc depth + length spaces ≡ depth + suc (length spaces) = omega arith in
        let more : row_lines f (suc (2 + depth)) (chain_down k chain (suc depth) (map said spaces) inner) ≡ path_lines n chain (suc depth) spaces
        ++ row_lines f (2 + (depth + suc (length spaces))) inner =
        (λ i. row_lines f (one i) (chain_down k chain (suc depth) (map said spaces) inner)) ∙ down_lines chain (suc depth) spaces inner
        ∙ (λ i. path_lines n chain (suc depth) spaces ++ row_lines f (2 + many i) inner) in
        append-nil _ ∙ (λ i. line (2 + depth) (sym (named chain depth s) i) ∷ more i)

    abbrev of_list : List Top → Top → List ℕ
    of_list tops t = filter (λ u. l t.number == l u) (map number tops)

    leads_lines : (tops leads : List Top) (chain : ℕ) → ShowsSpaced f said n path l tops → ((t : Top) → In t leads → In t tops)
        → ((t : Top) → In t leads → (rest : List ℕ) × (of_list tops t ≡ t.number ∷ rest))
        → row_lines f 2 (chains k tops chain leads) ≡ chains_lines n path chain (map (of_list tops) leads)
    unfolding chains chains_lines row_lines
    leads_lines tops [] chain shown there first = refl
    leads_lines tops (t ∷ leads) chain shown there first =
        let in_it : List Top = filter (same_names t) tops in
        let inner : Row = top_row in_it Nothing in
        let spaces : List ℕ = path t.number in
        let from : (u : Top) → In u in_it → In u tops = λ u is. (in_filter_from (same_names t) u tops is).0 in
        let group : map number in_it ≡ of_list tops t = mapped number (same_names t) (λ u. l t.number == l u) tops (λ u is. shown.same t u (there t (inl refl)) is) in
        let lead : path (get_or (of_list tops t) 0 0) ≡ spaces = ap (λ (g : List ℕ). path (get_or g 0 0)) (first t (inl refl)).1 in
        let zero_more : 2 + (0 + length spaces) ≡ 2 + length spaces = omega arith in
        let own : row_lines f 2 (chain_down k chain 0 t.spaces inner) ≡ chain_lines n chain (path (get_or (of_list tops t) 0 0)) (of_list tops t) =
        ap (λ (ss : List SpaceName). row_lines f 2 (chain_down k chain 0 ss inner)) (shown.spaces t (there t (inl refl)))
        ∙ down_lines chain 0 spaces inner
        ∙ (λ i. path_lines n chain 0 spaces ++ row_lines f (zero_more i) inner)
        ∙ ap (λ (w : List (Line EntryName)). path_lines n chain 0 spaces ++ w)
        (top_lines (2 + length spaces) in_it Nothing (λ u is. shown.node u (from u is)) (λ u is. shown.below u (from u is)) ∙ append-nil _ ∙ ap (tops_lines n (2 + length spaces)) group)
        ∙ (λ i. chain_lines n chain (sym lead i) (of_list tops t)) in
        beside_lines f 2 (chain_down k chain 0 t.spaces inner) (chains k tops (suc chain) leads)
        ∙ (λ i. own i ++ leads_lines tops leads (suc chain) shown (λ u is. there u (inr is)) (λ u is. first u (inr is)) i)

    -- the tops in spaces, and those in none
    abbrev spaced : List Top → List Top
    spaced tops = filter (λ t. not (in_root t)) tops

    abbrev spaced_numbers : List Top → List ℕ
    spaced_numbers tops = filter (λ t. not (l t == 0)) (map number tops)

    spaced_are : (tops : List Top) → ShowsSpaced f said n path l tops → map number (spaced tops) ≡ spaced_numbers tops
    spaced_are tops shown = mapped number (λ t. not (in_root t)) (λ t. not (l t == 0)) tops (λ t is. ap not (shown.root t is))

    -- those of the list of a top in spaces are in spaces
    list_spaced : (tops : List Top) → ShowsSpaced f said n path l tops → (t : Top) → In t (spaced tops) → filter (λ u. l t.number == l u) (spaced_numbers tops) ≡ of_list tops t
    list_spaced tops shown t is =
        let parts = in_filter_from (λ u. not (in_root u)) t tops is in
        let some : l t.number == 0 ≡ false = sym (shown.root t parts.0) ∙ not-true (in_root t) parts.1 in
        filter_within (λ u. l t.number == l u) (λ u. not (l u == 0)) (map number tops)
        (λ u e. ap not (ap (λ (a : ℕ). a == 0) (sym (eqb-true (l t.number) (l u) e)) ∙ some))

    pub partial_row : (part : PartialUnit) → ShowsSpaced f said n path l part.tops
        → row_lines f 2 (part_row k part) ≡ tops_lines n 2 (filter (λ t. l t == 0) (map number part.tops)) ++ chains_lines n path 0 (chains_by l (spaced_numbers part.tops))
    unfolding chains_by
    partial_row part shown =
        let tops : List Top = part.tops in
        let leads : List Top = leading (spaced tops) in
        let in_spaced : (t : Top) → In t leads → In t (spaced tops) = λ t is. leading_in t (spaced tops) is in
        let from : (t : Top) → In t (spaced tops) → In t tops = λ t is. (in_filter_from (λ u. not (in_root u)) t tops is).0 in
        let unspaced : map number (filter in_root tops) ≡ filter (λ t. l t == 0) (map number tops) = mapped number in_root (λ t. l t == 0) tops (λ t is. shown.root t is) in
        let numbers_are : map number leads ≡ firsts_by l (spaced_numbers tops) =
        leading_are l (spaced tops) (λ t u p q. shown.same t u (from t p) (from u q)) ∙ ap (firsts_by l) (spaced_are tops shown) in
        let first : (t : Top) → In t leads → (rest : List ℕ) × (of_list tops t ≡ t.number ∷ rest) = λ t is.
        (let o = first_of_list l (spaced_numbers tops) t.number (subst (λ (w : List ℕ). In t.number w) numbers_are (in_map number t leads is)) in
        (o.0, sym (list_spaced tops shown t (in_spaced t is)) ∙ o.1)) in
        let groups : map (of_list tops) leads ≡ map (λ t. filter (λ u. l t == l u) (spaced_numbers tops)) (firsts_by l (spaced_numbers tops)) =
        map_in (of_list tops) (λ t. filter (λ u. l t.number == l u) (spaced_numbers tops)) leads (λ t is. sym (list_spaced tops shown t (in_spaced t is)))
        ∙ sym (map_map (λ t. filter (λ u. l t == l u) (spaced_numbers tops)) number leads)
        ∙ ap (map (λ t. filter (λ u. l t == l u) (spaced_numbers tops))) numbers_are in
        top_lines 2 (filter in_root tops) (chains k tops 0 leads) (λ t is. shown.node t (in_filter_from in_root t tops is).0) (λ t is. shown.below t (in_filter_from in_root t tops is).0)
        ∙ (λ i. tops_lines n 2 (unspaced i) ++ leads_lines tops leads 0 shown (λ t is. from t (in_spaced t is)) first i)
        ∙ ap (λ (gs : List (List ℕ)). tops_lines n 2 (filter (λ t. l t == 0) (map number tops)) ++ chains_lines n path 0 gs) groups
