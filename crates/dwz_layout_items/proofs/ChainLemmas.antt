-- Lines of chains and of their tops, one more at the end.
use Rattle.std.proofs.Common.{◌≡◌, ℕ, zero, suc, ◌+◌, ◌-◌, ◌<◌, ◌≤◌, List, [], ◌∷◌, ◌++◌, length, get_or, Some, slice_get, refl, sym, ap, subst, ◌∙◌, append_assoc, arith, length-append}
use Rattle.std.proofs.lemmas.List.{append-nil}
use Rattle.dwz_layout_items.specs.declared.order.ItemKind.TheVariants.{InChain, Top}
use Rattle.dwz_layout_items.specs.declared.partial.SpaceRow.{SpaceRow}
use Rattle.dwz_layout_items.specs.Chains.{Up, chain_lines, chains_lines, down, path_lines, tops_lines}
use Rattle.dwz_layout_items.specs.Lines.{Line, line, lines}
use Rattle.dwz_layout_items.specs.Order.{Names, what_lines}

pub tops_append : {K : Type 0} (n : Names K) (depth : ℕ) (a b : List ℕ) → tops_lines n depth (a ++ b) ≡ tops_lines n depth a ++ tops_lines n depth b
unfolding tops_lines
tops_append n depth [] b = refl
tops_append {K} n depth (t ∷ a) b =
    let here : List (Line K) = line depth (n.top t) ∷ lines (suc depth) (n.below t) in
    ap (λ (w : List (Line K)). here ++ w) (tops_append n depth a b) ∙ sym (append_assoc here (tops_lines n depth a) (tops_lines n depth b))

pub tops_one : {K : Type 0} (n : Names K) (depth t : ℕ) → tops_lines n depth (t ∷ []) ≡ what_lines n depth (Top t)
unfolding tops_lines
tops_one n depth t = append-nil (line depth (n.top t) ∷ lines (suc depth) (n.below t))

pub tops_none : {K : Type 0} (n : Names K) (depth : ℕ) (so_far : List (Line K)) → so_far ≡ so_far ++ tops_lines n depth []
unfolding tops_lines
tops_none n depth so_far = sym (append-nil so_far)

path_append : {K : Type 0} (n : Names K) (chain depth : ℕ) (a : List ℕ) (s : ℕ) → path_lines n chain depth (a ++ s ∷ []) ≡ path_lines n chain depth a
    ++ line (2 + (depth + length a)) (n.in_chain chain (depth + length a) s) ∷ []
unfolding path_lines
path_append {K} n chain depth [] s = (let e : depth ≡ depth + 0 = omega arith in λ i. line (2 + e i) (n.in_chain chain (e i) s) ∷ [])
path_append {K} n chain depth (r ∷ a) s =
    let e : suc depth + length a ≡ depth + suc (length a) = omega arith in
    ap (λ (w : List (Line K)). line (2 + depth) (n.in_chain chain depth r) ∷ w)
    (path_append n chain (suc depth) a s ∙ (λ i. path_lines n chain (suc depth) a ++ line (2 + e i) (n.in_chain chain (e i) s) ∷ []))

pub down_length : (ups : List ℕ) → length (down ups) ≡ length ups
unfolding down
down_length [] = refl
down_length (s ∷ ups) = omega (arith, length-append (down ups) (s ∷ []), down_length ups)

-- one space more, the innermost
pub path_more : {K : Type 0} (n : Names K) (chain : ℕ) (ups : List ℕ) (s depth : ℕ) → depth ≡ 2 + length ups → path_lines n chain 0 (down (s ∷ ups)) ≡ path_lines n chain 0 (down ups)
    ++ what_lines n depth (InChain chain s)
unfolding down
path_more {K} n chain ups s depth e =
    let many = down_length ups in
    let one : 2 + (0 + length (down ups)) ≡ depth = omega (arith, many, e) in
    let in_it : 0 + length (down ups) ≡ depth - 2 = omega (arith, many, e) in
    path_append n chain 0 (down ups) s ∙ (λ i. path_lines n chain 0 (down ups) ++ line (one i) (n.in_chain chain (in_it i) s) ∷ [])

pub path_none : {K : Type 0} (n : Names K) (chain : ℕ) (so_far : List (Line K)) → so_far ≡ so_far ++ path_lines n chain 0 (down [])
unfolding path_lines down
path_none n chain so_far = sym (append-nil so_far)

-- ---- a row that is there

abbrev pub no_row : SpaceRow
no_row = record { space = 0; outer = 0 }

pub got : (rows : List SpaceRow) (k : ℕ) → k < length rows → slice_get rows k ≡ Some (get_or rows k no_row)
got [] k lt = absurd (omega arith)
got (r ∷ rows) zero lt = refl
got (r ∷ rows) (suc k) lt = got rows k (omega arith)

-- the space of the row before a number, and those above it
pub record OneUp (rows : List SpaceRow) (inner s : ℕ) (ups : List ℕ) : Type 0 where
  pub space : (get_or rows (inner - 1) no_row).space ≡ s
  pub up : Up rows (get_or rows (inner - 1) no_row).outer ups

pub one_up : (rows : List SpaceRow) (inner s : ℕ) (ups : List ℕ) → inner ≤ length rows → Up rows inner (s ∷ ups) → OneUp rows inner s ups
one_up rows inner s ups within u =
    let at : u.0 ≡ inner - 1 = omega (arith, u.2) in
    let lt : inner - 1 < length rows = omega (arith, u.2) in
    let both : Some u.1 ≡ Some (get_or rows (inner - 1) no_row) = sym u.3 ∙ ap (λ (k : ℕ). slice_get rows k) at ∙ got rows (inner - 1) lt in
    let is : u.1 ≡ get_or rows (inner - 1) no_row = cc in
    record { space = ap (λ (r : SpaceRow). r.space) (sym is) ∙ u.4; up = subst (λ (r : SpaceRow). Up rows r.outer ups) is u.5 }

pub depth_up : (rows : List SpaceRow) (inner depth : ℕ) (ups : List ℕ) → inner ≤ length rows → 0 < inner → Up rows inner ups
    → ((vs : List ℕ) → Up rows (get_or rows (inner - 1) no_row).outer vs → depth ≡ 2 + length vs) → depth + 1 ≡ 2 + length ups
depth_up rows inner depth [] within some u more = absurd (omega (arith, u))
depth_up rows inner depth (s ∷ ups) within some u more = let o = one_up rows inner s ups within u in omega (arith, more ups o.up)

pub lines_up : {K : Type 0} (n : Names K) (rows : List SpaceRow) (inner depth chain : ℕ) (ups : List ℕ) (old new final : List (Line K)) → inner ≤ length rows → 0 < inner → Up rows inner ups
    → ((vs : List ℕ) → Up rows (get_or rows (inner - 1) no_row).outer vs → depth ≡ 2 + length vs)
    → ((vs : List ℕ) → Up rows (get_or rows (inner - 1) no_row).outer vs → new ≡ old ++ path_lines n chain 0 (down vs))
    → final ≡ new ++ what_lines n depth (InChain chain (get_or rows (inner - 1) no_row).space) → final ≡ old ++ path_lines n chain 0 (down ups)
lines_up n rows inner depth chain [] old new final within some u deep more last = absurd (omega (arith, u))
lines_up {K} n rows inner depth chain (s ∷ ups) old new final within some u deep more last =
    let o = one_up rows inner s ups within u in
    let here : List (Line K) = what_lines n depth (InChain chain s) in
    last
    ∙ (λ i. more ups o.up i ++ what_lines n depth (InChain chain (o.space i)))
    ∙ append_assoc old (path_lines n chain 0 (down ups)) here
    ∙ ap (λ (w : List (Line K)). old ++ w) (sym (path_more n chain ups s depth (deep ups o.up)))

pub depth_none : (rows : List SpaceRow) (inner : ℕ) (ups : List ℕ) → inner ≡ 0 → Up rows inner ups → 2 ≡ 2 + length ups
depth_none rows inner [] none u = refl
depth_none rows inner (s ∷ ups) none u = absurd (omega (arith, u.2, none))

pub lines_none : {K : Type 0} (n : Names K) (rows : List SpaceRow) (inner chain : ℕ) (ups : List ℕ) (old : List (Line K)) → inner ≡ 0 → Up rows inner ups → old ≡ old ++ path_lines n chain 0 (down ups)
lines_none n rows inner chain [] old none u = path_none n chain old
lines_none n rows inner chain (s ∷ ups) old none u = absurd (omega (arith, u.2, none))

-- ---- one chain more at the end

pub chains_more : {K : Type 0} (n : Names K) (path : ℕ → List ℕ) (chain : ℕ) (gs : List (List ℕ)) (g : List ℕ)
    → chains_lines n path chain (gs ++ g ∷ []) ≡ chains_lines n path chain gs ++ chain_lines n (chain + length gs) (path (get_or g 0 0)) g
unfolding chains_lines
chains_more {K} n path chain [] g = append-nil _ ∙ (let e : chain ≡ chain + 0 = omega arith in λ i. chain_lines n (e i) (path (get_or g 0 0)) g)
chains_more {K} n path chain (h ∷ gs) g =
    let here : List (Line K) = chain_lines n chain (path (get_or h 0 0)) h in
    let e : suc chain + length gs ≡ chain + suc (length gs) = omega arith in
    ap (λ (w : List (Line K)). here ++ w) (chains_more n path (suc chain) gs g ∙ (λ i. chains_lines n path (suc chain) gs ++ chain_lines n (e i) (path (get_or g 0 0)) g))
    ∙ sym (append_assoc here (chains_lines n path (suc chain) gs) (chain_lines n (chain + suc (length gs)) (path (get_or g 0 0)) g))

pub chains_none : {K : Type 0} (n : Names K) (path : ℕ → List ℕ) (so_far : List (Line K)) → so_far ≡ so_far ++ chains_lines n path 0 []
unfolding chains_lines
chains_none n path so_far = sym (append-nil so_far)
