-- Looks at nodes are looks at the tops that they show, by induction on the depth: a look that is one deeper asks for equal labels, which are
-- equal bare trees, and for the look before of each two targets.
use Rattle.std.proofs.Common.{◌≡◌, ℕ, zero, suc, ◌<◌, ◌≤◌, true, false, List, [], ◌∷◌, length, get_or, sym, ap, subst, ◌∙◌, ⊎_elim, arith}
use Rattle.std.proofs.lemmas.Bool.{cases_Bool}
use Rattle.std.proofs.lemmas.List.Elements.{AllZip-get_or, length_all_zip}
use Rattle.std.specs.List.{AllZip}
use Rattle.dwz_def_reading.specs.Lists.{Each, In}
use Rattle.dwz_def_reading.proofs.DecideLemmas.{if_false, if_true}
use Rattle.dwz_nodes.specs.Graph.{IsClosed, Node, label_at, targets_at}
use Rattle.dwz_nodes.specs.Looks.{LookEqual}
use Rattle.dwz_def_tops.proofs.Members.{each_more}
use Rattle.dwz_def_tops.specs.Alike.{Look, Movable}
use Rattle.dwz_def_tops.specs.Deciding.{is_movable}
use Rattle.dwz_def_tops.specs.Spots.{EntryName, FileUnit, Top, tops_of}
use Rattle.dwz_def_tops.specs.Targets.{targets_of}
use Rattle.dwz_def_tops.proofs.AlikeBound.{movable_closed, movable_decides}
use Rattle.dwz_def_tops.proofs.AlikeLooks.{look_in, look_out}
use Rattle.dwz_def_tops.proofs.TopNumbers.{number_below, one_top, tops_numbers, top_at}
use Rattle.dwz_label.specs.Nodes.{AreTopNodes, SameBare, ShowsBound, ShowsMovable}
use Rattle.dwz_label.proofs.Bare.{bare_joins, bare_of, bare_turns, targets_among, top_whole, top_zip}
use Rattle.dwz_label.proofs.Pairs.{zip_from, zip_more}

each_at : (Q : ℕ → Type 0) (xs : List ℕ) (k d : ℕ) → Each Q xs → k < length xs → Q (get_or xs k d)
each_at Q [] k d h l = absurd (omega arith)
each_at Q (x ∷ xs) zero d h l = h.0
each_at Q (x ∷ xs) (suc k) d h l = each_at Q xs k d h.1 (omega arith)

pub top_below : (units : List (FileUnit EntryName)) (t : Top) → In t (tops_of units) → t.number < length (tops_of units)
top_below units t i = let low = number_below 0 (tops_of units) t (tops_numbers units) i in omega arith

pub movable_below : (units : List (FileUnit EntryName)) (n : ℕ) → Movable units n → n < length (tops_of units)
movable_below units n m = let low = top_below units m.top m.is_top in let same = m.number in omega arith

module _ (units : List (FileUnit EntryName)) (g : List Node) (nodes : AreTopNodes units g) where
  pub movable_node : (t : Top) → In t (tops_of units) → Movable units t.number → ShowsMovable units g t
  movable_node t i m = if_true (is_movable units t) _ _ ((movable_decides units t i).1 m) (nodes.each t i)

  pub bound_node : (t : Top) → In t (tops_of units) → is_movable units t ≡ false → ShowsBound g t
  bound_node t i e = if_false (is_movable units t) _ _ e (nodes.each t i)

  -- references of movable tops go to movable tops
  movable_targets : (t : Top) → In t (tops_of units) → Movable units t.number → Each (Movable units) (targets_of t)
  movable_targets t i m = targets_among (Movable units) t ((movable_closed units (Movable units) (λ n x. x) (λ n x. x)).inside t i m)

  top_closed : (t : Top) → In t (tops_of units) → (k d : ℕ) → k < length (targets_at g t.number) → get_or (targets_at g t.number) k d < length g
  top_closed t i k d l = ⊎_elim
      (λ (e : is_movable units t ≡ true).
      let m = (movable_decides units t i).0 e in
      let inside = each_more (Movable units) (λ n. n < length g) (targets_of t) (λ n f. let low = movable_below units n f in let len = nodes.len in omega arith) (movable_targets t i m) in
      each_at (λ n. n < length g) (targets_at g t.number) k d (subst (λ (xs : List ℕ). Each (λ n. n < length g) xs) (sym (movable_node t i m).targets) inside) l)
      (λ (e : is_movable units t ≡ false). let none = ap (λ (xs : List ℕ). length xs) (bound_node t i e).targets in absurd (omega arith))
      (cases_Bool (is_movable units t))

  pub nodes_closed : IsClosed g
  nodes_closed a l k d j =
      let len = nodes.len in
      let r = top_at 0 (tops_of units) a (tops_numbers units) (omega arith) (omega arith) in
      subst (λ (n : ℕ). k < length (targets_at g n) → get_or (targets_at g n) k d < length g) r.2 (top_closed r.0 r.1 k d) j

  -- ---- labels

  label_same : (a b : Top) → In a (tops_of units) → In b (tops_of units) → Movable units a.number → Movable units b.number → label_at g a.number ≡ label_at g b.number → SameBare a b
  label_same a b i j m n e =
      let x = (movable_node a i m).label.is in
      let y = (movable_node b j n).label.is in
      let one : x.top ≡ y.top = one_top 0 (tops_of units) x.top y.top (tops_numbers units) x.is_top y.is_top (x.number ∙ e ∙ sym y.number) in
      bare_joins a x.top b x.same (bare_turns b x.top (subst (λ (t : Top). SameBare b t) (sym one) y.same))

  label_least : (a b : Top) → In a (tops_of units) → In b (tops_of units) → Movable units a.number → Movable units b.number → SameBare a b → label_at g a.number ≤ label_at g b.number
  label_least a b i j m n h =
      let x = (movable_node a i m).label in
      let y = (movable_node b j n).label in
      x.least (label_at g b.number) y.inside (record { top = y.is.top; is_top = y.is.is_top; number = y.is.number; movable = y.is.movable; same = bare_joins a b y.is.top h y.is.same })

  same_label : (a b : Top) → In a (tops_of units) → In b (tops_of units) → Movable units a.number → Movable units b.number → SameBare a b → label_at g a.number ≡ label_at g b.number
  same_label a b i j m n h =
      let low = label_least a b i j m n h in
      let high = label_least b a j i n m (bare_turns a b h) in
      omega arith

  -- ---- looks

  abbrev IsLook : ℕ → ℕ → ℕ → Type 0
  IsLook k m n = (LookEqual g k m n → Look (tops_of units) k m n) × (Look (tops_of units) k m n → LookEqual g k m n)

  one_deeper : (k : ℕ) → ((m n : ℕ) → Movable units m → Movable units n → IsLook k m n) → (a b : Top) → In a (tops_of units) → In b (tops_of units) → Movable units a.number
      → Movable units b.number → IsLook (suc k) a.number b.number
  one_deeper k before a b i j m n =
      let tops = tops_of units in
      let ts = targets_at g a.number in
      let us = targets_at g b.number in
      let xs : ts ≡ targets_of a = (movable_node a i m).targets in
      let ys : us ≡ targets_of b = (movable_node b j n).targets in
      let inside = movable_targets a i m in
      let others = movable_targets b j n in (
        λ h. (
            let here : AllZip (LookEqual g k) ts us = zip_from (LookEqual g k) ts us h.1 h.2 in
            let two : AllZip (LookEqual g k) (targets_of a) (targets_of b) = subst (λ (p : List ℕ × List ℕ). AllZip (LookEqual g k) p.0 p.1) (λ l. (xs l, ys l)) here in
            let deep = zip_more (Movable units) (LookEqual g k) (Look tops k) (λ p q u v. (before p q u v).0) (targets_of a) (targets_of b) inside others two in
            look_out tops (tops_numbers units) k a b i j (top_whole (Look tops k) a b (label_same a b i j m n h.0) deep)),
        λ h. (
            let same = look_in tops k a b i j h in
            let deep = zip_more (Movable units) (Look tops k) (LookEqual g k) (λ p q u v. (before p q u v).1) (targets_of a) (targets_of b) inside others (top_zip (Look tops k) a b same) in
            let two : AllZip (LookEqual g k) ts us = subst (λ (p : List ℕ × List ℕ). AllZip (LookEqual g k) p.0 p.1) (λ l. (sym xs l, sym ys l)) deep in
            (same_label a b i j m n (bare_of (Look tops k) a b same), length_all_zip (LookEqual g k) ts us two, λ l f. AllZip-get_or (LookEqual g k) ts us l 0 0 two f)),
      )

  pub node_looks : (k m n : ℕ) → Movable units m → Movable units n → IsLook k m n
  unfolding Look
  node_looks zero m n u v = (λ h. tt, λ h. tt)
  node_looks (suc k) m n u v =
      let a = u.top in
      let b = v.top in
      let x : Movable units a.number = subst (λ (i : ℕ). Movable units i) (sym u.number) u in
      let y : Movable units b.number = subst (λ (i : ℕ). Movable units i) (sym v.number) v in
      let here : IsLook (suc k) a.number b.number = one_deeper k (node_looks k) a b u.is_top v.is_top x y in
      subst (λ (p : ℕ × ℕ). IsLook (suc k) p.0 p.1) (λ l. (u.number l, v.number l)) here
