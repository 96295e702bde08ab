-- The least way between the nodes of two tops is their least chain: looks at nodes are looks at tops, targets are those of references, and
-- where looks of its depth find two tops equal, no chain of less depth tells these apart.
use Rattle.std.proofs.Common.{◌≡◌, ℕ, zero, suc, ◌+◌, ◌-◌, ◌<◌, ◌≤◌, inl, inr, List, [], ◌∷◌, length, get_or, Some, slice_get, sym, ap, subst, ◌∙◌, arith}
use Rattle.std.specs.Prelude.{◌⊎◌}
use Rattle.std.proofs.lemmas.Option.{get_or_from_slice_get, slice_get-get_or}
use Rattle.dwz_model.specs.Lists.{In}
use Rattle.dwz_model.proofs.ListFacts.{got_in}
use Rattle.dwz_model.proofs.Members.{each_in}
use Rattle.dwz_nodes.specs.Graph.{Node, targets_at}
use Rattle.dwz_nodes.specs.Looks.{Alike as AlikeNodes, LookEqual}
use Rattle.dwz_def_tops.specs.Alike.{Alike, Look, Movable, SameTop}
use Rattle.dwz_def_tops.specs.Spots.{EntryName, FileUnit, Top, tops_of}
use Rattle.dwz_def_tops.specs.Targets.{targets_of}
use Rattle.dwz_def_tops.proofs.AlikeBound.{movable_closed}
use Rattle.dwz_def_tops.proofs.AlikeLooks.{look_down, look_out}
use Rattle.dwz_def_tops.proofs.TopNumbers.{one_top, tops_numbers}
use Rattle.dwz_label.specs.Nodes.{AreTopNodes}
use Rattle.dwz_label.proofs.Bare.{targets_among}
use Rattle.dwz_label.proofs.NodeLooks.{movable_node, node_looks}
use Rattle.dwz_def_explain.specs.Chain.{BothLead, DifferThemselves, GoesInto, IsEarlierChain, IsLeastChain, IsLowerChain, TellsApart, Whichever, look_depth}
use Rattle.dwz_def_explain.specs.Explained.{IsExplained}
use Rattle.dwz_def_explain.specs.What.{IsWhat}
use Rattle.dwz_def_explain.specs.declared.verdict.Verdict.TheVariants.{Differ}
use Rattle.dwz_def_explain.specs.declared.verdict.What.{What}
use Rattle.dwz_def_explain.proofs.ChainLemmas.{chain_fails}
use Rattle.dwz_nodes_chains.specs.LeastWays.{DifferHere, IsApart, IsLeastWay, end_of, target_at}
use Rattle.dwz_law_explain.specs.WayLaws.{AreOfNodes}

module _ (units : List (FileUnit EntryName)) (g : List Node) (nodes : AreTopNodes units g) where
  abbrev tops : List Top
  tops = tops_of units

  -- ---- tops and their nodes

  -- it is there, and may move
  abbrev Moves : Top → Type 0
  Moves t = In t tops × Movable units t.number

  goes_on : (i : ℕ) (x y : Top) → Moves x → In y tops → GoesInto i x y → Moves y
  goes_on i x y m j e =
      let closed = movable_closed units (Movable units) (λ n p. p) (λ n p. p) in
      let all = targets_among (Movable units) x (closed.inside x m.0 m.1) in
      (j, each_in (Movable units) y.number (targets_of x) all (got_in (targets_of x) i y.number e))

  -- the node of what the reference goes into
  goes_to : (i : ℕ) (x y : Top) → Moves x → GoesInto i x y → target_at g x.number i ≡ y.number
  goes_to i x y m e = ap (λ (ts : List ℕ). get_or ts i 0) (movable_node units g nodes x m.0 m.1).targets ∙ get_or_from_slice_get (targets_of x) i y.number 0 e

  -- the top of a target
  target_top : (i : ℕ) (x : Top) → Moves x → i < length (targets_at g x.number) → (y : Top) × Moves y × GoesInto i x y
  target_top i x m l =
      let same = (movable_node units g nodes x m.0 m.1).targets in
      let inside : i < length (targets_of x) = subst (λ (ts : List ℕ). i < length ts) same l in
      let got : slice_get (targets_of x) i ≡ Some (get_or (targets_of x) i 0) = slice_get-get_or (targets_of x) i 0 inside in
      let closed = movable_closed units (Movable units) (λ n p. p) (λ n p. p) in
      let all = targets_among (Movable units) x (closed.inside x m.0 m.1) in
      let moves = each_in (Movable units) (get_or (targets_of x) i 0) (targets_of x) all (got_in (targets_of x) i (get_or (targets_of x) i 0) got) in
      (moves.top, (moves.is_top, subst (Movable units) (sym moves.number) moves), got ∙ ap (λ (n : ℕ). Some n) (sym moves.number))

  look_tops : (k : ℕ) (x y : Top) → Moves x → Moves y → LookEqual g k x.number y.number → Look tops k x.number y.number
  look_tops k x y m n h = (node_looks units g nodes k x.number y.number m.1 n.1).0 h

  shallow : (n k : ℕ) (x y : Top) → Moves x → Moves y → Look tops (n + k) x.number y.number → Look tops k x.number y.number
  shallow n k x y p q h =
      look_down tops (tops_numbers units) (Movable units) (movable_closed units (Movable units) (λ i m. m) (λ i m. m)) n k x.number y.number p.1 q.1 h

  -- ---- two that differ by themselves

  bare_look : (x y : Top) → In x tops → In y tops → SameTop Whichever x y → Look tops 1 x.number y.number
  unfolding Look
  bare_look x y i j same = look_out tops (tops_numbers units) zero x y i j same

  differ_tops : (x y : Top) → Moves x → Moves y → DifferHere g x.number y.number → DifferThemselves x y
  differ_tops x y m n d same = d ((node_looks units g nodes 1 x.number y.number m.1 n.1).1 (bare_look x y m.0 n.0 same))

  -- ---- the way leads, as a chain

  pub leads : (R : Top → Top → Type 0) (way : List ℕ) (a b : Top) → Moves a → Moves b → IsLeastWay g way a.number b.number
      → ((c d : Top) → Moves c → Moves d → c.number ≡ end_of g way a.number → d.number ≡ end_of g way b.number → DifferHere g c.number d.number → R c d) → BothLead R tops way a b
  leads R [] a b m n h f = f a b m n (λ i. a.number) (λ i. b.number) h
  leads R (i ∷ way) a b m n h f =
      let same = h.0 in
      let x = target_top i a m h.1 in
      let y = target_top i b n (let e = same.1 in let l = h.1 in omega arith) in
      let first : target_at g a.number i ≡ x.0.number = goes_to i a x.0 m x.2 in
      let second : target_at g b.number i ≡ y.0.number = goes_to i b y.0 n y.2 in record {
        first = x.0;
        second = y.0;
        first_there = x.1.0;
        second_there = y.1.0;
        first_goes = x.2;
        second_goes = y.2;
        holds = leads R way x.0 y.0 x.1 y.1
            (subst (λ (u : ℕ). IsLeastWay g way u y.0.number) first (subst (λ (v : ℕ). IsLeastWay g way (target_at g a.number i) v) second h.3))
            (λ c d p q r s t. f c d p q (r ∙ ap (λ (u : ℕ). end_of g way u) (sym first)) (s ∙ ap (λ (u : ℕ). end_of g way u) (sym second)) t);
      }

  pub tells : (way : List ℕ) (a b : Top) → Moves a → Moves b → IsLeastWay g way a.number b.number → TellsApart tops way a b
  tells way a b m n h = leads DifferThemselves way a b m n h (λ c d p q r s t. differ_tops c d p q t)

  -- ---- and none is earlier

  -- looks that find two tops equal see nothing at the end of a chain of less depth
  too_short : (k : ℕ) (a b : Top) → Moves a → Moves b → LookEqual g k a.number b.number → (other : List ℕ) → length other < k → TellsApart tops other a b → ⊥
  too_short k a b m n h other less t =
      let e : k ≡ (k - look_depth other) + look_depth other = omega arith in
      chain_fails tops other a b m.0 n.0 t
      (shallow (k - look_depth other) (look_depth other) a b m n (subst (λ (j : ℕ). Look tops j a.number b.number) e (look_tops k a b m n h)))

  none_lower : (way : List ℕ) (a b : Top) → Moves a → Moves b → IsLeastWay g way a.number b.number → (other : List ℕ) → length other ≡ length way → IsLowerChain other way
      → TellsApart tops other a b → ⊥
  none_lower [] a b m n h [] e less t = less
  none_lower [] a b m n h (j ∷ other) e less t = less
  none_lower (i ∷ way) a b m n h [] e less t = less
  none_lower (i ∷ way) a b m n h (j ∷ other) e (inl less) t =
      let x = goes_on j a t.first m t.first_there t.first_goes in
      let y = goes_on j b t.second n t.second_there t.second_goes in
      let here : LookEqual g (suc (length way)) t.first.number t.second.number =
      subst (λ (u : ℕ). LookEqual g (suc (length way)) u t.second.number) (goes_to j a t.first m t.first_goes)
      (subst (λ (v : ℕ). LookEqual g (suc (length way)) (target_at g a.number j) v) (goes_to j b t.second n t.second_goes) (h.2 j less)) in
      too_short (suc (length way)) t.first t.second x y here other (omega (arith, e)) t.holds
  none_lower (i ∷ way) a b m n h (j ∷ other) e (inr r) t =
      let x = goes_on j a t.first m t.first_there t.first_goes in
      let y = goes_on j b t.second n t.second_there t.second_goes in
      let first : target_at g a.number i ≡ t.first.number = ap (λ (u : ℕ). target_at g a.number u) (sym r.0) ∙ goes_to j a t.first m t.first_goes in
      let second : target_at g b.number i ≡ t.second.number = ap (λ (u : ℕ). target_at g b.number u) (sym r.0) ∙ goes_to j b t.second n t.second_goes in
      none_lower way t.first t.second x y
      (subst (λ (u : ℕ). IsLeastWay g way u t.second.number) first (subst (λ (v : ℕ). IsLeastWay g way (target_at g a.number i) v) second h.3)) other
      (omega (arith, e)) r.1 t.holds

  none_earlier : (way : List ℕ) (a b : Top) → Moves a → Moves b → IsLeastWay g way a.number b.number → (other : List ℕ) → TellsApart tops other a b → IsEarlierChain other way → ⊥
  none_earlier [] a b m n h other t (inl short) = absurd (omega (arith, short))
  none_earlier (i ∷ way) a b m n h other t (inl short) = too_short (suc (length way)) a b m n h.0 other (omega (arith, short)) t
  none_earlier way a b m n h other t (inr r) = none_lower way a b m n h other r.0 r.1 t

  pub least_chain : (a b : Top) → In a tops → In b tops → Movable units a.number → Movable units b.number → (way : List ℕ) (m n : ℕ) → IsApart g a.number b.number way m n → IsLeastChain tops a b way
  least_chain a b i j p q way m n h = record {
    tells = tells way a b (i, p) (j, q) h.least;
    least = λ other t e. none_earlier way a b (i, p) (j, q) h.least other t e;
  }

  pub chain_ends : (a b : Top) → In a tops → In b tops → Movable units a.number → Movable units b.number → (way : List ℕ) (m n : ℕ) → IsApart g a.number b.number way m n
      → BothLead (AreOfNodes m n) tops way a b
  chain_ends a b i j p q way m n h = leads (AreOfNodes m n) way a b (i, p) (j, q) h.least (λ c d x y r s t. (r ∙ h.first_is, s ∙ h.second_is))

  pub tops_alike : (m n : ℕ) → Movable units m → Movable units n → AlikeNodes g m n → Alike units m n
  tops_alike m n p q h = record { first = p; second = q; equal = λ k. (node_looks units g nodes k m n p q).0 (h k) }

  pub explained : (a b : Top) → In a tops → In b tops → Movable units a.number → Movable units b.number → (way : List ℕ) (m n : ℕ) → IsApart g a.number b.number way m n
      → (c d : Top) → In c tops → In d tops → AreOfNodes m n c d → (what : What) → IsWhat c d what → IsExplained units a b (Differ way what)
  explained a b i j p q way m n h c d u v are what differs = (
    least_chain a b i j p q way m n h,
    leads (λ x y. IsWhat x y what) way a b (i, p) (j, q) h.least
        (λ x y k l r s t. (
        let first : c ≡ x = one_top 0 tops c x (tops_numbers units) u k.0 (are.0 ∙ sym (r ∙ h.first_is)) in
        let second : d ≡ y = one_top 0 tops d y (tops_numbers units) v l.0 (are.1 ∙ sym (s ∙ h.second_is)) in
        subst (λ (z : Top). IsWhat x z what) second (subst (λ (z : Top). IsWhat z d what) first differs))),
  )
