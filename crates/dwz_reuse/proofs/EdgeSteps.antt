-- Edges one by one.
use Rattle.std.proofs.Common.{◌≡◌, ℕ, ◌+◌, ◌<◌, List, [], ◌∷◌, ◌++◌, get_or, Option, Some, None, refl, sym, ap, subst, ◌∙◌, inl, inr, ⊎_elim, arith}
use Rattle.dwz_model.proofs.ListFacts.{in_cases, in_left, in_right}
use Rattle.dwz_def_reading.specs.Lists.{In}
use Rattle.dwz_groups.specs.declared.groups.Edge.{Edge}
use Rattle.dwz_reuse.specs.Refers.{IsEdgeBefore, LeadsTo, PutsList, PutsLists, own_at, own_edge}

module _ (own : List (Option ℕ)) where
  module _ (from : ℕ) where
    pub no_targets : (old : List Edge) → PutsList own [] from old old
    no_targets old = record { only = λ e i. inl i; kept = λ e i. i; found = λ t m i. absurd i }

    more_leads : (ts : List ℕ) (t : ℕ) (e : Edge) → LeadsTo own ts from e → LeadsTo own (ts ++ t ∷ []) from e
    more_leads ts t e l = record { t = l.t; there = in_left l.t ts (t ∷ []) l.there; to = l.to; key = l.key }

    last_is : (t u : ℕ) → In u (t ∷ []) → t ≡ u
    last_is t u (inl e) = e
    last_is t u (inr i) = absurd i

    -- a top without a number of its own
    pub skip_target : (ts : List ℕ) (t : ℕ) (old new : List Edge) → own_at own t ≡ None → PutsList own ts from old new → PutsList own (ts ++ t ∷ []) from old new
    skip_target ts t old new none p = record {
      only = λ e i. ⊎_elim (λ (a : In e old). inl a) (λ (b : LeadsTo own ts from e). inr (more_leads ts t e b)) (p.only e i);
      kept = p.kept;
      found = λ u m i at. ⊎_elim
          (λ (a : In u ts). p.found u m a at)
          (λ (b : In u (t ∷ [])). absurd (let h : None ≡ Some m = sym none ∙ ap (own_at own) (last_is t u b) ∙ at in cc))
          (in_cases u ts (t ∷ []) i);
    }

    -- one with a number
    pub put_target : (ts : List ℕ) (t to : ℕ) (old now new : List Edge) → own_at own t ≡ Some to → new ≡ now ++ own_edge from to ∷ [] → PutsList own ts from old now → PutsList own (ts ++ t ∷ []) from old new
    put_target ts t to old now new has put p =
        let last = own_edge from to ∷ [] in
        record {
          only = λ e i. ⊎_elim
              (λ (a : In e now). ⊎_elim (λ (b : In e old). inl b) (λ (b : LeadsTo own ts from e). inr (more_leads ts t e b)) (p.only e a))
              (λ (a : In e last). inr (leads e a))
              (in_cases e now last (subst (λ (w : List Edge). In e w) put i));
          kept = λ e i. subst (λ (w : List Edge). In e w) (sym put) (in_left e now last (p.kept e i));
          found = λ u m i at. subst (λ (w : List Edge). In (own_edge from m) w) (sym put) (⊎_elim
              (λ (a : In u ts). in_left (own_edge from m) now last (p.found u m a at))
              (λ (b : In u (t ∷ [])).
              let h : Some to ≡ Some m = sym has ∙ ap (own_at own) (last_is t u b) ∙ at in
              let e : to ≡ m = cc in
              in_right (own_edge from m) now last (inl (ap (own_edge from) e)))
              (in_cases u ts (t ∷ []) i));
        } where
          leads : (e : Edge) → In e (own_edge from to ∷ []) → LeadsTo own (ts ++ t ∷ []) from e
          leads e (inl a) = record {
            t = t;
            there = in_right t ts (t ∷ []) (inl refl);
            to = has ∙ ap (λ (w : Edge). Some w.value) a;
            key = ap (λ (w : Edge). w.key) a;
          }
          leads e (inr i) = absurd i

  module _ (targets : List (List ℕ)) where
    pub no_lists : (old : List Edge) → PutsLists own targets 0 old old
    no_lists old = record { only = λ e i. inl i; kept = λ e i. i; found = λ from to e low. absurd (omega (arith, low)) }

    more_edge : (n : ℕ) (e : Edge) → IsEdgeBefore own targets n e → IsEdgeBefore own targets (n + 1) e
    more_edge n e b = record { edge = b.edge; low = (let l = b.low in omega (arith, l)) }

    -- a list of a top without a number of its own
    pub skip_list : (n : ℕ) (old new : List Edge) → own_at own n ≡ None → PutsLists own targets n old new → PutsLists own targets (n + 1) old new
    skip_list n old new none p = record {
      only = λ e i. ⊎_elim (λ (a : In e old). inl a) (λ (b : IsEdgeBefore own targets n e). inr (more_edge n e b)) (p.only e i);
      kept = p.kept;
      found = λ from to e low. ⊎_elim
          (λ (before : e.k < n). p.found from to e before)
          (λ (here : e.k ≡ n). absurd (let h : None ≡ Some from = sym none ∙ ap (own_at own) (sym here) ∙ e.from in cc))
          (grind (arith, low));
    }

    pub put_one : (n from : ℕ) (old now new : List Edge) → own_at own n ≡ Some from → PutsList own (get_or targets n []) from now new → PutsLists own targets n old now → PutsLists own targets (n + 1) old new
    put_one n from old now new has q p = record {
      only = λ e i. ⊎_elim
          (λ (a : In e now). ⊎_elim (λ (b : In e old). inl b) (λ (b : IsEdgeBefore own targets n e). inr (more_edge n e b)) (p.only e a))
          (λ (l : LeadsTo own (get_or targets n []) from e). inr (record {
            edge = record { k = n; t = l.t; from = has ∙ ap (λ (w : ℕ). Some w) l.key; there = l.there; to = l.to };
            low = omega arith;
          }))
          (q.only e i);
      kept = λ e i. q.kept e (p.kept e i);
      found = λ f to e low. ⊎_elim
          (λ (before : e.k < n). q.kept (own_edge f to) (p.found f to e before))
          (λ (here : e.k ≡ n).
          let h : Some from ≡ Some f = sym has ∙ ap (own_at own) (sym here) ∙ e.from in
          let same : from ≡ f = cc in
          let there : In e.t (get_or targets n []) = subst (λ (k : ℕ). In e.t (get_or targets k [])) here e.there in
          subst (λ (w : ℕ). In (own_edge w to) new) same (q.found e.t to there e.to))
          (grind (arith, low));
    }
