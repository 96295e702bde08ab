-- Which tops have kin that are taken and kin that aren't, and what leads to them.
use Rattle.std.proofs.Common.{◌≡◌, ◌⊎◌, ℕ, zero, suc, ◌+◌, ◌<◌, ◌&&◌, Bool, true, false, List, [], ◌∷◌, ◌++◌, Option, length, get_or, replicate, refl, sym, ap, subst, ◌∙◌, inl, inr, ⊎_elim, arith, length-append}
use Rattle.std.proofs.Math.ListN.{set, length-set}
use Rattle.std.proofs.lemmas.Bool.{false≢true}
use Rattle.std.specs.Bool.{beq}
use Rattle.std.specs.Option.{is_some}
use Rattle.dwz_groups.specs.Spreading.{AreInside, IsMarked, IsSpread, Leads}
use Rattle.dwz_groups.proofs.MarkLemmas.{inside_at}
use Rattle.dwz_groups.proofs.SpreadLemmas.{set_cases, set_here, set_kept}
use Rattle.dwz_takes.specs.Blocked.{AreBlocked, AreKinMarks, AreSplit, BlockedAlong, IsSplitAmong}
use Rattle.dwz_takes.specs.Images.{choice_at}
use Rattle.dwz_takes.specs.Steps.{AreTurned}
use Rattle.dwz_takes.proofs.TakenFacts.{clear_new}

-- ---- flags

pub same_flags : (a b : Bool) → beq a b ≡ true → a ≡ b
same_flags true true e = refl
same_flags true false e = absurd (false≢true e)
same_flags false true e = absurd (false≢true e)
same_flags false false e = refl

pub other_flags : (a b : Bool) → beq a b ≡ false → a ≡ b → ⊥
other_flags true true e f = false≢true (sym e)
other_flags true false e f = false≢true (sym f)
other_flags false true e f = false≢true f
other_flags false false e f = false≢true (sym e)

-- ---- numbers of kin

pub kin_none : (kin : List ℕ) (images : List (Option ℕ)) (taken : Bool) (flags : List Bool) → flags ≡ replicate (length kin) false → length flags ≡ length kin → AreKinMarks kin images 0 taken flags
kin_none kin images taken flags e len = record {
  len = len;
  each = λ k. (λ m. absurd (clear_new (length kin) k (subst (λ (bs : List Bool). IsMarked bs k) e m)), λ h. let l = h.1 in absurd (omega arith));
}

pub kin_one : (kin : List ℕ) (images : List (Option ℕ)) (taken : Bool) (n : ℕ) (flags : List Bool) → n < length kin → get_or kin n 0 < length kin → is_some (choice_at images n) ≡ taken
    → AreKinMarks kin images n taken flags → AreKinMarks kin images (n + 1) taken (set flags (get_or kin n 0) true)
kin_one kin images taken n flags l low is h =
    let x = get_or kin n 0 in
    let len = h.len in
    let inside : x < length flags = omega arith in record {
      len = length-set flags x true ∙ h.len;
      each = λ k. (
        λ m. ⊎_elim
            (λ (j : IsMarked flags k). let r = (h.each k).0 j in let low = r.1 in (r.0, omega arith, r.2, r.3))
            (λ (e : x ≡ k). (n, omega arith, e, is))
            (set_cases flags x k inside m),
        λ r. ⊎_elim
            (λ (low : r.0 < n). set_kept flags x k ((h.each k).1 (r.0, low, r.2, r.3)))
            (λ (e : n ≡ r.0). subst (λ (y : ℕ). IsMarked (set flags x true) y) (ap (λ (y : ℕ). get_or kin y 0) e ∙ r.2) (set_here flags x inside))
            (below n r.0 r.1),
      );
    }
  where
    below : (n a : ℕ) → a < n + 1 → (a < n) ⊎ (n ≡ a)
    below n a l = grind arith

pub kin_skip : (kin : List ℕ) (images : List (Option ℕ)) (taken : Bool) (n : ℕ) (flags : List Bool) → (is_some (choice_at images n) ≡ taken → ⊥) → AreKinMarks kin images n taken flags
    → AreKinMarks kin images (n + 1) taken flags
kin_skip kin images taken n flags other h = record {
  len = h.len;
  each = λ k. (
    λ m. let r = (h.each k).0 m in let low = r.1 in (r.0, omega arith, r.2, r.3),
    λ r. ⊎_elim
        (λ (low : r.0 < n). (h.each k).1 (r.0, low, r.2, r.3))
        (λ (e : n ≡ r.0). absurd (other (subst (λ (y : ℕ). is_some (choice_at images y) ≡ taken) (sym e) r.3)))
        (below n r.0 r.1),
  );
}
  where
    below : (n a : ℕ) → a < n + 1 → (a < n) ⊎ (n ≡ a)
    below n a l = grind arith

-- ---- tops, as far as they were looked at

pub record AreSplitTo (kin : List ℕ) (images : List (Option ℕ)) (n : ℕ) (split : List Bool) : Type 0 where
  pub len : length split ≡ n
  pub each : (t : ℕ) → (IsMarked split t → IsSplitAmong kin images t) × (t < n → IsSplitAmong kin images t → IsMarked split t)

pub split_none : (kin : List ℕ) (images : List (Option ℕ)) → AreSplitTo kin images 0 []
split_none kin images = record { len = refl; each = λ t. (λ m. absurd (false≢true m), λ l s. absurd (omega arith)) }

last_flag : (split : List Bool) (b : Bool) (t : ℕ) → IsMarked (split ++ b ∷ []) t → IsMarked split t ⊎ ((t ≡ length split) × (b ≡ true))
last_flag [] b zero m = inr (refl, m)
last_flag [] b (suc t) m = inl m
last_flag (a ∷ split) b zero m = inl m
last_flag (a ∷ split) b (suc t) m = ⊎_elim (λ j. inl j) (λ (r : (t ≡ length split) × (b ≡ true)). inr (ap suc r.0, r.1)) (last_flag split b t m)

flag_left : (split : List Bool) (b : Bool) (t : ℕ) → IsMarked split t → IsMarked (split ++ b ∷ []) t
flag_left [] b t m = absurd (false≢true m)
flag_left (a ∷ split) b zero m = m
flag_left (a ∷ split) b (suc t) m = flag_left split b t m

flag_here : (split : List Bool) (b : Bool) → b ≡ true → IsMarked (split ++ b ∷ []) (length split)
flag_here [] b e = e
flag_here (a ∷ split) b e = flag_here split b e

both : (a b : Bool) → (a && b) ≡ true → (a ≡ true) × (b ≡ true)
both true true e = (refl, refl)
both true false e = absurd (false≢true e)
both false b e = absurd (false≢true e)

both_true : (a b : Bool) → a ≡ true → b ≡ true → (a && b) ≡ true
both_true a b e f = ap (λ (x : Bool). x && b) e ∙ f

pub split_one : (kin : List ℕ) (images : List (Option ℕ)) (n : ℕ) (split some others : List Bool) (b : Bool) → n < length kin → b ≡ (get_or some (get_or kin n 0) false && get_or others (get_or kin n 0) false)
    → AreKinMarks kin images (length kin) true some → AreKinMarks kin images (length kin) false others → AreSplitTo kin images n split → AreSplitTo kin images (n + 1) (split ++ b ∷ [])
split_one kin images n split some others b l e s o h = record {
  len = (let a = length-append split (b ∷ []) in let len = h.len in omega arith);
  each = λ t. (
    λ m. ⊎_elim
        (λ j. (h.each t).0 j)
        (λ (r : (t ≡ length split) × (b ≡ true)).
        let two = both (get_or some (get_or kin n 0) false) (get_or others (get_or kin n 0) false) (sym e ∙ r.1) in
        let at : n ≡ t = sym (r.0 ∙ h.len) in
        subst (λ (y : ℕ). IsSplitAmong kin images y) at (record { there = l; one = (s.each (get_or kin n 0)).0 two.0; other = (o.each (get_or kin n 0)).0 two.1 }))
        (last_flag split b t m),
    λ low w. ⊎_elim
        (λ (j : t < n). flag_left split b t ((h.each t).1 j w))
        (λ (f : n ≡ t).
        let v : IsSplitAmong kin images n = subst (λ (y : ℕ). IsSplitAmong kin images y) (sym f) w in
        subst (λ (y : ℕ). IsMarked (split ++ b ∷ []) y) (h.len ∙ f)
        (flag_here split b (e ∙ both_true (get_or some (get_or kin n 0) false) (get_or others (get_or kin n 0) false) ((s.each (get_or kin n 0)).1 v.one) ((o.each (get_or kin n 0)).1 v.other))))
        (below n t low),
  );
}
  where
    below : (n a : ℕ) → a < n + 1 → (a < n) ⊎ (n ≡ a)
    below n a l = grind arith

pub split_all : (kin : List ℕ) (images : List (Option ℕ)) (n : ℕ) (split : List Bool) → n ≡ length kin → AreSplitTo kin images n split → AreSplit kin images split
split_all kin images n split e h = record { len = h.len ∙ e; each = λ t. ((h.each t).0, λ s. (h.each t).1 (let low = s.there in omega arith) s) }

-- ---- chains

leads_blocked : (kin : List ℕ) (images : List (Option ℕ)) (targets sources : List (List ℕ)) (split : List Bool) → AreSplit kin images split → AreTurned (length kin) targets sources → (k t : ℕ)
    → Leads sources split k t → BlockedAlong kin images targets k t
unfolding BlockedAlong
leads_blocked kin images targets sources split s r zero t h = (s.each t).0 h
leads_blocked kin images targets sources split s r (suc k) t (inl h) = inl (leads_blocked kin images targets sources split s r k t h)
leads_blocked kin images targets sources split s r (suc k) t (inr h) = inr (h.0, (r.each h.0 t).0 h.1, leads_blocked kin images targets sources split s r k h.0 h.2)

blocked_leads : (kin : List ℕ) (images : List (Option ℕ)) (targets sources : List (List ℕ)) (split : List Bool) → AreSplit kin images split → AreTurned (length kin) targets sources → (k t : ℕ)
    → BlockedAlong kin images targets k t → Leads sources split k t
unfolding BlockedAlong
blocked_leads kin images targets sources split s r zero t h = (s.each t).1 h
blocked_leads kin images targets sources split s r (suc k) t (inl h) = inl (blocked_leads kin images targets sources split s r k t h)
blocked_leads kin images targets sources split s r (suc k) t (inr h) = inr (h.0, (r.each h.0 t).1 h.1, blocked_leads kin images targets sources split s r k h.0 h.2)

pub blocked_by : (kin : List ℕ) (images : List (Option ℕ)) (targets sources : List (List ℕ)) (split marks : List Bool) → AreSplit kin images split → AreTurned (length kin) targets sources
    → IsSpread sources split marks → AreBlocked kin images targets marks
blocked_by kin images targets sources split marks s r h = record {
  len = h.len ∙ s.len;
  each = λ t. (
    λ m. let l = (h.each t).0 m in (l.0, leads_blocked kin images targets sources split s r l.0 t l.1),
    λ b. (h.each t).1 (b.0, blocked_leads kin images targets sources split s r b.0 t b.1),
  );
}

pub turned_inside : (count : ℕ) (targets sources : List (List ℕ)) → length targets ≡ count → AreTurned count targets sources → AreInside sources
turned_inside count targets sources len r m n i = let low = inside_at targets n m ((r.each m n).0 i) in let long = r.len in omega arith
