-- What rows of kin show is what is there.
use Rattle.std.proofs.Common.{◌≡◌, ◌⊎◌, ℕ, zero, suc, ◌<◌, Bool, true, false, List, Option, length, get_or, sym, ap, subst, ◌∙◌, inl, inr, ⊎_elim}
use Rattle.std.proofs.lemmas.Bool.{cases_Bool, false≢true}
use Rattle.std.specs.Option.{is_some}
use Rattle.dwz_def_reading.specs.Lists.{In}
use Rattle.dwz_def_tops.specs.Alike.{Alike, Movable}
use Rattle.dwz_def_tops.specs.Spots.{Top, tops_of}
use Rattle.dwz_def_tops.proofs.AlikeLaws.{alike_self}
use Rattle.dwz_def_taken.specs.Beside.{Reused}
use Rattle.dwz_def_taken.specs.Takes.{Blocked, IsSplit, IsTaken}
use Rattle.dwz_groups.specs.Spreading.{IsMarked}
use Rattle.dwz_takes.specs.Blocked.{AreBlocked, BlockedAlong, IsSplitAmong}
use Rattle.dwz_takes.specs.Images.{choice_at}
use Rattle.dwz_law_taken.specs.Shown.{ShowKin}

module _ (r : Reused) (kin : List ℕ) (images : List (Option ℕ)) (targets : List (List ℕ)) (s : ShowKin r kin images targets) where
  -- kin that are one top, or alike, are alike where the one moves
  kin_alike : (t a : Top) → Movable r.units t.number → (a.number ≡ t.number) ⊎ Alike r.units t.number a.number → Alike r.units t.number a.number
  kin_alike t a moves (inl e) = subst (λ (m : ℕ). Alike r.units t.number m) (sym e) (alike_self r.units t.number moves)
  kin_alike t a moves (inr h) = h

  -- the first of two kin moves if the second does
  kin_moves : (t a : Top) → Movable r.units a.number → (a.number ≡ t.number) ⊎ Alike r.units t.number a.number → Movable r.units t.number
  kin_moves t a moves (inl e) = subst (λ (m : ℕ). Movable r.units m) e moves
  kin_moves t a moves (inr h) = h.first

  split_to : (n : ℕ) → IsSplitAmong kin images n → IsSplit r n
  split_to n h =
      let one = h.one in
      let other = h.other in
      let t = s.others n one.0 h.there one.1 one.2 one.3 in
      let at : (x : ℕ) → get_or kin x 0 ≡ get_or kin n 0 → get_or kin x 0 ≡ get_or kin t.0.number 0 = λ x e. e ∙ ap (λ (m : ℕ). get_or kin m 0) (sym t.2) in
      let a = s.same t.0 t.1 one.0 one.1 (at one.0 one.2) in
      let b = s.same t.0 t.1 other.0 other.1 (at other.0 other.2) in
      let some : is_some (choice_at images a.0.number) ≡ true = ap (λ (m : ℕ). is_some (choice_at images m)) a.2 ∙ one.3 in
      let none : is_some (choice_at images b.0.number) ≡ false = ap (λ (m : ℕ). is_some (choice_at images m)) b.2 ∙ other.3 in
      let taken : IsTaken r a.0 = (s.taken a.0 a.1).0 some in
      let moves : Movable r.units t.0.number = kin_moves t.0 a.0 (s.movable a.0 a.1 taken) a.4 in record {
        top = t.0;
        there = t.1;
        number = t.2;
        one = a.0;
        one_there = a.1;
        one_file = a.3;
        one_alike = subst (λ (m : ℕ). Alike r.units m a.0.number) t.2 (kin_alike t.0 a.0 moves a.4);
        taken = taken;
        other = b.0;
        other_there = b.1;
        other_file = b.3;
        other_alike = subst (λ (m : ℕ). Alike r.units m b.0.number) t.2 (kin_alike t.0 b.0 moves b.4);
        left = λ h'. false≢true (sym none ∙ (s.taken b.0 b.1).1 h');
      }

  untaken : (t : Top) → In t (tops_of r.units) → (IsTaken r t → ⊥) → is_some (choice_at images t.number) ≡ false
  untaken t i left = ⊎_elim (λ (e : is_some (choice_at images t.number) ≡ true). absurd (left ((s.taken t i).0 e))) (λ (e : is_some (choice_at images t.number) ≡ false). e) (cases_Bool (is_some (choice_at images t.number)))

  split_from : (n : ℕ) → IsSplit r n → IsSplitAmong kin images n
  split_from n h =
      let at : (x : ℕ) → Alike r.units n x → Alike r.units h.top.number x = λ x k. subst (λ (m : ℕ). Alike r.units m x) (sym h.number) k in
      let same : (x : ℕ) → get_or kin x 0 ≡ get_or kin h.top.number 0 → get_or kin x 0 ≡ get_or kin n 0 = λ x e. e ∙ ap (λ (m : ℕ). get_or kin m 0) h.number in record {
        there = subst (λ (m : ℕ). m < length kin) h.number (s.there h.top h.there);
        one = (h.one.number, s.there h.one h.one_there, same h.one.number (s.alike h.top h.one h.there h.one_there h.one_file (at h.one.number h.one_alike)), (s.taken h.one h.one_there).1 h.taken);
        other = (
          h.other.number,
          s.there h.other h.other_there,
          same h.other.number (s.alike h.top h.other h.there h.other_there h.other_file (at h.other.number h.other_alike)),
          untaken h.other h.other_there h.left,
        );
      }

  along_to : (k n : ℕ) → BlockedAlong kin images targets k n → Blocked r k n
  unfolding BlockedAlong Blocked
  along_to zero n h = split_to n h
  along_to (suc k) n (inl h) = inl (along_to k n h)
  along_to (suc k) n (inr h) = let o = (s.refers n h.0).0 h.1 in inr (o.0, h.0, o.1, o.2, o.3, along_to k h.0 h.2)

  along_from : (k n : ℕ) → Blocked r k n → BlockedAlong kin images targets k n
  unfolding BlockedAlong Blocked
  along_from zero n h = split_from n h
  along_from (suc k) n (inl h) = inl (along_from k n h)
  along_from (suc k) n (inr h) = inr (h.1, (s.refers n h.1).1 (h.0, h.2, h.3, h.4), along_from k h.1 h.5)

  pub blocked_shown : (blocked : List Bool) → AreBlocked kin images targets blocked → (n : ℕ) → (IsMarked blocked n → (k : ℕ) × Blocked r k n) × ((k : ℕ) × Blocked r k n → IsMarked blocked n)
  blocked_shown blocked h n = (λ m. let o = (h.each n).0 m in (o.0, along_to o.0 n o.1), λ o. (h.each n).1 (o.0, along_from o.0 n o.1))
