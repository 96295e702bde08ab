-- Whether lists share bytes with operands of others is decided by testing each two.
use Rattle.std.proofs.Common.{◌≡◌, ◌⊎◌, ℕ, zero, suc, ◌+◌, ◌<◌, ◌≤◌, Bool, true, false, cond, List, [], ◌∷◌, Option, Some, None, refl, sym, ap, subst, ◌∙◌, inl, inr, arith, ltb}
use Rattle.std.specs.Prelude.{◌&&◌, not}
use Rattle.std.specs.List.{list_any}
use Rattle.std.proofs.lemmas.Bool.{ltb-false, ltb-true}
use Rattle.dwz_model.specs.declared.place.Base.{Base}
use Rattle.dwz_model.specs.declared.place.Base.TheVariants.{Unit as FromUnit, Info as FromInfo}
use Rattle.dwz_def_reading.specs.declared.exprs.Operand.{Operand}
use Rattle.dwz_model.specs.Lists.{In}
use Rattle.dwz_def_reading.specs.Shared.{lesser, Clashes, HasByte, IsInSlot, IsSame, IsShared, IsSharedAt, IsSharedFault, ListOperand, NamedList, NoneShared, OneOf, ReadsInside, any_byte, clashes, has_byte}
use Rattle.dwz_def_reading.specs.Shared.{byte_places, is_same, is_shared, is_within, least_place, none_shared, operands_in_lists, own_operands, reads_inside, same_base, same_truth, shared_list}
use Rattle.dwz_def_reading.specs.Shared.{slot_has}
use Rattle.dwz_def_reading.specs.Shared.{unless_shared}
use Rattle.dwz_def_reading.proofs.AgreeLemmas.{Agrees, agrees_err, agrees_ok, in_words}
use Rattle.dwz_def_reading.proofs.DecideLemmas.{Decides, decides_and, decides_any, decides_eq, decides_le, decides_lt, decides_not, decides_or, decides_words}

-- ---- bytes

-- some place from one on, of so many, passes the test
places_decide : (test : ℕ → Bool) (P : ℕ → Type 0) → ((b : ℕ) → Decides (test b) (P b)) → (at n : ℕ) → Decides (list_any test (byte_places at n)) ((b : ℕ) × ((at ≤ b) × (b < at + n)) × P b)
unfolding byte_places
places_decide test P each at zero = record { yes = λ e. absurd cc; no = λ e h. let from = h.1.0 in let to = h.1.1 in omega (arith, from, to) }
places_decide test P each at (suc n) = decides_words (decides_or (each at) (places_decide test P each (suc at) n)) to from where
  to : P at ⊎ ((b : ℕ) × ((suc at ≤ b) × (b < suc at + n)) × P b) → (b : ℕ) × ((at ≤ b) × (b < at + suc n)) × P b
  to (inl p) = (at, (omega arith, omega arith), p)
  to (inr h) = let low = h.1.0 in let high = h.1.1 in (h.0, (omega (arith, low), omega (arith, high)), h.2)

  from : (b : ℕ) × ((at ≤ b) × (b < at + suc n)) × P b → P at ⊎ ((b : ℕ) × ((suc at ≤ b) × (b < suc at + n)) × P b)
  from h = by (ltb at h.0) refl where
    by : (t : Bool) → ltb at h.0 ≡ t → P at ⊎ ((b : ℕ) × ((suc at ≤ b) × (b < suc at + n)) × P b)
    by true e = let low = ltb-true at h.0 e in let high = h.1.1 in inr (h.0, (omega (arith, low), omega (arith, high)), h.2)
    by false e =
        let high = ltb-false at h.0 e in
        let low = h.1.0 in
        let same : h.0 ≡ at = omega (arith, low, high) in
        inl (subst P same h.2)

byte_decides : (o : Operand) (test : ℕ → Bool) (P : ℕ → Type 0) → ((b : ℕ) → Decides (test b) (P b)) → Decides (any_byte o test) ((b : ℕ) × HasByte o b × P b)
byte_decides o test P each = places_decide test P each o.at o.width

within_decides : (from to b : ℕ) → Decides (is_within from to b) ((from ≤ b) × (b < to))
within_decides from to b = decides_and (decides_le from b) (decides_lt b to)

pub has_decides : (b : ℕ) (o : Operand) → Decides (has_byte b o) (HasByte o b)
has_decides b o = within_decides o.at (o.at + o.width) b

-- ---- one operand

truth_decides : (a b : Bool) → Decides (same_truth a b) (a ≡ b)
truth_decides true true = record { yes = λ e. refl; no = λ e h. absurd cc }
truth_decides true false = record { yes = λ e. absurd cc; no = λ e h. absurd cc }
truth_decides false true = record { yes = λ e. absurd cc; no = λ e h. absurd cc }
truth_decides false false = record { yes = λ e. refl; no = λ e h. absurd cc }

base_decides : (a b : Base) → Decides (same_base a b) (a ≡ b)
base_decides FromUnit FromUnit = record { yes = λ e. refl; no = λ e h. absurd cc }
base_decides FromUnit FromInfo = record { yes = λ e. absurd cc; no = λ e h. absurd cc }
base_decides FromInfo FromUnit = record { yes = λ e. absurd cc; no = λ e h. absurd cc }
base_decides FromInfo FromInfo = record { yes = λ e. refl; no = λ e h. absurd cc }

pub same_decides : (o p : ListOperand) → Decides (is_same o p) (IsSame o p)
same_decides o p =
    decides_words (decides_and (decides_eq o.unit p.unit)
    (decides_and (decides_eq o.operand.at p.operand.at)
    (decides_and (decides_eq o.operand.width p.operand.width)
    (decides_and (truth_decides o.operand.uleb p.operand.uleb) (base_decides o.operand.base p.operand.base)))))
    (λ h. record { unit = h.0; at = h.1.0; width = h.1.1.0; uleb = h.1.1.1.0; base = h.1.1.1.1 })
    (λ s. (s.unit, (s.at, (s.width, (s.uleb, s.base)))))

clash_decides : (o p : ListOperand) → Decides (clashes o p) (Clashes o p)
clash_decides o p =
    decides_words (decides_and (decides_le p.operand.at o.operand.at)
    (decides_and (byte_decides o.operand (λ b. has_byte b p.operand) (HasByte p.operand) (λ b. has_decides b p.operand)) (decides_not (same_decides o p))))
    (λ h. record { later = h.0; shared = h.1.0; differ = h.1.1 })
    (λ c. (c.later, (c.shared, c.differ)))

reads_decide : (o : Operand) (l : NamedList) → Decides (reads_inside o l) (ReadsInside o l)
reads_decide o l =
    decides_words (byte_decides o (λ b. is_within l.from l.list.end b && not (list_any (has_byte b) (own_operands l)))
    (λ b. ((l.from ≤ b) × (b < l.list.end)) × (((p : Operand) × In p (own_operands l) × HasByte p b) → ⊥))
    (λ b. decides_and (within_decides l.from l.list.end b) (decides_not (decides_any (has_byte b) (λ p. HasByte p b) (has_decides b) (own_operands l)))))
    (λ h. record { byte = h.0; has = h.1; from = h.2.0.0; to = h.2.0.1; others = λ p there has. h.2.1 (p, there, has) })
    (λ r. (r.byte, r.has, ((r.from, r.to), λ h. r.others h.0 h.1 h.2)))

slot_decides : (o : Operand) (l : NamedList) → Decides (slot_has o l.slot) (IsInSlot o l)
slot_decides o l = by l.slot refl where
  by : (slot : Option ℕ) → l.slot ≡ slot → Decides (slot_has o slot) (IsInSlot o l)
  by None none = record { yes = λ e. absurd cc; no = λ e h. let some = h.is_slot in let no : None ≡ Some h.slot = sym none ∙ some in absurd cc }
  by (Some slot) some = decides_words (byte_decides o (is_within slot (slot + 4)) (λ b. (slot ≤ b) × (b < slot + 4)) (within_decides slot (slot + 4)))
      (λ h. record { slot = slot; is_slot = some; byte = h.0; has = h.1; from = h.2.0; to = h.2.1 })
      (λ s.
      let both : Some s.slot ≡ Some slot = sym s.is_slot ∙ some in
      let same : s.slot ≡ slot = cc in
      (s.byte, s.has, (subst (λ (n : ℕ). n ≤ s.byte) same s.from, subst (λ (n : ℕ). s.byte < n + 4) same s.to)))

shared_decides : (lists : List NamedList) (o : ListOperand) → Decides (is_shared lists o) (IsShared lists o)
shared_decides lists o =
    decides_or (decides_any (clashes o) (Clashes o) (clash_decides o) (operands_in_lists lists))
    (decides_or (decides_any (reads_inside o.operand) (ReadsInside o.operand) (reads_decide o.operand) lists)
    (decides_any (λ l. slot_has o.operand l.slot) (IsInSlot o.operand) (slot_decides o.operand) lists))

-- ---- the least place

-- the least place of those that have a property, or none has it
abbrev IsLeast : (ListOperand → Type 0) → List ListOperand → Option ℕ → Type 0
IsLeast P operands None = (o : ListOperand) → In o operands → P o → ⊥
IsLeast P operands (Some n) = OneOf operands (λ o. (n ≡ o.operand.at) × P o) × ((o : ListOperand) → In o operands → P o → n ≤ o.operand.at)

lesser_le : (n : ℕ) (o : Option ℕ) → lesser n o ≤ n
lesser_le n None = omega arith
lesser_le n (Some m) = omega arith

is_least : (test : ListOperand → Bool) (P : ListOperand → Type 0) → ((o : ListOperand) → Decides (test o) (P o)) → (operands : List ListOperand) → IsLeast P operands (least_place test operands)
unfolding least_place
is_least test P each [] = λ o none p. none
is_least test P each (o ∷ operands) = by (test o) refl (least_place test operands) (is_least test P each operands) where
  by : (b : Bool) → test o ≡ b → (rest : Option ℕ) → IsLeast P operands rest → IsLeast P (o ∷ operands) (cond b (Some (lesser o.operand.at rest)) rest)
  by true e None none = (
    (o, inl refl, (refl, (each o).yes e)),
    λ p there is. elim there [ inl same ↦ subst (λ (q : ListOperand). o.operand.at ≤ q.operand.at) same (omega arith) | inr later ↦ absurd (none p later is) ],
  )
  by true e (Some m) h = pick (ltb m o.operand.at) refl where
    below : (p : ListOperand) → In p (o ∷ operands) → P p → lesser o.operand.at (Some m) ≤ p.operand.at
    below p (inl same) is = subst (λ (q : ListOperand). lesser o.operand.at (Some m) ≤ q.operand.at) same (omega arith)
    below p (inr later) is = let le = h.1 p later is in omega (arith, le)

    pick : (b : Bool) → ltb m o.operand.at ≡ b → IsLeast P (o ∷ operands) (Some (lesser o.operand.at (Some m)))
    pick true lt =
        let less = ltb-true m o.operand.at lt in
        let same : lesser o.operand.at (Some m) ≡ m = omega (arith, less) in
        ((h.0.0, inr h.0.1, (same ∙ h.0.2.0, h.0.2.1)), below)
    pick false ge =
        let more = ltb-false m o.operand.at ge in
        let same : lesser o.operand.at (Some m) ≡ o.operand.at = omega (arith, more) in
        ((o, inl refl, (same, (each o).yes e)), below)
  by false e None none = λ p there is. elim there [ inl same ↦ (each o).no e (subst P (sym same) is) | inr later ↦ none p later is ]
  by false e (Some m) h = (
    (h.0.0, inr h.0.1, h.0.2),
    λ p there is. elim there [ inl same ↦ absurd ((each o).no e (subst P (sym same) is)) | inr later ↦ h.1 p later is ],
  )

pub shared_agrees : (lists : List NamedList) → Agrees (none_shared lists) (λ u. NoneShared lists) (IsSharedFault lists)
unfolding none_shared
shared_agrees lists = by (least_place (is_shared lists) (operands_in_lists lists)) (is_least (is_shared lists) (IsShared lists) (shared_decides lists) (operands_in_lists lists)) where
  by : (o : Option ℕ) → IsLeast (IsShared lists) (operands_in_lists lists) o → Agrees (unless_shared o) (λ u. NoneShared lists) (IsSharedFault lists)
  by None none = in_words (agrees_ok tt)
      (λ u. (λ same place h. none h.0 h.1 h.2.1, λ h. refl))
      (λ f. (λ no. absurd no, λ h. let s = h.shared in none s.0 s.1 s.2.1))
  by (Some n) h =
      let here : IsSharedAt lists n = (h.0.0, h.0.1, (h.0.2.0, h.0.2.1)) in
      let least_of_all : (other : ℕ) → IsSharedAt lists other → n ≤ other = λ other s. let le = h.1 s.0 s.1 s.2.1 in omega (arith, le, s.2.0) in
      in_words (agrees_err (shared_list n))
      (λ u. (λ no. absurd no, λ none. none n here))
      (λ f. (
        λ same. record { place = n; shared = here; least = least_of_all; placed = same },
        λ s.
            let low = s.least n here in
            let high = least_of_all s.place s.shared in
            let same : s.place ≡ n = omega (arith, low, high) in
            s.placed ∙ ap shared_list same,
      ))
