-- Numbers that are written over the operands of lists that share nothing, in whatever order, leave a section that is patched; and there is
-- just one such section.
use Rattle.std.proofs.Common.{◌≡◌, ◌⊎◌, ℕ, ◌+◌, ◌-◌, ◌<◌, ◌≤◌, Bool, true, false, List, [], ◌∷◌, ◌++◌, length, take, drop, get_or, map, refl, sym, ap, subst, ◌∙◌, inl, inr, arith, eqb, eq-eqb}
use Rattle.std.proofs.Common.{eqb-true}
use Rattle.std.proofs.lemmas.Bool.{cases_lt}
use Rattle.std.proofs.lemmas.List.{ext_get_or, get_or-drop, get_or-take, length-drop, length-take-le}
use Rattle.dwz_def_reading.specs.Lists.{In}
use Rattle.dwz_def_reading.proofs.ListFacts.{in_map as map_in}
use Rattle.dwz_def_reading.specs.declared.exprs.Operand.{Operand}
use Rattle.dwz_def_reading.specs.Exprs.{ExprContext}
use Rattle.dwz_def_reading.specs.LocLists.{SpellsList}
use Rattle.dwz_def_reading.specs.PatchedLists.{IsPatched, with_number, with_operands}
use Rattle.dwz_def_reading.specs.Patching.{number_in_width, written_at}
use Rattle.dwz_def_reading.specs.Sequences.{StandsFrom}
use Rattle.dwz_def_reading.specs.Shared.{HasByte, IsSame, ListOperand, NamedList, NoneShared, has_byte, is_same, of_unit, operands_in_lists, own_operands}
use Rattle.dwz_def_reading.proofs.CutLemmas.{number_len}
use Rattle.dwz_def_reading.proofs.NamedAgain.{in_map}
use Rattle.dwz_def_reading.proofs.SharedLemmas.{has_decides, same_decides}
use Rattle.dwz_def_reading.proofs.WriteOver.{written_in, written_len, written_other}
use Rattle.dwz_def_output.proofs.OperandNumbers.{number_stands, operand_within, value_of}

-- ---- operand by operand, in whatever order

abbrev pub spelled : Operand → List ℕ
spelled o = number_in_width o.uleb o.width o.number

spelled_len : (o : Operand) → length (spelled o) ≡ o.width
spelled_len o = number_len o.uleb o.width o.number

pub over_len : (os : List Operand) (bytes : List ℕ) → length (with_operands os bytes) ≡ length bytes
unfolding with_operands
over_len [] bytes = refl
over_len (o ∷ os) bytes = over_len os (written_at o.at (spelled o) bytes) ∙ written_len o.at (spelled o) bytes

-- the byte is one of an operand of these, and of its number
pub record IsOf (os : List Operand) (b value : ℕ) : Type 0 where
  pub operand : Operand
  pub there : In operand os
  pub has : HasByte operand b
  pub value_is : value ≡ get_or (spelled operand) (b - operand.at) 0

abbrev pub IsOfNone : List Operand → ℕ → Type 0
IsOfNone os b = (o : Operand) → In o os → HasByte o b → ⊥

pub over_byte : (os : List Operand) (bytes : List ℕ) → ((o : Operand) → In o os → o.at + o.width ≤ length bytes) → (b : ℕ)
    → IsOf os b (get_or (with_operands os bytes) b 0) ⊎ (IsOfNone os b × (get_or (with_operands os bytes) b 0 ≡ get_or bytes b 0))
unfolding with_operands
over_byte [] bytes within b = inr (λ o there has. absurd there, refl)
over_byte (o ∷ os) bytes within b = elim (over_byte os first (λ p there. (let end = within p (inr there) in omega (arith, end, written_len o.at (spelled o) bytes))) b) [
  | inl is ↦ inl (record { operand = is.operand; there = inr is.there; has = is.has; value_is = is.value_is })
  | inr none ↦ by none (has_byte b o) refl
] where
  first : List ℕ
  first = written_at o.at (spelled o) bytes

  by : IsOfNone os b × (get_or (with_operands os first) b 0 ≡ get_or first b 0) → (t : Bool) → has_byte b o ≡ t
      → IsOf (o ∷ os) b (get_or (with_operands os first) b 0) ⊎ (IsOfNone (o ∷ os) b × (get_or (with_operands os first) b 0 ≡ get_or bytes b 0))
  by none true e =
      let has = (has_decides b o).yes e in
      let low = has.0 in
      let high = has.1 in
      let place : o.at + (b - o.at) ≡ b = omega (arith, low) in
      let len = spelled_len o in
      let end = within o (inl refl) in
      inl (record {
        operand = o;
        there = inl refl;
        has = has;
        value_is = none.1 ∙ ap (λ (n : ℕ). get_or first n 0) (sym place) ∙ written_in o.at (spelled o) bytes (b - o.at) (omega (arith, low, high, len)) (omega (arith, len, end));
      })
  by none false e =
      let lacks = (has_decides b o).no e in
      let len = spelled_len o in
      let out : (b < o.at) ⊎ (o.at + length (spelled o) ≤ b) = elim (cases_lt b o.at) [
        | inl before ↦ inl before
        | inr from ↦ elim (cases_lt b (o.at + o.width)) [ inl to ↦ absurd (lacks (from, to)) | inr behind ↦ inr (omega (arith, behind, len)) ]
      ] in
      inr (λ p there has. elim there [ inl same ↦ lacks (subst (λ (q : Operand). HasByte q b) (sym same) has) | inr later ↦ none.0 p later has ], none.1 ∙ written_other o.at (spelled o) bytes b out)

-- ---- the operands of lists

-- an operand of all is one of a list
pub record Owner (lists : List NamedList) (o : ListOperand) : Type 0 where
  pub list : NamedList
  pub there : In list lists
  pub own : In o.operand (own_operands list)
  pub unit : o.unit ≡ list.unit

in_mapped_of : (unit : ℕ) (os : List Operand) (o : ListOperand) → In o (map (of_unit unit) os) → In o.operand os × (o.unit ≡ unit)
in_mapped_of unit [] o there = absurd there
in_mapped_of unit (p ∷ os) o (inl same) = (inl (ap (λ (x : ListOperand). x.operand) same), ap (λ (x : ListOperand). x.unit) (sym same))
in_mapped_of unit (p ∷ os) o (inr later) = (let r = in_mapped_of unit os o later in (inr r.0, r.1))

in_joined : (o : ListOperand) (xs ys : List ListOperand) → In o (xs ++ ys) → In o xs ⊎ In o ys
in_joined o [] ys h = inr h
in_joined o (x ∷ xs) ys (inl same) = inl (inl same)
in_joined o (x ∷ xs) ys (inr later) = elim (in_joined o xs ys later) [ inl a ↦ inl (inr a) | inr b ↦ inr b ]

pub owner : (lists : List NamedList) (o : ListOperand) → In o (operands_in_lists lists) → Owner lists o
unfolding operands_in_lists
owner [] o there = absurd there
owner (l ∷ lists) o there = elim (in_joined o (map (of_unit l.unit) (own_operands l)) (operands_in_lists lists) there) [
  | inl a ↦ (let r = in_mapped_of l.unit (own_operands l) o a in record { list = l; there = inl refl; own = r.0; unit = r.1 })
  | inr b ↦ (let r = owner lists o b in record { list = r.list; there = inr r.there; own = r.own; unit = r.unit })
]

-- each list stands in the section
abbrev pub AllStand : List NamedList → List ℕ → Type 0
AllStand lists section = (l : NamedList) → In l lists → (c : ExprContext) × StandsFrom (SpellsList c) section l.from l.list

-- equal operands of equal units have one number
abbrev pub GivesOne : (ListOperand → ℕ) → Type 0
GivesOne new = (o p : ListOperand) → o.unit ≡ p.unit → o.operand.base ≡ p.operand.base → o.operand.number ≡ p.operand.number → new o ≡ new p

abbrev pub renewed : (ListOperand → ℕ) → ListOperand → Operand
renewed new o = with_number (λ at. new o) o.operand

-- the number for a place
unfoldable pub number_for : (ListOperand → ℕ) → List ListOperand → ℕ → ℕ
number_for new [] at = 0
number_for new (o ∷ os) at = elim (eqb o.operand.at at) as (λ _. ℕ) [ true ↦ new o | false ↦ number_for new os at ]

module _ (lists : List NamedList) (section : List ℕ) (none : NoneShared lists) (stand : AllStand lists section) where
  abbrev all : List ListOperand
  all = operands_in_lists lists

  within : (o : ListOperand) → In o all → (0 < o.operand.width) × (o.operand.at + o.operand.width ≤ length section)
  within o there =
      let w = owner lists o there in
      let s = stand w.list w.there in
      let i = operand_within s.0 section w.list.from w.list.list s.1 o.operand w.own in
      (i.some, i.to)

  number_there : (o : ListOperand) → In o all → o.operand.number ≡ value_of o.operand.uleb (take o.operand.width (drop o.operand.at section))
  number_there o there =
      let w = owner lists o there in
      let s = stand w.list w.there in
      number_stands s.0 section w.list.from w.list.list s.1 o.operand w.own

  -- two with a byte in common are the same
  same_if : (o p : ListOperand) → In o all → In p all → (b : ℕ) → HasByte o.operand b → HasByte p.operand b → IsSame o p
  same_if o p o_in p_in b has other = by (is_same o p) refl where
    clash : (x y : ListOperand) → In x all → In y all → HasByte x.operand b → HasByte y.operand b → y.operand.at ≤ x.operand.at → (IsSame x y → ⊥) → ⊥
    clash x y x_in y_in hx hy le differ = none x.operand.at (x, x_in, (refl, inl (y, y_in, record { later = le; shared = (b, hx, hy); differ = differ })))

    back : IsSame p o → IsSame o p
    back s = record { unit = sym s.unit; at = sym s.at; width = sym s.width; uleb = sym s.uleb; base = sym s.base }

    by : (t : Bool) → is_same o p ≡ t → IsSame o p
    by true e = (same_decides o p).yes e
    by false e =
        let differ = (same_decides o p).no e in
        absurd (elim (cases_lt o.operand.at p.operand.at) [
          | inl less ↦ clash p o p_in o_in other has (omega (arith, less)) (λ s. differ (back s))
          | inr le ↦ clash o p o_in p_in has other le differ
        ])

  -- so they have the same number
  same_number : (o p : ListOperand) → In o all → In p all → IsSame o p → o.operand.number ≡ p.operand.number
  same_number o p o_in p_in s =
      number_there o o_in
      ∙ ap (λ (t : Bool). value_of t (take o.operand.width (drop o.operand.at section))) s.uleb
      ∙ ap (λ (n : ℕ). value_of p.operand.uleb (take n (drop o.operand.at section))) s.width
      ∙ ap (λ (n : ℕ). value_of p.operand.uleb (take p.operand.width (drop n section))) s.at
      ∙ sym (number_there p p_in)

  has_first : (o : ListOperand) → In o all → HasByte o.operand o.operand.at
  has_first o there = (let w = within o there in (omega arith, omega (arith, w.0)))

  module _ (new : ListOperand → ℕ) (one : GivesOne new) where
    new_same : (o p : ListOperand) → In o all → In p all → IsSame o p → new o ≡ new p
    new_same o p o_in p_in s = one o p s.unit s.base (same_number o p o_in p_in s)

    -- the number for an operand's place is its own
    pub number_own : (some : List ListOperand) → ((p : ListOperand) → In p some → In p all) → (o : ListOperand) → In o some → number_for new some o.operand.at ≡ new o
    unfolding number_for
    number_own [] are o there = absurd there
    number_own (p ∷ some) are o there = by (λ later. number_own some (λ q q_in. are q (inr q_in)) o later) (eqb p.operand.at o.operand.at) refl where
      by : (In o some → number_for new some o.operand.at ≡ new o) → (t : Bool) → eqb p.operand.at o.operand.at ≡ t
          → elim t as (λ _. ℕ) [ true ↦ new p | false ↦ number_for new some o.operand.at ] ≡ new o
      by rest true e =
          let at = eqb-true p.operand.at o.operand.at e in
          let first : HasByte p.operand o.operand.at = subst (HasByte p.operand) at (has_first p (are p (inl refl))) in
          new_same p o (are p (inl refl)) (are o there) (same_if p o (are p (inl refl)) (are o there) o.operand.at first (has_first o (are o there)))
      by rest false e = elim there [
        | inl same ↦ absurd (let yes = eq-eqb p.operand.at o.operand.at (ap (λ (x : ListOperand). x.operand.at) same) in let no : true ≡ false = sym yes ∙ e in cc)
        | inr later ↦ rest later
      ]

    abbrev pub out : List ℕ
    out = with_operands (map (renewed new) all) section

    ends : (q : Operand) → In q (map (renewed new) all) → q.at + q.width ≤ length section
    ends q there = (let o = in_map (renewed new) q all there in subst (λ (x : Operand). x.at + x.width ≤ length section) o.2 (within o.0 o.1).1)

    own_byte : (o : ListOperand) → In o all → (b : ℕ) → HasByte o.operand b
        → get_or out b 0 ≡ get_or (number_in_width o.operand.uleb o.operand.width (number_for new all o.operand.at)) (b - o.operand.at) 0
    own_byte o there b has = elim (over_byte (map (renewed new) all) section ends b) [
      | inl is ↦
          let m = in_map (renewed new) is.operand all is.there in
          let p = m.0 in
          let other : HasByte p.operand b = subst (λ (x : Operand). HasByte x b) (sym m.2) is.has in
          let s = same_if p o m.1 there b other has in
          let number : new p ≡ number_for new all o.operand.at = new_same p o m.1 there s ∙ sym (number_own all (λ q q_in. q_in) o there) in
          is.value_is
          ∙ ap (λ (x : Operand). get_or (spelled x) (b - x.at) 0) (sym m.2)
          ∙ ap (λ (t : Bool). get_or (number_in_width t p.operand.width (new p)) (b - p.operand.at) 0) s.uleb
          ∙ ap (λ (w : ℕ). get_or (number_in_width o.operand.uleb w (new p)) (b - p.operand.at) 0) s.width
          ∙ ap (λ (n : ℕ). get_or (number_in_width o.operand.uleb o.operand.width n) (b - p.operand.at) 0) number
          ∙ ap (λ (a : ℕ). get_or (number_in_width o.operand.uleb o.operand.width (number_for new all o.operand.at)) (b - a) 0) s.at
      | inr lacks ↦ absurd (lacks.0 (renewed new o) (map_in (renewed new) o all there) has)
    ]

    -- the section is patched
    pub patched : IsPatched lists (number_for new all) section out
    patched = record {
      len = over_len (map (renewed new) all) section;
      written = λ o there.
          (let w = within o there in
          let len = over_len (map (renewed new) all) section in
          let size = number_len o.operand.uleb o.operand.width (number_for new all o.operand.at) in
          let taken : length (take o.operand.width (drop o.operand.at out)) ≡ o.operand.width = length-take-le o.operand.width (drop o.operand.at out) (omega
          (arith, length-drop o.operand.at out, len, w.1)) in
          ext_get_or 0 (take o.operand.width (drop o.operand.at out)) (number_in_width o.operand.uleb o.operand.width (number_for new all o.operand.at)) (taken ∙ sym size)
          (λ i lt.
          (let less : i < o.operand.width = omega (arith, lt, taken) in
          let place : o.operand.at + i - o.operand.at ≡ i = omega arith in
          get_or-take o.operand.width (drop o.operand.at out) i 0 less
          ∙ get_or-drop o.operand.at out i 0
          ∙ own_byte o there (o.operand.at + i) (omega arith, omega (arith, less))
          ∙ ap (λ (k : ℕ). get_or (number_in_width o.operand.uleb o.operand.width (number_for new all o.operand.at)) k 0) place)));
      others = λ b lacks. elim (over_byte (map (renewed new) all) section ends b) [
        | inl is ↦ (let m = in_map (renewed new) is.operand all is.there in absurd (lacks m.0 m.1 (subst (λ (x : Operand). HasByte x b) (sym m.2) is.has)))
        | inr rest ↦ rest.1
      ];
    }

-- ---- one section

-- an operand that has the byte, or none
any_with : (some : List ListOperand) (b : ℕ) → ((o : ListOperand) × In o some × HasByte o.operand b) ⊎ ((o : ListOperand) → In o some → HasByte o.operand b → ⊥)
any_with [] b = inr (λ o there has. absurd there)
any_with (o ∷ some) b = by (any_with some b) (has_byte b o.operand) refl where
  by : ((p : ListOperand) × In p some × HasByte p.operand b) ⊎ ((p : ListOperand) → In p some → HasByte p.operand b → ⊥) → (t : Bool) → has_byte b o.operand ≡ t
      → ((p : ListOperand) × In p (o ∷ some) × HasByte p.operand b) ⊎ ((p : ListOperand) → In p (o ∷ some) → HasByte p.operand b → ⊥)
  by rest true e = inl (o, inl refl, (has_decides b o.operand).yes e)
  by (inl p) false e = inl (p.0, inr p.1, p.2)
  by (inr free) false e = inr (λ p there has. elim there [ inl same ↦ (has_decides b o.operand).no e (subst (λ (x : ListOperand). HasByte x.operand b) (sym same) has) | inr later ↦ free p later has ])

-- where the numbers are the same, so are the sections
pub one_patched : (lists : List NamedList) (number other : ℕ → ℕ) (section a b : List ℕ) → ((o : ListOperand) → In o (operands_in_lists lists) → number o.operand.at ≡ other o.operand.at)
    → IsPatched lists number section a → IsPatched lists other section b → a ≡ b
one_patched lists number other section a b same p q =
    ext_get_or 0 a b (p.len ∙ sym q.len) (λ i lt. elim (any_with (operands_in_lists lists) i) [
      | inl h ↦
          let o = h.0.operand in
          let low = h.2.0 in
          let high = h.2.1 in
          let place : o.at + (i - o.at) ≡ i = omega (arith, low) in
          let less : i - o.at < o.width = omega (arith, low, high) in
          let taken : take o.width (drop o.at a) ≡ take o.width (drop o.at b) =
          p.written h.0 h.1 ∙ ap (number_in_width o.uleb o.width) (same h.0 h.1) ∙ sym (q.written h.0 h.1) in
          ap (λ (n : ℕ). get_or a n 0) (sym place)
          ∙ sym (get_or-drop o.at a (i - o.at) 0) ∙ sym (get_or-take o.width (drop o.at a) (i - o.at) 0 less)
          ∙ ap (λ (w : List ℕ). get_or w (i - o.at) 0) taken
          ∙ get_or-take o.width (drop o.at b) (i - o.at) 0 less ∙ get_or-drop o.at b (i - o.at) 0
          ∙ ap (λ (n : ℕ). get_or b n 0) place
      | inr free ↦ p.others i free ∙ sym (q.others i free)
    ])
