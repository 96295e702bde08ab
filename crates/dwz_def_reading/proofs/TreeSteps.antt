-- A sibling list is an entry with its children and the siblings behind it, or its end: reading takes one such step after the
-- other. And a fault that reading answers is at a place before which all is spelled.
use Rattle.std.proofs.Common.{◌≡◌, ℕ, zero, suc, ◌+◌, ◌<◌, ◌≤◌, Bool, true, false, List, ◌++◌, length, Option, Some, None, Result, Ok, Err, refl, sym, ap, subst, ◌∙◌, arith}
use Rattle.std.proofs.Math.Logic.{inl, inr}
use Rattle.dwz_model.specs.declared.fault.Fault.{Fault}
use Rattle.dwz_bytes.specs.Input.{Input}
use Rattle.dwz_bytes.specs.Reading.{◌>>=◌}
use Rattle.dwz_def_reading.specs.Trees.{AreFronts, Behind, Cut, Entry, EntryReader, FailsAs, FaultOf, Faulty, Forest, ForestReader, FrontOf, Here, IfChildren, Inside, Position, SpellsForest}
use Rattle.dwz_def_reading.specs.Trees.{after_children}
use Rattle.dwz_def_reading.specs.Trees.{after_front, behind, children_by, first_below, forest_at, siblings_at}
use Rattle.dwz_def_reading.proofs.TreeLemmas.{Takes, Taken, bind_err, children_again, children_found, forest_found, input_at, read_is_spelled, shorter, shorter_by_some, spelled_is_read}

-- ---- one step

-- two readers answer the same of all inputs that are shorter than n
abbrev Agree : {E : Type 0} → ℕ → ForestReader E → ForestReader E → Type 0
Agree n f g = (p : Position) (i : Input) → length i.rest < n → f p i ≡ g p i

children_agree : {E : Type 0} (n : ℕ) (f g : ForestReader E) (p : Position) (flag : Bool) (i : Input) → Agree n f g → length i.rest < n → children_by f p flag i ≡ children_by g p flag i
children_agree n f g p true i agree lt = agree (first_below p) i lt
children_agree n f g p false i agree lt = refl

next_agree : {E : Type 0} (n : ℕ) (has : E → Bool) (Front : FrontOf E) (f g : ForestReader E) (p : Position) (e : E) (i : Input) (r : Result (Forest E × Input) Fault)
    → ((x : Forest E × Input) → r ≡ Ok x → length x.1.rest ≤ length i.rest) → Agree n f g → length i.rest < n → (r >>= after_children f p e) ≡ (r >>= after_children g p e)
next_agree n has Front f g p e i (Ok x) bound agree lt =
    let le = bound x refl in
    ap (λ r. r >>= λ next. Ok (Entry e x.0 next.0, next.1)) (agree (behind p x.0) x.1 (omega (arith, le, lt)))
next_agree n has Front f g p e i (Err d) bound agree lt = refl

front_agree : {E : Type 0} (n : ℕ) (has : E → Bool) (Front : FrontOf E) (f g : ForestReader E) (p : Position) (o : Option E) (j : Input)
    → ((q : Position) (i : Input) (x : Forest E × Input) → f q i ≡ Ok x → Taken has Front q i x) → Agree n f g → length j.rest < n → after_front has f p (o, j) ≡ after_front has g p (o, j)
front_agree n has Front f g p None j finds agree lt = refl
front_agree {E} n has Front f g p (Some e) j finds agree lt =
    let bound : (x : Forest E × Input) → children_by f p (has e) j ≡ Ok x → length x.1.rest ≤ length j.rest =
    λ x h. let t = children_found has Front f finds p (has e) j x h in shorter j x.1 t.bytes t.takes in
    next_agree n has Front f g p e j (children_by f p (has e) j) bound agree lt ∙ ap (λ r. r >>= after_children g p e) (children_agree n f g p (has e) j agree lt)

-- the same of what is read behind one front
step_agrees : {E : Type 0} (has : E → Bool) (front : EntryReader E) (Front : FrontOf E) (f g : ForestReader E) → AreFronts front Front
    → ((q : Position) (i : Input) (x : Forest E × Input) → f q i ≡ Ok x → Taken has Front q i x) → (p : Position) (i : Input) → Agree (length i.rest) f g
    → (r : Result (Option E × Input) Fault) → front p i ≡ r → (r >>= after_front has f p) ≡ (r >>= after_front has g p)
step_agrees has front Front f g laws finds p i agree (Err d) e = refl
step_agrees has front Front f g laws finds p i agree (Ok x) e =
    let t = laws.found p i x.1 x.0 e in
    let less = shorter_by_some i x.1 t.0 (record { parts = t.2; place = t.3 }) (laws.some p i.at x.0 t.0 t.1) in
    front_agree (length i.rest) has Front f g p x.0 x.1 finds agree less

forests_agree : {E : Type 0} (k l : ℕ) (has : E → Bool) (front : EntryReader E) (Front : FrontOf E) (ended : Input → Fault) → AreFronts front Front → (p : Position) (i : Input) → length i.rest < k
    → length i.rest < l
    → forest_at has front ended k p i ≡ forest_at has front ended l p i
unfolding forest_at
forests_agree zero l has front Front ended laws p i lt lt' = absurd (omega (arith, lt))
forests_agree (suc k) zero has front Front ended laws p i lt lt' = absurd (omega (arith, lt'))
forests_agree {E} (suc k) (suc l) has front Front ended laws p i lt lt' =
    step_agrees has front Front (forest_at has front ended k) (forest_at has front ended l) laws (forest_found k has front Front ended laws) p i
    (λ q j less. forests_agree k l has front Front ended laws q j (omega (arith, less, lt)) (omega (arith, less, lt'))) (front p i) refl

-- reading a sibling list is one step, and then reading sibling lists
pub siblings_step : {E : Type 0} (has : E → Bool) (front : EntryReader E) (Front : FrontOf E) (ended : Input → Fault) → AreFronts front Front → (p : Position) (i : Input)
    → siblings_at has front ended p i ≡ (front p i >>= after_front has (siblings_at has front ended) p)
unfolding siblings_at forest_at
siblings_step {E} has front Front ended laws p i =
    step_agrees has front Front (forest_at has front ended (length i.rest)) (siblings_at has front ended) laws (forest_found (length i.rest) has front Front ended laws) p i
    (λ q j less. forests_agree (length i.rest) (suc (length j.rest)) has front Front ended laws q j less (omega arith)) (front p i) refl

-- ---- a fault that is answered is at some place

pub record Stops {E : Type 0} (has : E → Bool) (Front : FrontOf E) (Fault' : FaultOf) (p : Position) (i : Input) (f : Fault) : Type 0 where
  pub cut : Cut E
  pub faulty : Faulty has Front Fault' cut p f i.at i.rest

pub children_err : {E : Type 0} (read : ForestReader E) (p : Position) (flag : Bool) (i : Input) (f : Fault) → children_by read p flag i ≡ Err f → (flag ≡ true) × (read (first_below p) i ≡ Err f)
children_err read p true i f e = (refl, e)
children_err read p false i f e = absurd cc

abbrev joined : {E : Type 0} → E → Forest E → Forest E × Input → Result (Forest E × Input) Fault
joined e children next = Ok (Entry e children next.0, next.1)

next_err : {E : Type 0} (r : Result (Forest E × Input) Fault) (e : E) (children : Forest E) (f : Fault) → (r >>= joined e children) ≡ Err f → r ≡ Err f
next_err (Ok x) e children f h = absurd cc
next_err (Err d) e children f h = cc

after_front_stops : {E : Type 0} (n : ℕ) (has : E → Bool) (Front : FrontOf E) (Fault' : FaultOf) (read : ForestReader E)
    → ((q : Position) (i : Input) (x : Forest E × Input) → read q i ≡ Ok x → Taken has Front q i x) → (p : Position) (i j : Input) (o : Option E) (f : Fault) → length j.rest < n
    → (bytes : List ℕ) → Front p i.at o bytes → Takes i bytes j → after_front has read p (o, j) ≡ Err f
    → ((q : Position) (k : Input) → length k.rest < n → read q k ≡ Err f → Stops has Front Fault' q k f) → Stops has Front Fault' p i f
after_front_stops n has Front Fault' read finds p i j None f lt bytes is takes e below = absurd cc
after_front_stops n has Front Fault' read finds p i j (Some h) f lt bytes is takes e below =
    elim (bind_err (children_by read p (has h) j) (after_children read p h) f e) [
      | inl c ↦
          let b = children_err read p (has h) j f c in
          let s = below (first_below p) j lt b.1 in
          record {
            cut = Inside h s.cut;
            faulty = (
              b.0,
              record {
                first_bytes = bytes;
                first = is;
                second_bytes = j.rest;
                second = subst (λ (at : ℕ). Faulty has Front Fault' s.cut (first_below p) f at j.rest) takes.place s.faulty;
                parts = takes.parts;
              },
            );
          }
      | inr c ↦
          let t = children_found has Front read finds p (has h) j c.0 c.1 in
          let q = next_err (read (behind p c.0.0) c.0.1) h c.0.0 f c.2 in
          let less = shorter j c.0.1 t.bytes t.takes in
          let s = below (behind p c.0.0) c.0.1 (omega (arith, less, lt)) q in
          record {
            cut = Behind h c.0.0 s.cut;
            faulty = record {
              first_bytes = bytes;
              first = is;
              second_bytes = j.rest;
              second = record {
                first_bytes = t.bytes;
                first = subst (λ (at : ℕ). IfChildren (has h) c.0.0 (SpellsForest has Front c.0.0 (first_below p) at t.bytes) t.bytes) takes.place t.spelled;
                second_bytes = c.0.1.rest;
                second = subst (λ (at : ℕ). Faulty has Front Fault' s.cut (behind p c.0.0) f at c.0.1.rest) (t.takes.place ∙ ap (λ (at : ℕ). at + length t.bytes) takes.place) s.faulty;
                parts = t.takes.parts;
              };
              parts = takes.parts;
            };
          }
    ]

stops : {E : Type 0} (n : ℕ) (has : E → Bool) (front : EntryReader E) (Front : FrontOf E) (Fault' : FaultOf) (ended : Input → Fault) → AreFronts front Front → FailsAs front Fault'
    → (p : Position) (i : Input) (f : Fault)
    → length i.rest < n → siblings_at has front ended p i ≡ Err f → Stops has Front Fault' p i f
stops zero has front Front Fault' ended laws fails p i f lt e = absurd (omega (arith, lt))
stops (suc n) has front Front Fault' ended laws fails p i f lt e =
    elim (bind_err (front p i) (after_front has (siblings_at has front ended) p) f (sym (siblings_step has front Front ended laws p i) ∙ e)) [
      | inl h ↦ record { cut = Here; faulty = fails.0 p i f h }
      | inr h ↦
          let t = laws.found p i h.0.1 h.0.0 h.1 in
          let less = shorter_by_some i h.0.1 t.0 (record { parts = t.2; place = t.3 }) (laws.some p i.at h.0.0 t.0 t.1) in
          after_front_stops n has Front Fault' (siblings_at has front ended) (read_is_spelled has front Front ended laws) p i h.0.1 h.0.0 f (omega (arith, less, lt)) t.0 t.1
          (record { parts = t.2; place = t.3 }) h.2
          (λ q k shorter. stops n has front Front Fault' ended laws fails q k f shorter)
    ]

pub fault_found : {E : Type 0} (has : E → Bool) (front : EntryReader E) (Front : FrontOf E) (Fault' : FaultOf) (ended : Input → Fault) → AreFronts front Front → FailsAs front Fault'
    → (p : Position) (i : Input) (f : Fault)
    → siblings_at has front ended p i ≡ Err f → Stops has Front Fault' p i f
fault_found has front Front Fault' ended laws fails p i f e = stops (suc (length i.rest)) has front Front Fault' ended laws fails p i f (omega arith) e

-- ---- and such a fault is answered

pub fault_again : {E : Type 0} (cut : Cut E) (has : E → Bool) (front : EntryReader E) (Front : FrontOf E) (Fault' : FaultOf) (ended : Input → Fault) → AreFronts front Front → FailsAs front Fault'
    → (p : Position) (start : ℕ) (bytes : List ℕ) (f : Fault)
    → Faulty has Front Fault' cut p f start bytes → siblings_at has front ended p (input_at start bytes) ≡ Err f
fault_again Here has front Front Fault' ended laws fails p start bytes f is =
    siblings_step has front Front ended laws p (input_at start bytes) ∙ rw (fails.1 p start bytes f is) refl
fault_again (Inside e cut) has front Front Fault' ended laws fails p start bytes f is =
    let a = is.1 in
    let head = laws.again p start (Some e) a.first_bytes a.second_bytes a.first in
    let inner = fault_again cut has front Front Fault' ended laws fails (first_below p) (start + length a.first_bytes) a.second_bytes f a.second in
    let below : children_by (siblings_at has front ended) p (has e) (input_at (start + length a.first_bytes) a.second_bytes) ≡ Err f = rw is.0 inner in
    ap (λ (w : List ℕ). siblings_at has front ended p (input_at start w)) a.parts
    ∙ siblings_step has front Front ended laws p (input_at start (a.first_bytes ++ a.second_bytes)) ∙ rw (head, after_front, below) refl
fault_again (Behind e children cut) has front Front Fault' ended laws fails p start bytes f is =
    let b = is.second in
    let inner : children_by (siblings_at has front ended) p (has e) (input_at (start + length is.first_bytes) (b.first_bytes ++ b.second_bytes))
    ≡ Ok (children, input_at (start + length is.first_bytes + length b.first_bytes) b.second_bytes)
    = children_again (has e) children has Front (siblings_at has front ended) p (start + length is.first_bytes) b.first_bytes b.second_bytes b.first
    (λ spelled. spelled_is_read has front Front ended laws (first_below p) (start + length is.first_bytes) children b.first_bytes b.second_bytes spelled) in
    let after = fault_again cut has front Front Fault' ended laws fails (behind p children) (start + length is.first_bytes + length b.first_bytes) b.second_bytes f b.second in
    let regrouped : bytes ≡ is.first_bytes ++ (b.first_bytes ++ b.second_bytes) = is.parts ∙ ap (λ (w : List ℕ). is.first_bytes ++ w) b.parts in
    let head = laws.again p start (Some e) is.first_bytes (b.first_bytes ++ b.second_bytes) is.first in
    ap (λ (w : List ℕ). siblings_at has front ended p (input_at start w)) regrouped
    ∙ siblings_step has front Front ended laws p (input_at start (is.first_bytes ++ (b.first_bytes ++ b.second_bytes))) ∙ rw (head, after_front, inner, after_children, after) refl
