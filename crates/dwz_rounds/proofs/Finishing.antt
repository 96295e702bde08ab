-- From a whole round to pending nodes, and from numbers back to least nodes.
use Rattle.std.proofs.Common.{◌≡◌, ℕ, suc, ◌+◌, ◌-◌, ◌<◌, ◌≤◌, ◌^◌, List, [], ◌∷◌, ◌++◌, length, set, refl, sym, ap, subst, ◌∙◌, arith, get_or-set_other, get_or-set_same}
use Rattle.std.specs.Prelude.{slice_index}
use Rattle.std.proofs.Math.ListN.{get_or-append}
use Rattle.std.proofs.Math.Seq.{get_or-append_seam}
use mathlib.Core.Logic.{dite}
use native.Mathlib.Decide.{ℕ_discrete, dec_le}
use Rattle.dwz_nodes.specs.Graph.{Node, IsClosed}
use Rattle.dwz_nodes.specs.Looks.{IsLeastBelow}
use Rattle.dwz_nodes.specs.Keys.{key}
use Rattle.dwz_nodes.specs.Among.{Among}
use Rattle.dwz_nodes.proofs.Looks.{look-same}
use Rattle.dwz_rounds.specs.Rounds.{IsLevel, IsRound}
use Rattle.dwz_rounds.specs.Pending.{IsPending}
use Rattle.dwz_rounds.specs.Start.{IsLed, AreNumbered, AreMoved}
use Rattle.dwz_rounds.proofs.Levels.{look-less, class-look, look-class, look-key, round-level}

module _ (g : List Node) (closed : IsClosed g) (k : ℕ) (classes next : List ℕ) (level : IsLevel g k classes) (round : IsRound g classes next) where
  deeper : IsLevel g (suc k) next
  deeper = round-level g closed k classes next level round

  pub led : IsLed next
  led a l = let e = round.len in let r = deeper.each a (omega arith) in
      (r.least a (omega arith) (look-same g (suc k) a), sym (look-class g closed (suc k) next a (slice_index next a) deeper (omega arith) r.inside r.is))

  -- nodes of one class had one class, and one key
  before : (a b : ℕ) → a < length g → b < length g → slice_index next a ≡ slice_index next b → slice_index classes a ≡ slice_index classes b
  before a b la lb e = look-class g closed k classes a b level la lb (look-less g k a b (class-look g closed (suc k) next a b deeper la lb e))

  one-key : (a b : ℕ) → a < length g → b < length g → slice_index next a ≡ slice_index next b → key g classes a ≡ key g classes b
  one-key a b la lb e = look-key g closed k classes a b level la lb (class-look g closed (suc k) next a b deeper la lb e)

  module _ (largest numbers pending : List ℕ) (count : ℕ) (m : AreNumbered next (length next) count numbers) (p : AreMoved classes next largest (length classes) pending) where
    in-next : (a : ℕ) → a < length g → a < length next
    in-next a l = let e = round.len in omega arith

    in-classes : (a : ℕ) → a < length g → a < length classes
    in-classes a l = let e = level.len in omega arith

    class-same : (a b : ℕ) → a < length g → b < length g → slice_index numbers a ≡ slice_index numbers b → slice_index next a ≡ slice_index next b
    class-same a b la lb e = m.apart a b (in-next a la) (in-next b lb) e

    number-same : (a b : ℕ) → a < length g → b < length g → slice_index next a ≡ slice_index next b → slice_index numbers a ≡ slice_index numbers b
    number-same a b la lb e = m.same a b (in-next a la) (in-next b lb) e

    unmoved : (a : ℕ) → a < length g → ¬ (Among pending a) → slice_index next a ≡ slice_index largest (slice_index classes a)
    unmoved a la not = dite (ℕ_discrete (slice_index next a) (slice_index largest (slice_index classes a)))
        (λ e. e)
        (λ ne. absurd (not (p.all a (in-classes a la) ne)))

    pub start-pending : IsPending g numbers pending
    start-pending = record {
      len = m.len ∙ round.len;
      inside = λ a h. let l = (p.from a h).0 in let e = level.len in omega arith;
      sound = λ a b la lb h. number-same a b la lb (look-class g closed (suc k) next a b deeper la lb (h (suc k)));
      whole = λ a b la lb e h.
          let c = class-same a b la lb e in
          let d = before a b la lb c in
          p.all b (in-classes b lb) (λ same. (p.from a h).1 (c ∙ (same ∙ ap (λ (x : ℕ). slice_index largest x) (sym d))));
      before = classes;
      keys = λ a b la lb e. one-key a b la lb (class-same a b la lb e);
      kept = λ a b la lb same na nb. number-same a b la lb (unmoved a la na ∙ (ap (λ (x : ℕ). slice_index largest x) same ∙ sym (unmoved b lb nb)));
    }

-- beside each number the first of the nodes below n that has it, if there is one
pub record AreFirst (numbers : List ℕ) (n : ℕ) (firsts : List ℕ) : Type 0 where
  pub hit : (c : ℕ) → c < length numbers → ¬ (slice_index firsts c ≡ 2 ^ 32 - 1) → (slice_index firsts c < n) × (slice_index numbers (slice_index firsts c) ≡ c)
  pub first : (c b : ℕ) → c < length numbers → b < n → slice_index numbers b ≡ c → slice_index firsts c ≤ b

pub first-none : (numbers : List ℕ) (firsts : List ℕ) → ((c : ℕ) → c < length numbers → slice_index firsts c ≡ 2 ^ 32 - 1) → AreFirst numbers 0 firsts
first-none numbers firsts none = record { hit = λ c l ne. absurd (ne (none c l)); first = λ c b l m. absurd (omega arith) }

module _ (numbers : List ℕ) (n : ℕ) (firsts : List ℕ) (few : length numbers < 2 ^ 32 - 1) (many : length firsts ≡ length numbers) (inside : n < length numbers)
    (small : slice_index numbers n < length numbers) (f : AreFirst numbers n firsts) where
  abbrev c : ℕ
  c = slice_index numbers n

  pub first-new : slice_index firsts c ≡ 2 ^ 32 - 1 → AreFirst numbers (n + 1) (set firsts c n)
  first-new none = record {
    hit = λ d l ne. dite (ℕ_discrete d c)
        (λ e. let is : slice_index (set firsts c n) d ≡ n = at d e in (omega arith, ap (λ (x : ℕ). slice_index numbers x) is ∙ sym e))
        (λ other. let is = get_or-set_other firsts c d n 0 other in let h = f.hit d l (λ e. ne (is ∙ e)) in (let x = h.0 in omega arith, ap (λ (x : ℕ). slice_index numbers x) is ∙ h.1));
    first = λ d b l m e. dite (ℕ_discrete d c)
        (λ dc. let is : slice_index (set firsts c n) d ≡ n = at d dc in dite (ℕ_discrete b n)
        (λ bn. omega arith)
        (λ bne. let x = f.first d b l (omega arith) e in let y : slice_index firsts d ≡ 2 ^ 32 - 1 = ap (λ (k : ℕ). slice_index firsts k) dc ∙ none in absurd (omega arith)))
        (λ other. let is = get_or-set_other firsts c d n 0 other in dite (ℕ_discrete b n)
        (λ bn. absurd (other (sym e ∙ ap (λ (k : ℕ). slice_index numbers k) bn)))
        (λ bne. let x = f.first d b l (omega arith) e in omega arith));
  }
    where
      at : (d : ℕ) → d ≡ c → slice_index (set firsts c n) d ≡ n
      at d e = ap (λ (k : ℕ). slice_index (set firsts c n) k) e ∙ get_or-set_same firsts c n 0 (omega arith)

  pub first-again : ¬ (slice_index firsts c ≡ 2 ^ 32 - 1) → AreFirst numbers (n + 1) firsts
  first-again some = record {
    hit = λ d l ne. let h = f.hit d l ne in (let x = h.0 in omega arith, h.1);
    first = λ d b l m e. dite (ℕ_discrete b n)
        (λ bn. let dc : d ≡ c = sym e ∙ ap (λ (k : ℕ). slice_index numbers k) bn in let h = f.hit c small some in let x = h.0 in let y = ap (λ (k : ℕ). slice_index firsts k) dc in omega arith)
        (λ bne. f.first d b l (omega arith) e);
  }

-- the first node with the number is the least
pub first-least : (numbers : List ℕ) (n first : ℕ) (firsts : List ℕ) → length numbers < 2 ^ 32 - 1 → n < length numbers → slice_index numbers n < length numbers → AreFirst numbers (n + 1) firsts
    → first ≡ slice_index firsts (slice_index numbers n) → IsLeastBelow (length numbers) (λ b. slice_index numbers n ≡ slice_index numbers b) first
first-least numbers n first firsts few inside small f is =
    let c : ℕ = slice_index numbers n in
    let low = f.first c n small (omega arith) refl in
    let h = f.hit c small (λ e. absurd (omega arith)) in
    record {
      inside = omega arith;
      is = sym h.1 ∙ ap (λ (x : ℕ). slice_index numbers x) (sym is);
      least = λ b l e. dite (dec_le b n)
          (λ m. let x = f.first c b small (omega arith) (sym e) in omega arith)
          (λ m. let x = h.0 in omega arith);
    }

pub least-more : (numbers : List ℕ) (n first : ℕ) (least : List ℕ) → length least ≡ n
    → ((a : ℕ) → a < n → IsLeastBelow (length numbers) (λ b. slice_index numbers a ≡ slice_index numbers b) (slice_index least a))
    → IsLeastBelow (length numbers) (λ b. slice_index numbers n ≡ slice_index numbers b) first
    → (a : ℕ) → a < n + 1 → IsLeastBelow (length numbers) (λ b. slice_index numbers a ≡ slice_index numbers b) (slice_index (least ++ first ∷ []) a)
least-more numbers n first least len each new a l = dite (ℕ_discrete a n)
    (λ e. subst (λ (x : ℕ). IsLeastBelow (length numbers) (λ b. slice_index numbers a ≡ slice_index numbers b) x)
    (sym (ap (λ (k : ℕ). slice_index (least ++ first ∷ []) k) (e ∙ sym len) ∙ get_or-append_seam least first [] 0))
    (subst (λ (x : ℕ). IsLeastBelow (length numbers) (λ b. slice_index numbers x ≡ slice_index numbers b) first) (sym e) new))
    (λ ne. subst (λ (x : ℕ). IsLeastBelow (length numbers) (λ b. slice_index numbers a ≡ slice_index numbers b) x) (sym (get_or-append least (first ∷ []) 0 a (omega arith))) (each a (omega arith)))
