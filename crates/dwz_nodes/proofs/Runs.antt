-- The mentions by one node stand together, and they tell what their words tell.
use Rattle.std.proofs.Common.{◌≡◌, ℕ, zero, suc, ◌+◌, ◌-◌, ◌==◌, ◌<◌, ◌≤◌, AllPairs, Bool, true, false, Contains, List, [], ◌∷◌, ◌++◌, length, get_or, take, drop, ⊎_elim, refl, sym, ap, subst, ◌∙◌}
use Rattle.std.proofs.Common.{arith, length-drop, take-append-drop, eq-eqb}
use Rattle.std.specs.Prelude.{slice_range}
use Rattle.std.specs.List.{filter}
use Rattle.std.specs.List.Sorted.{IsPartitionPoint}
use Rattle.std.proofs.lemmas.Bool.{ne_eqb}
use Rattle.std.proofs.lemmas.List.{append-nil, drop-drop, length-take-le, get_or-take, get_or-drop}
use Rattle.std.proofs.lemmas.List.Elements.{filter-append}
use mathlib.Core.Logic.{dite}
use native.Mathlib.Decide.{dec_le}
use Rattle.dwz_nodes.specs.Mentions.{run_of, words_of}
use Rattle.dwz_nodes.specs.declared.mentions.Mention.{Mention}
use Rattle.dwz_nodes.proofs.Contained.{cons-cases, cons-first, cons-rest}

-- ---- where a run stands

-- each element passes, or none does
abbrev Each : (Mention → Type 0) → List Mention → Type 0
Each P xs = (k : ℕ) (d : Mention) → k < length xs → P (get_or xs k d)

rest-each : (P : Mention → Type 0) (x : Mention) (xs : List Mention) → Each P (x ∷ xs) → Each P xs
rest-each P x xs h k d l = h (suc k) d (omega arith)

run-none : (a : ℕ) (xs : List Mention) → Each (λ m. ¬ (m.source ≡ a)) xs → run_of xs a ≡ []
run-none a [] h = refl
run-none a (x ∷ xs) h =
    let no : (x.source == a) ≡ false = ne_eqb x.source a (h zero x (omega arith)) in
    rw no (run-none a xs (rest-each (λ m. ¬ (m.source ≡ a)) x xs h))

run-each : (a : ℕ) (xs : List Mention) → Each (λ m. m.source ≡ a) xs → run_of xs a ≡ xs
run-each a [] h = refl
run-each a (x ∷ xs) h =
    let yes : (x.source == a) ≡ true = eq-eqb x.source a (h zero x (omega arith)) in
    rw yes (ap (λ (ys : List Mention). x ∷ ys) (run-each a xs (rest-each (λ m. m.source ≡ a) x xs h)))

module _ (ms : List Mention) (a s e : ℕ) (within : s ≤ length ms) (within_end : e ≤ length ms)
    (begin : IsPartitionPoint (λ m. m.source < a) (λ m. a ≤ m.source) ms s) (end : IsPartitionPoint (λ m. m.source < a + 1) (λ m. a + 1 ≤ m.source) ms e) (d : Mention) where
  abbrev test : Mention → Bool
  test m = m.source == a

  pub rising : s ≤ e
  rising = dite (dec_le s e) (λ l. l)
      (λ g. let x = begin.0 e d (omega arith) (omega arith) in let y = end.1 e d (omega arith) (omega arith) in absurd (omega arith))

  front : run_of (take s ms) a ≡ []
  front = run-none a (take s ms) (λ k d' l eq.
      let m : k < s = omega (arith, length-take-le s ms within) in
      let x = begin.0 k d' (omega arith) m in
      let y = ap (λ (q : Mention). q.source) (get_or-take s ms k d' m) in
      absurd (omega arith))

  behind : run_of (drop e ms) a ≡ []
  behind = run-none a (drop e ms) (λ k d' l eq.
      let m : e + k < length ms = omega (arith, length-drop e ms) in
      let x = end.1 (e + k) d' (omega arith) m in
      let y = ap (λ (q : Mention). q.source) (get_or-drop e ms k d') in
      absurd (omega arith))

  between : run_of (slice_range ms s e) a ≡ slice_range ms s e
  between = run-each a (slice_range ms s e) (λ k d' l.
      let len = length-take-le (e - s) (drop s ms) (omega (arith, length-drop s ms)) in
      let m : k < e - s = omega arith in
      let y = ap (λ (q : Mention). q.source) (get_or-take (e - s) (drop s ms) k d' m ∙ get_or-drop s ms k d') in
      let low = begin.1 (s + k) d' (omega arith) (omega arith) in
      let high = end.0 (s + k) d' (omega arith) (omega arith) in
      omega arith)

  parts : ms ≡ take s ms ++ (slice_range ms s e ++ drop e ms)
  parts =
      let rest : drop (e - s) (drop s ms) ≡ drop e ms = (let l = rising in let is : e ≡ s + (e - s) = omega arith in drop-drop (e - s) s ms ∙ ap (λ k. drop k ms) (sym is)) in
      sym (take-append-drop s ms) ∙ ap (λ (xs : List Mention). take s ms ++ xs) (sym (take-append-drop (e - s) (drop s ms)) ∙ ap (λ (xs : List Mention). slice_range ms s e ++ xs) rest)

  pub run-is : run_of ms a ≡ slice_range ms s e
  run-is =
      ap (filter test) parts
      ∙ (filter-append test (take s ms) (slice_range ms s e ++ drop e ms)
      ∙ ((λ i. front i ++ filter test (slice_range ms s e ++ drop e ms))
      ∙ (filter-append test (slice_range ms s e) (drop e ms)
      ∙ ((λ i. between i ++ behind i) ∙ append-nil (slice_range ms s e)))))

-- ---- what the words of a run tell

-- another one at the same position, with the same number
abbrev pub Has : List Mention → Mention → Type 0
Has ys x = (y : Mention) × Contains ys y × (y.position ≡ x.position) × (y.number ≡ x.number)

pub words-told : (xs ys : List Mention) → words_of xs ≡ words_of ys → (x : Mention) → Contains xs x → Has ys x
words-told [] ys e x c = (let l = c.1 in absurd (omega arith))
words-told (z ∷ xs) [] e x c = cc
words-told (z ∷ xs) (y ∷ ys) e x c =
    let position : z.position ≡ y.position = cc in
    let number : z.number ≡ y.number = cc in
    let rest : words_of xs ≡ words_of ys = cc in
    ⊎_elim
    (λ is. (y, cons-first y ys, sym position ∙ ap (λ (q : Mention). q.position) is, sym number ∙ ap (λ (q : Mention). q.number) is))
    (λ o. let h = words-told xs ys rest x o in (h.0, cons-rest y ys h.0 h.1, h.2, h.3))
    (cons-cases z xs x c)

-- the positions rise
abbrev pub AreRising : List Mention → Type 0
AreRising xs = AllPairs (λ (x y : Mention). x.position < y.position) xs

rest-rising : (x : Mention) (xs : List Mention) → AreRising (x ∷ xs) → AreRising xs
rest-rising x xs r i j d l m = r (suc i) (suc j) d (omega arith) (omega arith)

first-less : (x : Mention) (xs : List Mention) → AreRising (x ∷ xs) → (z : Mention) → Contains xs z → x.position < z.position
first-less x xs r z c =
    let less = r zero (suc c.0) z (omega arith) (let l = c.1 in omega arith) in
    subst (λ (q : Mention). x.position < q.position) c.2 less

-- runs with the same positions and numbers have the same words
pub words-same : (xs ys : List Mention) → AreRising xs → AreRising ys → ((x : Mention) → Contains xs x → Has ys x) → ((y : Mention) → Contains ys y → Has xs y) → words_of xs ≡ words_of ys
words-same [] [] rx ry there back = refl
words-same [] (y ∷ ys) rx ry there back = (let h = back y (cons-first y ys) in let c = h.1 in let l = c.1 in absurd (omega arith))
words-same (x ∷ xs) [] rx ry there back = (let h = there x (cons-first x xs) in let c = h.1 in let l = c.1 in absurd (omega arith))
words-same (x ∷ xs) (y ∷ ys) rx ry there back =
    let h = there x (cons-first x xs) in
    let low : y.position ≤ x.position = least y ys ry h.0 h.1 (omega arith) in
    let k = back y (cons-first y ys) in
    let high : x.position ≤ y.position = least x xs rx k.0 k.1 (omega arith) in
    let position : x.position ≡ y.position = omega arith in
    let number : x.number ≡ y.number = ⊎_elim
    (λ is. sym (ap (λ (q : Mention). q.number) is ∙ h.3))
    (λ o. let f = first-less y ys ry h.0 o in let p = h.2 in absurd (omega arith))
    (cons-cases y ys h.0 h.1) in
    let rest : words_of xs ≡ words_of ys = words-same xs ys (rest-rising x xs rx) (rest-rising y ys ry)
    (λ z c. behind y ys z (let f = first-less x xs rx z c in omega arith) (there z (cons-rest x xs z c)))
    (λ z c. behind x xs z (let f = first-less y ys ry z c in omega arith) (back z (cons-rest y ys z c))) in
    λ i. position i ∷ number i ∷ rest i
  where
    least : (v : Mention) (vs : List Mention) → AreRising (v ∷ vs) → (z : Mention) → Contains (v ∷ vs) z → {n : ℕ} → z.position ≤ n → v.position ≤ n
    least v vs r z c l = ⊎_elim
        (λ is. let e = ap (λ (q : Mention). q.position) is in omega arith)
        (λ o. let f = first-less v vs r z o in omega arith)
        (cons-cases v vs z c)

    behind : (v : Mention) (vs : List Mention) (z : Mention) → v.position < z.position → Has (v ∷ vs) z → Has vs z
    behind v vs z l h = ⊎_elim
        (λ is. let e = ap (λ (q : Mention). q.position) is in let p = h.2 in absurd (omega arith))
        (λ o. (h.0, o, h.2, h.3))
        (cons-cases v vs h.0 h.1)
