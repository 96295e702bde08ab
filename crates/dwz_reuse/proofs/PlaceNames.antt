-- One function names the places of a file whose places differ.
use Rattle.std.proofs.Common.{◌≡◌, ◌⊎◌, ℕ, Bool, true, false, ◌==◌, List, [], ◌∷◌, inl, inr, refl, sym, ap, subst, ◌∙◌, if◌then◌else◌, eq-eqb, eqb-true}
use Rattle.std.proofs.lemmas.List.{append-nil}
use Rattle.dwz_model.proofs.ListFacts.{in_left}
use Rattle.dwz_def_reading.specs.Documents.{DwUnit}
use Rattle.dwz_def_reading.specs.Lists.{In}
use Rattle.dwz_def_tops.specs.Lists.{NoneTwice}
use Rattle.dwz_def_tops.specs.Shown.{units_keys}
use Rattle.dwz_def_check.specs.CrossNames.{CrossName, PartRoot, cross_names_from}
use Rattle.dwz_def_check.proofs.NameLists.{one_from}

abbrev Called : Type 0
Called = ℕ × CrossName

-- the name of the first pair with that place; any name, where there is none
unfoldable pub name_at : List Called → ℕ → CrossName
name_at [] p = PartRoot
name_at (x ∷ names) p = if x.0 == p then x.1 else name_at names p

OneEach : List Called → Type 0
OneEach names = (p : ℕ) (x y : CrossName) → In (p, x) names → In (p, y) names → x ≡ y

found : (names : List Called) → OneEach names → (p : ℕ) (x : CrossName) → In (p, x) names → name_at names p ≡ x
unfolding name_at OneEach
found [] one p x h = absurd h
found (z ∷ names) one p x h = by (z.0 == p) refl h (λ k. found names (λ q y w a b. one q y w (inr a) (inr b)) p x k) where
  by : (b : Bool) → (z.0 == p) ≡ b → (z ≡ (p, x)) ⊎ In (p, x) names → (In (p, x) names → name_at names p ≡ x) → (if b then z.1 else name_at names p) ≡ x
  by true e (inl same) rest = ap (λ (w : Called). w.1) same
  by true e (inr k) rest =
      let at : z.0 ≡ p = eqb-true z.0 p e in
      let there : In (p, z.1) (z ∷ names) = inl (λ j. (at j, z.1)) in
      one p z.1 x there (inr k)
  by false e (inl same) rest =
      let itself : (z.0 == p) ≡ true = eq-eqb z.0 p (ap (λ (w : Called). w.0) same) in
      absurd (let wrong : true ≡ false = sym itself ∙ e in cc)
  by false e (inr k) rest = rest k

pub names_found : (top : ℕ) (said : List (DwUnit ℕ)) → NoneTwice (units_keys said) → (p : ℕ) (x : CrossName) → In (p, x) (cross_names_from 0 top said) → name_at (cross_names_from 0 top said) p ≡ x
unfolding OneEach
names_found top said once p x i =
    let all = cross_names_from 0 top said in
    let others : List Called = cross_names_from 0 0 [] in
    let whole = subst (λ (w : List (DwUnit ℕ)). NoneTwice (units_keys w)) (sym (append-nil said)) once in
    found all (λ q y z a b. one_from 0 top 0 0 said [] whole q y z (in_left (q, y) all others a) (in_left (q, z) all others b)) p x i
