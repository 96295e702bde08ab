-- There is one answer to two places: a place has one name, a name of a top one number, a number one top, and two tops one verdict.
use Rattle.std.proofs.Common.{◌≡◌, ℕ, Bool, true, false, List, [], Option, Some, None, Ok, Err, inl, inr, refl, sym, ap, subst, ◌∙◌}
use Rattle.std.specs.Prelude.{◌⊎◌, Result}
use Rattle.std.proofs.lemmas.Bool.{false≢true}
use Rattle.dwz_model.specs.Lists.{In}
use Rattle.dwz_model.specs.declared.fault.Refusal.{Refusal}
use Rattle.dwz_def_reading.specs.Documents.{Doc}
use Rattle.dwz_def_tops.specs.Alike.{Movable}
use Rattle.dwz_def_tops.specs.Deciding.{is_movable, top_in}
use Rattle.dwz_def_tops.specs.Spots.{EntryName, Top, Within, tops_of, units_of}
use Rattle.dwz_def_tops.proofs.AlikeBound.{movable_decides}
use Rattle.dwz_def_tops.proofs.TopNumbers.{finds, found, one_top, tops_numbers}
use Rattle.dwz_def_tops.specs.UnitNames.{name_of_place}
use Rattle.dwz_def_reading.specs.Places.{Place}
use Rattle.dwz_text.specs.Lines.{Text}
use Rattle.dwz_def_explain.specs.Explained.{IsExplained}
use Rattle.dwz_def_explain.specs.Places.{Explains, IsMovableAt, IsTextOf, NoneMovableAt, not_movable}
use Rattle.dwz_def_explain.specs.PlaceLaws.{OneAnswerLaw, SomeAnswerLaw}
use Rattle.dwz_def_explain.specs.Texts.{explained_text}
use Rattle.dwz_def_explain.specs.declared.verdict.Verdict.{Verdict}
use Rattle.dwz_def_explain.proofs.VerdictLemmas.{one_verdict, some_verdict}

module _ (docs : List (Doc ℕ)) where
  abbrev tops : List Top
  tops = tops_of (units_of docs)

  -- ---- one answer at most

  one_number : (p : Place) (m n : ℕ) → IsMovableAt docs p m → IsMovableAt docs p n → m ≡ n
  one_number p m n x y =
      let first = x.named in
      let second = y.named in
      cc

  one_at : (p : Place) (a b : Top) → In a tops → In b tops → IsMovableAt docs p a.number → IsMovableAt docs p b.number → a ≡ b
  one_at p a b i j x y = one_top 0 tops a b (tops_numbers (units_of docs)) i j (one_number p a.number b.number x y)

  one_text : (p q : Place) (t u : Text) → IsTextOf docs p q t → IsTextOf docs p q u → t ≡ u
  one_text p q t u x y =
      let first = one_at p y.first x.first y.first_there x.first_there y.first_at x.first_at in
      let second = one_at q y.second x.second y.second_there x.second_there y.second_at x.second_at in
      let there = subst (λ (b : Top). IsExplained (units_of docs) x.first b y.verdict) second
      (subst (λ (a : Top). IsExplained (units_of docs) a y.second y.verdict) first y.explained) in
      let verdict = one_verdict (units_of docs) x.first x.second x.first_there x.second_there x.verdict y.verdict x.explained there in
      x.text_is
      ∙ ap (λ (v : Verdict). explained_text docs x.first x.second v) verdict
      ∙ ap (λ (b : Top). explained_text docs x.first b y.verdict) (sym second)
      ∙ ap (λ (a : Top). explained_text docs a y.second y.verdict) (sym first)
      ∙ sym y.text_is

  not_refused : (p q : Place) (t : Text) (r : Refusal) → IsTextOf docs p q t → Explains docs p q (Err r) → ⊥
  not_refused p q t r x (inl none) = none.0 x.first.number x.first_at
  not_refused p q t r x (inr none) = none.2 x.second.number x.second_at

  one_refused : (p q : Place) (r s : Refusal) → Explains docs p q (Err r) → Explains docs p q (Err s) → r ≡ s
  one_refused p q r s (inl x) (inl y) = x.1 ∙ sym y.1
  one_refused p q r s (inl x) (inr y) = absurd (x.0 y.0 y.1)
  one_refused p q r s (inr x) (inl y) = absurd (y.0 x.0 x.1)
  one_refused p q r s (inr x) (inr y) = x.3 ∙ sym y.3

  -- ---- and there is one

  -- a top that may move and begins at a place
  record StandsAt (p : Place) : Type 0 where
    top : Top
    there : In top tops
    at : IsMovableAt docs p top.number

  stands_or_not : (p : Place) → StandsAt p ⊎ NoneMovableAt docs p
  stands_or_not p = named (name_of_place docs p) refl where
    tested : (t : Top) → In t tops → name_of_place docs p ≡ Within t.number [] → (b : Bool) → is_movable (units_of docs) t ≡ b
        → StandsAt p ⊎ NoneMovableAt docs p
    tested t there e true m =
        let may = (movable_decides (units_of docs) t there).0 m in
        inl (record { top = t; there = there; at = record { named = e; movable = may } })
    tested t there e false m = inr (λ n h. (
        let name = h.named in
        let same : n ≡ t.number = cc in
        let yes = (movable_decides (units_of docs) t there).1 (subst (λ (w : ℕ). Movable (units_of docs) w) same h.movable) in
        absurd (false≢true (sym m ∙ yes))))

    numbered : (n : ℕ) → name_of_place docs p ≡ Within n [] → (o : Option Top) → top_in tops n ≡ o → StandsAt p ⊎ NoneMovableAt docs p
    numbered n e (Some t) f =
        let is = found tops n t f in
        tested t is.0 (e ∙ ap (λ (w : ℕ). Within w []) (sym is.1)) (is_movable (units_of docs) t) refl
    numbered n e None f = inr (λ m h. (
        let name = h.named in
        let same : m ≡ n = cc in
        let top = finds 0 tops h.movable.top (tops_numbers (units_of docs)) h.movable.is_top in
        let number = h.movable.number in
        absurd cc))

    named : (s : EntryName) → name_of_place docs p ≡ s → StandsAt p ⊎ NoneMovableAt docs p
    named (Within n []) e = numbered n e (top_in tops n) refl
    named _ e = inr (λ n h. (let name = h.named in absurd cc))

  answer : (p q : Place) → StandsAt p ⊎ NoneMovableAt docs p → StandsAt q ⊎ NoneMovableAt docs q
      → (r : Result Text Refusal) × Explains docs p q r
  answer p q (inr none) second = (Err (not_movable p), inl (none, refl))
  answer p q (inl a) (inr none) = (Err (not_movable q), inr (a.top.number, a.at, none, refl))
  answer p q (inl a) (inl b) =
      let said = some_verdict (units_of docs) a.top b.top a.there b.there a.at.movable b.at.movable in (
        Ok (explained_text docs a.top b.top said.0),
        record {
          first = a.top;
          second = b.top;
          first_there = a.there;
          second_there = b.there;
          first_at = a.at;
          second_at = b.at;
          verdict = said.0;
          explained = said.1;
          text_is = refl;
        },
      )

pub one_answer : OneAnswerLaw
one_answer docs p q (Ok t) (Ok u) x y = ap (λ (w : Text). Ok w) (one_text docs p q t u x y)
one_answer docs p q (Ok t) (Err s) x y = absurd (not_refused docs p q t s x y)
one_answer docs p q (Err r) (Ok u) x y = absurd (not_refused docs p q u r y x)
one_answer docs p q (Err r) (Err s) x y = ap (λ (w : Refusal). Err w) (one_refused docs p q r s x y)

pub some_answer : SomeAnswerLaw
some_answer docs p q = answer docs p q (stands_or_not docs p) (stands_or_not docs q)
