-- What the getters of the matches give, and words as texts.
use Rattle.std.proofs.Common.{◌≡◌, ◌∙◌, ◌<◌, ◌+◌, ◌∷◌, [], ◌++◌, refl, sym, ap, subst, inl, inr, ℕ, Bool, true, false, List, Option, Some, None, codes, arith, unwrap_or, get_or, length, map, take, All}
use Rattle.std.specs.Prelude.{IsErrOf, IsOkUnless, Ok, Err, Result, option_and_then, option_map, if◌then◌else◌}
use Rattle.std.specs.Borrow.{Bor}
use Rattle.std.specs.Option.{option_map_or}
use Rattle.std.specs.Str.{bytes_eq}
use Rattle.std.specs.Str.Parse.{ParsesBool, ParsesUnsigned, digits_value, without_leading_plus}
use Rattle.std.proofs.lemmas.List.{get_or-map, length-map, take_more}
use Rattle.std.proofs.lemmas.List.Elements.{All-get_or}
use Rattle.std.proofs.lemmas.Slice.Eq.{bytes_eq-Decides}
use Rattle.clap.specs.Kinds.{HasKind, IsAmong, Kinds}
use Rattle.clap.specs.Values.{kind_of}
use Rattle.clap.specs.Words.{ReadsOne, Text}
use Rattle.clap.specs.ValueTests.{is_unsigned_in}
use Rattle.clap.specs.declared.builder.value_parser.ValueParser.TheVariants as vp
use Rattle.clap.specs.declared.error.Error.{Error}
use Rattle.clap.specs.declared.error.kind.ErrorKind.TheVariants.{OutOfMemory}
use Rattle.clap.proofs.ValueTestLemmas.{Accepts-accepts, accepts-Accepts}
use Rattle.dwz_words.specs.Lawful.{number_of_text}
use Rattle.dwz_words.specs.declared.options.Options.{Options}
use Rattle.dwz_words.specs.declared.options.WordsErr.{WordsErr}
use Rattle.dwz_words.specs.declared.options.WordsErr.TheVariants.{NoMemory, Usage}

-- a flag is set where its text is `true`
pub bool_read : (E : Type 0) (o : Option Text) (r : Option Bool) → (o ≡ None → r ≡ None)
    → ((t : Text) → o ≡ Some t → ReadsOne {T = Bool} {E = E} ParsesBool t r)
    → unwrap_or r false ≡ option_map_or (λ t. bytes_eq t (codes "true")) o false
bool_read E None r none value = rw (none refl) refl
bool_read E (Some t) r none value = go r (value t refl)
  where
    test : (b : Bool) → bytes_eq t (codes "true") ≡ b → (t ≡ codes "true" → ⊥) → false ≡ b
    test true e differs = absurd (differs ((bytes_eq-Decides t (codes "true")).0 e))
    test false e differs = refl

    go : (r : Option Bool) → ReadsOne {T = Bool} {E = E} ParsesBool t r → unwrap_or r false ≡ bytes_eq t (codes "true")
    go (Some true) h = rw h refl
    go (Some false) h = rw h refl
    go None h = test (bytes_eq t (codes "true")) refl h.1.0

-- a number that `clap` read is the one that the text spells
pub number_read : (E : Type 0) (A B : Text → Result ℕ E → Type 0) (o : Option Text) (r : Option ℕ) → (o ≡ None → r ≡ None)
    → ((t : Text) → o ≡ Some t → ReadsOne (λ bs x. ParsesUnsigned 32 10 bs x × A bs x × B bs x) t r)
    → r ≡ option_and_then number_of_text o
number_read E A B None r none value = none refl
number_read E A B (Some t) r none value = cases (is_unsigned_in 0 4294967295 t) refl r (value t refl)
  where
    cases : (b : Bool) → is_unsigned_in 0 4294967295 t ≡ b → (r : Option ℕ)
        → ReadsOne (λ bs x. ParsesUnsigned 32 10 bs x × A bs x × B bs x) t r
        → r ≡ (if b then Some (digits_value 10 (without_leading_plus t)) else None)
    cases true e (Some v) h = ap (λ (n : ℕ). Some n) h.0.1
    cases true e None h =
        let numeral = accepts-Accepts false (vp.Unsigned 0 4294967295) t e in
        absurd (h.1.0 (numeral.0, omega (arith, numeral.3)))
    cases false e (Some v) h =
        let yes : is_unsigned_in 0 4294967295 t ≡ true = Accepts-accepts false (vp.Unsigned 0 4294967295) t
        (h.0.0.0, omega (arith, h.0.0.1), omega arith, omega (arith, h.0.0.1)) in
        let bad : true ≡ false = sym yes ∙ e in
        cc
    cases false e None h = refl

-- the names of the files
pub names_read : (o : Option (Bor (List (Bor Text)))) (d : Bor (List (Bor Text))) → d.now ≡ []
    → map (λ t. t.now) (unwrap_or o d).now ≡ unwrap_or (option_map (λ s. map (λ v. v.now) s.now) o) []
names_read None d e = rw e refl
names_read (Some s) d e = refl

-- one more word
pub map_more_at : {X Y : Type 0} (f : X → Y) (xs : List X) (i : ℕ) (x : X) → i < length xs → x ≡ get_or xs i x
    → take (i + 1) (map f xs) ≡ take i (map f xs) ++ f x ∷ []
map_more_at f xs i x below is =
    let below' : i < length (map f xs) = rw length-map below in
    take_more (map f xs) i (f x) below' ∙ ap (λ y. take i (map f xs) ++ y ∷ []) (get_or-map f xs i x (f x) below ∙ ap f (sym is))

-- what holds of each word holds of this one
pub All-map_at : {X Y : Type 0} (f : X → Y) (P : Y → Type 0) (xs : List X) (i : ℕ) (x : X) → i < length xs → x ≡ get_or xs i x
    → All P (map f xs) → P (f x)
All-map_at f P xs i x below is all =
    let below' : i < length (map f xs) = rw length-map below in
    subst P (get_or-map f xs i x (f x) below ∙ ap f (sym is)) (All-get_or P (map f xs) i (f x) below' all)

-- where no kind may come memory ran out
pub no_kind : (kinds : Kinds) (e : Error) → HasKind kinds e → (kind_of e ≡ OutOfMemory → ⊥) → kinds ≡ [] → ⊥
no_kind kinds e (inl memory) other none = other memory
no_kind kinds e (inr among) other none = subst (IsAmong (kind_of e)) none among

-- an answer that isn't Usage
pub unless_no_memory : (r : Result Options WordsErr) → (IsErrOf r Usage → ⊥) → IsOkUnless r NoMemory
unless_no_memory (Ok o) no_usage = tt
unless_no_memory (Err Usage) no_usage = absurd (no_usage refl)
unless_no_memory (Err NoMemory) no_usage = refl
