-- One pass over a line table gives what reading all of it first, and then asking what it says, does.
use Rattle.std.proofs.Common.{◌≡◌, ℕ, zero, suc, Bool, true, false, cond, List, [], ◌∷◌, length, Option, Some, None, Result, Ok, Err, refl, sym, ap, ◌∙◌}
use Rattle.std.specs.Prelude.{◌&&◌}
use Rattle.std.specs.List.{list_all}
use Rattle.dwz_model.specs.declared.fault.Fault.{Fault}
use Rattle.dwz_model.specs.declared.place.Pair.{Pair}
use Rattle.dwz_bytes.specs.declared.error.ByteErr.{ByteErr}
use Rattle.dwz_bytes.specs.Input.{Input}
use Rattle.dwz_bytes.specs.Reading.{◌>>=◌, fixed_at, uleb_at}
use Rattle.dwz_def_reading.specs.Exprs.{or_fault}
use Rattle.dwz_def_reading.specs.LineTables.{format_at, format_of, formats_at, is_format, second, uleb_or}
use Rattle.dwz_def_reading.specs.Sequences.{Reader, then_make, then_read, times_at}
use Rattle.dwz_lines.specs.Reading.{after_one, behind, bind, form_behind, format_in, formats_in, sure, taken, times_in, with_one}

-- ---- binding

pub sure_bind : {X Y E : Type 0} (r : Result X E) (f : X → Result Y E) → sure (r >>= f) ≡ bind (sure r) (λ x. sure (f x))
sure_bind (Ok x) f = refl
sure_bind (Err e) f = refl

pub bind_assoc : {X Y Z : Type 0} (o : Option X) (f : X → Option Y) (g : Y → Option Z) → bind (bind o f) g ≡ bind o (λ x. bind (f x) g)
bind_assoc None f g = refl
bind_assoc (Some x) f g = refl

pub bind_same : {X Y : Type 0} (o : Option X) (f g : X → Option Y) → ((x : X) → f x ≡ g x) → bind o f ≡ bind o g
bind_same None f g same = refl
bind_same (Some x) f g same = same x

pub bind_none : {X Y : Type 0} (o : Option X) → bind {Y = Y} o (λ x. None) ≡ None
bind_none None = refl
bind_none (Some x) = refl

swap : {X Y Z : Type 0} (a : Option X) (b : Option Y) (f : X → Y → Option Z) → bind a (λ x. bind b (f x)) ≡ bind b (λ y. bind a (λ x. f x y))
swap None None f = refl
swap None (Some y) f = refl
swap (Some x) None f = refl
swap (Some x) (Some y) f = refl

pub sure_or : {X : Type 0} (bad : Fault) (r : Result X ByteErr) → sure (or_fault bad r) ≡ sure r
sure_or bad (Ok x) = refl
sure_or bad (Err e) = refl

-- ---- so many

-- each of a list
abbrev pub each_of : {X Y : Type 0} → (X → Option Y) → List X → Option (List Y)
each_of f [] = Some []
each_of f (x ∷ xs) = bind (f x) (λ y. bind (each_of f xs) (λ ys. Some (y ∷ ys)))

abbrev pub said_of : {X Y : Type 0} → (X → Option Y) → X × Input → Option (Y × Input)
said_of f x = bind (f x.0) (behind x.1)

pub times_plain : {X : Type 0} (item : Reader X) (n : ℕ) (i : Input) → sure (times_at item n i) ≡ times_in (λ j. sure (item j)) n i
unfolding times_at times_in
times_plain item zero i = refl
times_plain {X} item (suc n) i = by (λ j. times_plain item n j) (item i) where
  rest : (x : X × Input) (r : Result (List X × Input) Fault) → sure (r >>= then_make (λ x xs. x ∷ xs) x.0) ≡ bind (sure r) (with_one x.0)
  rest x (Ok y) = refl
  rest x (Err f) = refl

  by : ((j : Input) → sure (times_at item n j) ≡ times_in (λ j. sure (item j)) n j) → (r : Result (X × Input) Fault)
      → sure (r >>= then_read (λ _. times_at item n) (λ x xs. x ∷ xs)) ≡ bind (sure r) (after_one (times_in (λ j. sure (item j)) n))
  by others (Ok x) = rest x (times_at item n x.1) ∙ ap (λ (o : Option (List X × Input)). bind o (with_one x.0)) (others x.1)
  by others (Err f) = refl

-- each item is asked what it says as it is read, or all are once they are read
pub times_said : {X Y : Type 0} (item : Input → Option (X × Input)) (f : X → Option Y) (n : ℕ) (i : Input)
    → times_in (λ j. bind (item j) (said_of f)) n i ≡ bind (times_in item n i) (said_of (each_of f))
unfolding times_in
times_said item f zero i = refl
times_said {X} {Y} item f (suc n) i = by (λ j. times_said item f n j) (item i) where
  apart : (o : Option Y) (e : Option (List Y)) (k : Input) → bind o (λ y. bind (bind e (behind k)) (with_one y)) ≡ bind (bind o (λ y. bind e (λ ys. Some (y ∷ ys)))) (behind k)
  apart None e k = refl
  apart (Some y) None k = refl
  apart (Some y) (Some ys) k = refl

  others_of : (x : X) (t : Option (List X × Input)) → bind (f x) (λ y. bind (bind t (said_of (each_of f))) (with_one y)) ≡ bind (bind t (with_one x)) (said_of (each_of f))
  others_of x None = bind_none (f x)
  others_of x (Some z) = apart (f x) (each_of f z.0) z.1

  inner : (o : Option Y) (j : Input) → bind (bind o (behind j)) (after_one (times_in (λ j. bind (item j) (said_of f)) n))
      ≡ bind o (λ y. bind (times_in (λ j. bind (item j) (said_of f)) n j) (with_one y))
  inner None j = refl
  inner (Some y) j = refl

  by : ((j : Input) → times_in (λ j. bind (item j) (said_of f)) n j ≡ bind (times_in item n j) (said_of (each_of f))) → (o : Option (X × Input))
      → bind (bind o (said_of f)) (after_one (times_in (λ j. bind (item j) (said_of f)) n)) ≡ bind (bind o (after_one (times_in item n))) (said_of (each_of f))
  by others None = refl
  by others (Some x) = inner (f x.0) x.1 ∙ ap (λ (t : Option (List Y × Input)). bind (f x.0) (λ y. bind t (with_one y))) (others x.1) ∙ others_of x.0 (times_in item n x.1)

pub times_same : {X : Type 0} (a b : Input → Option (X × Input)) → ((j : Input) → a j ≡ b j) → (n : ℕ) (i : Input) → times_in a n i ≡ times_in b n i
times_same {X} a b same n i = ap (λ (item : Input → Option (X × Input)). times_in item n i) (λ k j. same j k)

pub times_len : {X : Type 0} (item : Input → Option (X × Input)) (n : ℕ) (i : Input) (y : List X × Input) → times_in item n i ≡ Some y → length y.0 ≡ n
unfolding times_in
times_len {X} item zero i y is = let same : ([], i) ≡ y = some_same ([], i) y is in ap (λ (w : List X × Input). length w.0) (sym same) where
  some_same : (a b : List X × Input) → Some a ≡ Some b → a ≡ b
  some_same a b e = cc
times_len {X} item (suc n) i y is = by (λ j z e. times_len item n j z e) (item i) is where
  some_same : (a b : List X × Input) → Some a ≡ Some b → a ≡ b
  some_same a b e = cc

  rest : (x : X) (o : Option (List X × Input)) → ((z : List X × Input) → o ≡ Some z → length z.0 ≡ n) → bind o (with_one x) ≡ Some y → length y.0 ≡ suc n
  rest x None others e = absurd cc
  rest x (Some z) others e = let same = some_same (x ∷ z.0, z.1) y e in ap (λ (w : List X × Input). length w.0) (sym same) ∙ ap (λ (m : ℕ). suc m) (others z refl)

  by : ((j : Input) (z : List X × Input) → times_in item n j ≡ Some z → length z.0 ≡ n) → (o : Option (X × Input)) → bind o (after_one (times_in item n)) ≡ Some y → length y.0 ≡ suc n
  by others None e = absurd cc
  by others (Some x) e = rest x.0 (times_in item n x.1) (λ z same. others x.1 z same) e

-- ---- formats

abbrev pub if_format : Pair → Option Pair
if_format pair = cond (is_format pair) (Some pair) None

format_is : (bad : Fault) (i : Input) → format_in i ≡ bind (sure (format_at bad i)) (said_of if_format)
format_is bad i = by (uleb_at i) where
  tested : (b : Bool) (pair : Pair) (j : Input) → cond b (Some (pair, j)) None ≡ bind (cond b (Some pair) None) (behind j)
  tested true pair j = refl
  tested false pair j = refl

  second_of : (n : ℕ) (r : Result (ℕ × Input) ByteErr) → bind (sure r) (λ m. taken (format_of n m.0) m.1) ≡ bind (sure (or_fault bad r >>= then_make format_of n)) (said_of if_format)
  second_of n (Ok m) = tested (is_format (format_of n m.0)) (format_of n m.0) m.1
  second_of n (Err e) = refl

  by : (r : Result (ℕ × Input) ByteErr) → bind (sure r) form_behind ≡ bind (sure (or_fault bad r >>= then_read (λ _. uleb_or bad) format_of)) (said_of if_format)
  by (Ok n) = second_of n.0 (uleb_at n.1)
  by (Err e) = refl

each_format : (pairs : List Pair) → each_of if_format pairs ≡ cond (list_all is_format pairs) (Some pairs) None
each_format [] = refl
each_format (pair ∷ pairs) = by (is_format pair) (list_all is_format pairs) (each_of if_format pairs) (each_format pairs) where
  by : (b c : Bool) (o : Option (List Pair)) → o ≡ cond c (Some pairs) None → bind (cond b (Some pair) None) (λ y. bind o (λ ys. Some (y ∷ ys))) ≡ cond (b && c) (Some (pair ∷ pairs)) None
  by false c o is = refl
  by true true o is = ap (λ (w : Option (List Pair)). bind w (λ ys. Some (pair ∷ ys))) is
  by true false o is = ap (λ (w : Option (List Pair)). bind w (λ ys. Some (pair ∷ ys))) is

abbrev pub if_formats : List Pair × Input → Option (List Pair × Input)
if_formats f = cond (list_all is_format f.0) (Some f) None

pub formats_is : (bad : Fault) (i : Input) → formats_in i ≡ bind (sure (formats_at bad i)) if_formats
unfolding formats_in
formats_is bad i = by (fixed_at 1 i) where
  asked : (x : List Pair × Input) → said_of (each_of if_format) x ≡ if_formats x
  asked x = ap (λ (o : Option (List Pair)). bind o (behind x.1)) (each_format x.0) ∙ tested (list_all is_format x.0) where
    tested : (b : Bool) → bind (cond b (Some x.0) None) (behind x.1) ≡ cond b (Some x) None
    tested true = refl
    tested false = refl

  counted : (n : ℕ) (r : Result (List Pair × Input) Fault) → bind (sure r) (said_of (each_of if_format)) ≡ bind (sure (r >>= then_make second n)) if_formats
  counted n (Ok x) = asked x
  counted n (Err f) = refl

  by : (r : Result (ℕ × Input) ByteErr) → bind (sure r) (λ n. times_in format_in n.0 n.1) ≡ bind (sure (or_fault bad r >>= then_read (λ n. times_at (format_at bad) n) second)) if_formats
  by (Ok n) =
      times_same format_in (λ j. bind (sure (format_at bad j)) (said_of if_format)) (format_is bad) n.0 n.1
      ∙ times_said (λ j. sure (format_at bad j)) if_format n.0 n.1
      ∙ ap (λ (o : Option (List Pair × Input)). bind o (said_of (each_of if_format))) (sym (times_plain (format_at bad) n.0 n.1))
      ∙ counted n.0 (times_at (format_at bad) n.0 n.1)
  by (Err e) = refl
