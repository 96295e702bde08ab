-- Puts, one by one.
use Rattle.std.proofs.Common.{◌≡◌, ℕ, ◌≤◌, List, [], ◌∷◌, ◌++◌, Option, Some, None, refl, sym, ap, subst, ◌∙◌, append_assoc, arith}
use Rattle.std.specs.Prelude.{IfSome}
use Rattle.std.proofs.lemmas.List.{append-nil}
use Rattle.dwz_outside.specs.declared.puts.Put.{Put}
use Rattle.dwz_outside.specs.Counts.{Rose}
use Rattle.dwz_outside.specs.Store.{Store, done, put_in}
use Rattle.dwz_outside.specs.Told.{FailedWrite, FilesSeen, StoredWith}
use Rattle.dwz_outside.proofs.Growth.{done_push}
use Rattle.dwz_run_course.specs.Puts.{HeldWith, PutsDone}
use Rattle.dwz_run_course.specs.Ready.{PutsSoFar, PutsStoppedFor, puts_of}
use Rattle.dwz_run_course.specs.declared.putting.Ready.{Ready}
use Rattle.dwz_run_course.proofs.Endings.{nothing_held, nothing_stored}

-- a count that rose after it rose, or stayed
pub rose_after : (old mid new : ℕ) → old ≤ mid → Rose mid new → Rose old new
rose_after old mid new le rose = omega (arith, le, rose)

puts_more : (before : List Ready) (r : Ready) → puts_of (before ++ r ∷ []) ≡ puts_of before ++ r.put ∷ []
puts_more [] r = refl
puts_more (q ∷ before) r = ap (λ (rest : List Put). q.put ∷ rest) (puts_more before r)

held_more : (old mid new : Option Store) (puts more : List Put) (p : Put) → more ≡ puts ++ p ∷ [] → IfSome old (λ store. mid ≡ Some (done puts store))
    → IfSome mid (λ store. new ≡ Some (put_in p.name p.bytes store)) → IfSome old (λ store. new ≡ Some (done more store))
held_more None mid new puts more p is here put = tt
held_more (Some store) mid new puts more p is here put =
    let there : new ≡ Some (put_in p.name p.bytes (done puts store)) = subst (λ (o : Option Store). IfSome o (λ s. new ≡ Some (put_in p.name p.bytes s))) here put in
    there ∙ ap (λ (s : Store). Some s) (sym (done_push puts p store)) ∙ ap (λ (ps : List Put). Some (done ps store)) (sym is)

same_held : (old mid new : Option Store) (puts : List Put) → new ≡ mid → IfSome old (λ store. mid ≡ Some (done puts store)) → IfSome old (λ store. new ≡ Some (done puts store))
same_held None mid new puts same here = tt
same_held (Some store) mid new puts same here = same ∙ here

stored_more : (old mid new : Option (List Put)) (puts more : List Put) (p : Put) → more ≡ puts ++ p ∷ [] → IfSome old (λ before. mid ≡ Some (before ++ puts))
    → IfSome mid (λ before. new ≡ Some (before ++ p ∷ [])) → IfSome old (λ before. new ≡ Some (before ++ more))
stored_more None mid new puts more p is here put = tt
stored_more (Some before) mid new puts more p is here put =
    let there : new ≡ Some ((before ++ puts) ++ p ∷ []) = subst (λ (o : Option (List Put)). IfSome o (λ b. new ≡ Some (b ++ p ∷ []))) here put in
    there ∙ ap (λ (ps : List Put). Some ps) (append_assoc before puts (p ∷ [])) ∙ ap (λ (ps : List Put). Some (before ++ ps)) (sym is)

same_stored : (old mid new : Option (List Put)) (puts : List Put) → new ≡ mid → IfSome old (λ before. mid ≡ Some (before ++ puts)) → IfSome old (λ before. new ≡ Some (before ++ puts))
same_stored None mid new puts same here = tt
same_stored (Some before) mid new puts same here = same ∙ here

-- nothing is put yet
pub at_first : (told : FilesSeen) (all rest : List Ready) → all ≡ rest → PutsSoFar told told all rest
at_first told all rest is = record { before = []; all_are = is; held = nothing_held told.held; stored = nothing_stored told.stored; last = refl; rises = omega arith }

-- one more is put
pub one_more : (old mid new : FilesSeen) (all rest after : List Ready) (r : Ready) → PutsSoFar old mid all rest → rest ≡ r ∷ after
    → IfSome mid.held (λ store. new.held ≡ Some (put_in r.put.name r.put.bytes store)) → StoredWith mid new (r.put ∷ []) → new.last_write ≡ mid.last_write
    → mid.write_faults ≤ new.write_faults → PutsSoFar old new all after
one_more old mid new all rest after r so is put stored last rises = record {
  before = so.before ++ r ∷ [];
  all_are = so.all_are ∙ ap (λ (rs : List Ready). so.before ++ rs) is ∙ sym (append_assoc so.before (r ∷ []) after);
  held = held_more old.held mid.held new.held (puts_of so.before) (puts_of (so.before ++ r ∷ [])) r.put (puts_more so.before r) so.held put;
  stored = stored_more old.stored mid.stored new.stored (puts_of so.before) (puts_of (so.before ++ r ∷ [])) r.put (puts_more so.before r) so.stored stored;
  last = last ∙ so.last;
  rises = omega (arith, so.rises, rises);
}

-- all are put
pub all_put : (old new : FilesSeen) (all rest : List Ready) → PutsSoFar old new all rest → rest ≡ [] → PutsDone old new (puts_of all)
all_put old new all rest so is =
    let before_are : so.before ≡ all = sym (so.all_are ∙ ap (λ (rs : List Ready). so.before ++ rs) is ∙ append-nil so.before) in
    record {
      held = subst (λ (rs : List Ready). HeldWith old new (puts_of rs)) before_are so.held;
      stored = subst (λ (rs : List Ready). StoredWith old new (puts_of rs)) before_are so.stored;
      last = so.last;
    }

-- one failed
pub one_failed : (old mid new : FilesSeen) (all rest after : List Ready) (r : Ready) (text : List ℕ) → PutsSoFar old mid all rest → rest ≡ r ∷ after
    → new.held ≡ mid.held → new.stored ≡ mid.stored → FailedWrite mid new r.put.name → text ≡ r.text → PutsStoppedFor old new all text
one_failed old mid new all rest after r text so is held stored fault said = record {
  before = so.before;
  failed = r;
  after = after;
  all_are = so.all_are ∙ ap (λ (rs : List Ready). so.before ++ rs) is;
  held = same_held old.held mid.held new.held (puts_of so.before) held so.held;
  stored = same_stored old.stored mid.stored new.stored (puts_of so.before) stored so.stored;
  text_is = said;
  fault = record { rose = rose_after old.write_faults mid.write_faults new.write_faults so.rises fault.rose; last = fault.last };
}

-- one more is put, by the name and the bytes that were handed over
pub one_more_by : (old mid new : FilesSeen) (all rest after : List Ready) (r : Ready) (name bytes : List ℕ) → PutsSoFar old mid all rest → rest ≡ r ∷ after → name ≡ r.put.name → bytes ≡ r.put.bytes
    → IfSome mid.held (λ store. new.held ≡ Some (put_in name bytes store)) → StoredWith mid new (record { name = name; bytes = bytes } ∷ []) → new.last_write ≡ mid.last_write
    → mid.write_faults ≤ new.write_faults → PutsSoFar old new all after
one_more_by old mid new all rest after r name bytes so is named is_bytes put stored last rises =
    let n : IfSome mid.held (λ store. new.held ≡ Some (put_in r.put.name bytes store)) = subst (λ (x : List ℕ). IfSome mid.held (λ store. new.held ≡ Some (put_in x bytes store))) named put in
    let b : IfSome mid.held (λ store. new.held ≡ Some (put_in r.put.name r.put.bytes store)) = subst (λ (x : List ℕ). IfSome mid.held (λ store. new.held ≡ Some (put_in r.put.name x store))) is_bytes
    n in
    let sn : StoredWith mid new (record { name = r.put.name; bytes = bytes } ∷ []) = subst (λ (x : List ℕ). StoredWith mid new (record { name = x; bytes = bytes } ∷ [])) named stored in
    let sb : StoredWith mid new (r.put ∷ []) = subst (λ (x : List ℕ). StoredWith mid new (record { name = r.put.name; bytes = x } ∷ [])) is_bytes sn in
    one_more old mid new all rest after r so is b sb last rises
